use Rattle.cd_ids.proofs.Distinct.{without_fault}
use Rattle.cd_ids.proofs.checking.is_without_fault.Goals as goal

pub returns-in-Ok : goal.returns-in-Ok
returns-in-Ok c is =
    without_fault c.args.tree.now _ _ _ c.new-names.ensures c.top-at.ensures c.in-Ok.ensures (c.are_distinct.ensures is)
