use Rattle.std.proofs.Common.{None, Some, refl}
use Rattle.cd_pair.proofs.Goes.{runs-on}
use Rattle.cd_pair.proofs.drafting.draft_of.Goals as goal

pub returns-in-Ok-draft-clause-draft : goal.returns-in-Ok-draft-clause-draft
returns-in-Ok-draft-clause-draft g c = record {
  runs = runs-on c.args.on.now.hall.now c.args.pass.now c.draft.new.pass c.args.number c.args.ticket.now None (Some c.in-Ok-draft.draft.left.number) _ c.requires c.draft.ensures.pass c.in-Ok-draft.ensures.made.1.grows refl c.draft.ensures.duties;
  draft = c.in-Ok-draft.ensures.draft;
}

pub returns-in-Err-clause-err : goal.returns-in-Err-clause-err
returns-in-Err-clause-err g c =
    runs-on c.args.on.now.hall.now c.args.pass.now c.draft.new.pass c.args.number c.args.ticket.now None None _ c.requires c.draft.ensures.pass c.in-Err.ensures.err.1.grows refl c.draft.ensures.duties
