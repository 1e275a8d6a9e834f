use Rattle.std.proofs.Common.{◌≡◌, [], arith}
use Rattle.std.proofs.lemmas.Grind.{common_steps}
use Rattle.cd_session.proofs.Changes.{nothing-put}
use Rattle.cd_session.proofs.putting.put.Goals as goal

pub returns-then-is_empty-clause-past : goal.returns-then-is_empty-clause-past
returns-then-is_empty-clause-past g c =
    let none : [] ≡ c.args.bytes.now = grind (arith, common_steps) in
    ([], none, nothing-put (g.L.Lane.past c.args.lane.now))
