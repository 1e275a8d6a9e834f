use Rattle.std.proofs.Common.{◌≡◌, ℕ, List, Option, option_map, sym, subst}
use Rattle.cd_outside.specs.Past.{with_connection}
use Rattle.cd_serve.specs.Meanings.{after_sending}
use Rattle.cd_serve.specs.Requests.{keeps_as, only_keeps}
use Rattle.cd_serve.proofs.Told.{nothing-sent}
use Rattle.cd_serve.proofs.keeping.keep.Goals as goal

pub returns-in-None-clause-keeps : goal.returns-in-None-clause-keeps
returns-in-None-clause-keeps g c =
    subst (λ (bytes : Option (List ℕ)). g.L.Lane.past c.args.lane.now ≡ option_map (with_connection (after_sending (only_keeps (keeps_as c.args.serial bytes)))) (g.L.Lane.past c.args.lane.now)) (sym c.in-None.is)
    (nothing-sent (g.L.Lane.past c.args.lane.now))
