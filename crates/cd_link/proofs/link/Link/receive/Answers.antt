use Rattle.std.proofs.Common.{List, ℕ, sym, subst}
use Rattle.cd_wire.specs.Intake.{IsLook}
use Rattle.cd_link.proofs.link.Link.receive.Goals as goal

-- the look has left the bytes as they were
pub hand-requires-clause-found : goal.hand-requires-clause-found
hand-requires-clause-found g c = subst (λ (bytes : List ℕ). IsLook bytes c.args.self.now.ended c.in-Ok.found) (sym c.in-Ok.ensures.same) c.in-Ok.ensures.found
