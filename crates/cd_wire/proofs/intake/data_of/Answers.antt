use Rattle.std.proofs.Common.{◌≤◌, length, List, ℕ, subst, sym, arith, ap}
use Rattle.cd_wire.specs.declared.bodies.Body.{Body}
use Rattle.cd_wire.specs.Reading.{IsBodyKept}
use Rattle.cd_wire.proofs.CutLemmas.{data_short}
use Rattle.cd_wire.proofs.intake.data_of.Goals as goal

pub returns-in-Chunks : goal.returns-in-Chunks
returns-in-Chunks c part kept =
    let h = subst (λ (b : Body). IsBodyKept part b) c.in-Chunks.is kept in
    let short = data_short part c.in-Chunks.found h in
    omega (arith, short, c.len.ensures)
