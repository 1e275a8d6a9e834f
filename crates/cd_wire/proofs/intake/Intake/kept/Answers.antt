use Rattle.std.proofs.Common.{◌≤◌, ◌+◌, length, drop, List, ℕ, subst, ap, arith, length-append, length-drop}
use Rattle.std.proofs.lemmas.Bool.Decides.{nat_tests}
use Rattle.cd_wire.specs.declared.taking.Known.{Known}
use Rattle.cd_wire.specs.Taking.{IsKept}
use Rattle.cd_wire.proofs.CutLemmas.{part_short}
use Rattle.cd_wire.proofs.intake.Intake.kept.Goals as goal

pub returns-in-Front : goal.returns-in-Front
returns-in-Front c =
    let i = c.self.inside in
    let left = drop i.start i.buffer.items in
    let f = subst (λ (k : Known). IsKept i.dropped.bytes left k) c.in-Front.is c.self.invariant.1 in
    let found = c.data_of.ensures f.part f.kept in
    let part = part_short i.dropped.bytes c.in-Front.front f in
    let all = ap length c.self.view_is in
    let both = length-append i.dropped.bytes left in
    let rest = length-drop i.start i.buffer.items in
    let half = c.self.invariant.0 in
    omega (arith, found, part, all, both, rest, half, c.len.ensures, c.saturating_add.ensures)
