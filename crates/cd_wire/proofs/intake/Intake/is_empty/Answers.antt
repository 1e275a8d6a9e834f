use Rattle.std.proofs.Common.{◌<◌, [], length, drop, subst, ap, arith, length-append}
use Rattle.std.proofs.lemmas.Bool.Decides.{nat_tests}
use Rattle.cd_wire.specs.declared.taking.Known.{Known}
use Rattle.cd_wire.specs.Taking.{IsKept}
use Rattle.cd_wire.proofs.CutLemmas.{some_request}
use Rattle.cd_wire.proofs.TakingLemmas.{some_head}
use Rattle.cd_wire.proofs.intake.Intake.is_empty.Goals as goal

-- a head was read, so there are some bytes
pub returns-in-Front : goal.returns-in-Front
returns-in-Front c =
    let i = c.self.inside in
    let left = drop i.start i.buffer.items in
    let f = subst (λ (k : Known). IsKept i.dropped.bytes left k) c.in-Front.is c.self.invariant.1 in
    let some : 0 < length c.args.self.now =
    omega (arith, some_head i.dropped.bytes c.in-Front.field-0 f, ap length c.self.view_is, length-append i.dropped.bytes left) in
    grind (arith, nat_tests)

-- a request was read
pub returns-in-Whole : goal.returns-in-Whole
returns-in-Whole c =
    let i = c.self.inside in
    let left = drop i.start i.buffer.items in
    let f = subst (λ (k : Known). IsKept i.dropped.bytes left k) c.in-Whole.is c.self.invariant.1 in
    let some : 0 < length c.args.self.now =
    omega (arith, some_request i.dropped.bytes c.in-Whole.field-0 [] f, ap length c.self.view_is, length-append i.dropped.bytes left) in
    grind (arith, nat_tests)
