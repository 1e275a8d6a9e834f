use Rattle.std.proofs.Common.{◌∙◌, refl, ap, sym, arith}
use Rattle.cd_outside.specs.declared.fixtures.FixtureCall.TheVariants as call
use Rattle.cd_outside.specs.FixtureCall.{without_key}
use Rattle.cd_outside.proofs.Openings.{recorded}
use Rattle.cd_outside.proofs.fixture_record.FixtureRecord.add_closed.Goals as goal

pub invariant_of-self : goal.invariant_of-self
invariant_of-self c =
    let here = c.self.inside in
    let taken = c.in-Some.ensures.taken.1 ∙ ap (λ key. without_key key here.held) (sym c.in-Some.ensures.taken.0) in
    let both = recorded here.held _ here.calls.items _ here.is_shut here.is_shut (call.Closed c.in-Some.kept) c.self.invariant.0 c.self.invariant.1.0 c.push_reserved.ensures.items taken refl in
    (both.0, (both.1, omega (arith, c.push_reserved.ensures.len, c.push_reserved.ensures.capacity, c.in-Some.ensures.some.1, c.self.invariant.1.1)))
