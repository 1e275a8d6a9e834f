use Rattle.std.proofs.Common.{◌≡◌, ℕ, cond, refl, ap, arith}
use Rattle.cd_outside.specs.declared.fixtures.FixtureCall.TheVariants as call
use Rattle.cd_outside.proofs.Openings.{recorded}
use Rattle.cd_outside.proofs.fixture_record.FixtureRecord.add_shut.Goals as goal

pub invariant_of-self-2 : goal.invariant_of-self-2
invariant_of-self-2 c =
    let here = c.self.inside in
    let both = recorded here.held here.held here.calls.items _ here.is_shut _ call.Shut c.self.invariant.0 c.self.invariant.1.0 c.push_reserved.ensures.items refl refl in
    let one : ◌≡◌ {A = ℕ} (cond here.is_shut 0 1) 1 = ap (λ b. cond b 0 1) c.if-self-2.false in
    (both.0, (both.1, omega (arith, c.push_reserved.ensures.len, c.push_reserved.ensures.capacity, one, c.self.invariant.1.1)))
