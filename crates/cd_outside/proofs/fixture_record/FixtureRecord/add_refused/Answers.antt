use Rattle.std.proofs.Common.{◌∙◌, ◌++◌, ◌∷◌, [], List, length, refl, ap, arith}
use Rattle.cd_outside.specs.declared.fixtures.FixtureCall.{FixtureCall}
use Rattle.cd_outside.specs.declared.fixtures.FixtureCall.TheVariants as call
use Rattle.cd_outside.proofs.Openings.{recorded, one_at_most}
use Rattle.cd_outside.proofs.fixture_record.FixtureRecord.add_refused.Goals as goal

pub invariant_of-self-2 : goal.invariant_of-self-2
invariant_of-self-2 c =
    let here = c.self.inside in
    let added = c.push_reserved.ensures.items ∙ ap (λ (calls : List FixtureCall). calls ++ call.NotOpened c.in-Ok.refused ∷ []) c.reserve.ensures.items in
    let both = recorded here.held here.held here.calls.items _ here.is_shut here.is_shut (call.NotOpened c.in-Ok.refused) c.self.invariant.0 c.self.invariant.1.0 added refl refl in
    (both.0, (both.1, omega (arith, c.push_reserved.ensures.len, c.push_reserved.ensures.capacity, c.in-Ok-reserve.ensures.ok, ap length c.as_slice.ensures, one_at_most here.is_shut)))
