use Rattle.std.proofs.Common.{◌≡◌, ◌∙◌, ◌++◌, ◌∷◌, [], List, length, refl, ap, arith, rules}
use Rattle.std.proofs.lemmas.List.{length_push}
use Rattle.cd_outside.specs.declared.key.Key.{Key}
use Rattle.cd_outside.specs.declared.fixtures.FixtureCall.{FixtureCall}
use Rattle.cd_outside.specs.declared.fixtures.FixtureCall.TheVariants as call
use Rattle.cd_outside.proofs.Openings.{recorded, one_at_most}
use Rattle.cd_outside.proofs.fixture_record.FixtureRecord.add_opened.Goals as goal

pub invariant_of-self-2 : goal.invariant_of-self-2
invariant_of-self-2 c =
    let here = c.self.inside in
    let one = c.in-Ok.opened in
    let added = c.push_reserved.ensures.items ∙ ap (λ (calls : List FixtureCall). calls ++ call.Opened one ∷ []) c.hold.ensures.calls in
    let same : c.in-Ok.kept ≡ one = search rules in
    let held = c.in-Ok-hold.ensures.ok.0 ∙ ap (λ (key : Key). here.held ++ key ∷ []) same in
    let longer = ap length c.in-Ok-hold.ensures.ok.0 ∙ length_push here.held c.in-Ok.kept in
    let both = recorded here.held _ here.calls.items _ here.is_shut here.is_shut (call.Opened one) c.self.invariant.0 c.self.invariant.1.0 added held refl in
    (both.0, (both.1, omega (arith, c.push_reserved.ensures.len, c.push_reserved.ensures.capacity, c.in-Ok-hold.ensures.ok.1, longer, one_at_most here.is_shut)))
