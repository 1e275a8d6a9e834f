use Rattle.std.proofs.Common.{◌≡◌, ◌∙◌, ◌∷◌, rules, true, drop, suc, ap, sym, refl, Some}
use Rattle.std.specs.Prelude.{slice_get}
use Rattle.std.proofs.lemmas.Option.{slice_get_read}
use Rattle.std.proofs.Math.Seq.{drop-cons}
use Rattle.cd_outside.specs.Keys.{key_eq}
use Rattle.cd_outside.proofs.Openings.{taken_first}
use Rattle.cd_outside.proofs.fixture_record.find.Goals as goal

pub returns-then-same-clause-taken : goal.returns-then-same-clause-taken
returns-then-same-clause-taken c =
    let keys = c.args.keys.now in
    let at = c.loop-at.at in
    let one = c.index-keys-at.result in
    let there : drop at keys ≡ one ∷ drop (suc at) keys = drop-cons keys at one c.loop-at-test.true ∙ ap (λ z. z ∷ drop (suc at) keys) (sym c.index-keys-at.is) in
    let hit : key_eq c.args.key.now one ≡ true = search rules in
    let same : c.args.key.now ≡ one = search (rules, c.same.ensures.same, c.if-same.true) in
    let at_place : slice_get keys at ≡ Some one = slice_get_read keys _ at one refl c.loop-at-test.true c.index-keys-at.is in
    (c.loop-at-test.true, (at_place ∙ ap Some (sym same), taken_first c.args.key.now one keys at there hit c.loop-at.invariant.rest))
