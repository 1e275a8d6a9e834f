use Rattle.std.proofs.Common.{◌≡◌, ◌<◌, ◌+◌, ◌-◌, ℕ, List, [], ◌∷◌, ◌++◌, length, take, set, refl, ap, sym, ◌∙◌, arith, rules, append_assoc}
use Rattle.std.specs.Prelude.{suc}
use Rattle.std.proofs.lemmas.List.{take_more_set}
use Rattle.form_urlencoded.specs.Form.{decode}
use Rattle.cd_fill.proofs.escapes.write_meant.Goals as goal

-- one more is written, and one less is left
one_less : (count place byte : ℕ) (rest : List ℕ) → place < count → take (count - place) (byte ∷ rest) ≡ byte ∷ take (count - (place + 1)) rest
one_less count place byte rest low = let gap : count - place ≡ suc (count - (place + 1)) = omega arith in rw gap refl

one_more : (room rest : List ℕ) (count place byte : ℕ) → count ≡ length room → place < count → take place room ++ take (count - place) (byte ∷ rest) ≡ take (place + 1) (set room place byte) ++ take (count - (place + 1)) rest
one_more room rest count place byte same low =
    let left = take (count - (place + 1)) rest in
    ap (λ z. take place room ++ z) (one_less count place byte rest low)
    ∙ sym (append_assoc (take place room) (byte ∷ []) left)
    ∙ ap (λ z. z ++ left) (sym (take_more_set room place byte (omega arith)))

pub loop-place-preserved : goal.loop-place-preserved
loop-place-preserved c =
    let room = c.loop-place.room in
    let place = c.loop-place.place in
    let count = length c.args.room.now in
    c.loop-place.invariant
    ∙ ap (λ z. take place room ++ take (count - place) z) c.in-Some.ensures.0
    ∙ one_more room (decode c.in-Some.behind.now) count place c.in-Some.byte (search rules) c.loop-place-test.true
