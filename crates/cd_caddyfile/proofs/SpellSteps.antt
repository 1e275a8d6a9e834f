-- What each byte does to a word with shorthands.
use Rattle.std.proofs.Common.{◌≡◌, ℕ, ◌==◌, Bool, true, false, List, [], ◌∷◌, ◌++◌, ◌≢◌, refl, sym, ap, ◌∙◌, append_assoc, append-nil, eqb-true}
use Rattle.cd_caddyfile.specs.Shorthands.{long_name, spelled, after_brace}
use Rattle.cd_caddyfile.specs.Spelling.{to_spell}
use Rattle.cd_caddyfile.proofs.WordSteps.{is, is_not}

spelled-brace : (rest : List ℕ) → spelled (123 ∷ rest) ≡ after_brace [] rest
unfolding spelled
spelled-brace rest = refl

pub spelled-other : (byte : ℕ) (rest : List ℕ) → (byte == 123) ≡ false → spelled (byte ∷ rest) ≡ byte ∷ spelled rest
unfolding spelled
spelled-other byte rest is = rw (is, spelled) refl

after_brace-brace : (name : List ℕ) (rest : List ℕ) → after_brace name (123 ∷ rest) ≡ 123 ∷ (name ++ after_brace [] rest)
unfolding after_brace
after_brace-brace name rest = refl

after_brace-end : (name : List ℕ) (rest : List ℕ) → after_brace name (125 ∷ rest) ≡ 123 ∷ (long_name name ++ 125 ∷ spelled rest)
unfolding after_brace
after_brace-end name rest = refl

pub after_brace-other : (name : List ℕ) (byte : ℕ) (rest : List ℕ) → (byte == 123) ≡ false → (byte == 125) ≡ false → after_brace name (byte ∷ rest) ≡ after_brace (name ++ byte ∷ []) rest
unfolding after_brace
after_brace-other name byte rest a b = rw (a, b, after_brace) refl

pub spelled-at_brace : (byte : ℕ) (rest : List ℕ) → (byte == 123) ≡ true → spelled (byte ∷ rest) ≡ after_brace [] rest
spelled-at_brace byte rest is = ap (λ b. spelled (b ∷ rest)) (eqb-true byte 123 is) ∙ spelled-brace rest

pub after_brace-at_brace : (name : List ℕ) (byte : ℕ) (rest : List ℕ) → (byte == 123) ≡ true → after_brace name (byte ∷ rest) ≡ 123 ∷ (name ++ after_brace [] rest)
after_brace-at_brace name byte rest is = ap (λ b. after_brace name (b ∷ rest)) (eqb-true byte 123 is) ∙ after_brace-brace name rest

pub after_brace-at_end : (name : List ℕ) (byte : ℕ) (rest : List ℕ) → (byte == 125) ≡ true → after_brace name (byte ∷ rest) ≡ 123 ∷ (long_name name ++ 125 ∷ spelled rest)
after_brace-at_end name byte rest is = ap (λ b. after_brace name (b ∷ rest)) (eqb-true byte 125 is) ∙ after_brace-end name rest

pub opens_brace : (made none : List ℕ) (byte : ℕ) (rest : List ℕ) → byte ≡ 123 → none ≡ [] →
    made ++ spelled (byte ∷ rest) ≡ made ++ after_brace none rest
opens_brace made none byte rest same none-is =
    ap (λ l. made ++ l) (ap (λ b. spelled (b ∷ rest)) same ∙ (spelled-brace rest ∙ ap (λ n. after_brace n rest) (sym none-is)))

pub plain_byte : (made new : List ℕ) (byte : ℕ) (rest : List ℕ) → byte ≢ 123 → new ≡ made ++ byte ∷ [] →
    made ++ spelled (byte ∷ rest) ≡ new ++ spelled rest
plain_byte made new byte rest other new-is =
    ap (λ l. made ++ l) (spelled-other byte rest (is_not byte 123 other)) ∙ sym (ap (λ n. n ++ spelled rest) new-is ∙ append_assoc made (byte ∷ []) (spelled rest))

pub brace_again : (made two name none : List ℕ) (byte : ℕ) (rest : List ℕ) → byte ≡ 123 → two ≡ made ++ 123 ∷ name → none ≡ [] →
    made ++ after_brace name (byte ∷ rest) ≡ two ++ after_brace none rest
brace_again made two name none byte rest same two-is none-is =
    ap (λ l. made ++ l) (ap (λ b. after_brace name (b ∷ rest)) same ∙ (after_brace-brace name rest ∙ ap (λ n. 123 ∷ (name ++ after_brace n rest)) (sym none-is)))
    ∙ sym (ap (λ t. t ++ after_brace none rest) two-is ∙ append_assoc made (123 ∷ name) (after_brace none rest))

pub brace_ends : (made new name : List ℕ) (byte : ℕ) (rest : List ℕ) → byte ≡ 125 → new ≡ made ++ 123 ∷ (long_name name ++ 125 ∷ []) →
    made ++ after_brace name (byte ∷ rest) ≡ new ++ spelled rest
brace_ends made new name byte rest same new-is =
    ap (λ l. made ++ l) (ap (λ b. after_brace name (b ∷ rest)) same ∙ after_brace-end name rest)
    ∙ sym (ap (λ t. t ++ spelled rest) new-is ∙ (append_assoc made (123 ∷ (long_name name ++ 125 ∷ [])) (spelled rest)
    ∙ ap (λ l. made ++ 123 ∷ l) (append_assoc (long_name name) (125 ∷ []) (spelled rest))))

pub name_byte : (made name new : List ℕ) (byte : ℕ) (rest : List ℕ) → byte ≢ 123 → byte ≢ 125 → new ≡ name ++ byte ∷ [] →
    made ++ after_brace name (byte ∷ rest) ≡ made ++ after_brace new rest
name_byte made name new byte rest a b new-is =
    ap (λ l. made ++ l) (after_brace-other name byte rest (is_not byte 123 a) (is_not byte 125 b) ∙ ap (λ n. after_brace n rest) (sym new-is))

pub left_inside : (made two name : List ℕ) → two ≡ made ++ 123 ∷ name → two ≡ made ++ after_brace name []
unfolding after_brace
left_inside made two name is = is

pub one_then : (made one two name : List ℕ) → one ≡ made ++ 123 ∷ [] → two ≡ one ++ name → two ≡ made ++ 123 ∷ name
one_then made one two name one-is two-is = two-is ∙ (ap (λ o. o ++ name) one-is ∙ append_assoc made (123 ∷ []) name)

pub then_one : (made one two name : List ℕ) → one ≡ made ++ 123 ∷ name → two ≡ one ++ 125 ∷ [] → two ≡ made ++ 123 ∷ (name ++ 125 ∷ [])
then_one made one two name one-is two-is = two-is ∙ (ap (λ o. o ++ 125 ∷ []) one-is ∙ append_assoc made (123 ∷ name) (125 ∷ []))

pub left_outside : (made : List ℕ) → made ≡ made ++ spelled []
unfolding spelled
left_outside made = sym (append-nil made)

pub spell_on : (text made new name name' : List ℕ) (at at' : Bool) (byte : ℕ) (before after : List ℕ) →
    spelled text ≡ made ++ to_spell at name before → before ≡ byte ∷ after →
    ((rest : List ℕ) → made ++ to_spell at name (byte ∷ rest) ≡ new ++ to_spell at' name' rest) → spelled text ≡ new ++ to_spell at' name' after
spell_on text made new name name' at at' byte before after known is step = known ∙ (ap (λ b. made ++ to_spell at name b) is ∙ step after)
