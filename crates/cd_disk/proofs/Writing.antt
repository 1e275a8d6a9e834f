-- One write after another.
use Rattle.std.proofs.Common.{◌≡◌, inl, inr, ℕ, ◌+◌, ◌-◌, ◌<◌, List, [], ◌∷◌, ◌++◌, Option, None, Some, length, take, drop, refl, sym, ◌∙◌, ap, subst, arith, length-append, append-nil, append_assoc, take-append-drop}
use Rattle.std.proofs.lemmas.Bool.{cases_lt}
use Rattle.std.proofs.lemmas.List.{get_or_append_left, get_or-append-add}
use Rattle.cd_autosave.specs.Image.{byte_at}
use Rattle.cd_autosave.specs.Disk.{IsOutside, Written, Steps}
use Rattle.cd_disk.specs.RawFile.{Writes}

module _ (at : ℕ) (p q old mid new : List ℕ) (one : Written at p old mid) (two : Written (at + length p) q mid new) where
  byte_of : (i : ℕ) → i < length (p ++ q) → byte_at new (at + i) ≡ byte_at (p ++ q) i
  byte_of i low = elim (cases_lt i (length p)) [
    | inl first ↦
        two.others (at + i) (inl (omega (arith, first)))
        ∙ one.piece_is i first
        ∙ sym (get_or_append_left p q 0 i first)
    | inr then' ↦
        let j : ℕ = i - length p in
        let from : at + i ≡ (at + length p) + j = omega (arith, then') in
        let split : i ≡ length p + j = omega (arith, then') in
        ap (λ (n : ℕ). byte_at new n) from
        ∙ two.piece_is j (omega (arith, low, then', length-append p q))
        ∙ sym (get_or-append-add p q j 0)
        ∙ ap (λ (n : ℕ). byte_at (p ++ q) n) (sym split)
  ]

  other_byte : (i : ℕ) → IsOutside at (length (p ++ q)) i → byte_at new i ≡ byte_at old i
  other_byte i (inl low) = two.others i (inl (omega (arith, low))) ∙ one.others i (inl low)
  other_byte i (inr high) =
      two.others i (inr (omega (arith, length-append p q, high)))
      ∙ one.others i (inr (omega (arith, length-append p q, high)))

  pub written_more : Written at (p ++ q) old new
  written_more =
      let both : length (p ++ q) ≡ length p + length q = length-append p q in
      record {
        long = omega (arith, both, one.long, two.long);
        piece_is = byte_of;
        others = other_byte;
      }

-- two pieces, one after another
pub writes_more : (at : ℕ) (p q : List ℕ) (a b c : Option (List ℕ)) → Writes at p a b → Writes (at + length p) q b c → Writes at (p ++ q) a c
writes_more at [] q a b c first then' =
    subst (λ (o : Option (List ℕ)). Writes at q o c) first (subst (λ (n : ℕ). Writes n q b c) (omega arith) then')
writes_more at (x ∷ p) [] a b c first then' =
    subst (λ (l : List ℕ). Writes at l a c) (sym (append-nil (x ∷ p))) (subst (λ (o : Option (List ℕ)). Writes at (x ∷ p) a o) (sym then') first)
writes_more at (x ∷ p) (y ∷ q) None b c first then' =
    subst (λ (o : Option (List ℕ)). Steps (Written (at + length (x ∷ p)) (y ∷ q)) o c) first then'
writes_more at (x ∷ p) (y ∷ q) (Some old) b c first then' =
    let (mid, is, one) = first in
    let (new, now, two) = subst (λ (o : Option (List ℕ)). Steps (Written (at + length (x ∷ p)) (y ∷ q)) o c) is then' in
    (new, now, written_more at (x ∷ p) (y ∷ q) old mid new one two)

-- of a file that does not tell its bytes
pub writes_untold : (at : ℕ) (p : List ℕ) → Writes at p None None
writes_untold at [] = refl
writes_untold at (x ∷ p) = refl

pub moves : (piece written left rest : List ℕ) (count : ℕ) → piece ≡ written ++ left → rest ≡ drop count left → piece ≡ (written ++ take count left) ++ rest
moves piece written left rest count split dropped =
    split ∙ ap (λ l. written ++ l) (sym (take-append-drop count left))
    ∙ sym (append_assoc written (take count left) (drop count left))
    ∙ ap (λ l. (written ++ take count left) ++ l) (sym dropped)
