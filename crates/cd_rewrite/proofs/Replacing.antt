-- What replacing means in the words of the rule: each text has a first occurrence or none.
use Rattle.std.proofs.Common.{◌≡◌, ℕ, zero, suc, ◌+◌, ◌-◌, ◌<◌, ◌≤◌, List, [], ◌∷◌, ◌++◌, Option, Some, None, length, take, drop, refl, sym, ap, subst, ◌∙◌, arith, inl, inr, append_assoc, length-append, length-drop, take-append-drop, rules}
use Rattle.std.specs.Prelude.{nat_eq, option_map, ⊤}
use Rattle.std.specs.List.{starts_with}
use Rattle.std.proofs.lemmas.Bool.{cond-true, cond-false, cases_Bool}
use Rattle.std.proofs.lemmas.Bool.Decides.{nat_tests}
use Rattle.std.proofs.lemmas.List.{take-append-le, drop-append-le, take_at, drop_at}
use Rattle.memchr.specs.Find.{OccursAt, NoneBefore}
use Rattle.memchr.proofs.lemmas.MatchLemmas.{OccursAt-part, OccursAt-from_part, OccursAt-split}
use Rattle.cd_rewrite.specs.Substrings.{around, replaced_up_to, most, substituted, IsAbsent, IsBeforeFirst}
use Rattle.cd_rewrite.proofs.Occurrences.{around_is, one_more, none_replaced, one_replaced}

-- an occurrence cuts the text
cut : (find text : List ℕ) (at : ℕ) → OccursAt text find at → take at text ++ (find ++ drop (at + length find) text) ≡ text
cut find text at occurs = search (rules, take, OccursAt-split, take-append-drop)

-- a text without any is left alone
pub absent_around : (find text : List ℕ) → 0 < length find → IsAbsent find text → around find text ≡ None
absent_around find text some absent =
    around_is find some text None (λ at low high occurs. absent (take at text) (drop (at + length find) text) (cut find text at occurs))

-- an occurrence that begins in front of the first one is none
none_earlier : (find before after : List ℕ) → IsBeforeFirst find before → (at : ℕ) → at < length before → ¬ OccursAt (before ++ (find ++ after)) find at
none_earlier find before after first at early occurs =
    let front = before ++ find in
    let reach : at + length find ≤ length front = omega (arith, length-append before find) in
    let same : before ++ (find ++ after) ≡ front ++ after = sym (append_assoc before find after) in
    let part : take (length find) (drop at (front ++ after)) ≡ find = ap (λ text. take (length find) (drop at text)) (sym same) ∙ OccursAt-part (before ++ (find ++ after)) find at occurs in
    let dropped : drop at (front ++ after) ≡ drop at front ++ after = drop-append-le at front after (omega arith) in
    let taken : take (length find) (drop at front ++ after) ≡ take (length find) (drop at front) = take-append-le (length find) (drop at front) after (omega (arith, length-drop at front)) in
    let within : OccursAt front find at = OccursAt-from_part front find at reach (sym taken ∙ ap (take (length find)) (sym dropped) ∙ part) in
    let empty : drop (at + length find) front ≡ [] = first (take at front) (drop (at + length find) front) (cut find front at within) in
    omega (arith, length-drop (at + length find) front, ap length empty, length-append before find)

fits : (find before after : List ℕ) → length before + length find ≤ length (before ++ (find ++ after))
fits find before after = omega (arith, length-append before (find ++ after), length-append find after)

at_once : (find before after : List ℕ) → OccursAt (before ++ (find ++ after)) find (length before)
at_once find before after = search (rules, OccursAt-from_part, fits, drop_at, take_at)

-- the first occurrence is the one that is cut at
pub first_around : (find before after : List ℕ) → 0 < length find → IsBeforeFirst find before → around find (before ++ (find ++ after)) ≡ Some (before, after)
first_around find before after some first =
    let text = before ++ (find ++ after) in
    let none : NoneBefore (OccursAt text find) 0 (length text + 1) (length before) = record {
      low = omega arith;
      high = omega (arith, fits find before after);
      before = λ at low high. none_earlier find before after first at high;
    } in
    let both : length before + length find ≡ length (before ++ find) = omega (arith, length-append before find) in
    let behind : drop (length before + length find) text ≡ after =
    ap (λ n. drop n text) both ∙ ap (drop (length (before ++ find))) (sym (append_assoc before find after)) ∙ drop_at (before ++ find) after (length (before ++ find)) refl in
    around_is find some text (Some (length before)) (none, at_once find before after)
    ∙ ap (λ front. Some (front, drop (length before + length find) text)) (take_at before (find ++ after) (length before) refl)
    ∙ ap (λ rest. Some (before, rest)) behind

-- ---- how many are replaced

-- what stands behind an occurrence is shorter than so many bytes
abbrev Shorter : ℕ → Option (List ℕ × List ℕ) → Type 0
Shorter n None = ⊤
Shorter n (Some parts) = length parts.1 < n

shorter_behind : (byte n : ℕ) (found : Option (List ℕ × List ℕ)) → Shorter n found → Shorter (suc n) (option_map (one_more byte) found)
shorter_behind byte n found h = search rules

shorter : (find text : List ℕ) → 0 < length find → Shorter (length text) (around find text)
unfolding around
shorter find [] some = tt
shorter find (byte ∷ text) some = elim (cases_Bool (starts_with nat_eq (byte ∷ text) find)) [
  | inl begun ↦ subst (Shorter (suc (length text))) (sym (cond-true _ _ _ begun)) (omega (arith, length-drop (length find) (byte ∷ text)))
  | inr other ↦ subst (Shorter (suc (length text))) (sym (cond-false _ _ _ other)) (shorter_behind byte (length text) (around find text) (shorter find text some))
]

-- one occurrence more, of which what follows is replaced alike
alike : (n m : ℕ) (find replace text : List ℕ) → 0 < length find → (found : Option (List ℕ × List ℕ)) → around find text ≡ found
    → ((rest : List ℕ) → length rest < length text → replaced_up_to n find replace rest ≡ replaced_up_to m find replace rest)
    → replaced_up_to (suc n) find replace text ≡ replaced_up_to (suc m) find replace text
alike n m find replace text some None e others =
    none_replaced (suc n) find replace text e ∙ sym (none_replaced (suc m) find replace text e)
alike n m find replace text some (Some (before, rest)) e others =
    one_replaced n find replace text before rest e
    ∙ ap (λ behind. before ++ (replace ++ behind)) (others rest (subst (Shorter (length text)) e (shorter find text some)))
    ∙ sym (one_replaced m find replace text before rest e)

-- a text has no more occurrences than bytes, so any greater number makes no difference
as_many : (find replace : List ℕ) → 0 < length find → (n m : ℕ) (text : List ℕ) → length text ≤ n → length text ≤ m
    → replaced_up_to n find replace text ≡ replaced_up_to m find replace text
unfolding around replaced_up_to
as_many find replace some zero m [] low high = sym (none_replaced m find replace [] refl)
as_many find replace some zero m (byte ∷ text) low high = absurd (omega (arith, low))
as_many find replace some (suc n) zero [] low high = none_replaced (suc n) find replace [] refl
as_many find replace some (suc n) zero (byte ∷ text) low high = absurd (omega (arith, high))
as_many find replace some (suc n) (suc m) text low high =
    alike n m find replace text some (around find text) refl
    (λ rest less. as_many find replace some n m rest (omega (arith, less, low)) (omega (arith, less, high)))

-- ---- the law

looked_for : (find replace text : List ℕ) (limit : ℕ) → 0 < length find → substituted find replace limit text ≡ replaced_up_to (most limit text) find replace text
unfolding substituted
looked_for find replace text limit some = search (rules, nat_tests, cond-false)

limited : (text : List ℕ) (limit : ℕ) → 0 < limit → most limit text ≡ limit
limited text limit some = search (rules, nat_tests, cond-false)

pub each_replaced : (find replace before after : List ℕ) → 0 < length find → IsBeforeFirst find before
    → substituted find replace 0 (before ++ (find ++ after)) ≡ before ++ (replace ++ substituted find replace 0 after)
each_replaced find replace before after some first =
    let text = before ++ (find ++ after) in
    let n = length text - 1 in
    let bytes : suc n ≡ length text = omega (arith, fits find before after) in
    let enough : length after ≤ n = omega (arith, length-append before (find ++ after), length-append find after) in
    looked_for find replace text 0 some
    ∙ ap (λ k. replaced_up_to k find replace text) (sym bytes)
    ∙ one_replaced n find replace text before after (first_around find before after some first)
    ∙ ap (λ rest. before ++ (replace ++ rest)) (as_many find replace some n (length after) after enough (omega arith) ∙ sym (looked_for find replace after 0 some))

pub some_replaced : (find replace before after : List ℕ) (limit : ℕ) → 0 < length find → IsBeforeFirst find before → 0 < limit
    → substituted find replace (1 + limit) (before ++ (find ++ after)) ≡ before ++ (replace ++ substituted find replace limit after)
some_replaced find replace before after limit some first more =
    let text = before ++ (find ++ after) in
    let next : most (1 + limit) text ≡ suc limit = limited text (1 + limit) (omega arith) ∙ omega arith in
    looked_for find replace text (1 + limit) some
    ∙ ap (λ k. replaced_up_to k find replace text) next
    ∙ one_replaced limit find replace text before after (first_around find before after some first)
    ∙ ap (λ rest. before ++ (replace ++ rest)) (ap (λ k. replaced_up_to k find replace after) (sym (limited after limit more)) ∙ sym (looked_for find replace after limit some))

pub last_replaced : (find replace before after : List ℕ) → 0 < length find → IsBeforeFirst find before
    → substituted find replace 1 (before ++ (find ++ after)) ≡ before ++ (replace ++ after)
unfolding replaced_up_to
last_replaced find replace before after some first = search (rules, looked_for, one_replaced, first_around)

pub none_is_left : (find replace text : List ℕ) (limit : ℕ) → IsAbsent find text → substituted find replace limit text ≡ text
unfolding substituted
none_is_left find replace text limit absent = search (rules, looked_for, none_replaced, absent_around)

pub nothing_replaced : (replace text : List ℕ) (limit : ℕ) → substituted [] replace limit text ≡ text
unfolding substituted
nothing_replaced replace text limit = refl
