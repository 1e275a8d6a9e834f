-- A text is cut around the first occurrence that a search finds, and what is replaced goes on behind it.
use Rattle.std.proofs.Common.{◌≡◌, ℕ, zero, suc, ◌+◌, ◌-◌, ◌<◌, ◌≤◌, List, [], ◌∷◌, ◌++◌, true, false, Option, Some, None, length, take, drop, refl, sym, ap, ◌∙◌, arith, append_assoc, length-append, Err, rules}
use Rattle.std.specs.Prelude.{nat_eq, nat_lt, option_map}
use Rattle.std.specs.List.{starts_with}
use Rattle.std.specs.Cmp.Lexicographic.{pointwise_decides}
use Rattle.std.proofs.lemmas.Bool.{cond-true, cond-false, cases_Bool, ltb-true, lt-ltb}
use Rattle.std.proofs.lemmas.Bool.Decides.{Decides-eqb}
use Rattle.std.proofs.lemmas.List.{length-take}
use Rattle.memchr.specs.Find.{FindsNeedle, OccursAt, NoneBefore}
use Rattle.memchr.proofs.lemmas.MatchLemmas.{OccursAt-part, OccursAt-from_part}
use Rattle.cd_fill.specs.declared.fault.FillFault.TheVariants.{TooLong}
use Rattle.cd_fill.specs.declared.limits.TheConstants.{MAX_FILLED_BYTES}
use Rattle.cd_fill.specs.Filling.{bounded}
use Rattle.cd_rewrite.specs.Substrings.{around, replaced_up_to}

-- ---- an occurrence at the beginning

begun : (find text : List ℕ) → OccursAt text find 0 → starts_with nat_eq text find ≡ true
begun find text occurs =
    (pointwise_decides Decides-eqb find (take (length find) text)).1 (sym (OccursAt-part text find 0 occurs))

occurs_first : (find text : List ℕ) → starts_with nat_eq text find ≡ true → OccursAt text find 0
occurs_first find text e =
    let same = (pointwise_decides Decides-eqb find (take (length find) text)).0 e in
    OccursAt-from_part text find 0 (omega (arith, ap length same, length-take {A = ℕ})) (sym same)

not_begun : (find text : List ℕ) → ¬ OccursAt text find 0 → starts_with nat_eq text find ≡ false
not_begun find text not_there = search (rules, cases_Bool, occurs_first)

-- ---- an occurrence behind the first byte

behind : (byte : ℕ) (find text : List ℕ) (at : ℕ) → OccursAt text find at → OccursAt (byte ∷ text) find (suc at)
behind byte find text at occurs = search (rules, OccursAt-from_part, OccursAt-part)

without_first : (byte : ℕ) (find text : List ℕ) (at : ℕ) → OccursAt (byte ∷ text) find (suc at) → OccursAt text find at
without_first byte find text at occurs = search (rules, OccursAt-from_part, OccursAt-part)

-- ---- the text around what was found

abbrev cut_at : List ℕ → List ℕ → ℕ → List ℕ × List ℕ
cut_at find text at = (take at text, drop (at + length find) text)

abbrev pub one_more : ℕ → List ℕ × List ℕ → List ℕ × List ℕ
one_more byte parts = (byte ∷ parts.0, parts.1)

pub around_is : (find : List ℕ) → 0 < length find → (text : List ℕ) (r : Option ℕ) → FindsNeedle text find 0 r → around find text ≡ option_map (cut_at find text) r
unfolding around
around_is find some [] None h = refl
around_is find some [] (Some at) h = absurd (omega (arith, h.1.fits))
around_is find some (byte ∷ text) None h =
    cond-false _ _ _ (not_begun find (byte ∷ text) (h 0 (omega arith) (omega arith)))
    ∙ ap (option_map (one_more byte)) (around_is find some text None (λ at low high occurs. h (suc at) (omega arith) (omega arith) (behind byte find text at occurs)))
around_is find some (byte ∷ text) (Some zero) h =
    let same : length find ≡ 0 + length find = omega arith in
    cond-true _ _ _ (begun find (byte ∷ text) h.1) ∙ ap (λ n. Some ([], drop n (byte ∷ text))) same
around_is find some (byte ∷ text) (Some (suc at)) h =
    let first : NoneBefore (OccursAt text find) 0 (length text + 1) at = record {
      low = omega arith;
      high = omega (arith, h.0.high);
      before = λ k low high occurs. h.0.before (suc k) (omega arith) (omega arith) (behind byte find text k occurs);
    } in
    let same : suc (at + length find) ≡ suc at + length find = omega arith in
    cond-false _ _ _ (not_begun find (byte ∷ text) (h.0.before 0 (omega arith) (omega arith)))
    ∙ ap (option_map (one_more byte)) (around_is find some text (Some at) (first, without_first byte find text at h.1))
    ∙ ap (λ n. Some (byte ∷ take at text, drop n (byte ∷ text))) same

-- ---- what is replaced

-- without an occurrence nothing is
pub none_replaced : (n : ℕ) (find replace text : List ℕ) → around find text ≡ None → replaced_up_to n find replace text ≡ text
unfolding replaced_up_to
none_replaced n find replace text e = search rules

-- one occurrence is, and then those behind it
pub one_replaced : (n : ℕ) (find replace text before rest : List ℕ) → around find text ≡ Some (before, rest)
    → replaced_up_to (suc n) find replace text ≡ before ++ (replace ++ replaced_up_to n find replace rest)
unfolding replaced_up_to
one_replaced n find replace text before rest e = rw e refl

regroup : (a b c d : List ℕ) → ((a ++ b) ++ c) ++ d ≡ a ++ (b ++ (c ++ d))
regroup a b c d = simp append_assoc

-- ---- a text that is being made

-- without an occurrence what is left stays
pub rest_stays : (n : ℕ) (find replace left made whole : List ℕ) → around find left ≡ None → whole ≡ made ++ replaced_up_to n find replace left
    → whole ≡ made ++ left
rest_stays n find replace left made whole e is = is ∙ ap (λ rest. made ++ rest) (none_replaced n find replace left e)

-- and so where enough are replaced
pub enough_replaced : (most done : ℕ) (find replace left made whole : List ℕ) → most ≤ done → whole ≡ made ++ replaced_up_to (most - done) find replace left
    → whole ≡ made ++ left
unfolding replaced_up_to
enough_replaced most done find replace left made whole enough is = search rules

-- one more occurrence is replaced
pub made_longer : (most done : ℕ) (find replace left before rest made longer whole : List ℕ) → done < most → around find left ≡ Some (before, rest)
    → longer ≡ (made ++ before) ++ replace → whole ≡ made ++ replaced_up_to (most - done) find replace left
    → whole ≡ longer ++ replaced_up_to (most - (done + 1)) find replace rest
made_longer most done find replace left before rest made longer whole under e is was =
    let others = replaced_up_to (most - (done + 1)) find replace rest in
    let more : suc (most - (done + 1)) ≡ most - done = omega arith in
    was
    ∙ ap (λ text. made ++ text) (ap (λ n. replaced_up_to n find replace left) (sym more) ∙ one_replaced (most - (done + 1)) find replace left before rest e)
    ∙ sym (regroup made before replace others)
    ∙ ap (λ front. front ++ others) (sym is)

-- what was made so far is too long
pub too_long : (made rest whole : List ℕ) → whole ≡ made ++ rest → nat_lt MAX_FILLED_BYTES (length made) ≡ true → bounded whole ≡ Err TooLong
too_long made rest whole is long = search (rules, ltb-true, length-append, cond-true, lt-ltb)
