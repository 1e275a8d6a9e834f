-- Rising numbers, and lists of them of which one is replaced.
use Rattle.std.proofs.Common.{◌≡◌, ℕ, ◌<◌, ◌≤◌, inl, inr, List, [], length, get_or, sym, ap, subst, ◌∙◌, arith, get_or-set_same, get_or-set_other}
use Rattle.std.specs.Prelude.{slice_set}
use Rattle.cd_index.proofs.Marks.{same_or_not}
use Rattle.cd_index.specs.Runs.{Has, IsRun}

-- they rise to a greater number too
pub run_up : (top n : ℕ) (xs : List ℕ) → top ≤ n → IsRun top xs → IsRun n xs
run_up top n xs more run = record { rising = run.rising; below = λ i within. omega (arith, run.below i within, more) }

pub none_rise : (n : ℕ) (xs : List ℕ) → xs ≡ [] → IsRun n xs
none_rise n xs none = record {
  rising = λ i j less within. absurd (omega (arith, within, ap length none));
  below = λ i within. absurd (omega (arith, within, ap length none));
}

pub set_rises : (xss : List (List ℕ)) (b c n : ℕ) (xs : List ℕ) → b < length xss → IsRun n xs → ((k : ℕ) → IsRun n (get_or xss k [])) → IsRun n (get_or (slice_set xss b xs) c [])
set_rises xss b c n xs within run runs = elim (same_or_not c b) [
  | inl same ↦ subst (IsRun n) (sym (ap (λ k. get_or (slice_set xss b xs) k []) same ∙ get_or-set_same xss b xs [] within)) run
  | inr other ↦ subst (IsRun n) (sym (get_or-set_other xss b c xs [] other)) (runs c)
]

pub set_has : (xss : List (List ℕ)) (b n : ℕ) (xs : List ℕ) → b < length xss → Has n xs → Has n (get_or (slice_set xss b xs) b [])
set_has xss b n xs within has = subst (Has n) (sym (get_or-set_same xss b xs [] within)) has

pub set_keeps : (xss : List (List ℕ)) (b c k : ℕ) (xs : List ℕ) → b < length xss → (Has k (get_or xss b []) → Has k xs) → Has k (get_or xss c []) → Has k (get_or (slice_set xss b xs) c [])
set_keeps xss b c k xs within keeps has = elim (same_or_not c b) [
  | inl same ↦ subst (Has k) (sym (ap (λ m. get_or (slice_set xss b xs) m []) same ∙ get_or-set_same xss b xs [] within)) (keeps (subst (λ m. Has k (get_or xss m [])) same has))
  | inr other ↦ subst (Has k) (sym (get_or-set_other xss b c xs [] other)) has
]
