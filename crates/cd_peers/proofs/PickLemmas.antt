-- What a search for the least rank has found when it goes on.
use Rattle.std.proofs.Common.{◌≡◌, ℕ, ◌+◌, ◌<◌, ◌≤◌, ◌⊎◌, Bool, true, false, ◌||◌, not, Option, Some, None, refl, sym, ap, ◌∙◌, arith, inl, inr}
use Rattle.std.proofs.lemmas.Bool.{cases_lt}
use Rattle.cd_peers.specs.declared.state.BalancerState.{BalancerState}
use Rattle.cd_peers.specs.declared.picking.Least.{Least}
use Rattle.cd_peers.specs.Balance.{is_down}
use Rattle.cd_peers.specs.Pick.{IsCandidate, IsPick, rank, size}
use Rattle.cd_peers.specs.Picking.{IsLeast, may}

-- below the next number stands what stood below this one, and this one
last_or_below : (v n : ℕ) → v < n + 1 → (v < n) ⊎ (v ≡ n)
last_or_below v n within =
    elim (cases_lt v n) [ inl lt ↦ inl lt | inr le ↦ inr (omega arith) ]

-- the next number is the first that passes
pub first_found : (f : ℕ → ℕ) (test : ℕ → Bool) (u r : ℕ) → test u ≡ true → r ≡ f u
    → ((v : ℕ) → v < u → test v ≡ false) → IsLeast f test (u + 1) (Some (record { upstream = u; rank = r }))
first_found f test u r passes is none = (
  omega arith,
  passes,
  is,
  λ v within t. elim (last_or_below v u within) [
    | inl lt ↦ absurd (both (test v) t (none v lt))
    | inr same ↦ inr (ap f (sym same), omega (arith, same))
  ],
)
  where
    both : (b : Bool) → b ≡ true → b ≡ false → ⊥
    both b x y = cc

-- the next number has less
pub lesser_found : (f : ℕ → ℕ) (test : ℕ → Bool) (u r : ℕ) (found : Least) → test u ≡ true → r ≡ f u → r < found.rank
    → IsLeast f test u (Some found) → IsLeast f test (u + 1) (Some (record { upstream = u; rank = r }))
lesser_found f test u r found passes is less before = (
  omega arith,
  passes,
  is,
  λ v within t. elim (last_or_below v u within) [
    | inl lt ↦ elim (before.3 v lt t) [
      | inl smaller ↦ inl (omega (arith, smaller, is, less, before.2))
      | inr same ↦ inl (omega (arith, same.0, is, less, before.2))
    ]
    | inr same ↦ inr (ap f (sym same), omega (arith, same))
  ],
)

-- it has not
pub found_stays : (f : ℕ → ℕ) (test : ℕ → Bool) (u r : ℕ) (found : Least) → r ≡ f u → found.rank ≤ r
    → IsLeast f test u (Some found) → IsLeast f test (u + 1) (Some found)
found_stays f test u r found is more before = (
  omega (arith, before.0),
  before.1,
  before.2,
  λ v within t. elim (last_or_below v u within) [
    | inl lt ↦ before.3 v lt t
    | inr same ↦ elim (cases_lt (f found.upstream) (f v)) [
      | inl smaller ↦ inl smaller
      | inr le ↦ inr (omega (arith, le, is, more, before.2, ap f same), omega (arith, before.0, same))
    ]
  ],
)

-- the next number does not pass
pub passed_over : (f : ℕ → ℕ) (test : ℕ → Bool) (u : ℕ) (found : Option Least) → test u ≡ false
    → IsLeast f test u found → IsLeast f test (u + 1) found
passed_over f test u None fails before = λ v within. elim (last_or_below v u within) [
  | inl lt ↦ before v lt
  | inr same ↦ ap test same ∙ fails
]
passed_over f test u (Some found) fails before = (
  omega (arith, before.0),
  before.1,
  before.2,
  λ v within t. elim (last_or_below v u within) [
    | inl lt ↦ before.3 v lt t
    | inr same ↦ absurd (both (test v) t (ap test same ∙ fails))
  ],
)
  where
    both : (b : Bool) → b ≡ true → b ≡ false → ⊥
    both b x y = cc

-- ---- the pick

not_true : (b : Bool) → (false || not b) ≡ true → b ≡ false
not_true true e = cc
not_true false e = refl

not_false : (b : Bool) → (false || not b) ≡ false → b ≡ true
not_false true e = refl
not_false false e = cc

is_up : (b : Bool) → b ≡ false → (false || not b) ≡ true
is_up true e = cc
is_up false e = refl

two : (b : Bool) → b ≡ true → b ≡ false → ⊥
two b x y = cc

-- where one is up, each candidate is
up_ones : (b : BalancerState) (found : Least) → IsLeast (rank b.policy b) (may b false) (size b) (Some found) → (v : ℕ) → IsCandidate b v → may b false v ≡ true
up_ones b found least v c =
    elim c.1 [
      | inl up ↦ is_up (is_down b v) up
      | inr all ↦ absurd (two (is_down b found.upstream) (all found.upstream least.0) (not_true (is_down b found.upstream) least.1))
    ]

pub pick_of_up : (b : BalancerState) (found : Least) → IsLeast (rank b.policy b) (may b false) (size b) (Some found) → IsPick b found.upstream
pick_of_up b found least = record {
  candidate = (least.0, inl (not_true (is_down b found.upstream) least.1));
  least = λ v c. least.3 v c.0 (up_ones b found least v c);
}

-- all are down
pub pick_of_all : (b : BalancerState) (found : Least) → IsLeast (rank b.policy b) (may b false) (size b) None
    → IsLeast (rank b.policy b) (may b true) (size b) (Some found) → IsPick b found.upstream
pick_of_all b found none least = record {
  candidate = (least.0, inr (λ v within. not_false (is_down b v) (none v within)));
  least = λ v c. least.3 v c.0 refl;
}

-- there is one
pub not_none : (b : BalancerState) → 0 < size b → IsLeast (rank b.policy b) (may b true) (size b) None → ⊥
not_none b some none = two true refl (none 0 some)
