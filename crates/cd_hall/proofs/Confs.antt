-- Which serial has the configuration after the halt.
use Rattle.std.proofs.Common.{◌≡◌, ℕ, zero, suc, ◌+◌, ◌≤◌, ◌==◌, Bool, true, false, cond, List, [], ◌∷◌, length, slice_get, Option, Some, None, refl, sym, ap, ⊎_elim, arith}
use Rattle.std.specs.Prelude.{◌&&◌}
use Rattle.std.proofs.lemmas.Bool.{eqb-true}
use Rattle.cd_legal.specs.declared.entry.Signed.{Signed}
use Rattle.cd_legal.specs.declared.state.Drafted.{Drafted}
use Rattle.cd_legal.specs.declared.state.State.{State}
use Rattle.cd_legal.specs.Entry.{entries}
use Rattle.cd_legal.specs.Legal.{state_at, IsLegal}
use Rattle.cd_legal.specs.Serials.{is_halted}
use Rattle.cd_legal.specs.State.{conf_of, conf_at, conf_in}
use Rattle.cd_legal.proofs.Histories.{first, second}
use Rattle.cd_legal.proofs.Serials.{published-count}
use Rattle.cd_gate.proofs.Numbers.{tells}

-- it is the serial of the halt
abbrev pub is_halt : State → ℕ → Bool
is_halt s n = s.halted && (n == s.serial)

beyond : {A : Type 0} (xs : List A) (n : ℕ) → length xs ≤ n → slice_get xs n ≡ None
beyond [] n le = refl
beyond (x ∷ xs) zero le = absurd (omega arith)
beyond (x ∷ xs) (suc n) le = beyond xs n (omega arith)

running_conf : (o : Option Drafted) → is_halted (conf_in o) ≡ false
running_conf None = refl
running_conf (Some x) = refl

not_halt : (drafts : List Drafted) (o : Option ℕ) → is_halted (conf_at false drafts o) ≡ false
not_halt drafts None = refl
not_halt drafts (Some d) = running_conf (slice_get drafts d)

module _ (s : State) (count : length s.published + cond s.halted 1 0 ≡ s.serial) where
  no_zero : is_halt s 0 ≡ false
  no_zero = ⊎_elim
      (λ on. absurd (wrong (length s.published) (cond s.halted 1 0) s.serial count (ap (λ (b : Bool). cond {A = ℕ} b 1 0) (first s.halted _ on)) (eqb-true 0 s.serial (second s.halted _ on))))
      (λ q. q) (tells (is_halt s 0))
    where
      wrong : (a c x : ℕ) → a + c ≡ x → c ≡ 1 → 0 ≡ x → ⊥
      wrong a c x e f g = absurd (omega arith)

  by_flag : (k : ℕ) (b : Bool) → is_halt s (suc k) ≡ b → is_halted (conf_at b s.drafts (slice_get s.published k)) ≡ b
  by_flag k true is =
      ap (λ (o : Option ℕ). is_halted (conf_at true s.drafts o)) (beyond s.published k (less (length s.published) (cond s.halted 1 0) s.serial k count (ap (λ (b : Bool). cond {A = ℕ} b 1 0) (first s.halted _ is)) (eqb-true (suc k) s.serial (second s.halted _ is))))
    where
      less : (a c x k : ℕ) → a + c ≡ x → c ≡ 1 → suc k ≡ x → a ≤ k
      less a c x k e f g = omega arith
  by_flag k false is = not_halt s.drafts (slice_get s.published k)

  pub conf_flag : (n : ℕ) → is_halted (conf_of s n) ≡ is_halt s n
  conf_flag zero = sym no_zero
  conf_flag (suc k) = by_flag k (is_halt s (suc k)) refl

pub halted_conf : (log : List Signed) (n : ℕ) → IsLegal log → is_halted (conf_of (state_at log) n) ≡ is_halt (state_at log) n
halted_conf log n legal = conf_flag (state_at log) (published-count (entries log) legal) n
