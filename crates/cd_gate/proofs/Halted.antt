-- Which serial is the halted one does not change, once the serial is there.
use Rattle.std.proofs.Common.{◌≡◌, ◌≢◌, ℕ, ◌+◌, ◌≤◌, ◌==◌, Bool, true, List, [], ◌∷◌, ◌++◌, refl, sym, ap, ◌∙◌, subst, arith}
use Rattle.std.specs.Prelude.{◌&&◌}
use mathlib.Core.List.{IsPrefix}
use Rattle.cd_legal.specs.declared.entry.Entry.{Entry}
use Rattle.cd_legal.specs.declared.entry.Entry.TheVariants.{Publish, Halt}
use Rattle.cd_legal.specs.declared.entry.Signed.{Signed}
use Rattle.cd_legal.specs.declared.state.State.{State}
use Rattle.cd_legal.specs.Entry.{entries}
use Rattle.cd_legal.specs.Legal.{allowed, after, legal_from, state_from, state_at, IsLegal}
use Rattle.cd_legal.proofs.Facts.{Publishes, Halts, can}
use Rattle.cd_legal.proofs.Fresh.{serial_rises}
use Rattle.cd_legal.proofs.Histories.{first, second}
use Rattle.cd_legal.proofs.Logs.{state-append, legal-back}
use Rattle.cd_gate.proofs.Balances.{running, not_halted}

abbrev pub is_halt : State → ℕ → Bool
is_halt s n = s.halted && (n == s.serial)

one : (s : State) (e : Entry) (n : ℕ) → allowed s e ≡ true → n ≤ s.serial → is_halt (after s e) n ≡ is_halt s n
one s (Publish d k from c) n may le = let f : Publishes s d k from = can s (Publish d k from c) may in running (after s (Publish d k from c)) n f.running ∙ sym (running s n f.running)
one s (Halt k) n may le = let f : Halts s k = can s (Halt k) may in not_halted (after s (Halt k)) n (below n k s.serial le f.next) ∙ sym (running s n f.running)
  where
    below : (n k x : ℕ) → n ≤ x → k ≡ x + 1 → n ≢ k
    below n k x le is = λ e. absurd (omega arith)
one s e n may le = refl

up : (n a b : ℕ) → n ≤ a → a ≤ b → n ≤ b
up n a b p q = omega arith

many : (s : State) (es : List Entry) (n : ℕ) → legal_from s es ≡ true → n ≤ s.serial → is_halt (state_from s es) n ≡ is_halt s n
many s [] n legal le = refl
many s (e ∷ es) n legal le =
    let may = first (allowed s e) _ legal in
    many (after s e) es n (second (allowed s e) _ legal) (up n s.serial (after s e).serial le (serial_rises s e may)) ∙ one s e n may le

pub halt_seen : (seen log : List Signed) (n : ℕ) → IsPrefix seen log → IsLegal log → n ≤ (state_at seen).serial → is_halt (state_at log) n ≡ is_halt (state_at seen) n
halt_seen seen log n p legal le =
    let more : List Signed = p.0 in
    let whole : seen ++ more ≡ log = p.1 in
    ap (λ (l : List Signed). is_halt (state_at l) n) (sym whole)
    ∙ (ap (λ (z : State). is_halt z n) (state-append seen more)
    ∙ many (state_at seen) (entries more) n (legal-back seen more (subst IsLegal (sym whole) legal)) le)
