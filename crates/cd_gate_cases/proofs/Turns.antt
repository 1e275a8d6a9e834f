-- What the board says of a history, and what the steps of a pass leave of it.
use Rattle.std.proofs.Common.{◌≡◌, ◌<◌, ℕ, ◌+◌, ◌==◌, Bool, true, false, cond, not, nat_lt, List, [], ◌∷◌, ◌++◌, refl, sym, ap, ◌∙◌, subst, arith, eq-eqb}
use Rattle.std.specs.Prelude.{◌&&◌}
use mathlib.Core.List.{IsPrefix}
use Rattle.cd_legal.specs.declared.entry.Entry.{Entry}
use Rattle.cd_legal.specs.declared.entry.Entry.TheVariants.{Begin, Halt, Retire}
use Rattle.cd_legal.specs.declared.entry.Signed.{Signed}
use Rattle.cd_legal.specs.declared.state.State.{State}
use Rattle.cd_legal.specs.Entry.{signed}
use Rattle.cd_legal.specs.Laws.{core_at, is_core}
use Rattle.cd_legal.specs.Legal.{after, state_at, may_retire}
use Rattle.cd_legal.specs.State.{has_number}
use Rattle.cd_legal.specs.Whole.{nothing_left}
use Rattle.cd_legal.proofs.Cores.{bare-core}
use Rattle.cd_legal.proofs.Facts.{is-less}
use Rattle.cd_legal.proofs.Histories.{first, second}
use Rattle.cd_legal.proofs.Logs.{prefix_more, state-snoc}
use Rattle.cd_gate.specs.declared.view.View.{View}
use Rattle.cd_gate.specs.Tables.{Found}
use Rattle.cd_gate.proofs.Cored.{one_more}
use Rattle.cd_gate.proofs.Entries.{core_quiet, left_bare}
use Rattle.cd_fixed.proofs.Halted.{halted-stays}
use Rattle.cd_gate_cases.specs.declared.board.Board.{Board}
use Rattle.cd_gate_cases.specs.declared.board.Board.TheVariants.{Running, Halted, Retired}
use Rattle.cd_gate_cases.specs.Boards.{state_on, StandsFor}
use Rattle.cd_gate_cases.specs.Passes.{begins, is_begin}

-- ---- the board

-- others have begun and ended requests since, and no more
pub stands_now : (b : Board) (v : View Board) (log : List Signed) → Found v log → v.turn ≡ true → StandsFor b (core_at v.seen) → StandsFor b (core_at log)
stands_now b v log f turn stands = ap state_at (f.in_turn turn) ∙ stands

-- a request has begun or ended
pub stands_quiet : (b : Board) (log : List Signed) (k : ℕ) (e : Entry) → is_core e ≡ false → StandsFor b (core_at log) → StandsFor b (core_at (log ++ signed k e ∷ []))
stands_quiet b log k e is stands = ap state_at (core_quiet log k e is) ∙ stands

-- a pass has looked for room, and begun a request
pub stands_begun : (b : Board) (v w : View Board) (log more : List Signed) (n : ℕ) → StandsFor b (core_at v.seen) → v.turn ≡ true → Found v log → w.seen ≡ log → w.turn ≡ true → Found w more
    → StandsFor b (core_at (more ++ signed w.number (Begin w.number n) ∷ []))
stands_begun b v w log more n stands turn f looked still g =
    stands_quiet b more w.number (Begin w.number n) refl (stands_now b w more g still (ap (λ (l : List Signed). state_at (core_at l)) looked ∙ stands_now b v log f turn stands))

-- the board has made the entry
pub stands_next : (b c : Board) (log : List Signed) (k : ℕ) (e : Entry) → is_core e ≡ true → state_on c ≡ after (state_on b) e → StandsFor b (core_at log) → StandsFor c (core_at (log ++ signed k e ∷ []))
stands_next b c log k e is next stands =
    ap state_at (one_more log (signed k e) is) ∙ (state-snoc (core_at log) (signed k e) ∙ (ap (λ (s : State). after s e) stands ∙ sym next))

none_left : (b : Board) → nothing_left (state_on b) ≡ true
none_left Running = refl
none_left Halted = refl
none_left Retired = refl

module _ (b : Board) (log : List Signed) (stands : StandsFor b (core_at log)) where
  pub left : nothing_left (state_at log) ≡ true
  left = sym (left_bare (state_at log)) ∙ (ap nothing_left (bare-core log ∙ stands) ∙ none_left b)

  pub halted_is : (state_at log).halted ≡ (state_on b).halted
  halted_is = ap (λ (s : State). s.halted) (bare-core log ∙ stands)

  pub serial_is : (state_at log).serial ≡ (state_on b).serial
  serial_is = ap (λ (s : State). s.serial) (bare-core log ∙ stands)

  retired_is : (n : ℕ) → has_number n (state_at log).retired ≡ has_number n (state_on b).retired
  retired_is n = ap (λ (s : State). has_number n s.retired) (bare-core log ∙ stands)

  -- a serial that may be retired is superseded, and not retired
  pub superseded : (n : ℕ) → may_retire (state_at log) n ≡ true → n < (state_on b).serial
  superseded n may = is-less n (state_on b).serial (ap (λ (m : ℕ). nat_lt n m) (sym serial_is) ∙ first (nat_lt n (state_at log).serial) _ may)

  pub unretired : (n : ℕ) → may_retire (state_at log) n ≡ true → not (has_number n (state_on b).retired) ≡ true
  unretired n may =
      ap not (sym (retired_is n)) ∙ first (not (has_number n (state_at log).retired)) _ (second (nat_lt n (state_at log).serial) _ may)

-- only the opening configuration may be retired, after the halt
zero_is : (n : ℕ) → n < 1 → n ≡ 0
zero_is n low = omega (arith, low)

below_zero : (n : ℕ) → n < 0 → ⊥
below_zero n low = absurd (omega (arith, low))

of_board : (b : Board) (n : ℕ) → n < (state_on b).serial → not (has_number n (state_on b).retired) ≡ true → (b ≡ Halted) × (n ≡ 0)
of_board Running n low fresh = absurd (below_zero n low)
of_board Halted n low fresh = (refl, zero_is n low)
of_board Retired n low fresh =
    absurd (let h : false ≡ true = ap (λ (m : ℕ). not (has_number m (0 ∷ []))) (sym (zero_is n low)) ∙ fresh in cc)

pub retires_opening : (b : Board) (log : List Signed) (n : ℕ) → StandsFor b (core_at log) → may_retire (state_at log) n ≡ true → (b ≡ Halted) × (n ≡ 0)
retires_opening b log n stands may = of_board b n (superseded b log stands n may) (unretired b log stands n may)

-- the board has retired the opening configuration
pub stands_retired : (b : Board) (log : List Signed) (k n : ℕ) → b ≡ Halted → n ≡ 0 → StandsFor b (core_at log) → StandsFor Retired (core_at (log ++ signed k (Retire n) ∷ []))
stands_retired b log k n is zero stands =
    stands_next b Retired log k (Retire n) refl
    (ap (λ (m : ℕ). after (state_on Halted) (Retire m)) (sym zero) ∙ ap (λ (c : Board). after (state_on c) (Retire n)) (sym is)) stands

-- the board has halted the host, which ran
pub stands_halted : (b : Board) (log : List Signed) (k : ℕ) → (state_on b).halted ≡ false → StandsFor b (core_at log) → StandsFor Halted (core_at (log ++ signed k (Halt 1) ∷ []))
stands_halted Running log k runs stands = stands_next Running Halted log k (Halt 1) refl refl stands
stands_halted Halted log k runs stands = absurd (let h : true ≡ false = runs in cc)
stands_halted Retired log k runs stands = absurd (let h : true ≡ false = runs in cc)

pub serial_zero : (b : Board) → (state_on b).halted ≡ false → (state_on b).serial ≡ 0
serial_zero Running runs = refl
serial_zero Halted runs = absurd (let h : true ≡ false = runs in cc)
serial_zero Retired runs = absurd (let h : true ≡ false = runs in cc)

-- ---- requests that begin

begins-append : (xs ys : List Signed) → begins (xs ++ ys) ≡ begins xs + begins ys
begins-append [] ys = first_of (begins ys)
  where
    first_of : (n : ℕ) → n ≡ 0 + n
    first_of n = omega arith
begins-append (x ∷ xs) ys = next (cond (is_begin x.entry) 1 0) (begins (xs ++ ys)) (begins xs) (begins ys) (begins-append xs ys)
  where
    next : (one a b c : ℕ) → a ≡ b + c → one + a ≡ (one + b) + c
    next one a b c is = omega arith

pub begins-snoc : (xs : List Signed) (k : ℕ) (e : Entry) → begins (xs ++ signed k e ∷ []) ≡ begins xs + cond (is_begin e) 1 0
begins-snoc xs k e = last (begins (xs ++ signed k e ∷ [])) (begins xs) (cond (is_begin e) 1 0) (begins-append xs (signed k e ∷ []))
  where
    last : (a b one : ℕ) → a ≡ b + (one + 0) → a ≡ b + one
    last a b one is = omega arith

pub begins-same : (xs : List Signed) (k : ℕ) (e : Entry) → is_begin e ≡ false → begins (xs ++ signed k e ∷ []) ≡ begins xs
begins-same xs k e is = begins-snoc xs k e ∙ same (begins xs) (cond (is_begin e) 1 0) (ap (λ (b : Bool). cond {A = ℕ} b 1 0) is)
  where
    same : (a b : ℕ) → b ≡ 0 → a + b ≡ a
    same a b is = omega arith

-- ---- what more was seen

-- a pass that has seen more has seen it too
pub seen_on : (v w : View Board) (log : List Signed) → IsPrefix v.seen log → w.seen ≡ log → (state_at v.seen).halted ≡ true → (state_at w.seen).halted ≡ true
seen_on v w log p is had = halted-stays v.seen w.seen (subst (λ (l : List Signed). IsPrefix v.seen l) (sym is) p) had

pub seen_more : (v w : View Board) (log more : List Signed) → IsPrefix v.seen log → w.seen ≡ log ++ more → (state_at v.seen).halted ≡ true → (state_at w.seen).halted ≡ true
seen_more v w log more p is had = seen_on v w (log ++ more) (prefix_more v.seen log more p) is had

-- ---- the serial of a request

with_true : (b : Bool) → b ≡ (b && true)
with_true true = refl
with_true false = refl

pub at_serial : (a b : Bool) (n m : ℕ) → a ≡ b → n ≡ m → a ≡ (b && (n == m))
at_serial a b n m same is = same ∙ (with_true b ∙ ap (λ (c : Bool). b && c) (sym (eq-eqb n m is)))

pub serial_begun : (log : List Signed) (k n : ℕ) → (state_at (log ++ signed k (Begin k n) ∷ [])).serial ≡ (state_at log).serial
serial_begun log k n = ap (λ (s : State). s.serial) (state-snoc log (signed k (Begin k n)))
