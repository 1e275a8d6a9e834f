-- What one entry more leaves: of the state without its tickets, of the counts, and of what is noted.
use Rattle.std.proofs.Common.{◌≡◌, ℕ, zero, suc, ◌+◌, ◌==◌, Bool, true, false, cond, List, [], ◌∷◌, ◌++◌, refl, sym, ap, ◌∙◌, arith}
use Rattle.std.specs.Prelude.{◌&&◌, ◌||◌}
use Rattle.std.specs.List.{list_all}
use Rattle.std.proofs.lemmas.List.{append-nil}
use Rattle.cd_legal.specs.declared.entry.Entry.{Entry}
use Rattle.cd_legal.specs.declared.entry.Entry.TheVariants.{Draft, Made, Started, Publish, Abandon, Stopped, Begin, Finish, Retire, Cleaned, Halt}
use Rattle.cd_legal.specs.declared.entry.Signed.{Signed}
use Rattle.cd_legal.specs.declared.state.State.{State}
use Rattle.cd_legal.specs.Begins.{begins_at}
use Rattle.cd_legal.specs.Entry.{entries, signed}
use Rattle.cd_legal.specs.Laws.{core_at, bare, is_core}
use Rattle.cd_legal.specs.Legal.{after, allowed, state_at}
use Rattle.cd_legal.specs.State.{has_number}
use Rattle.cd_legal.specs.Whole.{all_apps_stopped, nothing_left, nothing_left_of}
use Rattle.cd_legal.proofs.Begun.{begins_at-snoc}
use Rattle.cd_legal.proofs.Cores.{bare-core, core-append, is_apart, allowed-bare}
use Rattle.cd_legal.proofs.Histories.{entries-snoc}
use Rattle.cd_gate.specs.Counts.{is_noted, noted_in, begins_in}
use Rattle.cd_gate.specs.Steps.{may_follow}
use Rattle.cd_gate.proofs.Numbers.{has_append, left, off}
use Rattle.cd_gate.proofs.Retiring.{retires}

-- ---- histories that differ in Begin and Finish alone

pub bare_same : (log more : List Signed) → core_at more ≡ core_at log → bare (state_at more) ≡ bare (state_at log)
bare_same log more is = bare-core more ∙ (ap state_at is ∙ sym (bare-core log))

all_bare : (s : State) (n : ℕ) → all_apps_stopped (bare s) n ≡ all_apps_stopped s n
all_bare s zero = refl
all_bare s (suc n) = ap (λ (b : Bool). Rattle.cd_legal.specs.State.apps_stopped s n && b) (all_bare s n)

pub left_bare : (s : State) → nothing_left (bare s) ≡ nothing_left s
left_bare s = ap (λ (b : Bool). b && list_all (nothing_left_of s.retired) s.drafts) (all_bare s s.serial)

pub left_same : (log more : List Signed) → core_at more ≡ core_at log → nothing_left (state_at more) ≡ nothing_left (state_at log)
left_same log more is = sym (left_bare (state_at more)) ∙ (ap nothing_left (bare_same log more is) ∙ left_bare (state_at log))

pub core_quiet : (log : List Signed) (k : ℕ) (e : Entry) → is_core e ≡ false → core_at (log ++ signed k e ∷ []) ≡ core_at log
core_quiet log k e is =
    core-append log (signed k e ∷ []) ∙ (ap (λ (b : Bool). core_at log ++ cond b (signed k e ∷ []) []) is ∙ append-nil (core_at log))

-- ---- begins

pub begins_more : (log : List Signed) (k : ℕ) (e : Entry) (n : ℕ) → begins_in (log ++ signed k e ∷ []) n ≡ begins_in log n + begins_at n (e ∷ [])
begins_more log k e n = ap (begins_at n) (entries-snoc log (signed k e)) ∙ begins_at-snoc n (entries log) e

plus_zero : (x y z : ℕ) → y ≡ x + z → z ≡ 0 → y ≡ x
plus_zero x y z e f = omega arith

no_begin : (e : Entry) (n : ℕ) → is_noted e ≡ true → begins_at n (e ∷ []) ≡ 0
no_begin (Begin k m) n is = absurd (off is)
no_begin e n is = refl

pub begins_kept : (log : List Signed) (k : ℕ) (e : Entry) (n : ℕ) → begins_at n (e ∷ []) ≡ 0 → begins_in (log ++ signed k e ∷ []) n ≡ begins_in log n
begins_kept log k e n none = plus_zero (begins_in log n) (begins_in (log ++ signed k e ∷ []) n) (begins_at n (e ∷ [])) (begins_more log k e n) none

pub begins_noted : (log : List Signed) (k : ℕ) (e : Entry) (n : ℕ) → is_noted e ≡ true → begins_in (log ++ signed k e ∷ []) n ≡ begins_in log n
begins_noted log k e n is = begins_kept log k e n (no_begin e n is)

-- ---- what is noted

noted_append : (es : List Entry) (e : Entry) → noted_in (es ++ e ∷ []) ≡ noted_in es + cond (is_noted e) 1 0
noted_append [] e = zero_after (cond (is_noted e) 1 0)
  where
    zero_after : (c : ℕ) → c + 0 ≡ 0 + c
    zero_after c = omega arith
noted_append (f ∷ es) e = move (cond (is_noted f) 1 0) (noted_in (es ++ e ∷ [])) (noted_in es) (cond (is_noted e) 1 0) (noted_append es e)
  where
    move : (c x y d : ℕ) → x ≡ y + d → c + x ≡ (c + y) + d
    move c x y d e = omega arith

pub noted_more : (log : List Signed) (k : ℕ) (e : Entry) → noted_in (entries (log ++ signed k e ∷ [])) ≡ noted_in (entries log) + cond (is_noted e) 1 0
noted_more log k e = ap noted_in (entries-snoc log (signed k e)) ∙ noted_append (entries log) e

pub noted_kept : (log : List Signed) (k : ℕ) (e : Entry) → is_noted e ≡ false → noted_in (entries (log ++ signed k e ∷ [])) ≡ noted_in (entries log)
noted_kept log k e is = plus_zero (noted_in (entries log)) (noted_in (entries (log ++ signed k e ∷ []))) (cond (is_noted e) 1 0) (noted_more log k e) (ap (λ (b : Bool). cond {A = ℕ} b 1 0) is)

-- ---- what a note leaves of the serials

pub record Quiet (s t : State) : Type 0 where
  pub serial : t.serial ≡ s.serial
  pub halted : t.halted ≡ s.halted
  pub tickets : t.tickets ≡ s.tickets

pub quiet : (s : State) (e : Entry) → is_noted e ≡ true → Quiet s (after s e)
quiet s (Begin k n) is = absurd (off is)
quiet s (Finish k) is = absurd (off is)
quiet s (Publish d n from c) is = absurd (off is)
quiet s (Halt n) is = absurd (off is)
quiet s e is = record { serial = refl; halted = refl; tickets = refl }

-- what is retired stays so
pub retired_stays : (s : State) (e : Entry) (n : ℕ) → has_number n s.retired ≡ true → has_number n (after s e).retired ≡ true
retired_stays s (Retire m) n is = has_append n s.retired (m ∷ []) ∙ left (has_number n s.retired) _ is
retired_stays s e n is = is

pub retired_same : (s : State) (e : Entry) (n : ℕ) → retires n e ≡ false → has_number n (after s e).retired ≡ has_number n s.retired
retired_same s (Retire m) n is = has_append n s.retired (m ∷ []) ∙ go (has_number n s.retired) (n == m) is
  where
    go : (a b : Bool) → b ≡ false → (a || (b || false)) ≡ a
    go true b is = refl
    go false b is = ap (λ (c : Bool). c || false) is
retired_same s e n is = refl

-- ---- what may follow

-- a noted entry asks nothing of the tickets, or retires a serial
pub data Kind (e : Entry) : Type 0 where
  plain : is_apart e ≡ true → Kind e
  retire : (n : ℕ) → e ≡ Retire n → Kind e

pub kind_of : (e : Entry) → is_noted e ≡ true → Kind e
kind_of (Begin k n) is = absurd (off is)
kind_of (Finish k) is = absurd (off is)
kind_of (Publish d n from c) is = absurd (off is)
kind_of (Halt n) is = absurd (off is)
kind_of (Retire n) is = Kind.retire n refl
kind_of (Draft d tree plan) is = Kind.plain refl
kind_of (Made d i taken failed) is = Kind.plain refl
kind_of (Started d a taken failed) is = Kind.plain refl
kind_of (Abandon d) is = Kind.plain refl
kind_of (Stopped d a) is = Kind.plain refl
kind_of (Cleaned d i) is = Kind.plain refl

pub follows_plain : (duties : List ℕ) (s : State) (e : Entry) → is_apart e ≡ true → may_follow duties s e ≡ allowed s e
follows_plain duties s (Retire n) is = absurd (off is)
follows_plain duties s e is = refl

pub retires_none : (n : ℕ) (e : Entry) → is_apart e ≡ true → retires n e ≡ false
retires_none n (Retire m) is = absurd (off is)
retires_none n e is = refl

-- an entry that asks nothing of the tickets is allowed wherever it is without them
pub allowed_same : (log more : List Signed) (e : Entry) → is_apart e ≡ true → core_at more ≡ core_at log → allowed (state_at more) e ≡ allowed (state_at log) e
allowed_same log more e apart is =
    sym (allowed-bare (state_at more) e apart) ∙ (ap (λ (s : State). allowed s e) (bare_same log more is) ∙ allowed-bare (state_at log) e apart)
