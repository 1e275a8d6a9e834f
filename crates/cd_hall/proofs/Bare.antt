-- What a history says without Begin and Finish is what it says, but for tickets.
use Rattle.std.proofs.Common.{◌≡◌, ◌<◌, ℕ, zero, suc, true, not, nat_lt, List, refl, sym, ap, subst, ◌∙◌}
use Rattle.cd_legal.specs.declared.entry.Entry.{Entry}
use Rattle.cd_legal.specs.declared.entry.Signed.{Signed}
use Rattle.cd_legal.specs.declared.state.State.{State}
use Rattle.cd_legal.specs.Laws.{core_at, bare}
use Rattle.cd_legal.specs.Legal.{state_at, may_retire, allowed}
use Rattle.cd_legal.specs.Runs.{stopped_of, block_of}
use Rattle.cd_legal.specs.State.{conf_of, has_number, apps_stopped}
use Rattle.cd_legal.specs.Whole.{nothing_left}
use Rattle.cd_legal.proofs.Cores.{bare-core, is_apart, allowed-bare}
use Rattle.cd_legal.proofs.Histories.{both, first, second}
use Rattle.cd_gate.proofs.Entries.{left_bare}
use Rattle.cd_hall.specs.Publishing.{refusal}

pub conf_bare : (n : ℕ) (s : State) → conf_of (bare s) n ≡ conf_of s n
conf_bare zero s = refl
conf_bare (suc n) s = refl

module _ (l : List Signed) where
  pub serial_core : (state_at (core_at l)).serial ≡ (state_at l).serial
  serial_core = ap (λ (s : State). s.serial) (sym (bare-core l))

  pub low_core : (n : ℕ) → n < (state_at l).serial → n < (state_at (core_at l)).serial
  low_core n low = subst (λ (m : ℕ). n < m) (sym serial_core) low

  pub halted_core : (state_at (core_at l)).halted ≡ (state_at l).halted
  halted_core = ap (λ (s : State). s.halted) (sym (bare-core l))

  pub retired_core : (n : ℕ) → has_number n (state_at (core_at l)).retired ≡ has_number n (state_at l).retired
  retired_core n = ap (λ (s : State). has_number n s.retired) (sym (bare-core l))

  pub left_core : nothing_left (state_at (core_at l)) ≡ nothing_left (state_at l)
  left_core = ap nothing_left (sym (bare-core l)) ∙ left_bare (state_at l)

  pub stopped_core : (n : ℕ) → apps_stopped (state_at (core_at l)) n ≡ apps_stopped (state_at l) n
  stopped_core n = ap (λ (s : State). apps_stopped s n) (sym (bare-core l))

  pub stops_core : (n : ℕ) → stopped_of (state_at (core_at l)) n ≡ stopped_of (state_at l) n
  stops_core n = ap (λ (s : State). stopped_of s n) (sym (bare-core l))

  pub block_core : (n : ℕ) → block_of (state_at (core_at l)) n ≡ block_of (state_at l) n
  block_core n = ap (λ (s : State). block_of s n) (sym (bare-core l))

  pub conf_core : (n : ℕ) → conf_of (state_at (core_at l)) n ≡ conf_of (state_at l) n
  conf_core n = ap (λ (s : State). conf_of s n) (sym (bare-core l)) ∙ conf_bare n (state_at l)

  pub refusal_core : (n : ℕ) → refusal (state_at (core_at l)) n ≡ refusal (state_at l) n
  refusal_core n = ap (λ (s : State). refusal s n) (sym (bare-core l))

  -- what asks nothing of the tickets is allowed alike
  pub allows_core : (e : Entry) → is_apart e ≡ true → allowed (state_at (core_at l)) e ≡ true → allowed (state_at l) e ≡ true
  allows_core e apart may = sym (allowed-bare (state_at l) e apart) ∙ (ap (λ (s : State). allowed s e) (bare-core l) ∙ may)

  -- what may be retired may be so where no request is looked at
  retires_bare : (n : ℕ) → may_retire (state_at l) n ≡ true → may_retire (bare (state_at l)) n ≡ true
  retires_bare n may =
      let low = first (nat_lt n (state_at l).serial) _ may in
      let rest = second (nat_lt n (state_at l).serial) _ may in
      let stops = second (not (has_number n (state_at l).retired)) _ rest in
      both (nat_lt n (state_at l).serial) _ low (both (not (has_number n (state_at l).retired)) _ (first (not (has_number n (state_at l).retired)) _ rest) (both (apps_stopped (state_at l) n) true (first (apps_stopped (state_at l) n) _ stops) refl))

  pub retires_core : (n : ℕ) → may_retire (state_at l) n ≡ true → may_retire (state_at (core_at l)) n ≡ true
  retires_core n may = ap (λ (s : State). may_retire s n) (sym (bare-core l)) ∙ retires_bare n may

-- histories that differ in requests alone
module _ (one other : List Signed) (same : core_at one ≡ core_at other) where
  pub serial_alike : (state_at one).serial ≡ (state_at other).serial
  serial_alike = sym (serial_core one) ∙ (ap (λ (l : List Signed). (state_at l).serial) same ∙ serial_core other)

  pub halted_alike : (state_at one).halted ≡ (state_at other).halted
  halted_alike = sym (halted_core one) ∙ (ap (λ (l : List Signed). (state_at l).halted) same ∙ halted_core other)

  pub retired_alike : (n : ℕ) → has_number n (state_at one).retired ≡ has_number n (state_at other).retired
  retired_alike n = sym (retired_core one n) ∙ (ap (λ (l : List Signed). has_number n (state_at l).retired) same ∙ retired_core other n)

  pub stopped_alike : (n : ℕ) → apps_stopped (state_at one) n ≡ apps_stopped (state_at other) n
  stopped_alike n = sym (stopped_core one n) ∙ (ap (λ (l : List Signed). apps_stopped (state_at l) n) same ∙ stopped_core other n)

  pub stops_alike : (n : ℕ) → stopped_of (state_at one) n ≡ stopped_of (state_at other) n
  stops_alike n = sym (stops_core one n) ∙ (ap (λ (l : List Signed). stopped_of (state_at l) n) same ∙ stops_core other n)

  pub block_alike : (n : ℕ) → block_of (state_at one) n ≡ block_of (state_at other) n
  block_alike n = sym (block_core one n) ∙ (ap (λ (l : List Signed). block_of (state_at l) n) same ∙ block_core other n)

  pub refusal_alike : (n : ℕ) → refusal (state_at one) n ≡ refusal (state_at other) n
  refusal_alike n = sym (refusal_core one n) ∙ (ap (λ (l : List Signed). refusal (state_at l) n) same ∙ refusal_core other n)

  pub conf_alike : (n : ℕ) → conf_of (state_at one) n ≡ conf_of (state_at other) n
  conf_alike n = sym (conf_core one n) ∙ (ap (λ (l : List Signed). conf_of (state_at l) n) same ∙ conf_core other n)
