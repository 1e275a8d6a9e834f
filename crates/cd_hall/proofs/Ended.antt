-- When all passes have come together after the halt nothing is left.
use Rattle.std.proofs.Common.{◌≡◌, ◌<◌, ℕ, zero, suc, Bool, true, false, not, cond, List, [], ◌∷◌, ◌+◌, ◌-◌, length, slice_get, Some, None, refl, sym, ap, subst, ◌∙◌, ⊎_elim, eq-eqb, arith}
use Rattle.std.specs.List.{list_all}
use Rattle.std.proofs.lemmas.Bool.Decides.{eqb_tells}
use mathlib.Core.List.{IsPrefix}
use Rattle.std.specs.Prelude.{Result, Option, IfSome}
use Rattle.cd_tree.specs.declared.tree.Tree.{Tree}
use Rattle.cd_wire.specs.declared.request.Request.{Request}
use Rattle.cd_module.specs.declared.fault.LoadFault.{LoadFault}
use Rattle.cd_legal.specs.declared.plan.Plan.{Plan}
use Rattle.cd_legal.specs.declared.entry.Entry.{Entry}
use Rattle.cd_legal.specs.declared.entry.Entry.TheVariants.{Publish, Begin, Finish, Halt}
use Rattle.cd_legal.specs.declared.entry.Signed.{Signed}
use Rattle.cd_legal.specs.declared.state.State.{State}
use Rattle.cd_legal.specs.declared.state.Drafted.{Drafted}
use Rattle.cd_legal.specs.declared.state.OpenTicket.{OpenTicket}
use Rattle.cd_legal.specs.Entry.{entries}
use Rattle.cd_legal.specs.State.{opening_state, Conf, conf_of, holds, has_number, is_live, apps_stopped, is_ticketed, ticket_of}
use Rattle.cd_legal.specs.Legal.{after, state_from, state_at, may_retire}
use Rattle.cd_legal.specs.Laws.{core, core_at, bare}
use Rattle.cd_legal.specs.Owing.{Owes, owes_of, owes_nothing}
use Rattle.cd_legal.specs.Serials.{publishings}
use Rattle.cd_legal.specs.Signing.{IsHistory}
use Rattle.cd_legal.specs.Whole.{all_apps_stopped, nothing_left, nothing_left_of, all_retired, IsOver, IsWhole}
use Rattle.cd_legal.proofs.Cores.{bare-core, entries-core}
use Rattle.cd_legal.proofs.Histories.{both, first, second}
use Rattle.cd_legal.proofs.Logs.{state-append}
use Rattle.cd_legal.proofs.Over.{over-whole}
use Rattle.cd_legal.proofs.Serials.{published-count, publishes-count}
use Rattle.cd_legal.proofs.Owed.{owed-ticket}
use Rattle.cd_legal.proofs.Owners.{live-owned}
use Rattle.cd_gate.specs.declared.pass.Pass.{Pass}
use Rattle.cd_gate.specs.Ends.{Closes}
use Rattle.cd_gate.specs.Passes.{view}
use Rattle.cd_gate.proofs.Retiring.{retirable}
use Rattle.cd_desk.specs.Emptying.{IsEnded}
use Rattle.cd_life.specs.Fits.{Fits, FitFrom, AllFit, Suits}
use Rattle.cd_life.specs.Standing.{last_published}
use Rattle.cd_life.proofs.Laws.{over_ended}
use Rattle.cd_hall.specs.Ends.{IsHalted, EndsAs}
use Rattle.cd_hall.proofs.Bare.{serial_core, halted_core, conf_bare}
use Rattle.cd_hall.proofs.Cores.{history-core}

-- ---- the halt stays

halted_after : (s : State) (e : Entry) → s.halted ≡ true → (after s e).halted ≡ true
halted_after s (Halt n) is = refl
halted_after s e is = is

halted_from : (s : State) (es : List Entry) → s.halted ≡ true → (state_from s es).halted ≡ true
halted_from s [] is = is
halted_from s (e ∷ es) is = halted_from (after s e) es (halted_after s e is)

halted_stays : (front log : List Signed) → IsPrefix front log → (state_at front).halted ≡ true → (state_at log).halted ≡ true
halted_stays front log p is =
    ap (λ (l : List Signed). (state_at l).halted) (sym p.1) ∙ (ap (λ (s : State). s.halted) (state-append front p.0) ∙ halted_from (state_at front) (entries p.0) is)

-- ---- nothing is left

must : (b : Bool) → (b ≡ false → true ≡ false) → b ≡ true
must true refuted = refl
must false refuted = sym (refuted refl)

live_none : (b : Bool) → (b ≡ true → true ≡ false) → not b ≡ true
live_none true refuted = sym (refuted refl)
live_none false refuted = refl

pub all_by : (test : Drafted → Bool) (xs : List Drafted) → ((i : ℕ) (x : Drafted) → slice_get xs i ≡ Some x → test x ≡ true) → list_all test xs ≡ true
all_by test [] each = refl
all_by test (x ∷ xs) each = both (test x) _ (each zero x refl) (all_by test xs (λ i y is. each (suc i) y is))

lower : (n k : ℕ) → n < suc k → ¬ (n ≡ k) → n < k
lower n k low ne = grind arith

pub stopped_at : (s : State) (k n : ℕ) → n < k → all_apps_stopped s k ≡ true → apps_stopped s n ≡ true
stopped_at s zero n low is = absurd (omega arith)
stopped_at s (suc k) n low is = ⊎_elim
    (λ q. ap (apps_stopped s) q.1 ∙ first (apps_stopped s k) _ is)
    (λ q. stopped_at s k n (lower n k low q.1) (second (apps_stopped s k) _ is)) (eqb_tells n k)

-- no caller has a ticket where there is none
no_tickets : (n : ℕ) (ts : List OpenTicket) → ((k : ℕ) → ticket_of k ts ≡ None) → is_ticketed n ts ≡ false
no_tickets n [] none = refl
no_tickets n (t ∷ ts) none = absurd (let here : Some t.serial ≡ None = sym (ap (λ (b : Bool). cond b (Some t.serial) (ticket_of t.caller ts)) (eq-eqb t.caller t.caller refl)) ∙ none t.caller in cc)

all_over : (s : State) (k : ℕ) → ((n : ℕ) → n < k → has_number n s.retired ≡ true) → all_retired k s.retired ≡ true
all_over s zero each = refl
all_over s (suc k) each = both (has_number k s.retired) _ (each k (omega arith)) (all_over s k (λ n low. each n (omega arith)))

module _ (log : List Signed) (is : IsHistory log) (owes : (k : ℕ) → owes_of k log ≡ owes_nothing) (due : (n : ℕ) → may_retire (state_at log) n ≡ false) (left : nothing_left (state_at log) ≡ true) where
  -- nobody has a ticket
  pub tickets_closed : (k : ℕ) → ticket_of k (state_at log).tickets ≡ None
  tickets_closed k = sym (owed-ticket log k is) ∙ ap (λ (o : Owes). o.ticket) (owes k)

  retired_at : (n : ℕ) → n < (state_at log).serial → has_number n (state_at log).retired ≡ true
  retired_at n low = must (has_number n (state_at log).retired) (λ un.
      sym (retirable (state_at log) n record {
        superseded = low;
        unretired = un;
        stopped = stopped_at (state_at log) (state_at log).serial n low (first (all_apps_stopped (state_at log) (state_at log).serial) _ left);
        unticketed = no_tickets n (state_at log).tickets tickets_closed;
      })
      ∙ due n)

  dead : (i : ℕ) (x : Drafted) → slice_get (state_at log).drafts i ≡ Some x → not (is_live x.life) ≡ true
  dead i x there = live_none (is_live x.life) (λ live.
      let owner = (live-owned log is).owner i (ap (holds (λ (y : Drafted). is_live y.life)) there ∙ live) in
      let some_draft : Some i ≡ None = sym owner.1 ∙ ap (λ (o : Owes). o.draft) (owes owner.0) in cc)

  pub over : (state_at log).halted ≡ true → IsOver (state_at log)
  over halted = record {
    halted = halted;
    drafts = all_by (λ x. not (is_live x.life)) (state_at log).drafts dead;
    retired = all_over (state_at log) (state_at log).serial retired_at;
    finished = second (all_apps_stopped (state_at log) (state_at log).serial) _ left;
  }

  pub is_whole : (state_at log).halted ≡ true → IsWhole (entries log)
  is_whole halted = over-whole (entries log) is.is_legal (over halted)

-- how all passes end
module _ {T : Type 0} (stands : T → T → List Signed → Type 0) (o b : T) (passes : List (Pass T)) (h : IsHalted passes) (end : Closes stands o passes b) where
  halted_at : (state_at end.log).halted ≡ true
  halted_at = halted_stays (view h.1).seen end.log (end.each h.0 h.1 h.2).0 h.3

  is_over : IsOver (state_at end.log)
  is_over = over end.log end.history end.owes end.due end.left halted_at

  pub ends_as : EndsAs passes end.log
  ends_as = record { history = end.history; each = end.each; others = end.others; over = is_over; whole = is_whole end.log end.history end.owes end.due end.left halted_at }

  over_core : IsOver (state_at (core_at end.log))
  over_core = record {
    halted = halted_core end.log ∙ is_over.halted;
    drafts = ap (λ (s : State). list_all (λ x. not (is_live x.life)) s.drafts) (sym (bare-core end.log)) ∙ is_over.drafts;
    retired = ap (λ (s : State). all_retired s.serial s.retired) (sym (bare-core end.log)) ∙ is_over.retired;
    finished = ap (λ (s : State). list_all (nothing_left_of s.retired) s.drafts) (sym (bare-core end.log)) ∙ is_over.finished;
  }

  -- so nothing is left of a board that stands for it without Begin and Finish
  pub has_ended : IsEnded (state_at (core_at end.log))
  has_ended = over_ended (core_at end.log) (history-core end.log end.history).is_legal over_core (λ k. ap (λ (s : State). ticket_of k s.tickets) (sym (bare-core end.log)))

  -- and its serial, but for that of the halt, counts what was published
  pub published_is : (serial n : ℕ) → serial ≡ (state_at (core_at end.log)).serial → n ≡ serial - 1 → n ≡ publishings (entries end.log)
  published_is serial n here less =
      let is : serial ≡ (state_at end.log).serial = here ∙ serial_core end.log in
      let count = publishes-count (entries end.log) in
      let all : length (state_at end.log).published + 1 ≡ (state_at end.log).serial = ap (λ (c : Bool). length (state_at end.log).published + cond {A = ℕ} c 1 0) (sym halted_at) ∙ published-count (entries end.log) end.history.is_legal in
      omega (arith, is, less, count, all)

-- ---- which trees fit

fits_bare : (plan : Tree → Result Plan LoadFault) (makes : Tree → Request → Option Tree) (s : State) (e : Entry) → Fits plan makes (bare s) e → Fits plan makes s e
fits_bare plan makes s (Publish d n from way) is = some_fits (slice_get s.drafts d) is
  where
    some_fits : (o : Option Drafted) → IfSome o (λ x. Suits makes (conf_of (bare s) from) way x.tree) → IfSome o (λ x. Suits makes (conf_of s from) way x.tree)
    some_fits None f = tt
    some_fits (Some x) f = subst (λ (z : Conf). Suits makes z way x.tree) (conf_bare from s) f
fits_bare plan makes s e is = is

fit_core : (plan : Tree → Result Plan LoadFault) (makes : Tree → Request → Option Tree) (s : State) (es : List Entry) → FitFrom plan makes (bare s) (core es) → FitFrom plan makes s es
fit_core plan makes s [] is = tt
fit_core plan makes s (Begin k n ∷ es) is = (tt, fit_core plan makes (after s (Begin k n)) es is)
fit_core plan makes s (Finish k ∷ es) is = (tt, fit_core plan makes (after s (Finish k)) es is)
fit_core plan makes s (e ∷ es) is = (fits_bare plan makes s e is.0, fit_core plan makes (after s e) es is.1)

-- where each entry but the requests fits, each of the history does
pub all_fit : (plan : Tree → Result Plan LoadFault) (makes : Tree → Request → Option Tree) (log : List Signed) → AllFit plan makes (entries (core_at log)) → AllFit plan makes (entries log)
all_fit plan makes log is = fit_core plan makes opening_state (entries log) (subst (λ (l : List Entry). AllFit plan makes l) (entries-core log) is)

pub last_core : (log : List Signed) → last_published (state_at (core_at log)) ≡ last_published (state_at log)
last_core log = ap last_published (sym (bare-core log))
