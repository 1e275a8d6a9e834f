-- The host is halted by the entries that halt it, and stays so.
use Rattle.std.proofs.Common.{◌≡◌, ℕ, ◌==◌, ◌||◌, ◌&&◌, not, Bool, true, false, List, [], ◌∷◌, ◌++◌, cond, refl, ap, sym, ◌∙◌, ⊎_elim}
use Rattle.std.specs.List.{list_any}
use Rattle.std.proofs.lemmas.List.{map-append}
use Rattle.std.proofs.lemmas.List.Folds.{list_any-append}
use mathlib.Core.List.{IsPrefix}
use Rattle.cd_legal.specs.declared.entry.Entry.{Entry}
use Rattle.cd_legal.specs.declared.entry.Entry.TheVariants.{Halt}
use Rattle.cd_legal.specs.declared.entry.Signed.{Signed}
use Rattle.cd_legal.specs.declared.state.State.{State}
use Rattle.cd_legal.specs.Entry.{entries, mine}
use Rattle.cd_legal.specs.Legal.{after, state_from, state_at}
use Rattle.cd_legal.specs.State.{opening_state}
use Rattle.cd_legal.specs.Placed.{Placed, placed, placed_entries}
use Rattle.cd_legal.proofs.Logs.{state-append}
use Rattle.cd_legal.proofs.Placed.{placed-entries}
use Rattle.cd_gate.specs.declared.view.View.{View}
use Rattle.cd_gate.specs.Growing.{Places}
use Rattle.cd_serve.specs.Changes.{IsHalting}
use Rattle.cd_serve.specs.Episodes.{is_halt, another_halted}
use Rattle.cd_serve.proofs.Halts.{halted-by-another}
use Rattle.cd_host.specs.OwnPass.{HasHalted}

halted-after : (s : State) (e : Entry) → s.halted ≡ true → (after s e).halted ≡ true
halted-after s (Halt n) is = refl
halted-after s e is = is

halted-from : (s : State) (es : List Entry) → s.halted ≡ true → (state_from s es).halted ≡ true
halted-from s [] is = is
halted-from s (e ∷ es) is = halted-from (after s e) es (halted-after s e is)

pub halted-stays : (front log : List Signed) → IsPrefix front log → (state_at front).halted ≡ true → (state_at log).halted ≡ true
halted-stays front log p is =
    ap (λ (l : List Signed). (state_at l).halted) (sym p.1) ∙ (ap (λ (s : State). s.halted) (state-append front p.0) ∙ halted-from (state_at front) (entries p.0) is)

halts : (s : State) (e : Entry) → is_halt e ≡ true → (after s e).halted ≡ true
halts s (Halt n) is = refl
halts s e is = absurd (let f : false ≡ true = is in cc)

-- one of the two is true
either-way : {P : Type 0} (a b : Bool) → (a ≡ true → P) → (b ≡ true → P) → (a || b) ≡ true → P
either-way true b one two is = one refl
either-way false b one two is = two is

one-side : (a b : Bool) → (a && b) ≡ true → a ≡ true
one-side true b is = refl
one-side false b is = is

halted-in : (k : ℕ) (s : State) (log : List Signed) → another_halted k log ≡ true → (state_from s (entries log)).halted ≡ true
halted-in k s [] is = absurd (let f : false ≡ true = is in cc)
halted-in k s (x ∷ xs) is = either-way (is_halt x.entry && not (x.by == k)) (another_halted k xs)
    (λ here. halted-from (after s x.entry) (entries xs) (halts s x.entry (one-side (is_halt x.entry) (not (x.by == k)) here)))
    (λ later. halted-in k (after s x.entry) xs later) is

is-none : (b : Bool) → (b ≡ true → true ≡ false) → b ≡ false
is-none true refuted = refuted refl
is-none false refuted = refl

-- while it runs nobody has halted it
pub nobody-halted : (k : ℕ) (log : List Signed) → (state_at log).halted ≡ false → another_halted k log ≡ false
nobody-halted k log running = is-none (another_halted k log) (λ is. sym (halted-in k opening_state log is) ∙ running)

-- ---- a halt of the pass itself

or-true : (b : Bool) → (b || true) ≡ true
or-true true = refl
or-true false = refl

own-is-any : (b : Bool) (x : Signed) (own : List Signed) → list_any is_halt (entries (cond b (x ∷ own) own)) ≡ true → (is_halt x.entry || list_any is_halt (entries own)) ≡ true
own-is-any true x own is = is
own-is-any false x own is = ap (λ (b : Bool). is_halt x.entry || b) is ∙ or-true (is_halt x.entry)

-- where a pass has signed a Halt, the host is halted
own-halt : (k : ℕ) (s : State) (log : List Signed) → list_any is_halt (entries (mine k log)) ≡ true → (state_from s (entries log)).halted ≡ true
own-halt k s [] is = absurd (let f : false ≡ true = is in cc)
own-halt k s (x ∷ xs) is = either-way (is_halt x.entry) (list_any is_halt (entries (mine k xs)))
    (λ here. halted-from (after s x.entry) (entries xs) (halts s x.entry here))
    (λ later. own-halt k (after s x.entry) xs later)
    (own-is-any (x.by == k) x (mine k xs) is)

module _ {T : Type 0} where
  -- a pass that has halted has seen the halt
  halt-shows : (v w : View T) (work : List Placed) → Places v w work → IsHalting work → (state_at w.seen).halted ≡ true
  halt-shows v w work p h =
      let k : ℕ = v.number in
      let all : entries (mine k w.seen) ≡ entries (mine k v.seen) ++ placed_entries work =
      sym (placed-entries k w.seen) ∙ ap placed_entries p.placed_is ∙ map-append (λ (q : Placed). q.entry) (placed k v.seen) work ∙ ap (λ (es : List Entry). es ++ placed_entries work) (placed-entries k v.seen) in
      let here : list_any is_halt (placed_entries work) ≡ true =
      ap (λ (l : List Placed). list_any is_halt (placed_entries l)) h.whole ∙ ap (λ (e : Entry). is_halt e || list_any is_halt (placed_entries (h.stopping ++ h.block))) h.halts in
      own-halt k opening_state w.seen
      (ap (list_any is_halt) all ∙ list_any-append is_halt (entries (mine k v.seen)) (placed_entries work) ∙ ap (λ (b : Bool). list_any is_halt (entries (mine k v.seen)) || b) here ∙ or-true (list_any is_halt (entries (mine k v.seen))))

  pub halted-shows : (v w : View T) → HasHalted v w → (state_at w.seen).halted ≡ true
  halted-shows v w h = ⊎_elim (λ own. halt-shows v w own.0 own.1 own.2) (λ other. other.1) h

-- ---- a halt of another pass

-- it is there where the host is halted and the pass has signed no Halt
pub another-halted : (k : ℕ) (log : List Signed) → (state_at log).halted ≡ true → list_any is_halt (entries (mine k log)) ≡ false → another_halted k log ≡ true
another-halted k log halted none = halted-by-another k [] log refl halted none

another-before : (k : ℕ) (front more : List Signed) → another_halted k front ≡ true → another_halted k (front ++ more) ≡ true
another-before k [] more is = absurd (let f : false ≡ true = is in cc)
another-before k (x ∷ xs) more is = either-way (is_halt x.entry && not (x.by == k)) (another_halted k xs)
    (λ here. ap (λ (b : Bool). b || another_halted k (xs ++ more)) here)
    (λ later. ap (λ (b : Bool). (is_halt x.entry && not (x.by == k)) || b) (another-before k xs more later) ∙ or-true (is_halt x.entry && not (x.by == k)))
    is

-- and it stays in a longer history
pub another-stays : (k : ℕ) (front log : List Signed) → IsPrefix front log → another_halted k front ≡ true → another_halted k log ≡ true
another-stays k front log p is = ap (another_halted k) (sym p.1) ∙ another-before k front p.0 is
