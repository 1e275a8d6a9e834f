-- A replay entry by entry.
use Rattle.std.proofs.Common.{◌≡◌, ◌<◌, ◌∙◌, ℕ, suc, Bool, true, false, cond, List, [], ◌∷◌, length, drop, get_or, refl, sym, ap, Ok, Err, Some, drop-cons}
use Rattle.std.specs.Prelude.{Result}
use Rattle.cd_legal.specs.declared.fault.ReplayFault.{ReplayFault}
use Rattle.cd_legal.specs.declared.fault.ReplayFault.TheVariants.{NotAllowed}
use Rattle.cd_legal.specs.declared.entry.Entry.{Entry}
use Rattle.cd_legal.specs.declared.state.State.{State}
use Rattle.cd_legal.specs.State.{opening_state}
use Rattle.cd_legal.specs.Legal.{allowed, after, refused_from, state_from, unless, replayed}

-- what the entries from a place on give from the state there
abbrev pub replay_from : State → ℕ → List Entry → Result State ReplayFault
replay_from s place [] = Ok s
replay_from s place (e ∷ es) = cond (allowed s e) (replay_from (after s e) (suc place) es) (Err (NotAllowed place))

chosen : (b : Bool) (s t : State) (place : ℕ) (e : Entry) (es : List Entry) → replay_from (after s e) (suc place) es ≡ unless (refused_from (after s e) (suc place) es) t
    → cond b (replay_from (after s e) (suc place) es) (Err (NotAllowed place)) ≡ unless (cond b (refused_from (after s e) (suc place) es) (Some place)) t
chosen true s t place e es h = h
chosen false s t place e es h = refl

pub replay-from : (s : State) (place : ℕ) (log : List Entry) → replay_from s place log ≡ unless (refused_from s place log) (state_from s log)
replay-from s place [] = refl
replay-from s place (e ∷ es) = chosen (allowed s e) s (state_from (after s e) es) place e es (replay-from (after s e) (suc place) es)

-- all of them from the opening state
pub replay-all : (log : List Entry) → replay_from opening_state 0 log ≡ replayed log
replay-all log = replay-from opening_state 0 log

front : (s : State) (i : ℕ) (xs : List Entry) (e : Entry) → i < length xs → e ≡ get_or xs i e → replay_from s i (drop i xs) ≡ replay_from s i (e ∷ drop (suc i) xs)
front s i xs e within is = ap (replay_from s i) (drop-cons xs i e within ∙ ap (λ z. z ∷ drop (suc i) xs) (sym is))

goes : (b : Bool) (s t : State) (i : ℕ) (e : Entry) (es : List Entry) → b ≡ true → t ≡ after s e → cond b (replay_from (after s e) (suc i) es) (Err (NotAllowed i)) ≡ replay_from t (suc i) es
goes true s t i e es h is = ap (λ z. replay_from z (suc i) es) (sym is)
goes false s t i e es h is = cc

halts : (b : Bool) (s : State) (i : ℕ) (e : Entry) (es : List Entry) → b ≡ false → cond b (replay_from (after s e) (suc i) es) (Err (NotAllowed i)) ≡ Err (NotAllowed i)
halts true s i e es h = cc
halts false s i e es h = refl

-- an entry that is allowed
pub replay-step : (s t : State) (i : ℕ) (xs : List Entry) (e : Entry) → i < length xs → e ≡ get_or xs i e → allowed s e ≡ true → t ≡ after s e → replay_from s i (drop i xs) ≡ replay_from t (suc i) (drop (suc i) xs)
replay-step s t i xs e within is may next = front s i xs e within is ∙ goes (allowed s e) s t i e (drop (suc i) xs) may next

-- one that is not
pub replay-end : (s : State) (i : ℕ) (xs : List Entry) (e : Entry) → i < length xs → e ≡ get_or xs i e → allowed s e ≡ false → replay_from s i (drop i xs) ≡ Err (NotAllowed i)
replay-end s i xs e within is may = front s i xs e within is ∙ halts (allowed s e) s i e (drop (suc i) xs) may
