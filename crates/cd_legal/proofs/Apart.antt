-- A history is legal where it is so without its tickets, and its tickets fit.
use Rattle.std.proofs.Common.{◌≡◌, ℕ, Bool, true, false, ◌&&◌, not, cond, List, [], ◌∷◌, refl, ap, ◌∙◌, Some, is_none, suc, nat_lt}
use Rattle.cd_legal.specs.declared.entry.Entry.{Entry}
use Rattle.cd_legal.specs.declared.entry.Entry.TheVariants.{Begin, Finish, Retire}
use Rattle.cd_legal.specs.declared.state.State.{State}
use Rattle.cd_legal.specs.State.{opening_state, has_number, apps_stopped, is_ticketed}
use Rattle.cd_legal.specs.Legal.{allowed, after, legal_from, legal, refused_from, refused_at}
use Rattle.cd_legal.specs.Laws.{core, tickets_fit, bare}

ahead : (a b c : Bool) → (a && (b && c)) ≡ (b && (a && c))
ahead true b c = refl
ahead false true c = refl
ahead false false c = refl

plain : (a b c : Bool) → (a && (b && c)) ≡ ((a && b) && c)
plain true b c = refl
plain false b c = refl

retire : (l n p t b c : Bool) → ((l && (n && (p && t))) && (b && c)) ≡ (((l && (n && (p && true))) && b) && (t && c))
retire true true true true b c = refl
retire true true true false true c = refl
retire true true true false false c = refl
retire true true false t b c = refl
retire true false p t b c = refl
retire false n p t b c = refl

apart_from : (s : State) (log : List Entry) → legal_from s log ≡ (legal_from (bare s) (core log) && tickets_fit s log)
apart_from s [] = refl
apart_from s (Begin k n ∷ es) = ap (λ z. allowed s (Begin k n) && z) (apart_from (after s (Begin k n)) es) ∙ ahead (allowed s (Begin k n)) _ _
apart_from s (Finish k ∷ es) = ap (λ z. allowed s (Finish k) && z) (apart_from (after s (Finish k)) es) ∙ ahead (allowed s (Finish k)) _ _
apart_from s (Retire n ∷ es) = ap (λ z. allowed s (Retire n) && z) (apart_from (after s (Retire n)) es) ∙ retire (nat_lt n s.serial) (not (has_number n s.retired)) (apps_stopped s n) (not (is_ticketed n s.tickets)) _ _
apart_from s (e ∷ es) = ap (λ z. allowed s e && z) (apart_from (after s e) es) ∙ plain (allowed s e) _ _

pub apart : (log : List Entry) → legal log ≡ (legal (core log) && tickets_fit opening_state log)
apart log = apart_from opening_state log

accepts : (b : Bool) (s : State) (place : ℕ) (e : Entry) (es : List Entry) → is_none (refused_from (after s e) (suc place) es) ≡ legal_from (after s e) es → is_none (cond b (refused_from (after s e) (suc place) es) (Some place)) ≡ (b && legal_from (after s e) es)
accepts true s place e es h = h
accepts false s place e es h = refl

none_refused : (s : State) (place : ℕ) (log : List Entry) → is_none (refused_from s place log) ≡ legal_from s log
none_refused s place [] = refl
none_refused s place (e ∷ es) = accepts (allowed s e) s place e es (none_refused (after s e) (suc place) es)

-- a history is legal exactly where no place of it is refused
pub refused-legal : (log : List Entry) → is_none (refused_at log) ≡ legal log
refused-legal log = none_refused opening_state 0 log
