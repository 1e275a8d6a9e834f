-- Examples of duties, tickets, caches, and what a call has spread: of each one where it is true, and one where it is false.
use Rattle.std.proofs.Common.{◌≡◌, ℕ, ◌≤◌, ◌==◌, Bool, true, false, cond, List, [], ◌∷◌, ◌++◌, length, Option, Some, None, refl, ap, sym, subst, ◌∙◌, inl, inr, ⊎_elim, arith}
use Rattle.std.proofs.lemmas.List.{length-append, append_assoc}
use Rattle.std.specs.Prelude.{codes}
use Rattle.cd_tree.specs.declared.tree.Tree.{Tree}
use Rattle.cd_legal.specs.declared.plan.Plan.{Plan}
use Rattle.cd_legal.specs.declared.entry.Entry.{Entry}
use Rattle.cd_legal.specs.declared.entry.Entry.TheVariants.{Draft, Made, Abandon, Begin, Finish, Cleaned, Halt}
use Rattle.cd_legal.specs.declared.entry.Signed.{Signed}
use Rattle.cd_legal.specs.declared.state.State.{State}
use Rattle.cd_legal.specs.Entry.{signed}
use Rattle.cd_legal.specs.State.{Conf, opening_state, conf_of, open_at}
use Rattle.cd_legal.specs.Legal.{state_at}
use Rattle.cd_legal.specs.Placed.{Placed}
use Rattle.cd_legal.specs.Signing.{IsHistory}
use Rattle.cd_gate.specs.declared.view.View.{View}
use Rattle.cd_gate.specs.Growing.{all_signed}
use Rattle.cd_gate.specs.Steps.{first_view, worn}
use Rattle.cd_hall.specs.Dues.{DueThen, MayRetireAll, DueLater}
use Rattle.cd_hall.specs.Spread.{Starts, Spread}
use Rattle.cd_life.specs.Shares.{conf_in}
use Rattle.cd_hall.specs.declared.cache.Cache.{Cache}
use Rattle.cd_hall.specs.declared.cache.Now.TheVariants.{Ready, Worn}
use Rattle.cd_hall.specs.declared.hall.Ticket.{Ticket}
use Rattle.cd_hall.specs.Caches.{IsCacheOf, IfReady, IfStale, IfWorn, cached}
use Rattle.cd_hall.specs.Requests.{BegunNow}
use Rattle.cd_hall.specs.Tickets.{HasConfiguration, IsTicketOf, BeganWith, HadRoom, HasBegun}
use Rattle.cd_hall.specs.Turned.{Turned}

-- ---- duties

-- serial 1 is current, after a Publish or after the halt, and one request or two run under serial 0
abbrev one_left : State
one_left = record opening_state { serial = 1; tickets = record { caller = 2; serial = 0 } ∷ [] }

abbrev two_left : State
two_left = record opening_state { serial = 1; tickets = record { caller = 2; serial = 0 } ∷ record { caller = 3; serial = 0 } ∷ [] }

abbrev halted : State
halted = record one_left { halted = true }

-- the last request's end gives the duty, but after the halt it may be that of the pass that halted; the end of another gives none,
-- nor does one under the current serial
abbrev Dues : Type 0
Dues = DueThen one_left 0 (0 ∷ []) × DueThen two_left 0 [] × DueThen opening_state 0 [] × DueThen halted 0 (0 ∷ []) × DueThen halted 0 []

dues : Dues
dues = (refl, refl, refl, inr refl, inl refl)

none_is : {n : ℕ} {ns : List ℕ} → [] ≡ n ∷ ns → ⊥
none_is is = absurd (cc)

first_is : (n m : ℕ) → n ∷ [] ≡ m ∷ [] → n ≡ m
first_is n m is = cc

one_is_zero : ◌≡◌ {A = ℕ} 1 0 → ⊥
one_is_zero e = omega (arith, e)

not_due : DueThen one_left 0 [] → ⊥
not_due is = none_is is

not_two : DueThen two_left 0 (0 ∷ []) → ⊥
not_two is = none_is (sym is)

not_other : DueThen halted 0 (1 ∷ []) → ⊥
not_other is = ⊎_elim (λ none. none_is (sym none)) (λ one. one_is_zero (first_is 1 0 one)) is

-- while a request runs under serial 0 it may not be retired; then it may
abbrev Retirings : Type 0
Retirings = MayRetireAll one_left [] × MayRetireAll (record one_left { tickets = [] }) (0 ∷ [])

retirings : Retirings
retirings = (refl, refl)

not_retired_yet : MayRetireAll one_left (0 ∷ []) → ⊥
not_retired_yet is = absurd (let h : false ≡ true = is in cc)

-- pass 1 has begun a request, and pass 0 has halted the host: whether the duty comes with the halt depends on whether the request has
-- ended by then, but no other duty comes
abbrev with_request : List Signed
with_request = signed 1 (Begin 1 0) ∷ signed 0 (Halt 1) ∷ []

of_request : IsHistory with_request
of_request = record { is_legal = refl; is_signed = refl }

later_none : DueLater with_request 0 []
later_none = record { later = with_request; history = of_request; seen_first = ([], refl); same = refl; due = refl; may = refl }

later_one : DueLater with_request 0 (0 ∷ [])
later_one = record {
  later = with_request ++ signed 1 (Finish 1) ∷ [];
  history = record { is_legal = refl; is_signed = refl };
  seen_first = (signed 1 (Finish 1) ∷ [], refl);
  same = refl;
  due = refl;
  may = refl;
}

one_or_none : (b : Bool) → ◌≡◌ {A = List ℕ} (1 ∷ []) (cond b (0 ∷ []) []) → ⊥
one_or_none true is = one_is_zero (first_is 1 0 is)
one_or_none false is = none_is (sym is)

not_later : DueLater with_request 0 (1 ∷ []) → ⊥
not_later d = one_or_none (open_at 0 (state_at d.later).tickets == 0) d.due

-- ---- the Begin of a request

abbrev opening_begin : Placed
opening_begin = record { before = signed 1 (Begin 1 0) ∷ []; entry = Begin 0 0 }

began : BeganWith Conf.Opening 0 opening_begin
began = record { conf_is = refl; serial_is = refl }

not_began : BeganWith Conf.Opening 1 opening_begin → ⊥
not_began b = absurd (let h : 0 ≡ 1 = b.serial_is in omega arith)

had_room : HadRoom [] opening_begin
had_room = record { room = []; after = ([], refl); before = (signed 1 (Begin 1 0) ∷ [], refl); few = omega arith }

-- two entries do not begin what one entry does
too_long : (more less : List Signed) → (more ++ less) ≡ signed 1 (Begin 1 0) ∷ [] → length more ≡ 2 → ⊥
too_long more less is two = absurd (let e = length-append more less in let h = ap length is in omega (arith, e, h, two))

not_room : HadRoom with_request opening_begin → ⊥
not_room r = too_long with_request (r.after.0 ++ r.before.0) (sym (append_assoc with_request r.after.0 r.before.0) ∙ (ap (λ (l : List Signed). l ++ r.before.0) r.after.1 ∙ r.before.1)) refl

-- ---- the ticket of pass 0, which has begun after pass 1

abbrev idle : View State
idle = record (first_view opening_state) { seen = signed 1 (Begin 1 0) ∷ [] }

abbrev running : View State
running = record idle { seen = signed 1 (Begin 1 0) ∷ signed 0 (Begin 0 0) ∷ []; mine = signed 0 (Begin 0 0) ∷ []; ticket = Some 0 }

opening_halted : Conf.Opening ≡ Conf.Halted → ⊥
opening_halted is = absurd (cc)

none_own : ◌≡◌ {A = Option ℕ} None (Some 0) → ⊥
none_own is = absurd (cc)

module _ {A B : Type 0} {g : _} (t : Ticket A B g) where
  has_begun : t.serial ≡ 0 → conf_in t.share ≡ Conf.Opening → HasBegun idle running t opening_begin
  has_begun zero opening = record {
    places = record { number = refl; seen = (signed 0 (Begin 0 0) ∷ [], refl); history = record { is_legal = refl; is_signed = refl }; placed_is = refl; last = ([], refl); adds = refl; same = refl };
    seen = ([], refl);
    begins = ap (λ (n : ℕ). Begin 0 n) (sym zero);
    with_ticket = record { conf_is = sym opening; serial_is = sym zero };
    had_room = record { room = signed 1 (Begin 1 0) ∷ []; after = ([], refl); before = ([], refl); few = omega arith };
  }

  not_of_another_serial : t.serial ≡ 1 → HasBegun idle running t opening_begin → ⊥
  not_of_another_serial one b = one_is_zero (sym (b.with_ticket.serial_is ∙ one))

  is_ticket : t.serial ≡ 0 → conf_in t.share ≡ Conf.Opening → IsTicketOf running t
  is_ticket zero opening = record { own = ap (λ (n : ℕ). Some n) (sym zero); has = record { there = omega (arith, zero); conf = opening ∙ sym (ap (conf_of (state_at running.seen)) zero) } }

  not_its_own : t.serial ≡ 0 → IsTicketOf idle t → ⊥
  not_its_own zero is = none_own (is.own ∙ ap (λ (n : ℕ). Some n) zero)

  not_configured : t.serial ≡ 0 → conf_in t.share ≡ Conf.Halted → HasConfiguration running t → ⊥
  not_configured zero halted has = opening_halted (sym (ap (conf_of (state_at running.seen)) zero) ∙ (sym has.conf ∙ halted))

-- ---- a request that was begun without waiting, and what a cache keeps for it

-- pass 0 has looked when pass 1 had begun, and then it began
begun_now : BegunNow idle running 0 (signed 1 (Begin 1 0) ∷ [])
begun_now = record {
  begins = record {
    found = record { history = record { is_legal = refl; is_signed = refl }; seen = ([], refl); own = refl; own_seen = refl; owes = refl; in_turn = λ has. refl };
    is = refl;
    current = refl;
    history = record { is_legal = refl; is_signed = refl };
  };
  room = signed 1 (Begin 1 0) ∷ [];
  after = ([], refl);
  before = ([], refl);
  few = omega arith;
}

-- it has not begun at another serial, nor before pass 1, and a pass that has looked alone has not begun
not_at_another : BegunNow idle running 1 (signed 1 (Begin 1 0) ∷ []) → ⊥
not_at_another b = one_is_zero b.begins.current

not_before : BegunNow idle running 0 [] → ⊥
not_before b = absurd (let h : 2 ≡ 1 = ap (λ (v : View State). length v.seen) b.begins.is in omega arith)

not_by_a_look : BegunNow idle (worn idle idle.seen) 0 idle.seen → ⊥
not_by_a_look b = none_own (ap (λ (v : View State). v.ticket) b.begins.is)

module _ {A B : Type 0} {g : _} (t : Ticket A B g) where
  abbrev empty : Cache A B g
  empty = record { ticket = None }

  abbrev keeps : Cache A B g
  keeps = record { ticket = Some t }

  -- nothing is asked of an empty one
  abbrev Empties : Type 0
  Empties = (cached empty ≡ None) × IsCacheOf idle empty

  empties : Empties
  empties = (refl, tt)

  cached_serial : t.serial ≡ 0 → cached keeps ≡ Some 0
  cached_serial zero = ap (λ (n : ℕ). Some n) zero

  not_cached : t.serial ≡ 0 → cached empty ≡ cached keeps → ⊥
  not_cached zero is = none_own (is ∙ cached_serial zero)

  -- the ticket needn't be that of a request that runs
  is_cache : t.serial ≡ 0 → conf_in t.share ≡ Conf.Opening → IsCacheOf idle keeps
  is_cache zero opening = record { there = omega (arith, zero); conf = opening ∙ sym (ap (conf_of (state_at idle.seen)) zero) }

  not_of_the_halt : t.serial ≡ 0 → conf_in t.share ≡ Conf.Halted → IsCacheOf running keeps → ⊥
  not_of_the_halt zero halted has = not_configured t zero halted has

  not_there_yet : t.serial ≡ 1 → IsCacheOf running keeps → ⊥
  not_there_yet one has = let there = has.there in absurd (let h : 1 ≤ 0 = subst (λ (n : ℕ). n ≤ 0) one there in omega (arith, h))

  -- each answer says nothing where another was given
  abbrev Answers : Type 0
  Answers = IfReady (Ready t) (λ u. u ≡ t) × IfStale (Ready t) (λ h. ⊥) × IfWorn (Ready t) ⊥

  answers : Answers
  answers = (refl, tt, tt)

  not_worn : IfWorn {A = A} {B = B} {g = g} Worn ⊥ → ⊥
  not_worn is = is

-- ---- a draft is given up, and between its entries another pass begins a request

abbrev made_one : Plan
made_one = record { modules = record { name = codes "http"; at = record { parts = [] }; keys = [] } ∷ []; apps = [] }

module _ (tree : Tree) where
  abbrev found : List Signed
  found = signed 0 (Draft 0 tree made_one) ∷ signed 0 (Made 0 0 0 None) ∷ []

  abbrev entries_of : List Entry
  entries_of = Abandon 0 ∷ Cleaned 0 0 ∷ []

  abbrev was : View State
  was = record (first_view opening_state) { seen = found; mine = found; draft = Some 0 }

  abbrev is_now : View State
  is_now = record was { seen = found ++ signed 0 (Abandon 0) ∷ signed 1 (Begin 1 0) ∷ signed 0 (Cleaned 0 0) ∷ []; mine = found ++ all_signed 0 entries_of; draft = None }

  history_now : IsHistory is_now.seen
  history_now = record { is_legal = refl; is_signed = refl }

  -- its entries are spread
  spread : Spread was is_now found entries_of
  spread = record {
    seen = ([], refl);
    added = record { before = found; entry = Abandon 0 } ∷ record { before = found ++ signed 0 (Abandon 0) ∷ signed 1 (Begin 1 0) ∷ []; entry = Cleaned 0 0 } ∷ [];
    are = refl;
    first = refl;
    places = record { number = refl; seen = (signed 0 (Abandon 0) ∷ signed 1 (Begin 1 0) ∷ signed 0 (Cleaned 0 0) ∷ [], refl); history = history_now; placed_is = refl; last = ([], refl); adds = refl; same = refl };
    grows = record {
      seen = (signed 0 (Abandon 0) ∷ signed 1 (Begin 1 0) ∷ signed 0 (Cleaned 0 0) ∷ [], refl);
      history = history_now;
      before = refl;
      own = refl;
      adds = refl;
      last = (found ++ signed 0 (Abandon 0) ∷ signed 1 (Begin 1 0) ∷ [], refl);
      owes = refl;
      same = refl;
    };
  }

  -- they do not stand one after another
  not_turned : Turned was is_now found entries_of → ⊥
  not_turned t = absurd (let h : 5 ≡ 4 = ap length t.is in omega arith)

  -- and they are not fewer
  not_fewer : Spread was is_now found (Abandon 0 ∷ []) → ⊥
  not_fewer s = absurd (let h : 4 ≡ 3 = ap length s.grows.adds in omega arith)

  -- nor do they start before what was found
  not_started : Starts [] spread.added is_now.seen → ⊥
  unfolding spread
  not_started is = absurd (let h : 2 ≡ 0 = ap length is in omega arith)
