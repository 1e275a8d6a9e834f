-- What a desk stands for after a request has begun, or ended.
use Rattle.std.proofs.Common.{◌≡◌, ℕ, zero, suc, ◌+◌, true, false, List, [], ◌∷◌, ◌++◌, refl, sym, ap, ◌∙◌, Some, None, Option, set, slice_get, subst, ⊎_elim, is_some, arith, min, length}
use Rattle.std.proofs.lemmas.List.{append-nil, length-set}
use Rattle.std.proofs.lemmas.Bool.Decides.{eqb_tells}
use Rattle.cd_outside.specs.declared.fixtures.FixtureCall.{FixtureCall}
use Rattle.cd_outside.specs.FixtureCall.{CallsGrow}
use Rattle.cd_outside.specs.Counts.{count_end}
use Rattle.cd_legal.specs.declared.entry.Entry.TheVariants.{Begin, Finish}
use Rattle.cd_legal.specs.declared.state.OpenTicket.{OpenTicket}
use Rattle.cd_legal.specs.State.{has_ticket, ticket_of, without_ticket}
use Rattle.cd_legal.specs.Legal.{allowed}
use Rattle.cd_legal.specs.Calls.{entry_calls}
use Rattle.cd_legal.proofs.Callers.{has-ticket_of, open_at-push, open_at-closed, ticket_of-own, ticket_of-other, ticket_of-without, ticket_of-without_other}
use Rattle.cd_legal.proofs.Facts.{allowed-by}
use Rattle.cd_desk.specs.declared.desk.Desk.{Desk}
use Rattle.cd_desk.specs.declared.callers.Tickets.{Tickets}
use Rattle.cd_desk.specs.Desks.{HasTicket, told_ticket, told_at, one_at}
use Rattle.cd_desk.proofs.Lists.{get_set_same, get_set_other}
use Rattle.cd_desk.proofs.Standing.{Steps, plain_calls, with_tickets}

set_at : (n : ℕ) (os : List (Option ℕ)) (k : ℕ) (o p : Option ℕ) → slice_get os k ≡ Some o → told_at n (set os k p) + one_at n o ≡ told_at n os + one_at n p
set_at n [] k o p e = cc
set_at n (x ∷ os) zero o p e = let same : one_at n x ≡ one_at n o = ap (one_at n) (let s : x ≡ o = cc in s) in omega arith
set_at n (x ∷ os) (suc k) o p e = let rest = set_at n os k o p e in omega arith

pub no_calls : (told : List FixtureCall) (more : List FixtureCall) → more ≡ [] → told ≡ told ++ more
no_calls told more e = sym (append-nil told) ∙ ap (λ z. told ++ z) (sym e)

module _ {F : Type 0} (calls : F → Option (List FixtureCall)) where
  pub begins : (v : Desk F) (tickets : Tickets) (begun k : ℕ) → begun ≡ min (v.begun + 1) count_end → slice_get v.tickets.by_caller.items k ≡ Some None → tickets.by_caller.items ≡ set v.tickets.by_caller.items k (Some v.serial)
      → Steps calls v (record v { tickets = tickets; begun = begun }) (Begin k v.serial)
  begins v tickets begun k next free now opening s told count known a =
      let none : ticket_of k s.tickets ≡ None = a.tickets k ∙ ap told_ticket free in
      let has : has_ticket k s.tickets ≡ false = has-ticket_of k s.tickets ∙ ap is_some none in
      let may : allowed s (Begin k v.serial) ≡ true = allowed-by s (Begin k v.serial) (record { current = sym a.serial; free = has }) in
      let t : OpenTicket = record { caller = k; serial = v.serial } in (
        may,
        with_tickets calls opening v s told count a v.fixtures tickets begun (s.tickets ++ t ∷ []) (told ++ entry_calls s (Begin k v.serial)) (suc count) (let was = a.begun in omega (arith, next))
            (λ j. ⊎_elim
            (λ q. subst (λ z. ticket_of z (s.tickets ++ t ∷ []) ≡ told_ticket (slice_get tickets.by_caller.items z)) q.1 (ticket_of-own k v.serial s.tickets has ∙ sym (ap (λ z. told_ticket (slice_get z k)) now ∙ ap told_ticket (get_set_same v.tickets.by_caller.items k None (Some v.serial) free))))
            (λ q. ticket_of-other j s.tickets t q.1 ∙ (a.tickets j ∙ sym (ap (λ z. told_ticket (slice_get z j)) now ∙ ap told_ticket (get_set_other v.tickets.by_caller.items k j (Some v.serial) (λ e. q.1 (sym e))))))
            (eqb_tells k j))
            (λ n. (let grown = set_at n v.tickets.by_caller.items k None (Some v.serial) free in let here = a.at_serial n in let pushed = open_at-push n s.tickets t in let same : told_at n tickets.by_caller.items ≡ told_at n (set v.tickets.by_caller.items k (Some v.serial)) = ap (told_at n) now in omega arith))
            (ap length now ∙ (length-set v.tickets.by_caller.items k (Some v.serial) ∙ a.callers))
            (subst (λ z. CallsGrow (calls opening.fixtures) z (calls v.fixtures)) (no_calls told (entry_calls s (Begin k v.serial)) (plain_calls s (Begin k v.serial) may known.steady refl)) a.told_on),
      )

  pub finishes : (v : Desk F) (tickets : Tickets) (k : ℕ) → HasTicket v.tickets.by_caller.items k → tickets.by_caller.items ≡ set v.tickets.by_caller.items k None → Steps calls v (record v { tickets = tickets }) (Finish k)
  finishes v tickets k held now opening s told count known a =
      let there : slice_get v.tickets.by_caller.items k ≡ Some (Some held.0) = held.1 in
      let its : ticket_of k s.tickets ≡ Some held.0 = a.tickets k ∙ ap told_ticket there in
      let may : allowed s (Finish k) ≡ true = has-ticket_of k s.tickets ∙ ap is_some its in (
        may,
        with_tickets calls opening v s told count a v.fixtures tickets v.begun (without_ticket k s.tickets) (told ++ entry_calls s (Finish k)) count a.begun
            (λ j. ⊎_elim
            (λ q. subst (λ z. ticket_of z (without_ticket k s.tickets) ≡ told_ticket (slice_get tickets.by_caller.items z)) q.1 (ticket_of-without k s.tickets ∙ sym (ap (λ z. told_ticket (slice_get z k)) now ∙ ap told_ticket (get_set_same v.tickets.by_caller.items k (Some held.0) None there))))
            (λ q. ticket_of-without_other j k s.tickets q.1 ∙ (a.tickets j ∙ sym (ap (λ z. told_ticket (slice_get z j)) now ∙ ap told_ticket (get_set_other v.tickets.by_caller.items k j None (λ e. q.1 (sym e))))))
            (eqb_tells k j))
            (λ n. (let gone = set_at n v.tickets.by_caller.items k (Some held.0) None there in let here = a.at_serial n in let closed = open_at-closed k held.0 n s.tickets (known.single k) its in let same : told_at n tickets.by_caller.items ≡ told_at n (set v.tickets.by_caller.items k None) = ap (told_at n) now in omega arith))
            (ap length now ∙ (length-set v.tickets.by_caller.items k None ∙ a.callers))
            (subst (λ z. CallsGrow (calls opening.fixtures) z (calls v.fixtures)) (no_calls told (entry_calls s (Finish k)) (plain_calls s (Finish k) may known.steady refl)) a.told_on),
      )
