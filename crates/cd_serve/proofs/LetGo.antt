-- Where a configuration is let go: what publishes nothing, and which serials are not retired.
use Rattle.std.proofs.Common.{◌≡◌, ◌⊎◌, ◌∙◌, ℕ, ◌≤◌, Bool, true, false, List, [], ◌∷◌, Option, Some, None, inl, inr, refl, ap, sym, subst, arith}
use Rattle.std.specs.Prelude.{IfSome}
use Rattle.cd_tree.specs.declared.tree.Tree.{Tree}
use Rattle.cd_wire.specs.declared.request.Request.{Request}
use Rattle.cd_legal.specs.declared.entry.Entry.{Entry}
use Rattle.cd_legal.specs.declared.entry.Entry.TheVariants as entry
use Rattle.cd_legal.specs.declared.entry.Signed.{Signed}
use Rattle.cd_legal.specs.declared.state.State.{State}
use Rattle.cd_legal.specs.Entry.{signed, entries}
use Rattle.cd_legal.specs.Legal.{state_at}
use Rattle.cd_legal.specs.Placed.{Placed, placed_entries, met}
use Rattle.cd_legal.specs.Runs.{opened_until, undone_after}
use Rattle.cd_legal.specs.Serials.{publishings}
use Rattle.cd_legal.specs.Signing.{IsHistory}
use Rattle.cd_legal.specs.State.{has_number, open_at, ticket_of}
use Rattle.cd_legal.proofs.Callers.{ticket-open}
use Rattle.cd_legal.proofs.Logs.{entries-append, history-front, state-append}
use Rattle.cd_gate.specs.declared.view.View.{View}
use Rattle.cd_gate.specs.Growing.{all_signed, Places}
use Rattle.cd_gate.proofs.Tickets.{retired-free}
use Rattle.cd_hall.specs.declared.cache.Cache.{Cache}
use Rattle.cd_hall.specs.declared.duty.Duty.{Duty}
use Rattle.cd_hall.specs.declared.hall.Ticket.{Ticket}
use Rattle.cd_hall.specs.Caches.{IsCacheOf}
use Rattle.cd_hall.specs.Tickets.{HasBegun, HasConfiguration}
use Rattle.cd_hall.specs.Turned.{Turned}
use Rattle.cd_serve.specs.declared.attempting.Attempt.TheVariants.{Refused}
use Rattle.cd_serve.specs.declared.fault.ChangeFault.{ChangeFault}
use Rattle.cd_serve.specs.declared.fault.ChangeFault.TheVariants.{CannotOpen, StillInUse, NoSerialLeft, NoDraftLeft}
use Rattle.cd_serve.specs.Meanings.{Meaning}
use Rattle.cd_serve.specs.Attempts.{Attempted}
use Rattle.cd_serve.specs.Requests.{Concluded, PublishedNothing}
use Rattle.cd_serve.specs.Retirements.{due}
use Rattle.cd_serve.proofs.KeptFirst.{block-none, given_up-none, none-parts}
use Rattle.cd_serve.proofs.Unpublished.{more-none, none-both, until-none, undone-none}

-- ---- what publishes nothing

signed-entries : (k : ℕ) (es : List Entry) → entries (all_signed k es) ≡ es
signed-entries k [] = refl
signed-entries k (e ∷ es) = ap (λ (l : List Entry). e ∷ l) (signed-entries k es)

module _ {T : Type 0} where
  pub nothing-placed : (v w : View T) (added : List Placed) → Places v w added → publishings (placed_entries added) ≡ 0 → PublishedNothing v w
  nothing-placed v w added p none =
      let es = placed_entries added in
      ap (λ (l : List Signed). publishings (entries l)) p.adds
      ∙ (ap publishings (entries-append v.mine (all_signed v.number es))
      ∙ more-none (entries v.mine) (entries (all_signed v.number es)) (ap publishings (signed-entries v.number es) ∙ none))

  -- the end of a request
  pub nothing-concluded : (v w : View T) → Concluded v w → PublishedNothing v w
  nothing-concluded v w c =
      nothing-placed v w (c.finish ∷ c.block) c.places
      (none-parts [] c.finish c.block refl (ap (λ (e : Entry). publishings (e ∷ [])) c.finishes) (block-none (met c.finish) (due (met c.finish) v.number) c.block c.retires))

  -- its beginning
  pub nothing-begun : {A B : Type 0} {g : _} (v w : View T) (t : Ticket A B g) (begin : Placed) → HasBegun v w t begin → PublishedNothing v w
  nothing-begun v w t begin b = nothing-placed v w (begin ∷ []) b.places (ap (λ (e : Entry). publishings (e ∷ [])) b.begins)

-- an attempt that was refused
pub none-refused : (m : Meaning) (tree : Tree) (q : Request) (k serial : ℕ) (s : State) (work : List Placed) (f : ChangeFault) → Attempted m tree q k serial s work (Refused f) → publishings (placed_entries work) ≡ 0
none-refused m tree q k serial s work (CannotOpen key) u =
    ap publishings u.whole
    ∙ none-both (opened_until u.draft u.plan u.failure key) (entry.Abandon u.draft ∷ undone_after u.draft u.plan u.failure) (until-none u.draft u.plan u.failure key) (undone-none u.draft u.plan u.failure)
none-refused m tree q k serial s work (StillInUse n) u = given_up-none m tree work u.given_up
none-refused m tree q k serial s work NoSerialLeft u = given_up-none m tree work u.given_up
none-refused m tree q k serial s work NoDraftLeft u = ap (λ (w : List Placed). publishings (placed_entries w)) u.0

-- ---- serials that are not retired

none-open : (z : ℕ) → 1 ≤ z → z ≡ 0 → ⊥
none-open z one none = omega (arith, one, none)

-- a serial under which a request runs
running : (k n : ℕ) (log : List Signed) (b : Bool) → IsHistory log → ticket_of k (state_at log).tickets ≡ Some n → has_number n (state_at log).retired ≡ b → b ≡ false
running k n log true is has there = absurd (none-open (open_at n (state_at log).tickets) (ticket-open k n (state_at log).tickets has) (retired-free (entries log) n is.is_legal there).1)
running k n log false is has there = refl

-- and right after its request has ended
pub unretired-ended : {T : Type 0} (v w : View T) (n : ℕ) (found : List Signed) → Turned v w found (entry.Finish v.number ∷ []) → ticket_of v.number (state_at found).tickets ≡ Some n → has_number n (state_at w.seen).retired ≡ false
unretired-ended v w n found t has =
    let k = v.number in
    let last : List Signed = signed k (entry.Finish k) ∷ [] in
    let history : IsHistory found = history-front found w.seen (last, sym t.is) t.grows.history in
    ap (λ (s : State). has_number n s.retired) (ap state_at t.is ∙ state-append found last)
    ∙ running k n found (has_number n (state_at found).retired) history has refl

-- ---- caches

-- either a request has published nothing, or it has let go
pub let-go : {T : Type 0} (v w x z : View T) (superseded : Bool) (Gone : Type 0) → PublishedNothing v w → (superseded ≡ false → PublishedNothing w x) → PublishedNothing x z → (superseded ≡ true → Gone) → PublishedNothing v z ⊎ Gone
let-go v w x z true Gone one two three gone = inr (gone refl)
let-go v w x z false Gone one two three gone = inl (three ∙ (two refl ∙ one))

module _ {A B : Type 0} {g : _} where
  none-if : (P : Ticket A B g → Type 0) (o : Option (Ticket A B g)) → o ≡ None → IfSome o P
  none-if P o none = subst (λ (x : Option (Ticket A B g)). IfSome x P) (sym none) tt

  some-if : (P : Ticket A B g → Type 0) (o : Option (Ticket A B g)) (t : Ticket A B g) → o ≡ Some t → P t → IfSome o P
  some-if P o t some is = subst (λ (x : Option (Ticket A B g)). IfSome x P) (sym some) is

  -- a cache that was let go, or not, keeps the configuration of its serial
  pub let-go-cache : {T : Type 0} (v : View T) (c d : Cache A B g) → (d.ticket ≡ None) ⊎ (d ≡ c) → IsCacheOf v c → IsCacheOf v d
  let-go-cache v c d (inl none) is = none-if (λ (t : Ticket A B g). HasConfiguration v t) d.ticket none
  let-go-cache v c d (inr same) is = subst (λ (x : Cache A B g). IsCacheOf v x) (sym same) is

  -- where it was let go with the duty, it keeps none that is retired
  pub let-go-unretired : {T : Type 0} (v w x : View T) (found : List Signed) (t : Ticket A B g) (duty : Option Duty) (c d : Cache A B g)
      → Turned v w found (entry.Finish v.number ∷ []) → ticket_of v.number (state_at found).tickets ≡ Some t.serial → c.ticket ≡ Some t
      → (d.ticket ≡ None) ⊎ (d ≡ c) → IfSome duty (λ one. d.ticket ≡ None) → (duty ≡ None → x.seen ≡ w.seen)
      → IfSome d.ticket (λ (kept : Ticket A B g). has_number kept.serial (state_at x.seen).retired ≡ false)
  let-go-unretired v w x found t (Some one) c d turned has had kept due quiet = none-if (λ (kept : Ticket A B g). has_number kept.serial (state_at x.seen).retired ≡ false) d.ticket due
  let-go-unretired v w x found t None c d turned has had (inl none) due quiet = none-if (λ (kept : Ticket A B g). has_number kept.serial (state_at x.seen).retired ≡ false) d.ticket none
  let-go-unretired v w x found t None c d turned has had (inr same) due quiet =
      some-if (λ (kept : Ticket A B g). has_number kept.serial (state_at x.seen).retired ≡ false) d.ticket t (ap (λ (y : Cache A B g). y.ticket) same ∙ had)
      (ap (λ (l : List Signed). has_number t.serial (state_at l).retired) (quiet refl) ∙ unretired-ended v w t.serial found turned has)
