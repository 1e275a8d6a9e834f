-- What the rule says together: one view has the turn, and the views have the tickets and the drafts of the history.
use Rattle.std.proofs.Common.{◌≡◌, ◌≢◌, ◌⊎◌, ℕ, ◌<◌, true, List, [], sym, ap, ◌∙◌, ⊎_elim, arith, Some, None}
use mathlib.Core.Option.{some}
use mathlib.Core.Logic.{dite}
use native.Mathlib.Decide.{dec_le}
use lib.ListN.{get_elem?}
use Rattle.cd_legal.specs.declared.entry.Signed.{Signed}
use Rattle.cd_legal.specs.Entry.{mine}
use Rattle.cd_legal.specs.State.{ticket_of}
use Rattle.cd_legal.specs.Legal.{state_at}
use Rattle.cd_legal.specs.Owing.{Owes, owes_of, owes_nothing}
use Rattle.cd_legal.specs.Signing.{is_live_in}
use Rattle.cd_legal.proofs.Owed.{owed-ticket}
use Rattle.cd_legal.proofs.Owing.{owes-none}
use Rattle.cd_legal.proofs.Owners.{live-owned}
use Rattle.cd_gate.specs.declared.view.View.{View}
use Rattle.cd_gate.specs.declared.view.Gone.{Gone}
use Rattle.cd_gate.specs.Words.{Moment}
use Rattle.cd_gate.specs.Rule.{IsKept}

no_owner : (o : Owes) (d : ℕ) → o ≡ owes_nothing → o.draft ≡ Some d → ⊥
no_owner o d is has = absurd (let h : None ≡ Some d = sym (ap (λ (z : Owes). z.draft) is) ∙ has in cc)

module _ {T : Type 0} (stands : T → T → List Signed → Type 0) (opening : T) (log : List Signed) (m : Moment T) (r : IsKept stands opening log m) where
  -- two views that have the turn are one
  pub one_turn : (i j : ℕ) (v w : View T) → get_elem? m.views i ≡ some v → get_elem? m.views j ≡ some w → v.turn ≡ true → w.turn ≡ true → i ≡ j
  one_turn i j v w ev ew has also =
      let a = (r.each i v ev).holds has in let b = (r.each j w ew).holds also in
      r.numbers.apart i j v w ev ew a.0 b.0 (let x = a.1 in let y = b.1 in omega arith)

  -- the ticket of a live view is the open one of its number
  pub same_ticket : (i : ℕ) (v : View T) → get_elem? m.views i ≡ some v → v.live ≡ true → ticket_of v.number (state_at log).tickets ≡ v.ticket
  same_ticket i v at live = sym (owed-ticket log v.number r.history) ∙ ap (λ (o : Owes). o.ticket) ((r.each i v at).owes live)

  -- its draft is live
  pub draft_live : (i : ℕ) (v : View T) (d : ℕ) → get_elem? m.views i ≡ some v → v.live ≡ true → v.draft ≡ Some d → is_live_in (state_at log) d ≡ true
  draft_live i v d at live is = (live-owned log r.history).alive v.number d (ap (λ (o : Owes). o.draft) ((r.each i v at).owes live) ∙ is)

  -- and of no other view
  pub draft_one : (i j d : ℕ) (v w : View T) → get_elem? m.views i ≡ some v → get_elem? m.views j ≡ some w → v.live ≡ true → w.live ≡ true → v.draft ≡ Some d → w.draft ≡ Some d → i ≡ j
  draft_one i j d v w ev ew lv lw is also =
      r.numbers.apart i j v w ev ew lv lw
      ((live-owned log r.history).one v.number w.number d (ap (λ (o : Owes). o.draft) ((r.each i v ev).owes lv) ∙ is) (ap (λ (o : Owes). o.draft) ((r.each j w ew).owes lw) ∙ also))

  abbrev pub InView : ℕ → Type 0
  InView d = (seat : ℕ) × (v : View T) × (get_elem? m.views seat ≡ some v) × (v.live ≡ true) × (v.draft ≡ Some d)

  of_made : (k d : ℕ) → (owes_of k log).draft ≡ Some d → k < r.numbers.root.made → InView d
  of_made k d is low = ⊎_elim
      (λ h. (h.0, h.1, h.2, h.3, sym (ap (λ (o : Owes). o.draft) ((r.each h.0 h.1 h.2).owes h.3)) ∙ (ap (λ (z : ℕ). (owes_of z log).draft) h.4 ∙ is)))
      (λ h. absurd (no_owner (owes_of h.1.number log) d (r.numbers.gone h.0 h.1 h.2).0.owes (ap (λ (z : ℕ). (owes_of z log).draft) h.3 ∙ is)))
      (r.numbers.known k low)

  -- each live draft is in a view
  pub draft_there : (d : ℕ) → is_live_in (state_at log) d ≡ true → InView d
  draft_there d is =
      let k = (live-owned log r.history).owner d is in
      dite (dec_le r.numbers.root.made k.0)
      (λ le. absurd (no_owner (owes_of k.0 log) d (owes-none k.0 log (r.numbers.unmade k.0 le)) k.1))
      (λ more. of_made k.0 d k.1 (omega (arith, more)))

  -- who has signed is known
  pub signer : (k : ℕ) → mine k log ≢ []
      → ((seat : ℕ) × (v : View T) × (get_elem? m.views seat ≡ some v) × (v.live ≡ true) × (v.number ≡ k)) ⊎ ((i : ℕ) × (g : Gone) × (get_elem? r.numbers.root.joined i ≡ some g) × (g.number ≡ k))
  signer k signs = dite (dec_le r.numbers.root.made k)
      (λ le. absurd (signs (r.numbers.unmade k le)))
      (λ more. r.numbers.known k (omega (arith, more)))

  -- a joined pass has no ticket
  pub none_joined : (i : ℕ) (g : Gone) → get_elem? r.numbers.root.joined i ≡ some g → ticket_of g.number (state_at log).tickets ≡ None
  none_joined i g at = sym (owed-ticket log g.number r.history) ∙ ap (λ (o : Owes). o.ticket) (r.numbers.gone i g at).0.owes
