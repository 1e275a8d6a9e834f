-- All passes are one row, of which the first is the program's own, and close the hall.
use Rattle.std.proofs.Common.{◌≡◌, inl, inr, ℕ, suc, ◌+◌, Bool, true, false, List, [], ◌∷◌, length, Option, refl, ap, sym, ◌∙◌, subst, arith, ⊎_elim}
use mathlib.Core.List.{IsPrefix}
use mathlib.Core.Option.{some, some-injective}
use lib.ListN.{get_elem?}
use Rattle.cd_legal.specs.declared.entry.Signed.{Signed}
use Rattle.cd_legal.specs.Entry.{mine}
use Rattle.cd_legal.specs.Legal.{state_at}
use Rattle.cd_legal.specs.Owing.{Owes}
use Rattle.cd_legal.specs.Placed.{Placed}
use Rattle.cd_gate.specs.declared.pass.Pass.{Pass}
use Rattle.cd_gate.specs.declared.view.View.{View}
use Rattle.cd_gate.specs.Ends.{IsRowOf, IsFree, AreFree}
use Rattle.cd_gate.specs.Growing.{Places}
use Rattle.cd_gate.specs.Passes.{view}
use Rattle.cd_gate.specs.Words.{owed}
use Rattle.cd_life.specs.declared.board.Board.{Board}
use Rattle.cd_hall.specs.declared.hall.Hall.{Hall}
use Rattle.cd_hall.specs.Calls.{IsPassOf}
use Rattle.cd_hall.specs.Ends.{IsHalted, EndsAs}
use Rattle.cd_serve.specs.Attempts.{Works}
use Rattle.cd_serve.specs.Changes.{IsHalting as HasHaltedBy}
use Rattle.cd_host.specs.Hosting.{IsClosed}
use Rattle.cd_host.specs.OwnPass.{HasHalted}
use Rattle.cd_host.specs.Seats.{AllFrom, IsIdleAt}
use Rattle.cd_host.proofs.Halts.{halted-shows}
use Rattle.cd_host.proofs.Rows.{all-of-row, row-of-all}

module _ {T : Type 0} where
  -- the halt, by whether this call has halted
  pub has-halted : (v w : View T) (b : Bool) → (b ≡ true → (work : List Placed) × Works v w work × HasHaltedBy work) → (b ≡ false → Works v w [] × ((state_at w.seen).halted ≡ true)) → HasHalted v w
  has-halted v w true halts found = let h = halts refl in inl (h.0, h.1.places, h.2)
  has-halted v w false halts found = let h = found refl in inr (h.0.places, h.1)

  -- its ticket and its duties stay
  pub has-worked : (v w : View T) (b : Bool) → (b ≡ true → (work : List Placed) × Works v w work × HasHaltedBy work) → (b ≡ false → Works v w [] × ((state_at w.seen).halted ≡ true))
      → (w.ticket ≡ v.ticket) × (w.duties ≡ v.duties)
  has-worked v w true halts found = let h = halts refl in (h.1.ticket, h.1.duties)
  has-worked v w false halts found = let h = found refl in (h.0.ticket, h.0.duties)

  -- so it owes what it owed
  pub owes-kept : (v w : View T) → w.ticket ≡ v.ticket → w.draft ≡ v.draft → owed w ≡ owed v
  owes-kept v w ticket draft = ap (owing w.draft) ticket ∙ ap (λ (d : Option ℕ). owing d v.ticket) draft
    where
      owing : Option ℕ → Option ℕ → Owes
      owing d t = record { ticket = t; draft = d }

  -- and its number, and what it knows of the others
  places-same : (v w : View T) (work : List Placed) → Places v w work → (w.number ≡ v.number) × (w.made ≡ v.made) × (w.joined ≡ v.joined)
  places-same v w work p = (p.number, ap (λ (u : View T). u.made) p.same, ap (λ (u : View T). u.joined) p.same)

  halted-same : (v w : View T) → HasHalted v w → (w.number ≡ v.number) × (w.made ≡ v.made) × (w.joined ≡ v.joined)
  halted-same v w h = ⊎_elim (λ own. places-same v w own.0 own.1) (λ other. places-same v w [] other.0) h

-- ---- all passes

-- a pass that has halted, and the others
module _ {A F B : Type 0} {g : _} (h : Hall A F B g) (root : View (Board A F B g)) (p : Pass (Board A F B g)) (passes : List (Pass (Board A F B g))) where
  abbrev P : Type 0
  P = Pass (Board A F B g)

  -- what is known of them
  pub record AreAll : Type 0 where
    pub number : root.number ≡ 0
    pub made : root.made ≡ length passes + 1
    pub joined : root.joined ≡ []
    pub idle : AllFrom (IsIdleAt h) 1 passes
    pub halts : HasHalted root (view p)
    pub is : IsPassOf h p
    pub free : IsFree p

  module _ (a : AreAll) where
    idle-all : (i : ℕ) (q : P) → get_elem? (p ∷ passes) i ≡ some q → IsIdleAt h i q
    idle-all i q at =
        subst (λ (n : ℕ). IsIdleAt h n q) (omega arith)
        (row-of-all (IsIdleAt h) 0 (p ∷ passes) (record { is = a.is; number = (halted-same root (view p) a.halts).0 ∙ a.number; free = a.free }, a.idle) i q at)

    root-is : (q : P) → p ≡ q → ((view q).made ≡ length (p ∷ passes)) × ((view q).joined ≡ [])
    root-is q is =
        let same = halted-same root (view p) a.halts in
        let made : (view p).made ≡ length (p ∷ passes) = let more : length passes + 1 ≡ length (p ∷ passes) = omega arith in same.1 ∙ a.made ∙ more in
        subst (λ (q : P). ((view q).made ≡ length (p ∷ passes)) × ((view q).joined ≡ [])) is (made, same.2 ∙ a.joined)

    row-is : IsRowOf h.gate (p ∷ passes)
    row-is = record {
      some_pass = omega arith;
      each = λ i q at. let one = idle-all i q at in (one.is.idle, one.number);
      root = λ q at. root-is q (some-injective p q at);
    }

    free-are : AreFree (p ∷ passes)
    free-are = record { each = λ i q at. (idle-all i q at).free }

    halted-is : IsHalted (p ∷ passes)
    halted-is = (0, p, refl, halted-shows root (view p) a.halts)

    closed-is : (log : List Signed) → EndsAs (p ∷ passes) log → IsClosed root passes log
    closed-is log e =
        let own = e.each 0 p refl in
        record {
          end = view p;
          halts = a.halts;
          history = e.history;
          seen = own.0;
          own = own.1;
          each = all-of-row (λ k q. IsPrefix (view q).seen log × (mine k log ≡ (view q).mine)) 1 passes
              (λ i q at. subst (λ (n : ℕ). IsPrefix (view q).seen log × (mine n log ≡ (view q).mine)) (omega arith) (e.each (suc i) q at));
          others = λ k past. e.others k (omega (arith, past));
          over = e.over;
          whole = e.whole;
        }

    -- the row of all of them
    module _ (all : List P) (is : all ≡ p ∷ passes) where
      pub are-row : IsRowOf h.gate all
      are-row = subst (λ (l : List P). IsRowOf h.gate l) (sym is) row-is

      pub are-free : AreFree all
      are-free = subst (λ (l : List P). AreFree l) (sym is) free-are

      pub are-halted : IsHalted all
      are-halted = subst (λ (l : List P). IsHalted l) (sym is) halted-is

      pub is-closed : (log : List Signed) → EndsAs all log → IsClosed root passes log
      is-closed log e = closed-is log (subst (λ (l : List P). EndsAs l log) is e)
