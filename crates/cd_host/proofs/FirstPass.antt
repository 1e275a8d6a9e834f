-- The program's pass, which is the first of a new hall.
use Rattle.std.proofs.Common.{◌≡◌, ◌+◌, ℕ, suc, List, [], ◌∷◌, length, None, ap, ◌∙◌, arith}
use mathlib.Core.Option.{some}
use lib.ListN.{get_elem?}
use Rattle.cd_legal.specs.declared.entry.Entry.{Entry}
use Rattle.cd_legal.specs.Owing.{Owes}
use Rattle.cd_gate.specs.declared.pass.Pass.{Pass}
use Rattle.cd_gate.specs.declared.view.View.{View}
use Rattle.cd_gate.specs.Ends.{IsRowOf, IsFree, AreNew}
use Rattle.cd_gate.specs.Passes.{view}
use Rattle.cd_life.specs.declared.board.Board.{Board}
use Rattle.cd_hall.specs.declared.hall.Hall.{Hall}
use Rattle.cd_hall.specs.Ends.{ArePassesOf}
use Rattle.cd_host.specs.OwnPass.{HasSigned}
use Rattle.cd_host.specs.Seats.{AllFrom, IsUnused}
use Rattle.cd_host.proofs.Rows.{all-of-row}

module _ {A F B : Type 0} {g : _} (h : Hall A F B g) (passes rest : List (Pass (Board A F B g))) (root : Pass (Board A F B g)) (is : passes ≡ root ∷ rest) where
  at-first : get_elem? passes 0 ≡ some root
  at-first = ap (λ (l : List (Pass (Board A F B g))). get_elem? l 0) is

  at-next : (i : ℕ) (p : Pass (Board A F B g)) → get_elem? rest i ≡ some p → get_elem? passes (suc i) ≡ some p
  at-next i p at = ap (λ (l : List (Pass (Board A F B g))). get_elem? l (suc i)) is ∙ at

  pub root-unused : IsRowOf h.gate passes → AreNew passes → ArePassesOf h passes → IsUnused h 0 root
  root-unused row new are = let fresh = new.each 0 root at-first in record { idle = record { is = are 0 root at-first; number = (row.each 0 root at-first).1; free = fresh.2 }; mine = fresh.1 }

  pub root-new : IsRowOf h.gate passes → AreNew passes → ((view root).seen ≡ []) × ((view root).made ≡ length rest + 1) × ((view root).joined ≡ [])
  root-new row new =
      let knows = row.root root at-first in
      let n = ap length is in ((new.each 0 root at-first).0, knows.0 ∙ omega (arith, n), knows.1)

  pub rest-unused : IsRowOf h.gate passes → AreNew passes → ArePassesOf h passes → AllFrom (IsUnused h) 1 rest
  rest-unused row new are = all-of-row (IsUnused h) 1 rest (λ i p at.
      let there = at-next i p at in
      let fresh = new.each (suc i) p there in
      record { idle = record { is = are (suc i) p there; number = (row.each (suc i) p there).1 ∙ omega arith; free = fresh.2 }; mine = fresh.1 })

-- ---- after the start, and once it was told what the lanes had seen

module _ {T : Type 0} (v w y : View T) (made : List Entry) (s : HasSigned v w made) (same : y ≡ record w { seen = y.seen }) where
  pub number-kept : v.number ≡ 0 → y.number ≡ 0
  number-kept zero = ap (λ (u : View T). u.number) same ∙ s.1.number ∙ zero

  pub made-kept : y.made ≡ v.made
  made-kept = ap (λ (u : View T). u.made) same ∙ ap (λ (u : View T). u.made) s.1.same

  pub joined-kept : y.joined ≡ v.joined
  joined-kept = ap (λ (u : View T). u.joined) same ∙ ap (λ (u : View T). u.joined) s.1.same

pub free-first : {T : Type 0} (p : Pass T) → IsFree p → ((view p).ticket ≡ None) × ((view p).draft ≡ None) × ((view p).duties ≡ [])
free-first p free = (ap (λ (o : Owes). o.ticket) free.0, ap (λ (o : Owes). o.draft) free.0, free.1)
