-- A turn that was taken, or in which an entry was added.
use Rattle.std.proofs.Common.{◌≡◌, ◌≤◌, ℕ, true, false, List, [], ◌∷◌, ◌++◌, sym, ap, subst, ◌∙◌}
use Rattle.cd_legal.specs.declared.entry.Entry.{Entry}
use Rattle.cd_legal.specs.declared.entry.Signed.{Signed}
use Rattle.cd_legal.specs.declared.limits.TheConstants.{LAST_SERIAL}
use Rattle.cd_legal.specs.Entry.{signed}
use Rattle.cd_legal.specs.Laws.{core_at}
use Rattle.cd_legal.specs.Legal.{state_at}
use Rattle.cd_legal.specs.Signing.{IsHistory}
use Rattle.cd_legal.proofs.Cores.{is_apart}
use Rattle.cd_legal.proofs.Histories.{first}
use Rattle.cd_gate.specs.declared.gate.Gate.{Gate}
use Rattle.cd_gate.specs.declared.pass.Pass.{Pass}
use Rattle.cd_gate.specs.declared.pass.Turn.{Turn}
use Rattle.cd_gate.specs.declared.view.View.{View}
use Rattle.cd_gate.specs.Counts.{is_noted}
use Rattle.cd_gate.specs.Knowing.{Knows}
use Rattle.cd_gate.specs.Passes.{view, HasTurnOf, opening_of}
use Rattle.cd_gate.specs.Steps.{may_note, with_turn, noted, superseded}
use Rattle.cd_gate.specs.Tables.{FoundInTurn, Finds}
use Rattle.cd_gate.proofs.Cored.{noted_core, one_more}
use Rattle.cd_gate.proofs.InTurn.{finds, knows_noted}
use Rattle.cd_hall.specs.Since.{Since}
use Rattle.cd_hall.specs.Turns.{InTurn}
use Rattle.cd_hall.proofs.Goes.{apart_core, knows_superseded}
use Rattle.cd_hall.proofs.Since.{entered}

module _ {T : Type 0} where
  -- what was seen is the history that was found
  pub seen_is : (v w : View T) (log : List Signed) → w ≡ with_turn v log → w ≡ with_turn v w.seen
  seen_is v w log is = is ∙ ap (λ (l : List Signed). with_turn v l) (sym (ap (λ (z : View T). z.seen) is))

  pub in_turn : (stands : T → T → List Signed → Type 0) (g : Gate T) (t : Turn T) (p : Pass T) (v : View T) (log : List Signed) → HasTurnOf g p → view p ≡ with_turn v log → Finds stands (opening_of g) v log t.value → InTurn stands g t p
  in_turn stands g t p v log turn is f = record {
    turn = turn;
    knows = subst (λ (z : View T). Knows z) (sym is) (finds stands (opening_of g) t.value v log f);
    board = subst (λ (l : List Signed). stands (opening_of g) t.value (core_at l)) (sym (ap (λ (z : View T). z.seen) is)) f.board;
  }

  pub since_taken : (stands : T → T → List Signed → Type 0) (o b : T) (v w : View T) (log : List Signed) → w ≡ with_turn v log → Finds stands o v log b → Since v w w.seen []
  since_taken stands o b v w log is f = subst (λ (l : List Signed). Since v w l []) (sym (ap (λ (z : View T). z.seen) is)) (entered v w log f.found is)

  pub room_is : (v w : View T) (log : List Signed) → w ≡ with_turn v log → ((state_at log).halted ≡ false → (state_at log).serial ≤ LAST_SERIAL) → (state_at w.seen).halted ≡ false → (state_at w.seen).serial ≤ LAST_SERIAL
  room_is v w log is room = subst (λ (l : List Signed). (state_at l).halted ≡ false → (state_at l).serial ≤ LAST_SERIAL) (sym (ap (λ (z : View T). z.seen) is)) room

  -- an entry was added, and the board, on which it was made, stands for all that is seen then but for requests
  pub added : (stands : T → T → List Signed → Type 0) (g : Gate T) (t u : Turn T) (p q : Pass T) (e : Entry) (log : List Signed) → Knows (view p) → may_note (view p) e ≡ true → stands (opening_of g) t.value (core_at (view p).seen ++ signed (view p).number e ∷ [])
      → HasTurnOf g q → FoundInTurn (view p) log → IsHistory (log ++ signed (view p).number e ∷ []) → view q ≡ noted (view p) log e → u ≡ t → InTurn stands g u q
  added stands g t u p q e log knows may board turn f now is same =
      let x : Signed = signed (view p).number e in
      let core : core_at (view q).seen ≡ core_at (view p).seen ++ x ∷ [] =
      ap (λ (z : View T). core_at z.seen) is ∙ (one_more log x (noted_core e (first (is_noted e) _ may)) ∙ ap (λ (l : List Signed). l ++ x ∷ []) f.core_is) in
      record {
        turn = turn;
        knows = subst (λ (z : View T). Knows z) (sym is) (knows_noted (view p) log e f now knows);
        board = subst (λ (b : T). stands (opening_of g) b (core_at (view q).seen)) (sym (ap (λ (z : Turn T). z.value) same))
            (subst (λ (l : List Signed). stands (opening_of g) t.value l) (sym core) board);
      }

  -- the pass has superseded a serial by the entry, which is then made on the board
  pub superseded_turn : (stands : T → T → List Signed → Type 0) (g : Gate T) (u : Turn T) (p q : Pass T) (log : List Signed) (e : Entry) (n begins : ℕ) → Knows (view p) → FoundInTurn (view p) log → IsHistory (log ++ signed (view p).number e ∷ []) → is_apart e ≡ true
      → HasTurnOf g q → view q ≡ superseded (view p) log e n begins → stands (opening_of g) u.value (core_at (view p).seen ++ signed (view p).number e ∷ []) → InTurn stands g u q
  superseded_turn stands g u p q log e n begins knows f now apart turn is board =
      let x : Signed = signed (view p).number e in
      let core : core_at (view q).seen ≡ core_at (view p).seen ++ x ∷ [] =
      ap (λ (z : View T). core_at z.seen) is ∙ (one_more log x (apart_core e apart) ∙ ap (λ (l : List Signed). l ++ x ∷ []) f.core_is) in
      record {
        turn = turn;
        knows = knows_superseded (view p) (view q) log e n begins knows f now apart is;
        board = subst (λ (l : List Signed). stands (opening_of g) u.value l) (sym core) board;
      }
