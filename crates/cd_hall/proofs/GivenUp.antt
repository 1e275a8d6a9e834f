-- A draft that was given up in a turn.
use Rattle.std.proofs.Common.{◌≡◌, ℕ, true, List, [], ◌∷◌, None, sym, ap, subst, ◌∙◌}
use Rattle.cd_legal.specs.declared.entry.Entry.TheVariants.{Abandon}
use Rattle.cd_legal.specs.declared.entry.Signed.{Signed}
use Rattle.cd_legal.specs.Laws.{core_at}
use Rattle.cd_legal.specs.Legal.{state_at}
use Rattle.cd_legal.specs.Runs.{stopped_all, cleaned_all, ended_all}
use Rattle.cd_legal.specs.Whole.{nothing_left}
use Rattle.cd_gate.specs.declared.gate.Gate.{Gate}
use Rattle.cd_gate.specs.declared.pass.Pass.{Pass}
use Rattle.cd_gate.specs.declared.pass.Turn.{Turn}
use Rattle.cd_gate.specs.declared.view.View.{View}
use Rattle.cd_gate.specs.Knowing.{Knows}
use Rattle.cd_gate.specs.Passes.{view, opening_of}
use Rattle.cd_desk.specs.declared.closing.Closing.{Closing}
use Rattle.cd_life.specs.declared.board.Draft.{Draft}
use Rattle.cd_hall.specs.Calls.{StaysCalm}
use Rattle.cd_hall.specs.Drafts.{IsDraftOf, IsLiveAs, held}
use Rattle.cd_hall.specs.GoesOn.{GoesOn}
use Rattle.cd_hall.specs.Turns.{InTurn}
use Rattle.cd_hall.proofs.Drafted.{live_core}
use Rattle.cd_hall.proofs.Goes.{goes_both, goes_as}
use Rattle.cd_hall.proofs.Noted.{abandoned_left, abandoned_duties}

-- the board in hand is the same
pub same_turn : {T : Type 0} (stands : T → T → List Signed → Type 0) (g : Gate T) (t u : Turn T) (p : Pass T) → InTurn stands g t p → u.value ≡ t.value → InTurn stands g u p
same_turn {T} stands g t u p h same = record { turn = h.turn; knows = h.knows; board = subst (λ (b : T). stands (opening_of g) b (core_at (view p).seen)) (sym same) h.board }

-- what is left of it
abbrev pub given_up : ℕ → ℕ → ℕ → Closing
given_up d made started = record { number = d; serial = None; apps = started; instances = made }

-- all that it had was ended
pub gave_up : {T : Type 0} (v a b w : View T) (d made started : ℕ) (c k : Closing) → GoesOn v a (Abandon d ∷ []) → c ≡ given_up d made started → GoesOn a b (stopped_all c.number c.apps) → k ≡ record c { apps = 0 } → GoesOn b w (cleaned_all k.number k.instances)
    → GoesOn v w (Abandon d ∷ ended_all d made started)
gave_up v a b w d made started c k first is stops rest cleans =
    let stopped : GoesOn a b (stopped_all d started) = goes_as a b _ _ (ap (λ (z : Closing). stopped_all z.number z.apps) is) stops in
    let cleaned : GoesOn b w (cleaned_all d made) = goes_as b w _ _ (ap (λ (z : Closing). cleaned_all z.number z.instances) (rest ∙ ap (λ (z : Closing). record z { apps = 0 }) is)) cleans in
    goes_both v a w (Abandon d ∷ []) (ended_all d made started) first (goes_both a b w (stopped_all d started) (cleaned_all d made) stopped cleaned)

pub number_is : (d made started : ℕ) (c : Closing) → c ≡ given_up d made started → c.number ≡ d
number_is d made started c is = ap (λ (z : Closing). z.number) is

-- it was the draft of the pass
pub abandoned_calm : {T A B : Type 0} {k : _} (v w : View T) (d : Draft A B k) → IsDraftOf v d → Knows v → GoesOn v w (Abandon d.left.number ∷ ended_all d.left.number d.left.made d.left.started) → w.unsettled ≡ v.unsettled → nothing_left (state_at v.seen) ≡ true → StaysCalm v w
abandoned_calm v w d has knows g same left =
    let live : IsLiveAs (state_at (core_at v.seen)) (held d) = live_core v.seen (held d) has.live in
    record {
      duties = abandoned_duties v w d.left.number d.left.made d.left.started g;
      unsettled = same;
      left = abandoned_left v w d.left.number d.left.made d.left.started live.drafted knows g live.there live.live (sym live.made) (sym live.started) left;
    }
