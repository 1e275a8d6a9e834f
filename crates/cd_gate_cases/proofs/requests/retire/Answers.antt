use Rattle.std.proofs.Common.{◌≡◌, Bool, true, false, List, ℕ, [], ◌∷◌, refl, sym, ap, ◌∙◌, subst, eq-eqb}
use Rattle.std.specs.Prelude.{◌||◌}
use Rattle.cd_legal.specs.declared.entry.Entry.TheVariants.{Retire}
use Rattle.cd_legal.specs.Entry.{signed}
use Rattle.cd_legal.specs.Laws.{core_at}
use Rattle.cd_legal.specs.Legal.{state_at}
use Rattle.cd_legal.specs.State.{has_number}
use Rattle.cd_gate.specs.declared.view.View.{View}
use Rattle.cd_gate.specs.Passes.{view}
use Rattle.cd_gate_cases.specs.declared.board.Board.{Board}
use Rattle.cd_gate_cases.specs.declared.board.Board.TheVariants.{Retired}
use Rattle.cd_gate_cases.specs.Boards.{StandsFor}
use Rattle.cd_gate_cases.specs.Passes.{begins}
use Rattle.cd_gate_cases.proofs.Turns.{left, retires_opening, stands_retired, begins-same, seen_on, seen_more}
use Rattle.cd_gate_cases.proofs.requests.retire.Goals as goal

pub leave-requires-clause-board : goal.leave-requires-clause-board
leave-requires-clause-board g c =
    let v = view c.args.pass.now in
    let w = view c.enter-turn.new.pass in
    let b = c.enter-turn.result.value in
    let n = c.args.serial in
    let f = c.enter-turn.ensures.seen in
    let t = c.note.ensures.noted in
    let duty : has_number n v.duties ≡ true = ap (λ (ds : List ℕ). has_number n ds) c.requires.duties ∙ ap (λ (a : Bool). a || false) (eq-eqb n n refl) in
    let is = retires_opening b f.0 n f.2.board (f.2.duties n duty) in
    let found : StandsFor b (core_at t.0) = ap state_at t.1.core_is ∙ (ap (λ (z : View Board). state_at (core_at z.seen)) f.1 ∙ f.2.board) in
    let now : StandsFor Retired (core_at (view c.note.new.pass).seen) = ap (λ (z : View Board). state_at (core_at z.seen)) t.2 ∙ stands_retired b t.0 w.number n is.0 is.1 found in
    let same : c.note.new.turn.value ≡ Retired = ap (λ x. x.value) c.note.ensures.same in
    subst (λ (x : Board). StandsFor x (core_at (view c.note.new.pass).seen)) (sym same) now

pub leave-requires-clause-left : goal.leave-requires-clause-left
leave-requires-clause-left g c = left c.note.new.turn.value (view c.note.new.pass).seen (leave-requires-clause-board g c)

pub returns-clause-begun : goal.returns-clause-begun
returns-clause-begun g c =
    let w = view c.enter-turn.new.pass in
    let f = c.enter-turn.ensures.seen in
    let t = c.note.ensures.noted in
    ap (λ (z : View Board). begins z.mine) c.leave.ensures.seen
    ∙ (ap (λ (z : View Board). begins z.mine) t.2 ∙ (begins-same w.mine w.number (Retire c.args.serial) refl ∙ ap (λ (z : View Board). begins z.mine) f.1))

pub returns-clause-halted : goal.returns-clause-halted
returns-clause-halted g c =
    let v = view c.args.pass.now in
    let w = view c.enter-turn.new.pass in
    let f = c.enter-turn.ensures.seen in
    let t = c.note.ensures.noted in
    λ had. seen_more w (view c.leave.new.pass) t.0 (signed w.number (Retire c.args.serial) ∷ []) t.1.found.seen
    (ap (λ (z : View Board). z.seen) c.leave.ensures.seen ∙ ap (λ (z : View Board). z.seen) t.2)
    (seen_on v w f.0 f.2.found.seen (ap (λ (z : View Board). z.seen) f.1) had)
