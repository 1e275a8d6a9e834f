use Rattle.std.proofs.Common.{rules, ◌≡◌, true, false, [], refl, sym, ap, ◌∙◌, subst, arith}
use Rattle.cd_legal.specs.declared.entry.Entry.TheVariants.{Halt}
use Rattle.cd_legal.specs.Laws.{core_at}
use Rattle.cd_legal.specs.Legal.{state_at}
use Rattle.cd_gate.specs.declared.view.View.{View}
use Rattle.cd_gate.specs.Passes.{view}
use Rattle.cd_gate_cases.specs.declared.board.Board.{Board}
use Rattle.cd_gate_cases.specs.declared.board.Board.TheVariants.{Halted}
use Rattle.cd_gate_cases.specs.Boards.{state_on, StandsFor}
use Rattle.cd_gate_cases.specs.Passes.{begins}
use Rattle.cd_fixed.proofs.Halted.{halted-after}
use Rattle.cd_gate_cases.proofs.Turns.{left, halted_is, serial_is, serial_zero, stands_halted, begins-same}
use Rattle.cd_gate_cases.proofs.halting.halt_once.Goals as goal

pub returns-then-is_halted-clause-halted : goal.returns-then-is_halted-clause-halted
returns-then-is_halted-clause-halted g c =
    let b = c.enter-turn.result.value in
    let w = view c.enter-turn.new.pass in
    let f = c.enter-turn.ensures.seen in
    let now : StandsFor b (core_at w.seen) = ap (λ (z : View Board). state_at (core_at z.seen)) f.1 ∙ f.2.board in
    let had : (state_on b).halted ≡ true = search rules in
    ap (λ (z : View Board). (state_at z.seen).halted) c.leave.ensures.seen ∙ (halted_is b w.seen now ∙ had)

pub halt_step-begins-requires-clause-current : goal.halt_step-begins-requires-clause-current
halt_step-begins-requires-clause-current g c =
    let b = c.enter-turn.result.value in
    let w = view c.enter-turn.new.pass in
    let f = c.enter-turn.ensures.seen in
    let now : StandsFor b (core_at w.seen) = ap (λ (z : View Board). state_at (core_at z.seen)) f.1 ∙ f.2.board in
    let runs : (state_on b).halted ≡ false = search rules in
    (sym (serial_is b w.seen now ∙ serial_zero b runs), omega arith)

pub halt_step-begins-requires-clause-runs : goal.halt_step-begins-requires-clause-runs
halt_step-begins-requires-clause-runs g c =
    let b = c.enter-turn.result.value in
    let w = view c.enter-turn.new.pass in
    let f = c.enter-turn.ensures.seen in
    let now : StandsFor b (core_at w.seen) = ap (λ (z : View Board). state_at (core_at z.seen)) f.1 ∙ f.2.board in
    let runs : (state_on b).halted ≡ false = search rules in
    halted_is b w.seen now ∙ runs

pub leave-requires-2-clause-board : goal.leave-requires-2-clause-board
leave-requires-2-clause-board g c =
    let b = c.enter-turn.result.value in
    let w = view c.enter-turn.new.pass in
    let f = c.enter-turn.ensures.seen in
    let h = c.halt_step-begins.ensures.halts in
    let t = c.settle_step-due.ensures.settles in
    let runs : (state_on b).halted ≡ false = search rules in
    let found : StandsFor b (core_at h.0) = ap state_at h.1.core_is ∙ (ap (λ (z : View Board). state_at (core_at z.seen)) f.1 ∙ f.2.board) in
    let now : StandsFor Halted (core_at (view c.settle_step-due.new.pass).seen) =
    ap (λ (z : View Board). state_at (core_at z.seen)) t.3 ∙ (ap (λ (z : View Board). state_at (core_at z.seen)) h.3 ∙ stands_halted b h.0 w.number runs found) in
    let same : c.settle_step-due.new.turn.value ≡ Halted = ap (λ x. x.value) c.settle_step-due.ensures.same in
    subst (λ (x : Board). StandsFor x (core_at (view c.settle_step-due.new.pass).seen)) (sym same) now

pub leave-requires-2-clause-left : goal.leave-requires-2-clause-left
leave-requires-2-clause-left g c = left c.settle_step-due.new.turn.value (view c.settle_step-due.new.pass).seen (leave-requires-2-clause-board g c)

pub returns-clause-begun : goal.returns-clause-begun
returns-clause-begun g c =
    let w = view c.enter-turn.new.pass in
    let f = c.enter-turn.ensures.seen in
    let h = c.halt_step-begins.ensures.halts in
    let t = c.settle_step-due.ensures.settles in
    ap (λ (z : View Board). begins z.mine) c.leave-2.ensures.seen
    ∙ (ap (λ (z : View Board). begins z.mine) t.3
    ∙ (ap (λ (z : View Board). begins z.mine) h.3 ∙ (begins-same w.mine w.number (Halt 1) refl ∙ ap (λ (z : View Board). begins z.mine) f.1)))

pub returns-clause-halted : goal.returns-clause-halted
returns-clause-halted g c =
    let h = c.halt_step-begins.ensures.halts in
    ap (λ (z : View Board). (state_at z.seen).halted) c.leave-2.ensures.seen
    ∙ (ap (λ (z : View Board). (state_at z.seen).halted) c.settle_step-due.ensures.settles.3
    ∙ (ap (λ (z : View Board). (state_at z.seen).halted) h.3 ∙ halted-after h.0 (view c.enter-turn.new.pass).number 1 []))
