use Rattle.std.proofs.Common.{rules, ◌≡◌, ◌+◌, true, false, [], ◌∷◌, ◌++◌, List, sym, ap, ◌∙◌}
use Rattle.cd_legal.specs.declared.entry.Entry.TheVariants.{Begin}
use Rattle.cd_legal.specs.declared.entry.Signed.{Signed}
use Rattle.cd_legal.specs.Entry.{signed}
use Rattle.cd_legal.specs.Laws.{core_at}
use Rattle.cd_legal.specs.Legal.{state_at}
use Rattle.cd_gate.specs.declared.view.View.{View}
use Rattle.cd_gate.specs.Passes.{view}
use Rattle.cd_gate_cases.specs.declared.board.Board.{Board}
use Rattle.cd_gate_cases.specs.Boards.{StandsFor}
use Rattle.cd_gate_cases.specs.Passes.{begins}
use Rattle.cd_gate_cases.proofs.Turns.{stands_now, stands_begun, left, halted_is, begins-snoc, seen_on, seen_more, at_serial, serial_begun}
use Rattle.cd_gate_cases.proofs.requests.begin.Goals as goal

pub leave-requires-clause-left : goal.leave-requires-clause-left
leave-requires-clause-left g c =
    let b = c.enter-turn.result.value in
    let v = view c.enter-turn.new.pass in
    let f = c.enter-turn.ensures.seen in
    let worn : c.check.result ≡ false = search rules in
    let t = c.check.ensures.worn worn in
    let found : StandsFor b (core_at v.seen) = ap (λ (z : View Board). state_at (core_at z.seen)) f.1 ∙ f.2.board in
    let now : StandsFor b (core_at (view c.check.new.pass).seen) =
    ap (λ (z : View Board). state_at (core_at z.seen)) t.3 ∙ stands_now b v t.0 t.1 (ap (λ (z : View Board). z.turn) f.1) found in
    left b (view c.check.new.pass).seen now

pub returns-then-not-check-clause-halted : goal.returns-then-not-check-clause-halted
returns-then-not-check-clause-halted g c =
    let u = view c.args.pass.now in
    let v = view c.enter-turn.new.pass in
    let f = c.enter-turn.ensures.seen in
    let worn : c.check.result ≡ false = search rules in
    let t = c.check.ensures.worn worn in
    λ had. seen_on v (view c.leave.new.pass) t.0 t.1.seen (ap (λ (z : View Board). z.seen) c.leave.ensures.seen ∙ ap (λ (z : View Board). z.seen) t.3)
    (seen_on u v f.0 f.2.found.seen (ap (λ (z : View Board). z.seen) f.1) had)

pub leave-requires-2-clause-board : goal.leave-requires-2-clause-board
leave-requires-2-clause-board g c =
    let w = view c.check.new.pass in
    let f = c.enter-turn.ensures.seen in
    let room : c.check.result ≡ true = search rules in
    let t = c.check.ensures.room room in
    let e = c.begin_step-serial.ensures.begins in
    let turn : (view c.enter-turn.new.pass).turn ≡ true = ap (λ (z : View Board). z.turn) f.1 in
    ap (λ (z : View Board). state_at (core_at z.seen)) e.1.is
    ∙ stands_begun c.enter-turn.result.value (view c.enter-turn.new.pass) w t.0 e.0 c.begin_step-serial.result (ap (λ (z : View Board). state_at (core_at z.seen)) f.1 ∙ f.2.board) turn t.1 (ap (λ (z : View Board). z.seen) t.3) (ap (λ (z : View Board). z.turn) t.3 ∙ turn) e.1.found

pub leave-requires-2-clause-left : goal.leave-requires-2-clause-left
leave-requires-2-clause-left g c = left c.enter-turn.result.value (view c.begin_step-serial.new.pass).seen (leave-requires-2-clause-board g c)

pub returns-clause-seen : goal.returns-clause-seen
returns-clause-seen g c =
    let b = c.enter-turn.result.value in
    let v = view c.enter-turn.new.pass in
    let w = view c.check.new.pass in
    let y = view c.leave-2.new.pass in
    let n = c.begin_step-serial.result in
    let f = c.enter-turn.ensures.seen in
    let room : c.check.result ≡ true = search rules in
    let t = c.check.ensures.room room in
    let e = c.begin_step-serial.ensures.begins in
    let turn : v.turn ≡ true = ap (λ (z : View Board). z.turn) f.1 in
    let now = stands_begun b v w t.0 e.0 n (ap (λ (z : View Board). state_at (core_at z.seen)) f.1 ∙ f.2.board) turn t.1 (ap (λ (z : View Board). z.seen) t.3) (ap (λ (z : View Board). z.turn) t.3 ∙ turn) e.1.found in
    let log : List Signed = e.0 ++ signed w.number (Begin w.number n) ∷ [] in
    let seen : y.seen ≡ log = ap (λ (z : View Board). z.seen) c.leave-2.ensures.seen ∙ ap (λ (z : View Board). z.seen) e.1.is in
    at_serial c.is_halted-halted.result (state_at y.seen).halted n (state_at y.seen).serial
    (c.is_halted-halted.ensures ∙ (sym (halted_is b log now) ∙ ap (λ (l : List Signed). (state_at l).halted) (sym seen)))
    (e.1.current ∙ (sym (serial_begun e.0 w.number n) ∙ ap (λ (l : List Signed). (state_at l).serial) (sym seen)))

pub returns-clause-begun : goal.returns-clause-begun
returns-clause-begun g c =
    let w = view c.check.new.pass in
    let f = c.enter-turn.ensures.seen in
    let room : c.check.result ≡ true = search rules in
    let t = c.check.ensures.room room in
    let e = c.begin_step-serial.ensures.begins in
    ap (λ (z : View Board). begins z.mine) c.leave-2.ensures.seen
    ∙ (ap (λ (z : View Board). begins z.mine) e.1.is
    ∙ (begins-snoc w.mine w.number (Begin w.number c.begin_step-serial.result)
    ∙ (ap (λ (z : View Board). begins z.mine + 1) t.3 ∙ ap (λ (z : View Board). begins z.mine + 1) f.1)))

pub returns-clause-halted : goal.returns-clause-halted
returns-clause-halted g c =
    let u = view c.args.pass.now in
    let v = view c.enter-turn.new.pass in
    let w = view c.check.new.pass in
    let f = c.enter-turn.ensures.seen in
    let room : c.check.result ≡ true = search rules in
    let t = c.check.ensures.room room in
    let e = c.begin_step-serial.ensures.begins in
    λ had. seen_more w (view c.leave-2.new.pass) e.0 (signed w.number (Begin w.number c.begin_step-serial.result) ∷ []) e.1.found.seen
    (ap (λ (z : View Board). z.seen) c.leave-2.ensures.seen ∙ ap (λ (z : View Board). z.seen) e.1.is)
    (seen_on v w t.0 t.1.seen (ap (λ (z : View Board). z.seen) t.3) (seen_on u v f.0 f.2.found.seen (ap (λ (z : View Board). z.seen) f.1) had))
