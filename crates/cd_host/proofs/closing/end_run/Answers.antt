use Rattle.cd_gate.specs.Passes.{view}
use Rattle.cd_host.proofs.Closed.{are-row, are-free, are-halted, is-closed}
use Rattle.cd_host.proofs.closing.end_run.Goals as goal

pub close-requires-clause-row : goal.close-requires-clause-row
close-requires-clause-row g c κs within =
    are-row c.args.hall (view c.args.root) c.halt_last.new.root c.args.passes.items
    record { number = c.requires.number; made = c.requires.made; joined = c.requires.joined; idle = c.requires.idle; halts = c.halt_last.ensures.halts; is = c.halt_last.ensures.root; free = c.halt_last.ensures.free }
    c.in_front.result.items c.in_front.ensures

pub close-requires-clause-free : goal.close-requires-clause-free
close-requires-clause-free g c κs within =
    are-free c.args.hall (view c.args.root) c.halt_last.new.root c.args.passes.items
    record { number = c.requires.number; made = c.requires.made; joined = c.requires.joined; idle = c.requires.idle; halts = c.halt_last.ensures.halts; is = c.halt_last.ensures.root; free = c.halt_last.ensures.free }
    c.in_front.result.items c.in_front.ensures

pub close-requires-clause-halted : goal.close-requires-clause-halted
close-requires-clause-halted g c κs within =
    are-halted c.args.hall (view c.args.root) c.halt_last.new.root c.args.passes.items
    record { number = c.requires.number; made = c.requires.made; joined = c.requires.joined; idle = c.requires.idle; halts = c.halt_last.ensures.halts; is = c.halt_last.ensures.root; free = c.halt_last.ensures.free }
    c.in_front.result.items c.in_front.ensures

pub returns : goal.returns
returns g c =
    let e = c.close.ensures in
    let closed = is-closed c.args.hall (view c.args.root) c.halt_last.new.root c.args.passes.items
    record { number = c.requires.number; made = c.requires.made; joined = c.requires.joined; idle = c.requires.idle; halts = c.halt_last.ensures.halts; is = c.halt_last.ensures.root; free = c.halt_last.ensures.free }
    c.in_front.result.items c.in_front.ensures e.0 e.1 in
    (e.0, closed, e.2, e.3, e.4, e.5, e.6)
