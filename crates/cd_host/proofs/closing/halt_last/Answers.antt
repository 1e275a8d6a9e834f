use Rattle.std.proofs.Common.{◌∙◌}
use Rattle.cd_gate.specs.Passes.{view}
use Rattle.cd_host.proofs.Closed.{has-halted, has-worked, owes-kept}
use Rattle.cd_host.proofs.closing.halt_last.Goals as goal

pub returns-clause-halts : goal.returns-clause-halts
returns-clause-halts g c = has-halted (view c.args.root.now) (view c.halt_host.new.pass) c.halt_host.result c.halt_host.ensures.halts c.halt_host.ensures.halted

pub returns-clause-free : goal.returns-clause-free
returns-clause-free g c =
    let kept = has-worked (view c.args.root.now) (view c.halt_host.new.pass) c.halt_host.result c.halt_host.ensures.halts c.halt_host.ensures.halted in
    (owes-kept (view c.args.root.now) (view c.halt_host.new.pass) kept.0 c.halt_host.ensures.draft ∙ c.requires.free.0, kept.1 ∙ c.requires.free.1)
