use Rattle.std.proofs.Common.{◌∙◌, [], refl}
use Rattle.cd_gate.specs.Passes.{view}
use Rattle.cd_serve.proofs.Haltings.{has-duty, halts-with, halts-without, draft-halting, draft-retiring}
use Rattle.cd_serve.proofs.Works.{works-turned}
use Rattle.cd_serve.proofs.halting.halt_host.Goals as goal

pub retire-requires-clause-duty : goal.retire-requires-clause-duty
retire-requires-clause-duty g c κs within = has-duty (view c.args.pass.now) (view c.halt.new.pass) c.in-Ok.duty c.in-Some.duty c.in-Some.is c.requires.duties c.in-Ok.ensures.spreads

pub returns-in-Some-clause-halts : goal.returns-in-Some-clause-halts
returns-in-Some-clause-halts g c said =
    halts-with (view c.args.pass.now) (view c.halt.new.pass) (view c.retire.new.pass) c.in-Ok.duty c.in-Some.duty c.in-Some.is c.requires.duties c.in-Ok.ensures.spreads c.retire.ensures.spreads c.retire.ensures.duties

pub returns-in-Some-clause-draft : goal.returns-in-Some-clause-draft
returns-in-Some-clause-draft g c =
    let h = c.in-Ok.ensures.spreads in
    draft-retiring (view c.halt.new.pass) (view c.retire.new.pass) c.in-Some.duty.serial c.retire.ensures.spreads ∙ draft-halting (view c.args.pass.now) (view c.halt.new.pass) h.0 h.1

pub returns-in-None-clause-halts : goal.returns-in-None-clause-halts
returns-in-None-clause-halts g c said = halts-without (view c.args.pass.now) (view c.halt.new.pass) c.in-Ok.duty c.in-None.is c.in-Ok.ensures.spreads

pub returns-in-None-clause-draft : goal.returns-in-None-clause-draft
returns-in-None-clause-draft g c = let h = c.in-Ok.ensures.spreads in draft-halting (view c.args.pass.now) (view c.halt.new.pass) h.0 h.1

pub returns-in-Err-clause-halted : goal.returns-in-Err-clause-halted
returns-in-Err-clause-halted g c said =
    let e = c.in-Err.ensures.err in
    (works-turned (view c.args.pass.now) (view c.halt.new.pass) e.0.0 [] e.0.1 refl e.2, e.1)
