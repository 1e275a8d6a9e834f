use Rattle.std.proofs.Common.{refl}
use Rattle.cd_program.proofs.Said.{wrote_line}
use Rattle.cd_program.proofs.output.say_line.Goals as goal

pub returns-clause-unfailing : goal.returns-clause-unfailing
returns-clause-unfailing g c =
    let part = c.say.ensures.part in
    wrote_line c.say.result c.args.line.now c.args.line.now part.0 _ (g.O.Sink.holds c.args.out.now) (g.O.Sink.holds c.say.new.out) refl part.1 part.2 (λ failed none. none (c.say.ensures.failed failed))

pub returns-clause-said : goal.returns-clause-said
returns-clause-said g c =
    let part = c.say.ensures.part in
    wrote_line c.say.result c.args.line.now c.args.line.now part.0 _ (g.O.Sink.holds c.args.out.now) (g.O.Sink.holds c.say.new.out) refl part.1 part.2 (λ failed all. cc)
