use Rattle.std.proofs.Common.{rules}
use Rattle.cd_outside.specs.Devices.{device}
use Rattle.cd_outside.proofs.Said.{said-so, says-so}
use Rattle.cd_outside.proofs.saying.say.Goals as goal

pub returns-clause-said : goal.returns-clause-said
returns-clause-said g c =
    let part = c.write.ensures.bytes in
    said-so c.write.result c.args.line.now c.as_bytes.result.now part.0 (device g.O.Sink.holds g.O.Sink.faults c.args.out.now c.write.new.self) (search rules) part.1 part.2 c.write.ensures.cause.rose

pub returns-clause-says : goal.returns-clause-says
returns-clause-says g c =
    let part = c.write.ensures.bytes in
    says-so c.write.result c.args.line.now (device g.O.Sink.holds g.O.Sink.faults c.args.out.now c.write.new.self)
    (said-so c.write.result c.args.line.now c.as_bytes.result.now part.0 (device g.O.Sink.holds g.O.Sink.faults c.args.out.now c.write.new.self) (search rules) part.1 part.2 c.write.ensures.cause.rose)
