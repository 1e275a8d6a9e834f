use Rattle.std.proofs.Common.{arith}
use Rattle.cd_addr.proofs.Ports.{taken, too_large, zero_port}
use Rattle.cd_addr.proofs.reading.read_port.Goals as goal

pub returns-in-Some : goal.returns-in-Some
returns-in-Some c = taken c.args.text.now c.in-Some.number c.in-Some.ensures.some c.if-number-gt0.true c.if-number.true

pub returns-in_default : goal.returns-in_default
returns-in_default c = too_large c.args.text.now c.in-Some.number (omega arith) c.in-Some.ensures.some c.if-number.false

pub returns-in_default-2 : goal.returns-in_default-2
returns-in_default-2 c = zero_port c.args.text.now c.in-Some.number c.in-Some.ensures.some c.if-number-gt0.false
