use Rattle.std.proofs.Common.{arith}
use Rattle.cd_wire.proofs.HeadLemmas.{read_head_is}
use Rattle.cd_wire.proofs.head.read_within.Goals as goal

-- a head that was read is within the limits
pub returns-in_ok-head-in-Ok-Complete-clause-some : goal.returns-in_ok-head-in-Ok-Complete-clause-some
returns-in_ok-head-in-Ok-Complete-clause-some c =
    let found = rw c.in-Ok-Complete.field-0-is at c.in-Ok-Complete.ensures.complete in
    read_head_is c.args.bytes.now c.parse_request.new.headers c.in-Ok-Complete.spans found.0 c.in_ok-head-in-Ok-Complete.head
    c.requires.short (omega (arith, c.requires.room, c.parse_request.auto.headers)) found.1 c.in_ok-head-in-Ok-Complete.ensures
