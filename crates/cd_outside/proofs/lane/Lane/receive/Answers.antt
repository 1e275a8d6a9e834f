use Rattle.std.proofs.Common.{take}
use Rattle.cd_outside.proofs.lane.Lane.receive.Goals as goal

-- the bytes that were read are lost
pub returns-in-Err-clause-past : goal.returns-in-Err-clause-past
returns-in-Err-clause-past g c = (take c.in-Bytes.count c.read.new.into, c.in-Err.ensures, c.in-Bytes.ensures.past)
