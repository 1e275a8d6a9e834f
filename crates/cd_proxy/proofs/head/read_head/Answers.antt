use Rattle.cd_proxy.proofs.HeadLemmas.{front_read, full_read}
use Rattle.cd_proxy.proofs.head.read_head.Goals as goal

pub returns-in-Partial : goal.returns-in-Partial
returns-in-Partial c = full_read c.args.bytes.now _ _ c.if-bytes-ge-MAX_HEAD_BYTES.true c.front_of-front.ensures.value c.in-Partial.is c.in_ok-read.ensures

pub returns-in_default : goal.returns-in_default
returns-in_default c = front_read c.args.bytes.now _ _ c.front_of-front.ensures.value c.in_ok-read.ensures
