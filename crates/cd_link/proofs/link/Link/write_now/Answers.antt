use Rattle.std.proofs.Common.{refl}
use Rattle.cd_link.proofs.LifeLemmas.{all_written}
use Rattle.cd_link.proofs.link.Link.write_now.Goals as goal

-- what was sent at once and what is kept are the piece
pub returns-then-queue-clause-life : goal.returns-then-queue-clause-life
returns-then-queue-clause-life g c =
    all_written c.send_now-sent.result c.args.piece.now c.rest_from.result.now c.args.self.now.life.value c.send_now-sent.new.self.life.value c.queue.new.self.life.value
    c.send_now-sent.ensures.life c.rest_from.ensures (c.if-queue.ensures.done refl)
