use Rattle.std.proofs.Common.{◌∙◌, [], refl}
use Rattle.cd_link.proofs.LifeLemmas.{put_nothing}
use Rattle.cd_link.proofs.link.Link.write_later.Goals as goal

-- nothing of the piece was written
pub returns-else-queue-clause-life : goal.returns-else-queue-clause-life
returns-else-queue-clause-life g c = ([], (0, c.requires.some, refl), c.if-queue.ensures.refused refl ∙ put_nothing c.args.self.now.life.value)
