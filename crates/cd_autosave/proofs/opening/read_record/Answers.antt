use Rattle.std.proofs.Common.{rules}
use Rattle.cd_autosave.proofs.Beginnings.{if_some, invalid_by_size}
use Rattle.cd_autosave.proofs.opening.read_record.Goals as goal

pub returns-then-head-gt-MAX_KEPT_BYTES-clause-damaged : goal.returns-then-head-gt-MAX_KEPT_BYTES-clause-damaged
returns-then-head-gt-MAX_KEPT_BYTES-clause-damaged g c = λ is. if_some _ _ (g.D.Disk.seen c.args.disk.now) c.requires.head (λ image head. invalid_by_size c.args.slot image c.args.head head (search rules))
