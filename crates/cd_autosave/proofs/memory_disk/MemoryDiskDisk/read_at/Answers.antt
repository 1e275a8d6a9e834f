use Rattle.std.proofs.Common.{refl}
use Rattle.cd_autosave.proofs.Remembering.{memory_still}
use Rattle.cd_autosave.proofs.memory_disk.MemoryDiskDisk.read_at.Goals as goal

pub returns-then-fails-clause-unchanged : goal.returns-then-fails-clause-unchanged
returns-then-fails-clause-unchanged c = memory_still c.args.self.now _ refl refl refl (λ c' left. left)

pub returns-clause-unchanged : goal.returns-clause-unchanged
returns-clause-unchanged c = memory_still c.args.self.now _ refl refl refl (λ c' left. left)
