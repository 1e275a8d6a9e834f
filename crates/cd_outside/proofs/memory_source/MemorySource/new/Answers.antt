use Rattle.std.proofs.Common.{◌∙◌, ap}
use Rattle.cd_text.specs.Steps.{joined}
use Rattle.cd_outside.proofs.Left.{joined-not_empty}
use Rattle.cd_outside.proofs.memory_source.MemorySource.new.Goals as goal

pub returns-clause-bytes : goal.returns-clause-bytes
returns-clause-bytes c = ap joined c.new.ensures ∙ joined-not_empty c.args.pieces
