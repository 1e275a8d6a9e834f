use Rattle.std.proofs.Common.{rules}
use Rattle.cd_module.proofs.Parts.{front_lowered}
use Rattle.cd_module.proofs.pattern.starts_in_any_case.Goals as goal

pub returns : goal.returns
returns c = search (rules, front_lowered)
