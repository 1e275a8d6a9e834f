use Rattle.std.proofs.Common.{rules}
use Rattle.cd_module.proofs.Parts.{end_lowered}
use Rattle.cd_module.proofs.pattern.ends_in_any_case.Goals as goal

pub returns : goal.returns
returns c = search (rules, end_lowered)
