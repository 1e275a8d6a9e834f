use Rattle.cd_legal.proofs.Begun.{begins-now}
use Rattle.cd_legal.proofs.laws.begins_are_counted.Goals as goal

pub returns : goal.returns
returns c log legal = begins-now log legal
