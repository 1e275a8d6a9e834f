use Rattle.cd_legal.proofs.Shutting.{shut-once}
use Rattle.cd_legal.proofs.laws.fixtures_are_shut_once.Goals as goal

pub returns : goal.returns
returns c log legal = shut-once log legal
