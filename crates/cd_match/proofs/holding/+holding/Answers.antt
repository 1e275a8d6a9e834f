use Rattle.std.proofs.Common.{rules}
use Rattle.cd_match.proofs.Levels.{holds-Not}
use Rattle.cd_match.proofs.holding.+holding.Goals as goal

pub matcher_holds-returns-in_ok-any-in-Not : goal.matcher_holds-returns-in_ok-any-in-Not
matcher_holds-returns-in_ok-any-in-Not t c = search (rules, holds-Not)
