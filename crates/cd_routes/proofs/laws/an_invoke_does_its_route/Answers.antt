use Rattle.cd_routes.proofs.NamedMeaning.{invoke_does, enough_depth}
use Rattle.cd_routes.proofs.laws.an_invoke_does_its_route.Goals as goal

pub returns-clause-does : goal.returns-clause-does
returns-clause-does c none handler rest x name invokes_it = invoke_does c.args.named.now handler rest x name none invokes_it

pub returns-clause-enough : goal.returns-clause-enough
returns-clause-enough c none depth place enough = enough_depth c.args.named.now depth place none enough
