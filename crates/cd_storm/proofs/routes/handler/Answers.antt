use Rattle.cd_storm.proofs.routes.handler.Goals as goal

pub returns : goal.returns
returns c = rw (c.in_ok-body.ensures, c.in_ok-name.ensures) at c.double.ensures
