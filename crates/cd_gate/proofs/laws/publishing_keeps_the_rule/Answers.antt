use Rattle.cd_legal.specs.declared.entry.Entry.TheVariants.{Publish}
use Rattle.cd_gate.proofs.Serials.{step_supersede, publishes}
use Rattle.cd_gate.proofs.laws.publishing_keeps_the_rule.Goals as goal

pub returns : goal.returns
returns g c o log m seat v draft next n change r at has is room quiet ready ticket may signs =
    step_supersede g.T.Stands.stands o log m r seat v at has n (Publish draft next n change) quiet
    (publishes g.T.Stands.stands o log m r seat v at has draft next n change is may signs quiet ready ticket room)
