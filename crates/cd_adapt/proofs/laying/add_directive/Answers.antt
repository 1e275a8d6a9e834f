use Rattle.cd_adapt.proofs.TextSteps.{own_texts}
use Rattle.cd_adapt.proofs.laying.add_directive.Goals as goal

pub handler-requires : goal.handler-requires
handler-requires c = own_texts c.args.directive c.args.args.now c.own_args.result.now c.own_args.ensures c.requires
