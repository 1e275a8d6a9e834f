use Rattle.std.proofs.Common.{◌∙◌, ap}
use Rattle.cd_legal.specs.declared.state.State.{State}
use Rattle.cd_legal.proofs.Replayed.{replay_from, replay-all}
use Rattle.cd_legal.proofs.replaying.replay.Goals as goal

pub loop-place-init : goal.loop-place-init
loop-place-init c = ap (λ (s : State). replay_from s 0 c.args.entries.now) c.opening-state.ensures ∙ replay-all c.args.entries.now
