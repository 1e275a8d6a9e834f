use Rattle.std.proofs.Common.{◌≡◌, ◌+◌}
use Rattle.cd_chain.specs.Chains.{from_place}
use Rattle.cd_chain.specs.Frames.{told, unwound}
use Rattle.cd_chain.specs.Steps.{frames_steps, progress_steps}
use Rattle.cd_chain.proofs.running.run.Given as goal

abbrev pub invariant-loop-progress : goal.invariant-loop-progress
invariant-loop-progress l = unwound l.places l.frames (told l.places l.progress l.returns l.scene) ≡ from_place l.places l.fn.start l.fn.scene

abbrev pub decreases-loop-progress : goal.decreases-loop-progress
decreases-loop-progress l = progress_steps l.places l.progress l.returns + frames_steps l.places l.frames
