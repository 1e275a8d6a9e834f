use Rattle.std.proofs.Common.{◌≡◌, ◌≤◌, ℕ, List, length}
use Rattle.cd_fill.specs.declared.scene.Scene.{Scene}
use Rattle.cd_routes.specs.declared.outcome.Outcome.TheVariants.{Failed}
use Rattle.cd_chain.specs.declared.place.Place.{Place}
use Rattle.cd_chain.specs.Steps.{frames_steps}
use Rattle.cd_chain.specs.Frames.{unwound}
use Rattle.cd_chain.proofs.framing.caught.Given as goal

abbrev pub invariant-loop-frame : goal.invariant-loop-frame
invariant-loop-frame l = record {
  meaning : (places : List Place) (x : Scene) (status : ℕ) (message : List ℕ) → unwound places l.frames (Failed x status message) ≡ unwound places l.fn.frames (Failed x status message);
  less : (places : List Place) → frames_steps places l.frames ≤ frames_steps places l.fn.frames;
}

abbrev pub decreases-loop-frame : goal.decreases-loop-frame
decreases-loop-frame l = length l.frames
