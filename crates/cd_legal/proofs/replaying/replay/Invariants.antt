use Rattle.std.proofs.Common.{◌≡◌, drop}
use Rattle.cd_legal.specs.Legal.{replayed}
use Rattle.cd_legal.proofs.Replayed.{replay_from}
use Rattle.cd_legal.proofs.replaying.replay.Given as goal

abbrev pub invariant-loop-place : goal.invariant-loop-place
invariant-loop-place l = replay_from l.state l.place (drop l.place l.entries) ≡ replayed l.entries
