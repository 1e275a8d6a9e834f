use Rattle.std.proofs.Common.{◌≡◌, ◌≤◌, take, map, length}
use Rattle.std.specs.Vec.{vec_len, vec_capacity}
use Rattle.cd_desk.specs.Waiting.{AllWait}
use Rattle.cd_desk.proofs.drafting.apps_for.Given as goal

abbrev pub invariant-loop-app : goal.invariant-loop-app
invariant-loop-app l = record {
  waits : AllWait l.parts.items (map (λ m. m.keys) (take l.app-index l.apps));
  len : vec_len l.parts ≡ l.app-index;
  room : length l.apps ≤ vec_capacity l.parts;
}
