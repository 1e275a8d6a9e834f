use Rattle.std.proofs.Common.{◌≡◌, ◌≤◌, take, map, length}
use Rattle.std.specs.Vec.{vec_len, vec_capacity}
use Rattle.cd_desk.specs.Waiting.{AllWait}
use Rattle.cd_desk.proofs.drafting.modules_for.Given as goal

abbrev pub invariant-loop-module : goal.invariant-loop-module
invariant-loop-module l = record {
  waits : AllWait l.parts.items (map (λ m. m.keys) (take l.module-index l.modules));
  len : vec_len l.parts ≡ l.module-index;
  room : length l.modules ≤ vec_capacity l.parts;
}
