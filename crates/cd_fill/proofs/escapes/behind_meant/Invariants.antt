use Rattle.std.proofs.Common.{◌≡◌, ◌≤◌, ◌-◌, length, drop}
use Rattle.form_urlencoded.specs.Form.{decode}
use Rattle.cd_fill.proofs.escapes.behind_meant.Given as goal

abbrev pub invariant-loop : goal.invariant-loop
invariant-loop l = record {
  meant : drop l.count (decode l.raw) ≡ drop (l.count - l.counter) (decode l.left);
  within : length l.left ≤ length l.raw;
}
