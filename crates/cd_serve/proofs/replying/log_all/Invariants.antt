use Rattle.std.proofs.Common.{length, ◌-◌, ◌≡◌, ◌≤◌, true, option_map, take}
use Rattle.std.specs.Prelude.{map}
use Rattle.cd_outside.specs.Past.{with_connection}
use Rattle.cd_serve.specs.Meanings.{logged, after_sending}
use Rattle.cd_serve.specs.Requests.{only_lines}
use Rattle.cd_serve.proofs.replying.log_all.Given as goal

abbrev pub invariant-logging : goal.invariant-logging
invariant-logging g l = record {
  inside : l.next ≤ length l.lines;
  busy : g.L.Lane.busy l.lane ≡ true;
  later : g.L.Lane.faults l.initial.lane ≤ g.L.Lane.faults l.lane;
  since : g.L.Lane.since l.lane ≡ g.L.Lane.since l.initial.lane;
  past : g.L.Lane.past l.lane ≡ option_map (with_connection (after_sending (only_lines (map logged (take l.next l.lines))))) (g.L.Lane.past l.initial.lane);
}

abbrev pub decreases-logging : goal.decreases-logging
decreases-logging g l = length l.lines - l.next
