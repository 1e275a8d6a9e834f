use Rattle.std.proofs.Common.{◌≡◌, take, drop, []}
use Rattle.cd_caddyfile.specs.Faults.{first_fault, sooner, repeated_matchers, unknown_matchers}
use Rattle.cd_caddyfile.specs.Keys.{HasNames}
use Rattle.cd_caddyfile.proofs.repeats.matcher_fault.Given as goal

abbrev pub invariant-each_defined : goal.invariant-each_defined
invariant-each_defined l = record {
  names : HasNames l.names (take l.matcher-index l.defined);
  repeated : first_fault (repeated_matchers [] l.defined) ≡ sooner l.repeated (first_fault (repeated_matchers (take l.matcher-index l.defined) (drop l.matcher-index l.defined)));
}

abbrev pub invariant-each_used : goal.invariant-each_used
invariant-each_used l = record {
  names : HasNames l.names l.defined;
  unknown : first_fault (unknown_matchers l.defined l.used) ≡ sooner l.unknown (first_fault (unknown_matchers l.defined (drop l.matcher-index l.used)));
}
