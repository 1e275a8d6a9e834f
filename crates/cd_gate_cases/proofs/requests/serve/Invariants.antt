use Rattle.std.proofs.Common.{◌≡◌, ◌+◌, None, []}
use Rattle.cd_gate_cases.specs.Passes.{Has, HasSeenHalt, begun}
use Rattle.cd_gate_cases.proofs.requests.serve.Given as goal

abbrev pub invariant-loop : goal.invariant-loop
invariant-loop g l =
    (l.caller ≡ l.fn.caller) × Has l.caller.gate.now l.pass l.caller.number None [] × (begun l.pass ≡ begun l.fn.pass + l.counter) × (HasSeenHalt l.fn.pass → HasSeenHalt l.pass)
