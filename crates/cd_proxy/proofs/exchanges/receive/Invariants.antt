use Rattle.std.proofs.Common.{◌≡◌, ◌≤◌, true, false, List, [], Option}
use Rattle.cd_peers.specs.declared.dialled.Dialled.{Dialled}
use Rattle.cd_proxy.specs.declared.reading.Reading.TheVariants as reading
use Rattle.cd_proxy.specs.Responses.{IsReading}
use Rattle.cd_proxy.specs.Exchanges.{Tells, with_read}
use Rattle.cd_proxy.proofs.exchanges.receive.Given as goal

-- what was read so far is told, and is no whole response
abbrev pub invariant-loop : goal.invariant-loop
invariant-loop g l = record {
  turns : (goal.iterator-loop g).can_next l.iterator' × (goal.iterator-loop g).is_finite l.iterator';
  busy : g.P.Peers.busy l.peers ≡ true;
  later : g.P.Peers.faults l.initial.peers ≤ g.P.Peers.faults l.peers;
  head : l.intake.to_head ≡ l.head;
  told : (first : Option (List Dialled)) (d : Dialled) → Tells (with_read [] false d) first (g.P.Peers.past l.initial.peers)
      → Tells (with_read l.intake.bytes false d) first (g.P.Peers.past l.peers);
  more : IsReading l.intake.bytes false l.head reading.More;
}
