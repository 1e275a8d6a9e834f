use Rattle.std.proofs.Common.{◌≡◌, ◌≤◌, [], List, length, take}
use Rattle.cd_leads.specs.Orders.{IsOrder}
use Rattle.cd_routes.specs.declared.named.NamedRoute.{NamedRoute}
use Rattle.cd_routes.specs.Invoking.{HasNoCycle, leads_of, route_names}
use Rattle.cd_chain.specs.Indexes.{AreSound}
use Rattle.cd_chain.specs.Laying.{AreLaid, Lays}
use Rattle.cd_chain.proofs.naming.lay_named.Given as goal

abbrev pub invariant-loop-n : goal.invariant-loop-n
invariant-loop-n l = record {
  some : 1 ≤ length l.plan.places.items;
  laid : AreLaid l.plan.places.items l.entries;
  sound : AreSound l.plan.places.items l.plan.indexes.items;
  lays : (named : List NamedRoute) → HasNoCycle named → l.names ≡ route_names named → IsOrder (leads_of named) l.order → Lays named l.fn.plan.places.items l.fn.entries l.fn.slots [] →
      Lays named l.plan.places.items l.entries l.slots (take l.n-index l.order);
}
