use Rattle.std.proofs.Common.{rules, ◌≡◌, ◌<◌, ℕ, List, Option, Some, None, length, slice_set, refl, ap}
use Rattle.std.proofs.lemmas.List.{set-set}
use Rattle.cd_peers.specs.declared.state.BalancerState.{BalancerState}
use Rattle.cd_peers.specs.Balance.{count_at}
use Rattle.cd_peers.proofs.LiveLemmas.{other_number, written_none}
use Rattle.cd_peers.proofs.balancer.Balancer.begin.Goals as goal

-- the place is written twice
pub returns-clause-begun : goal.returns-clause-begun
returns-clause-begun c =
    let state : BalancerState = c.args.self.now.state in
    ap (λ (places : List (Option ℕ)). record state { places = places; last = Some c.pick-upstream.result })
    (set-set {A = Option ℕ} state.places c.args.place None (Some c.pick-upstream.result))

pub invariant_of-self-clause-within : goal.invariant_of-self-clause-within
invariant_of-self-clause-within c number most =
    let places : List (Option ℕ) = c.args.self.now.state.places in
    let room : c.args.place < length places = search rules in
    let freed_room : c.args.place < length (slice_set places c.args.place None) = search rules in
    let freed_none : count_at number (slice_set places c.args.place None) ≡ 0 =
    written_none number c.args.place None places room refl (c.args.self.now.within number most) in
    written_none number c.args.place (Some c.pick-upstream.result) (slice_set places c.args.place None) freed_room
    (other_number c.pick-upstream.result number (length c.args.self.now.state.upstreams) c.pick-upstream.ensures.candidate.0 most) freed_none
