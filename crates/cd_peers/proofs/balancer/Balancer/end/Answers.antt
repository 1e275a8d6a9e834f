use Rattle.std.proofs.Common.{rules, ◌<◌, None, length, refl}
use Rattle.cd_peers.proofs.LiveLemmas.{written_none}
use Rattle.cd_peers.proofs.balancer.Balancer.end.Goals as goal

pub invariant_of-self-clause-within : goal.invariant_of-self-clause-within
invariant_of-self-clause-within c number most =
    let room : c.args.place < length c.args.self.now.state.places = search rules in
    written_none number c.args.place None c.args.self.now.state.places room refl (c.args.self.now.within number most)
