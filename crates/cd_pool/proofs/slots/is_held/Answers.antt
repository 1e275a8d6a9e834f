use Rattle.std.proofs.Common.{◌≡◌, sym, ◌∙◌, ap, rules, nat_eq}
use Rattle.std.specs.HashMap.{get}
use Rattle.cd_pool.specs.Hashes.{hash_of, counted}
use Rattle.cd_pool.specs.Slots.{leases}
use Rattle.cd_pool.proofs.Counted.{unseen}
use Rattle.cd_pool.proofs.slots.is_held.Goals as goal

pub returns-in-None : goal.returns-in-None
returns-in-None c =
    let hash : c.hash_of.result ≡ hash_of c.args.key.now = c.hash_of.ensures in
    let none : counted (get nat_eq c.args.hashes.now c.hash_of.result) ≡ 0 = search rules in
    let all = c.requires c.if-known.true in
    sym (unseen c.args.key.now (leases c.args.slots.now) (sym (all (hash_of c.args.key.now)) ∙ ap (λ q. counted (get nat_eq c.args.hashes.now q)) (sym hash) ∙ none))
