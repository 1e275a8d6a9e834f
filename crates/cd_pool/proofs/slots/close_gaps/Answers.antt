use Rattle.std.proofs.Common.{◌≡◌, ap, ◌∙◌, sym, is_some, rules, length}
use Rattle.std.specs.Vec.{vec_len}
use Rattle.std.proofs.lemmas.Fn.{filter_same}
use Rattle.cd_pool.specs.Slots.{leases}
use Rattle.cd_pool.proofs.Gaps.{leases-filter, length-filter}
use Rattle.cd_pool.proofs.slots.close_gaps.Goals as goal

pub returns-clause-same : goal.returns-clause-same
returns-clause-same c =
    let kept = filter_same _ is_some _ (λ x b f' k. search rules) _ _ c.retain.ensures.filtered in
    ap leases kept ∙ leases-filter c.args.slots.now.items

pub returns-clause-len : goal.returns-clause-len
returns-clause-len c =
    let kept = filter_same _ is_some _ (λ x b f' k. search rules) _ _ c.retain.ensures.filtered in
    let counted : length c.retain.new.self.items ≡ length (leases c.retain.new.self.items) = ap length kept ∙ length-filter c.args.slots.now.items ∙ sym (ap (λ z. length (leases z)) kept ∙ ap length (leases-filter c.args.slots.now.items)) in
    let len : vec_len c.retain.new.self ≡ length c.retain.new.self.items = search rules in
    len ∙ counted
