use Rattle.std.proofs.Common.{◌≡◌, ◌++◌, take, drop, length, get_or, subst, arith, ap, sym, ◌∙◌}
use Rattle.std.proofs.lemmas.Grind.{common_steps}
use Rattle.cd_leads.specs.Orders.{IsOrder}
use Rattle.cd_routes.specs.Named.{named_routes}
use Rattle.cd_routes.specs.Invoking.{leads_of}
use Rattle.cd_chain.specs.Laying.{entered_by}
use Rattle.cd_chain.proofs.LaidOut.{all_entered, written_back}
use Rattle.cd_chain.proofs.naming.lay_all.Goals as goal

pub returns-clause-named : goal.returns-clause-named
returns-clause-named c =
    let named = c.args.named in
    let names = c.new-names.result in
    let order : IsOrder (leads_of named) c.as_slice-2.result.now =
    subst (λ o. IsOrder (leads_of named) o) (sym c.as_slice-2.ensures) (subst (λ ns. IsOrder (leads_of ns) c.in_ok-order.order) c.as_slice.ensures c.in_ok-order.ensures) in
    let all : entered_by c.lay_named.new.plan.places.items c.lay_named.new.entries names ≡ named_routes named =
    all_entered named names c.in_ok-places.places.items c.lay_named.new.plan.places.items c.as_mut_slice-2.result.now c.lay_named.new.entries c.as_mut_slice.result.now c.as_slice-2.result.now
    c.requires (c.new-names.ensures ∙ c.in_ok-parts.ensures.names) (c.as_mut_slice.ensures.value ∙ c.in_ok-parts.ensures.slots) c.in_ok-places.ensures
    (ap length c.as_mut_slice-2.ensures.value ∙ c.in_ok-entries.ensures.size ∙ c.len.ensures)
    (λ n. ap (λ es. get_or es n 1) c.as_mut_slice-2.ensures.value ∙ c.in_ok-entries.ensures.value n)
    order (c.in_ok-lay_named.ensures.stand named) in
    let written : take c.in_ok-entries.entries.len (c.lay_named.new.entries ++ drop (length c.lay_named.new.entries) c.in_ok-entries.entries.items) ≡ c.lay_named.new.entries =
    written_back c.lay_named.new.entries c.in_ok-entries.entries.items c.in_ok-entries.entries.len (grind (arith, common_steps)) (grind (arith, common_steps)) in
    ap (λ es. entered_by c.lay_named.new.plan.places.items es names) written ∙ all
