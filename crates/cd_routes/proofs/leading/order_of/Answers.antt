use Rattle.std.proofs.Common.{◌≡◌, ap, subst, ◌∙◌}
use Rattle.std.specs.Prelude.{None}
use Rattle.cd_leads.specs.Leads.{leads, least_in_cycle}
use Rattle.cd_leads.specs.Orders.{IsSorted}
use Rattle.cd_leads.specs.declared.sorting.Sorted.TheVariants.{Cycle}
use Rattle.cd_leads.proofs.Numbers.{no_cycle_of, known_small, not_both}
use Rattle.cd_routes.proofs.leading.order_of.Goals as goal

pub returns-in-Cycle : goal.returns-in-Cycle
returns-in-Cycle c =
    let lists = c.args.leads.now in
    let n = c.in-Cycle.field-0 in
    let found : IsSorted lists (Cycle n) = subst (λ s. IsSorted lists s) c.in-Cycle.is c.in_ok-order.ensures in
    let none : least_in_cycle lists ≡ None = ap least_in_cycle c.requires.leads ∙ c.requires.cycle in
    not_both (leads lists n n) found.1 ((no_cycle_of lists none).none n (known_small lists n found.0))
