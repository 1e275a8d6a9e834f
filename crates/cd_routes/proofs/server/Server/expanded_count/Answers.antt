use Rattle.std.proofs.Common.{◌≡◌, ℕ, ◌-◌, ◌^◌, List, length, map, ap, subst, ◌∙◌}
use Rattle.std.specs.Prelude.{min, sum}
use Rattle.std.specs.List.{slice_get}
use Rattle.cd_leads.specs.Totals.{AreCounts, count_of, total}
use Rattle.cd_routes.specs.Counting.{own_count}
use Rattle.cd_routes.specs.Invoking.{leads_of}
use Rattle.cd_routes.specs.declared.named.NamedRoute.{NamedRoute}
use Rattle.cd_routes.proofs.Counts.{expanded_is}
use Rattle.cd_routes.proofs.server.Server.expanded_count.Goals as goal

pub returns : goal.returns
returns c =
    let counts = c.in_ok-counts.counts.items in
    let lists = c.as_slice-2.result.now in
    expanded_is c.args.rates c.args.self.now lists c.in_ok-own.own.items counts c.as_slice-4.result.now c.all_count.result c.sum_of.result c.saturating_add.result
    (c.as_slice-2.ensures ∙ c.in_ok-leads.ensures ∙ ap leads_of c.as_slice-named.ensures)
    (subst (λ (named : List NamedRoute). AreCounts (length named) c.in_ok-own.own.items (λ n. own_count c.args.rates (slice_get named n))) c.as_slice-named.ensures c.in_ok-own.ensures)
    (subst (λ (own : List ℕ). (count : ℕ → ℕ) → AreCounts (length lists) own count → (n : ℕ) → count_of counts n ≡ min (total lists count n) (2 ^ 64 - 1)) c.deref.ensures.value c.in_ok-counts.ensures)
    (c.as_slice-4.ensures ∙ c.in_ok-places.ensures)
    c.all_count.ensures
    (c.sum_of.ensures ∙ ap (λ (these : List ℕ). min (sum (map (count_of these) c.as_slice-4.result.now)) (2 ^ 64 - 1)) c.deref-2.ensures.value)
    c.saturating_add.ensures
