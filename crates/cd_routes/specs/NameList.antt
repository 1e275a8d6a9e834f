-- Names by which named routes are found.
use Rattle.std.specs.Prelude.{◌≡◌, ℕ, List, length, map}
use Rattle.std.specs.List.{AllAdjacentBelow}
use Rattle.std.specs.Cmp.Lexicographic.{slice_cmp}
use Rattle.std.specs.Ordering.{nat_cmp}
use Rattle.std.specs.declared.cmp.Ordering.TheVariants.{Less}
use Rattle.cd_routes.specs.Invoking.{Names, place_of, route_invokes}
use Rattle.cd_routes.specs.declared.named.NamedRoute.{NamedRoute}

-- each is below the next
abbrev pub Rise : Names → Type 0
Rise names = AllAdjacentBelow (λ one other. slice_cmp nat_cmp one other ≡ Less) names (length names)

-- the places, among these names, of those that each named route invokes
abbrev pub leads_by : Names → List NamedRoute → List (List ℕ)
leads_by names named = map (λ r. map (place_of names) (route_invokes r.route)) named
