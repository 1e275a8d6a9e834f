-- Examples of the definitions, from the rule by hand or from another program.
use Rattle.std.proofs.Common.{◌≡◌, ◌%◌, refl}
use Rattle.cd_storm.specs.declared.limits.TheConstants.{BODIES}
use Rattle.cd_storm.specs.Draws.{drawn, route_count, route_value, step_value}

-- the first value of storm 7
drawn_once : drawn 7 1 ≡ 9098160460397411210
unfolding drawn
drawn_once = refl

-- from 200 routes on, and at most 999
fewest : route_count 0 ≡ 200
fewest = refl

of_seven : route_count 7 ≡ 207
of_seven = refl

most : route_count 799 ≡ 999
most = refl

few_again : route_count 800 ≡ 200
few_again = refl

-- the first body that is drawn in storm 7
first_body : route_value 7 0 % BODIES ≡ 210
unfolding drawn
first_body = refl

-- the first step of storm 0 comes after 200 routes
first_step : step_value 0 0 0 ≡ 9076276715648976279
unfolding drawn
first_step = refl
