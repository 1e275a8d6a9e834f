-- What the places of a chain mean: each goes on at earlier places alone. A place does to what follows a named route what it leads
-- to until `Return`; so it is told by what it does to that, as routes are.
use Rattle.std.specs.Prelude.{ℕ, not, ◌&&◌, if◌then◌else◌, List, [], ◌∷◌, ◌++◌, fold, get_or, Option}
use Rattle.cd_match.specs.Holds.{holds}
use Rattle.cd_match.specs.declared.sets.Sets.{Sets}
use Rattle.cd_routes.specs.declared.outcome.Outcome.{Outcome}
use Rattle.cd_routes.specs.declared.outcome.Outcome.TheVariants.{Answered, Failed}
use Rattle.cd_routes.specs.Running.{Rest, Middleware, nothing_left, handled, is_taken, with_group, with_error}
use Rattle.cd_chain.specs.declared.place.Place.{Place}
use Rattle.cd_chain.specs.declared.place.Place.TheVariants as place

-- a value for each place, from those of the earlier ones; before them the one for the end
unfoldable pub laid : {A : Type 0} → (List A → Place → A) → A → List Place → List A
laid does end places = fold (λ earlier p. earlier ++ does earlier p ∷ []) (end ∷ []) places

-- ---- meaning

-- at the end nothing is left, whatever follows the named route
abbrev pub ended : Middleware
ended back = nothing_left

-- a failure goes to the errors
abbrev pub or_failed : Rest → Outcome → Outcome
or_failed errors (Answered a) = Answered a
or_failed errors (Failed x status message) = errors (with_error status message x)

-- the number that stands for one of these, or else for the end
abbrev pub one_of : List Middleware → ℕ → Middleware
one_of earlier n = get_or earlier n ended

-- a route: where it is entered its group is taken
abbrev pub route_does : Sets → Option (List ℕ) → Rest → Rest → Rest
route_does matching group inside otherwise x = if holds matching x && not (is_taken group x) then inside (with_group group x) else otherwise x

-- what a place does, from what the earlier ones do
unfoldable pub place_does : List Middleware → Place → Middleware
place_does earlier (place.Handler handler next) back x = handled handler (one_of earlier next back) x
place_does earlier (place.Route matching group inside otherwise entry) back x = route_does matching group (one_of earlier inside back) (one_of earlier otherwise back) x
place_does earlier (place.Try first errors) back x = or_failed (one_of earlier errors back) (one_of earlier first back x)
place_does earlier (place.Invoke inside next) back x = one_of earlier inside (one_of earlier next back) x
place_does earlier place.Return back x = back x

abbrev pub meanings : List Place → List Middleware
meanings places = laid place_does ended places

-- what a place does; a number of no place is the end
abbrev pub at : List Place → ℕ → Middleware
at places n = one_of (meanings places) n

-- what follows the named routes that are being done: where they return to, of which the last comes first
unfoldable pub returning : List Place → List ℕ → Rest
returning places returns = fold (λ rest n. at places n rest) nothing_left returns
