-- What laying out asks for and gives, and named routes by their places: which of them the places of a chain stand for, and what
-- laying out one of them changes.
use Rattle.std.specs.Prelude.{◌≡◌, ℕ, ◌≤◌, ◌⊎◌, List, length, get_or, slice_set, Option, Some, None}
use Rattle.std.specs.List.{slice_get}
use Rattle.cd_leads.specs.Orders.{IsOf}
use Rattle.cd_routes.specs.Invoking.{Names}
use Rattle.cd_routes.specs.Named.{by_name, named_to, passes}
use Rattle.cd_routes.specs.Running.{Middleware, Named, Rest, run_route}
use Rattle.cd_routes.specs.declared.named.NamedRoute.{NamedRoute}
use Rattle.cd_routes.specs.declared.route.Route.{Route}
use Rattle.cd_chain.specs.declared.index.Index.{Index}
use Rattle.cd_chain.specs.declared.place.Place.{Place}
use Rattle.cd_chain.specs.Growing.{Grows}
use Rattle.cd_chain.specs.Indexes.{AreSound}
use Rattle.cd_chain.specs.Places.{at}

-- what is done where the named route of a number is entered; a number that is none is entered at place 1, a `Return`
abbrev pub entered : List Place → List ℕ → ℕ → Middleware
entered places entries n = at places (get_or entries n 1)

-- the same by names
abbrev pub entered_by : List Place → List ℕ → Names → Named
entered_by places entries names = by_name names (entered places entries)

-- all are places
abbrev pub AreLaid : List Place → List ℕ → Type 0
AreLaid places entries = (n : ℕ) → get_or entries n 1 ≤ length places

-- a place may be laid out that leads to this one, and to the named routes by where they are entered
pub record MayLay (places : List Place) (indexes : List Index) (named : List ℕ) (next : ℕ) : Type 0 where
  pub rest : next ≤ length places
  pub entries : AreLaid places named
  pub sound : AreSound places indexes

-- places were added: what is at the number does this to what is at `rest`
pub record Laid (does : Middleware) (old new : List Place) (indexes : List Index) (rest n : ℕ) : Type 0 where
  pub meaning : (back : Rest) → at new n back ≡ does (at old rest back)
  pub within : n ≤ length new
  pub grows : Grows old new
  pub sound : AreSound new indexes

-- what the named route of a number does
abbrev pub named_at : List NamedRoute → ℕ → Middleware
named_at named = named_to named (length named)

-- what is left to be laid out at a number
abbrev pub route_left : Option NamedRoute → Option Route
route_left None = None
route_left (Some r) = Some r.route

-- a route for each number, or none any more where it was laid out
abbrev pub Left : List (Option Route) → List NamedRoute → List ℕ → Type 0
Left slots named laid = (n : ℕ) → (IsOf laid n × (get_or slots n None ≡ None)) ⊎ (get_or slots n None ≡ route_left (slice_get named n))

-- the first place returns, and those that were laid out stand for what they do
pub record Lays (named : List NamedRoute) (places : List Place) (entries : List ℕ) (slots : List (Option Route)) (laid : List ℕ) : Type 0 where
  pub returns : at places 1 ≡ passes
  pub some : 1 ≤ length places
  pub size : length entries ≡ length named
  pub places_laid : AreLaid places entries
  pub stand : (n : ℕ) → IsOf laid n → entered places entries n ≡ named_at named n
  pub left : Left slots named laid

-- where there is a route it was laid out before a `Return`, and is entered there
abbrev pub LaidAs : Names → List Place → List Place → List ℕ → List ℕ → ℕ → Option Route → Type 0
LaidAs names old new entries after n None = (new ≡ old) × (after ≡ entries)
LaidAs names old new entries after n (Some route) =
    (begin : ℕ) × (after ≡ slice_set entries n begin) × (begin ≤ length new) × Grows old new
    × ((back : Rest) → at new begin back ≡ run_route (entered_by old entries names) route (at old 1 back))

abbrev pub LaysOne : Names → List Place → List Place → List (Option Route) → List (Option Route) → List ℕ → List ℕ → ℕ → Type 0
LaysOne names old new slots left entries after n = (left ≡ slice_set slots n None) × LaidAs names old new entries after n (get_or slots n None)
