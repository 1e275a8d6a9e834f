-- The ports of sites, and the sites of each port.
use Rattle.std.specs.Prelude.{◌≡◌, ℕ, ◌==◌, ◌&&◌, Bool, true, false, not, if◌then◌else◌, List, [], ◌∷◌, ◌++◌, map, is_some, unwrap_or}
use Rattle.std.specs.BTreeMap.{BTreeMap, get}
use Rattle.std.specs.BTreeSet.{BTreeSet, contains}
use Rattle.std.specs.List.{list_any}
use Rattle.std.specs.Ordering.{nat_cmp}
use Rattle.cd_adapt.specs.declared.splitting.SiteLines.{SiteLines}
use denote.Ref.{Bor}

-- the ports that have been met, with one more
abbrev pub and_port : ℕ → List ℕ → List ℕ
and_port port ports = if list_any (λ p. p == port) ports then ports else ports ++ port ∷ []

-- the set has these ports
abbrev pub AreMet : List ℕ → BTreeSet ℕ → Type 0
AreMet ports met = (port : ℕ) → contains nat_cmp met port ≡ list_any (λ p. p == port) ports

-- a site has a host, or has none
abbrev pub has_host : Bool → SiteLines → Bool
has_host true s = is_some s.address.host
has_host false s = not (is_some s.address.host)

-- a site of a port, with a host or without
abbrev pub is_served : ℕ → Bool → SiteLines → Bool
is_served port with_host s = (s.address.port == port) && has_host with_host s

-- the sites of a port, with one more if it is of that port
abbrev pub and_site : ℕ → SiteLines → List SiteLines → List SiteLines
and_site port s sites = if s.address.port == port then sites ++ s ∷ [] else sites

-- what these refer to
abbrev pub told : List (Bor SiteLines) → List SiteLines
told sites = map (λ s. s.now) sites

-- what is kept for a port
abbrev pub sites_of : ℕ → BTreeMap ℕ (List (Bor SiteLines)) → List SiteLines
sites_of port by_port = told (unwrap_or (get nat_cmp by_port port) [])
