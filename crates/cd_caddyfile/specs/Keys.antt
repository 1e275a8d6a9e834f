-- Keys by which sites and matchers are compared.
use Rattle.std.specs.Prelude.{◌≡◌, ℕ, ◌==◌, ◌&&◌, Bool, List, Option, option_map}
use Rattle.std.specs.BTreeSet.{BTreeSet, contains}
use Rattle.std.specs.Cmp.Lexicographic.{slice_cmp}
use Rattle.std.specs.List.{list_any}
use Rattle.std.specs.Option.{option_cmp}
use Rattle.std.specs.Ordering.{nat_cmp, ordering_then}
use Rattle.std.specs.Str.{bytes_eq}
use denote.Ref.{Bor}
use Rattle.cd_caddyfile.specs.Faults.{same_host}
use Rattle.cd_caddyfile.specs.declared.named.Located.{Located}
use Rattle.cd_caddyfile.specs.declared.named.Named.{Named}

-- the line of its site, and its name
abbrev pub MatcherKey : Type 0
MatcherKey = ℕ × Bor (List ℕ)

abbrev pub has_name : MatcherKey → Named → Bool
has_name key m = m.site == key.0 && bytes_eq m.name key.1.now

-- the keys of these matchers
abbrev pub HasNames : BTreeSet MatcherKey → List Named → Type 0
HasNames keys all =
    (key : MatcherKey) → contains (λ x y. ordering_then (nat_cmp x.0 y.0) (slice_cmp nat_cmp x.1.now y.1.now)) keys key ≡ list_any (has_name key) all

-- a port, and a host where there is one
abbrev pub SiteKey : Type 0
SiteKey = ℕ × Option (Bor (List ℕ))

abbrev pub host_in : Option (Bor (List ℕ)) → Option (List ℕ)
host_in host = option_map (λ (h : Bor (List ℕ)). h.now) host

abbrev pub has_address : SiteKey → Located → Bool
has_address key s = s.address.port == key.0 && same_host s.address.host (host_in key.1)

-- the keys of these sites
abbrev pub HasAddresses : BTreeSet SiteKey → List Located → Type 0
HasAddresses keys all =
    (key : SiteKey) → contains (λ x y. ordering_then (nat_cmp x.0 y.0) (option_cmp (λ a b. slice_cmp nat_cmp a.now b.now) x.1 y.1)) keys key ≡ list_any (has_address key) all
