-- Which addresses a range has.
use Rattle.std.proofs.Common.{◌≡◌, ℕ, suc, zero, ◌+◌, ◌-◌, List, [], ◌∷◌, ◌++◌, length, map, Bool, true, false, ap, ◌∙◌, refl, arith, nat_eq}
use Rattle.std.specs.Prelude.{◌&&◌, ◌||◌, nat_le, nat_lt}
use Rattle.std.specs.List.{list_any, range_with_len}
use Rattle.std.specs.Str.{bytes_eq}
use Rattle.std.proofs.lemmas.Bool.Decides.{nat_tests, eqb_tells}
use Rattle.std.proofs.lemmas.List.FromFn.{length-map-range_with_len, map-range_with_len_more}
use Rattle.cd_outside.specs.declared.address.Address.{Address}
use Rattle.cd_addr.specs.Addresses.{is_address, listed}
use Rattle.cd_addr.specs.declared.range.AddressRange.{AddressRange}

abbrev pub at_port : List ℕ → ℕ → Address
at_port host port = record { host = host; port = port }

-- as many as ports
pub count_is : (r : AddressRange) → length (listed r) ≡ r.last - r.first + 1
count_is r = length-map-range_with_len (at_port r.host) r.first (r.last - r.first + 1)

-- one port more
pub one_more : (host : List ℕ) (first n : ℕ) → map (at_port host) (range_with_len first (n + 1)) ≡ map (at_port host) (range_with_len first n) ++ at_port host (first + n) ∷ []
one_more host first n = map-range_with_len_more (at_port host) first n (first + n) refl

no_port : (p first : ℕ) → false ≡ (nat_le first p && nat_lt p (first + 0))
no_port p first = grind (arith, nat_tests)

one_port : (p first n : ℕ) → (nat_eq p first || (nat_le (first + 1) p && nat_lt p (first + 1 + n))) ≡ (nat_le first p && nat_lt p (first + suc n))
one_port p first n = grind (arith, nat_tests, eqb_tells)

-- the ports of a range are those from the first one on
pub in_ports : (p first n : ℕ) → list_any (nat_eq p) (range_with_len first n) ≡ (nat_le first p && nat_lt p (first + n))
in_ports p first zero = no_port p first
in_ports p first (suc n) = ap (λ b. nat_eq p first || b) (in_ports p (first + 1) n) ∙ one_port p first n

-- an address is one of a host's where it has the host, and one of the ports
any_port : (a : Address) (host ports : List ℕ) (same : Bool) → bytes_eq a.host host ≡ same
    → list_any (is_address a) (map (at_port host) ports) ≡ (same && list_any (nat_eq a.port) ports)
any_port a host [] true e = refl
any_port a host [] false e = refl
any_port a host (p ∷ ports) true e = rw e (ap (λ b. nat_eq a.port p || b) (any_port a host ports true e))
any_port a host (p ∷ ports) false e = rw e (any_port a host ports false e)

pub contains_is : (a : Address) (r : AddressRange) → list_any (is_address a) (listed r) ≡ (bytes_eq a.host r.host && list_any (nat_eq a.port) (range_with_len r.first (r.last - r.first + 1)))
contains_is a r = any_port a r.host (range_with_len r.first (r.last - r.first + 1)) (bytes_eq a.host r.host) refl
