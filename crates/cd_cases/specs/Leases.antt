-- Which leases there are of a pool.
use Rattle.std.specs.Prelude.{◌≡◌, ℕ, List}
use Rattle.cd_pool.specs.declared.lease.Leased.{Leased}
use Rattle.cd_pool.specs.Numbers.{uses, times}

-- each number is that of as many leases as of pairs
abbrev pub AreLeases : List ℕ → List Leased → Type 0
AreLeases leases held = (n : ℕ) → uses n held ≡ times n leases
