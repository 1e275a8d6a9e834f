use Rattle.std.proofs.Common.{◌≡◌, take}
use Rattle.cd_reverse_proxy.proofs.running.copies.Given as goal

-- the addresses so far
abbrev pub invariant-loop-address : goal.invariant-loop-address
invariant-loop-address l = l.made ≡ take l.address-index l.all
