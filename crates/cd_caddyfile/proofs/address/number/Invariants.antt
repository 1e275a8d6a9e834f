use Rattle.std.proofs.Common.{◌≡◌, min, take}
use Rattle.cd_caddyfile.specs.Addresses.{number}
use Rattle.cd_caddyfile.proofs.address.number.Given as goal

abbrev pub invariant-loop-digit : goal.invariant-loop-digit
invariant-loop-digit l = l.value ≡ min (number 0 (take l.digit-index l.digits)) 65536
