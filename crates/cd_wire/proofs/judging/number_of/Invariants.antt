use Rattle.std.proofs.Common.{◌≡◌, ◌+◌, take}
use Rattle.std.specs.Prelude.{min}
use Rattle.std.specs.Str.Parse.{digits_value}
use Rattle.cd_wire.specs.declared.limits.TheConstants.{MAX_BODY_BYTES}
use Rattle.cd_wire.proofs.judging.number_of.Given as goal

-- the number of the digits so far, up to the limit
abbrev pub invariant-loop-digit : goal.invariant-loop-digit
invariant-loop-digit l = l.number ≡ min (digits_value 10 (take l.digit-index l.digits)) (MAX_BODY_BYTES + 1)
