use Rattle.std.proofs.Common.{◌≡◌, take}
use Rattle.cd_proxy.proofs.own_field.lend.Given as goal

-- the fields so far
abbrev pub invariant-loop-field : goal.invariant-loop-field
invariant-loop-field l = l.lent.items ≡ take l.field-index l.fields
