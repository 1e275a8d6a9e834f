use Rattle.std.proofs.Common.{◌≡◌, ◌∷◌, string_bytes, drop}
use Rattle.std.specs.List.{join_with_byte}
use Rattle.cd_module.proofs.id.joined.Given as goal

abbrev pub invariant-loop-label : goal.invariant-loop-label
invariant-loop-label l = join_with_byte 46 (string_bytes l.text ∷ drop l.label-index l.others) ≡ join_with_byte 46 (l.first ∷ l.others)
