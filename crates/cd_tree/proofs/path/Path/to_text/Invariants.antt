use Rattle.std.proofs.Common.{◌≡◌, ◌∷◌, string_bytes, take}
use Rattle.std.specs.List.{join_with_byte}
use Rattle.cd_tree.proofs.path.Path.to_text.Given as goal

abbrev pub invariant-loop-place : goal.invariant-loop-place
invariant-loop-place l = string_bytes l.text ≡ 47 ∷ join_with_byte 47 (take l.place l.parts)
