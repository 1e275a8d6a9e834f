use Rattle.std.proofs.Common.{◌≡◌, drop}
use Rattle.cd_tags.specs.Parts.{are_texts}
use Rattle.cd_tags.proofs.laws.see.Given as goal

abbrev pub invariant-loop-part : goal.invariant-loop-part
invariant-loop-part l = are_texts (drop l.part-index l.parts) ≡ are_texts l.parts
