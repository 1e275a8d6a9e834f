use Rattle.std.proofs.Common.{◌≡◌, ◌++◌, drop, string_bytes}
use Rattle.cd_tags.specs.Encoding.{encoded_parts}
use Rattle.cd_tags.proofs.Parts.{path_text}
use Rattle.cd_tags.proofs.encoding.push_parts.Given as goal

-- what is left makes the text whole
abbrev pub invariant-loop-part : goal.invariant-loop-part
invariant-loop-part l =
    string_bytes l.out ++ path_text l.later (drop l.part-index l.parts) ≡ string_bytes l.initial.out ++ encoded_parts l.parts
