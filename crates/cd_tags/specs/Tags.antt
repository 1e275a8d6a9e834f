-- Part of the main theorem.
-- The tag of what stands at a path of a tree.
use Rattle.std.specs.Prelude.{ℕ, Bool, false, List, Option, Result, Ok, Err}
use Rattle.std.specs.Str.{bytes_eq}
use Rattle.hex.specs.Hex.{encode_lower}
use Rattle.sha2.specs.Sha256.{sha256}
use Rattle.cd_text.specs.Steps.{◌▷◌}
use Rattle.cd_tree.specs.Tree.{text}
use Rattle.cd_tree.specs.declared.path.Path.{Path}
use Rattle.cd_tree.specs.declared.tree.Tree.{Tree}
use Rattle.cd_path.specs.Looking.{look, or_null}
use Rattle.cd_path.specs.declared.fault.EditFault.{EditFault}
use Rattle.cd_tags.specs.Encoding.{tag_text}
use Rattle.cd_tags.specs.declared.fault.TagFault.{TagFault}
use Rattle.cd_tags.specs.declared.fault.TagFault.TheVariants.{NoPlace}
use Rattle.cd_tags.specs.declared.if_match.Tag.{Tag}

-- SHA-256 (FIPS 180-4) of the compact text, in lower-case hexadecimal digits
unfoldable pub digest : Tree → List ℕ
digest t = encode_lower (sha256 (text t))

-- the digits of what was found, where an absent value counts as null, or the refusal to look
abbrev pub digest_found : Result (Option Tree) EditFault → Result (List ℕ) TagFault
digest_found (Ok found) = Ok (digest (or_null found))
digest_found (Err fault) = Err (NoPlace fault)

-- the digits of what stands at a path
abbrev pub digest_at : Tree → Path → Result (List ℕ) TagFault
digest_at t path = digest_found (look t path)

-- the tag of what stands at a path
abbrev pub tag_of : Tree → Path → Result (List ℕ) TagFault
tag_of t path = digest_at t path ▷ λ hex. Ok (tag_text path hex)

-- the same digits; where there is no place there are none
abbrev pub is_digest : Result (List ℕ) TagFault → List ℕ → Bool
is_digest (Ok hex) given = bytes_eq hex given
is_digest (Err fault) given = false

-- what stands at the path of a tag has its digits
abbrev pub tag_holds : Tree → Tag → Bool
tag_holds t tag = is_digest (digest_at t tag.path) tag.hex
