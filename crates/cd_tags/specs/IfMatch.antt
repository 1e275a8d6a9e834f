-- Part of the main theorem.
-- The form of an If-Match value, and the tag that it gives.
use Rattle.std.specs.Prelude.{◌≡◌, ℕ, ◌==◌, ◌&&◌, ◌||◌, Bool, nat_le, if◌then◌else◌, List, [], ◌∷◌, length, Result, Ok, Err, IsTrue}
use Rattle.std.specs.List.{list_all, slice_split}
use Rattle.std.specs.Str.{is_utf8}
use Rattle.percent_encoding.specs.Percent.{percent_decode}
use Rattle.cd_text.specs.Escapes.{escapes_are_whole}
use Rattle.cd_text.specs.Steps.{◌▷◌}
use Rattle.cd_tags.specs.Encoding.{is_unreserved, framed}
use Rattle.cd_tags.specs.declared.fault.IfMatchFault.{IfMatchFault}
use Rattle.cd_tags.specs.declared.fault.IfMatchFault.TheVariants.{Malformed}
use Rattle.cd_tags.specs.declared.if_match.Tag.{Tag}
use Rattle.cd_tags.specs.declared.limits.TheConstants.{HEX_DIGITS}

-- ---- the form

-- `0` to `9`, `a` to `f`
abbrev pub is_lower_hex : ℕ → Bool
is_lower_hex b = (nat_le 48 b && nat_le b 57) || (nat_le 97 b && nat_le b 102)

-- lower-case hexadecimal digits, as many as a digest has
pub record IsDigest (hex : List ℕ) : Type 0 where
  pub digits : IsTrue (list_all is_lower_hex hex)
  pub count : length hex ≡ HEX_DIGITS

-- ---- the path

-- an unreserved byte, `%` or `/`
abbrev pub is_path_byte : ℕ → Bool
is_path_byte b = is_unreserved b || ((b == 37) || (b == 47))

-- what a part decodes to, which is a text
abbrev pub decoded : List ℕ → Result (List ℕ) IfMatchFault
decoded part = if escapes_are_whole part && is_utf8 (percent_decode part) then Ok (percent_decode part) else Err Malformed

-- part by part
abbrev pub all_decoded : List (List ℕ) → Result (List (List ℕ)) IfMatchFault
all_decoded [] = Ok []
all_decoded (part ∷ parts) = decoded part ▷ λ first. all_decoded parts ▷ λ rest. Ok (first ∷ rest)

-- the parts between the places of `/`, and none where nothing stands there
abbrev pub split_path : List ℕ → Result (List (List ℕ)) IfMatchFault
split_path path = if length path == 0 then Ok [] else all_decoded (slice_split (λ b. b == 47) path)

-- the parts of a path that has no other bytes than it may
abbrev pub parts_of_path : List ℕ → Result (List (List ℕ)) IfMatchFault
parts_of_path path = if list_all is_path_byte path then split_path path else Err Malformed

-- ---- the tag

-- the value has the form with the digits of the tag and a path that is split and decoded to that of the tag
pub record IsTagOf (value : List ℕ) (tag : Tag) : Type 0 where
  pub path : List ℕ
  pub form : value ≡ framed path tag.hex
  pub digest : IsDigest tag.hex
  pub parts : parts_of_path path ≡ Ok tag.path.parts
