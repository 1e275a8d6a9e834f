-- Part of the main theorem.
-- The target of a request, and its parts (RFC 9112, section 3.2; RFC 3986, sections 2.1 and 3).
use Rattle.std.specs.Prelude.{ℕ, ◌+◌, Bool, ◌&&◌, ◌||◌, not, List, [], ◌∷◌, length, drop, take, codes, ◌==◌, nat_eq, nat_lt, if◌then◌else◌, Option, Some, None}
use Rattle.std.specs.List.{list_all, starts_with, before_first, after_first, position_or_len}
use Rattle.std.specs.Char.{is_ascii_graphic}
use Rattle.std.specs.Str.{bytes_eq, str_to_ascii_lowercase}
use Rattle.cd_text.specs.Escapes.{escapes_are_whole}

-- `?`
abbrev pub is_question_mark : ℕ → Bool
is_question_mark byte = byte == 63

-- a visible byte of ASCII, but `#`
abbrev pub is_target_byte : ℕ → Bool
is_target_byte byte = is_ascii_graphic byte && not (byte == 35)

-- how long `http://` is
abbrev pub scheme_length : ℕ
scheme_length = 7

-- the target begins with `http://`, in any case
abbrev pub has_scheme : List ℕ → Bool
has_scheme target = bytes_eq (str_to_ascii_lowercase (take scheme_length target)) (codes "http://")

-- an authority ends at `/` or `?`
abbrev pub ends_authority : ℕ → Bool
ends_authority byte = byte == 47 || byte == 63

-- the authority of an absolute target
abbrev pub authority_of : List ℕ → List ℕ
authority_of target = before_first ends_authority (drop scheme_length target)

-- the target without scheme and authority
abbrev pub local_part : List ℕ → List ℕ
local_part target =
    if has_scheme target then drop (scheme_length + length (authority_of target)) target else target

-- `/` where there is no path
abbrev pub or_root : List ℕ → List ℕ
or_root [] = 47 ∷ []
or_root (byte ∷ bytes) = byte ∷ bytes

-- the path as it stands in the target, up to the first `?`
abbrev pub raw_path : List ℕ → List ℕ
raw_path target = or_root (before_first is_question_mark (local_part target))

-- what stands behind the first `?`, where there is one
abbrev pub query_of : List ℕ → Option (List ℕ)
query_of target =
    if nat_lt (position_or_len is_question_mark target) (length target)
    then Some (after_first is_question_mark target) else None

-- the origin form, the absolute form with an authority, or the asterisk form, which OPTIONS alone has
abbrev pub has_form : List ℕ → List ℕ → Bool
has_form method target =
    starts_with nat_eq target (codes "/")
    || (has_scheme target && nat_lt 0 (length (authority_of target)))
    || (bytes_eq target (codes "*") && bytes_eq method (codes "OPTIONS"))

-- a target that is not refused, of a request with this method
abbrev pub is_target : List ℕ → List ℕ → Bool
is_target method target =
    list_all is_target_byte target && has_form method target && escapes_are_whole (raw_path target)
