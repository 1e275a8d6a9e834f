-- Part of the main theorem.
-- A value taken apart at its places, for the clauses of private functions.
use Rattle.std.specs.Prelude.{ℕ, ◌+◌, ◌-◌, ◌==◌, ◌&&◌, Bool, nat_le, nat_eq, if◌then◌else◌, List, length, slice_index, codes, Result, Ok, Err}
use Rattle.std.specs.List.{list_all, slice_range, starts_with}
use Rattle.cd_text.specs.Steps.{◌▷◌}
use Rattle.cd_tags.specs.IfMatch.{is_lower_hex, parts_of_path}
use Rattle.cd_tags.specs.declared.fault.IfMatchFault.{IfMatchFault}
use Rattle.cd_tags.specs.declared.fault.IfMatchFault.TheVariants.{Malformed}
use Rattle.cd_tags.specs.declared.if_match.Tag.{Tag}
use Rattle.cd_tags.specs.declared.limits.TheConstants.{OPENING_BYTES, CLOSING_BYTES}

-- what stands before the path
abbrev pub opening : List ℕ
opening = codes "\"/config/"

-- the path: what stands between the opening and the closing
abbrev pub path_in : List ℕ → List ℕ
path_in value = slice_range value OPENING_BYTES (length value - CLOSING_BYTES)

-- the closing: what stands behind the path
abbrev pub closing_in : List ℕ → List ℕ
closing_in value = slice_range value (length value - CLOSING_BYTES) (length value)

-- the digits in a closing: all but its first and its last byte
abbrev pub hex_in : List ℕ → List ℕ
hex_in closing = slice_range closing 1 (CLOSING_BYTES - 1)

-- a space, digits, and `"`
abbrev pub is_closing : List ℕ → Bool
is_closing closing = slice_index closing 0 == 32 && (slice_index closing (CLOSING_BYTES - 1) == 34 && list_all is_lower_hex (hex_in closing))

-- long enough for both, with the opening in front and a closing at the end
abbrev pub is_framed : List ℕ → Bool
is_framed value = nat_le (OPENING_BYTES + CLOSING_BYTES) (length value) && (starts_with nat_eq value opening && is_closing (closing_in value))

abbrev pub framed_tag : List ℕ → Result Tag IfMatchFault
framed_tag value = parts_of_path (path_in value) ▷ λ parts. Ok (record { path = record { parts = parts }; hex = hex_in (closing_in value) })

-- the tag that the value gives, or that it has another form
abbrev pub tag_in : List ℕ → Result Tag IfMatchFault
tag_in value = if is_framed value then framed_tag value else Err Malformed
