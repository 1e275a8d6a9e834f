-- Part of the main theorem.
-- What the path of a request names, and what its method asks for there (Caddy documentation, "API").
use Rattle.std.specs.Prelude.{ℕ, ◌==◌, Bool, if◌then◌else◌, List, [], ◌∷◌, length, drop, reverse, codes, Option, Some, None, Ok, nat_eq}
use Rattle.std.specs.List.{slice_split, starts_with}
use Rattle.std.specs.Str.{bytes_eq, is_utf8}
use Rattle.cd_text.specs.Steps.{◌▷◌}
use Rattle.cd_path.specs.declared.verb.Verb.TheVariants.{Post, Put, Patch, Delete}
use Rattle.cd_admin.specs.Endings.{Test, denied}
use Rattle.cd_admin.specs.declared.action.Action.{Action}
use Rattle.cd_admin.specs.declared.action.Action.TheVariants.{Look, Change}
use Rattle.cd_admin.specs.declared.denial.Denial.TheVariants.{UnknownPath, OtherMethod}
use Rattle.cd_admin.specs.declared.denial.Methods.TheVariants.{All, PostAlone}
use Rattle.cd_admin.specs.declared.endpoint.Endpoint.{Endpoint}
use Rattle.cd_admin.specs.declared.endpoint.Endpoint.TheVariants.{Config, Id, Load, Stop}

-- ---- slashes

abbrev pub is_slash : ℕ → Bool
is_slash b = b == 47

-- without the slashes in front
abbrev pub skip_slashes : List ℕ → List ℕ
skip_slashes [] = []
skip_slashes (b ∷ bytes) = if is_slash b then skip_slashes bytes else b ∷ bytes

-- without those at the end
abbrev pub without_last_slashes : List ℕ → List ℕ
without_last_slashes bytes = reverse (skip_slashes (reverse bytes))

-- ---- paths

-- the bytes, where they are UTF-8
abbrev pub text_in : List ℕ → Option (List ℕ)
text_in bytes = if is_utf8 bytes then Some bytes else None

-- what stands between the slashes of a text
abbrev pub split_text : Option (List ℕ) → Test (List (List ℕ))
split_text None = denied UnknownPath
split_text (Some text) = Ok (slice_split is_slash text)

-- the parts of a text; nothing has no parts
abbrev pub parts_of : List ℕ → Test (List (List ℕ))
parts_of bytes = if length bytes == 0 then Ok [] else split_text (text_in bytes)

-- a path of the configuration, where slashes at both ends do not count
abbrev pub config_at : List ℕ → Test Endpoint
config_at rest = parts_of (without_last_slashes (skip_slashes rest)) ▷ λ parts. Ok (Config (record { parts = parts }))

-- an id, and the parts below its object
abbrev pub id_of : List (List ℕ) → Test Endpoint
id_of [] = denied UnknownPath
id_of (id ∷ parts) = Ok (Id id parts)

-- where slashes at the end do not count
abbrev pub id_at : List ℕ → Test Endpoint
id_at rest = parts_of (without_last_slashes rest) ▷ id_of

-- what a path names, after percent-decoding
unfoldable pub endpoint : List ℕ → Test Endpoint
endpoint path =
    if bytes_eq path (codes "/load") then Ok Load
    else if bytes_eq path (codes "/stop") then Ok Stop
    else if bytes_eq path (codes "/config") then Ok (Config (record { parts = [] }))
    else if starts_with nat_eq path (codes "/config/") then config_at (drop 8 path)
    else if starts_with nat_eq path (codes "/id/") then id_at (drop 4 path)
    else denied UnknownPath

-- ---- methods

-- what a method asks for at a value
abbrev pub any_method : List ℕ → Test Action
any_method method =
    if bytes_eq method (codes "GET") then Ok Look
    else if bytes_eq method (codes "POST") then Ok (Change Post)
    else if bytes_eq method (codes "PUT") then Ok (Change Put)
    else if bytes_eq method (codes "PATCH") then Ok (Change Patch)
    else if bytes_eq method (codes "DELETE") then Ok (Change Delete)
    else denied (OtherMethod All)

-- what it asks for where POST alone is taken
abbrev pub post_alone : List ℕ → Test Action
post_alone method = if bytes_eq method (codes "POST") then Ok (Change Post) else denied (OtherMethod PostAlone)

-- what a method asks for at an endpoint; case counts (RFC 9110, section 9.1)
unfoldable pub action_at : Endpoint → List ℕ → Test Action
action_at (Config path) = any_method
action_at (Id id below) = any_method
action_at Load = post_alone
action_at Stop = post_alone
