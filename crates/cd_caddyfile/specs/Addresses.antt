-- Part of the main theorem.
-- The addresses of sites.
use Rattle.std.specs.Prelude.{ℕ, ◌+◌, ◌-◌, ◌*◌, ◌==◌, ◌&&◌, ◌||◌, not, nat_le, Bool, false, if◌then◌else◌, List, [], ◌∷◌, length, map, drop, codes, nat_eq, Option, Some, None}
use Rattle.std.specs.Char.{is_ascii_alphanumeric, is_ascii_digit, to_ascii_lowercase}
use Rattle.std.specs.List.{list_any, list_all, starts_with, before_first, after_first}
use Rattle.cd_caddyfile.specs.declared.address.Address.{Address}

abbrev pub begins_with : ℕ → List ℕ → Bool
begins_with byte [] = false
begins_with byte (first ∷ rest) = first == byte

-- a letter, a digit, or one of `.`, `-`, `_` and `*`
abbrev pub is_host_byte : ℕ → Bool
is_host_byte b = is_ascii_alphanumeric b || (b == 46 || (b == 45 || (b == 95 || b == 42)))

abbrev pub is_host : List ℕ → Bool
is_host text = not (length text == 0) && list_all is_host_byte text

-- a decimal without a leading zero
abbrev pub is_decimal : List ℕ → Bool
is_decimal text = not (length text == 0) && (list_all is_ascii_digit text && not (begins_with 48 text))

-- the number that digits write after those of n
abbrev pub number : ℕ → List ℕ → ℕ
number n [] = n
number n (digit ∷ digits) = number (n * 10 + (digit - 48)) digits

-- a decimal up to 65535; 443 is the port of HTTPS
abbrev pub port_of : List ℕ → Option ℕ
port_of text =
    if is_decimal text && (nat_le (number 0 text) 65535 && not (number 0 text == 443)) then Some (number 0 text) else None

abbrev pub at_port : Option (List ℕ) → Option ℕ → Option Address
at_port host None = None
at_port host (Some port) = Some (record { port = port; host = host })

abbrev pub is_colon : ℕ → Bool
is_colon b = b == 58

-- `:PORT`
abbrev pub port_alone : List ℕ → Option Address
port_alone [] = None
port_alone (first ∷ rest) = if first == 58 then at_port None (port_of rest) else None

-- `HOST`
abbrev pub host_alone : List ℕ → Option Address
host_alone text = if is_host text then at_port (Some (map to_ascii_lowercase text)) (Some 80) else None

-- `HOST:PORT`, or `:PORT`
abbrev pub host_then_port : List ℕ → List ℕ → List ℕ → Option Address
host_then_port host port text = if is_host host then at_port (Some (map to_ascii_lowercase host)) (port_of port) else port_alone text

-- `HOST`, `HOST:PORT` or `:PORT`; a host is kept in lower case, and port 80 is where none is given
abbrev pub host_and_port : List ℕ → Option Address
host_and_port text =
    if list_any is_colon text then host_then_port (before_first is_colon text) (after_first is_colon text) text else host_alone text

-- `:PORT`, or what follows `http://`
abbrev pub address_in : List ℕ → Option Address
address_in text =
    if starts_with nat_eq text (codes "http://") then host_and_port (drop 7 text) else port_alone text

-- the one word before the block of a site
abbrev pub address_of : List (List ℕ) → Option Address
address_of [] = None
address_of (text ∷ []) = address_in text
address_of (text ∷ other ∷ others) = None
