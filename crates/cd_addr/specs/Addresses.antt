-- Part of the main theorem.
-- The addresses that a text writes, and the text that an address has (Caddy, Conventions, Network addresses).
use Rattle.std.specs.Prelude.{ℕ, ◌+◌, ◌-◌, ◌==◌, ◌&&◌, ◌||◌, not, nat_lt, nat_le, Bool, if◌then◌else◌, List, [], ◌∷◌, ◌++◌, length, map, codes, decimal, Option, Some, None, Result, Ok, Err}
use Rattle.std.specs.Char.{is_ascii_hexdigit, is_ascii_alphanumeric, to_ascii_lowercase}
use Rattle.std.specs.List.{list_all, list_any, before_first, after_first, range_with_len, position_or_len}
use Rattle.std.specs.Str.{bytes_eq}
use Rattle.std.specs.Str.Parse.{digits_value}
use Rattle.cd_text.specs.Steps.{◌▷◌}
use Rattle.cd_outside.specs.declared.address.Address.{Address}
use Rattle.cd_addr.specs.declared.limits.TheConstants.{MAX_PORT, MAX_RANGE_PORTS}
use Rattle.cd_addr.specs.declared.range.AddressRange.{AddressRange}
use Rattle.cd_addr.specs.declared.fault.AddrFault.{AddrFault}
use Rattle.cd_addr.specs.declared.fault.AddrFault.TheVariants.{BadNetwork, BadPort, BadRange}

-- two parts of a text
abbrev pub Parts : Type 0
Parts = List ℕ × List ℕ

-- what stands before and after the first such byte, if there is one
unfoldable pub cut_at : ℕ → List ℕ → Option Parts
cut_at byte s =
    if nat_lt (position_or_len (λ b. b == byte) s) (length s) then Some (before_first (λ b. b == byte) s, after_first (λ b. b == byte) s) else None

-- what stands after the first byte, where it is this one
abbrev pub after_leading : ℕ → List ℕ → Option (List ℕ)
after_leading byte [] = None
after_leading byte (b ∷ s) = if b == byte then Some s else None

-- ---- the network

-- with a network in front, which is to be `tcp`
abbrev pub of_network : Option Parts → List ℕ → Result (List ℕ) AddrFault
of_network None s = Ok s
of_network (Some cut) s = if bytes_eq cut.0 (codes "tcp") then Ok cut.1 else Err BadNetwork

-- the text after its network; a network ends at the first `/`
unfoldable pub without_network : List ℕ → Result (List ℕ) AddrFault
without_network s = of_network (cut_at 47 s) s

-- ---- the host

-- a letter, a digit, or one of `.`, `-` and `_`
abbrev pub is_host_byte : ℕ → Bool
is_host_byte b = is_ascii_alphanumeric b || (b == 46) || (b == 45) || (b == 95)

-- a hexadecimal digit, or one of `:` and `.`
abbrev pub is_ip_byte : ℕ → Bool
is_ip_byte b = is_ascii_hexdigit b || (b == 58) || (b == 46)

-- what may stand in brackets: one such byte or more
abbrev pub is_ip_text : List ℕ → Bool
is_ip_text s = not (length s == 0) && list_all is_ip_byte s

-- a host, and what stands after the colon that follows it, if one does
abbrev pub HostAndPorts : Type 0
HostAndPorts = List ℕ × Option (List ℕ)

-- a host in brackets, which end at the first `]`
abbrev pub in_brackets : Option Parts → Result HostAndPorts AddrFault
in_brackets None = Err BadNetwork
in_brackets (Some cut) = if is_ip_text cut.0 then Ok (cut.0, after_leading 58 cut.1) else Err BadNetwork

-- a host without brackets, which may be empty
abbrev pub plain : List ℕ → Option (List ℕ) → Result HostAndPorts AddrFault
plain host ports = if list_all is_host_byte host then Ok (host, ports) else Err BadNetwork

-- it ends at the first `:`
abbrev pub no_brackets : Option Parts → List ℕ → Result HostAndPorts AddrFault
no_brackets None s = plain s None
no_brackets (Some cut) s = plain cut.0 (Some cut.1)

-- with or without brackets
abbrev pub either_host : Option (List ℕ) → List ℕ → Result HostAndPorts AddrFault
either_host None s = no_brackets (cut_at 58 s) s
either_host (Some rest) s = in_brackets (cut_at 93 rest)

-- the host that a text begins with
unfoldable pub host_of : List ℕ → Result HostAndPorts AddrFault
host_of s = either_host (after_leading 91 s) s

-- ---- the ports

-- this number, where it is a port and this text is its decimal text, which has no leading zero
abbrev pub if_port : ℕ → List ℕ → Option ℕ
if_port n s = if nat_lt 0 n && nat_le n MAX_PORT && bytes_eq (decimal n) s then Some n else None

-- a port
unfoldable pub port : List ℕ → Option ℕ
port s = if_port (digits_value 10 s) s

-- the first and the last port, of which the last is not below the first, and which are not too many
abbrev pub from_to : Option ℕ → Option ℕ → Result (ℕ × ℕ) AddrFault
from_to None last = Err BadPort
from_to (Some first) None = Err BadPort
from_to (Some first) (Some last) = if nat_le first last && nat_le (last - first + 1) MAX_RANGE_PORTS then Ok (first, last) else Err BadRange

-- one port, or two joined by `-`
abbrev pub one_or_two : Option Parts → List ℕ → Result (ℕ × ℕ) AddrFault
one_or_two None s = from_to (port s) (port s)
one_or_two (Some cut) s = from_to (port cut.0) (port cut.1)

-- the ports after the colon, which has to be there
unfoldable pub ports : Option (List ℕ) → Result (ℕ × ℕ) AddrFault
ports None = Err BadPort
ports (Some s) = one_or_two (cut_at 45 s) s

-- ---- the addresses

-- an address for each port of a range, by rising port; a range has its first port at least
abbrev pub listed : AddressRange → List Address
listed range = map (λ port. record { host = range.host; port = port }) (range_with_len range.first (range.last - range.first + 1))

-- the range that a text writes, or the first fault: of the network and the host, of a port, of the range. A host is kept in lower case
unfoldable pub range_of : List ℕ → Result AddressRange AddrFault
range_of s =
    without_network s ▷ λ text.
    host_of text ▷ λ host.
    ports host.1 ▷ λ ends.
    Ok (record { host = map to_ascii_lowercase host.0; first = ends.0; last = ends.1 })

-- the addresses that a text writes
unfoldable pub addresses : List ℕ → Result (List Address) AddrFault
addresses s = range_of s ▷ λ range. Ok (listed range)

-- the same host and the same port
abbrev pub is_address : Address → Address → Bool
is_address one other = bytes_eq one.host other.host && (one.port == other.port)

-- ---- the text of an address

-- some byte is a colon
abbrev pub has_colon : List ℕ → Bool
has_colon = list_any (λ b. b == 58)

-- a host that has a colon is written in brackets
abbrev pub host_written : List ℕ → List ℕ
host_written host = if has_colon host then 91 ∷ (host ++ 93 ∷ []) else host

-- the host, a colon, and the port
abbrev pub written : Address → List ℕ
written address = host_written address.host ++ 58 ∷ decimal address.port
