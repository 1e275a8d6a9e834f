-- The words of the command `reverse-proxy`, and what they ask for.
use Rattle.std.specs.Prelude.{ℕ, ◌*◌, ◌==◌, ◌&&◌, not, nat_lt, nat_le, Bool, true, if◌then◌else◌, List, [], ◌∷◌, length, codes, Result, Ok, Err}
use Rattle.std.specs.List.{list_any}
use Rattle.std.specs.Str.{bytes_eq}
use Rattle.cd_text.specs.Steps.{◌▷◌}
use Rattle.cd_outside.specs.declared.address.Address.{Address}
use Rattle.cd_addr.specs.declared.fault.AddrFault.{AddrFault}
use Rattle.cd_addr.specs.Addresses.{addresses, is_address}
use Rattle.cd_peers.specs.declared.limits.TheConstants.{MAX_UPSTREAMS}
use Rattle.cd_peers.specs.declared.policy.Policy.{Policy}
use Rattle.cd_peers.specs.declared.policy.Policy.TheVariants.{First, RoundRobin, LeastConn}
use Rattle.cd_reverse_proxy.specs.declared.settings.ProxySettings.{ProxySettings}
use Rattle.cd_reverse_proxy.specs.declared.settings.WordsFault.{WordsFault}
use Rattle.cd_reverse_proxy.specs.declared.settings.WordsFault.TheVariants.{Unknown}

-- ---- an address

abbrev pub only_one : Result (List Address) AddrFault → Result Address WordsFault
only_one (Ok []) = Err Unknown
only_one (Ok (address ∷ [])) = Ok address
only_one (Ok (address ∷ other ∷ more)) = Err Unknown
only_one (Err fault) = Err Unknown

-- the address of a text that writes exactly one
unfoldable pub one_address : List ℕ → Result Address WordsFault
one_address text = only_one (addresses text)

-- an address can only be dialled where it has a host
abbrev pub if_host : Address → Result Address WordsFault
if_host address = if length address.host == 0 then Err Unknown else Ok address

unfoldable pub upstream : List ℕ → Result Address WordsFault
upstream text = one_address text ▷ λ address. if_host address

-- ---- the policy

abbrev pub policy_of : List ℕ → Result Policy WordsFault
policy_of word =
    if bytes_eq word (codes "first") then Ok First
    else if bytes_eq word (codes "round_robin") then Ok RoundRobin
    else if bytes_eq word (codes "least_conn") then Ok LeastConn
    else Err Unknown

-- ---- the upstreams

-- those of pairs `--to U`
abbrev pub to_each : List (List ℕ) → Result (List Address) WordsFault
to_each [] = Ok []
to_each (option ∷ []) = Err Unknown
to_each (option ∷ text ∷ others) =
    if bytes_eq option (codes "--to") then (upstream text ▷ λ first. to_each others ▷ λ found. Ok (first ∷ found)) else Err Unknown

-- no two are the same
abbrev pub are_distinct : List Address → Bool
are_distinct [] = true
are_distinct (first ∷ others) = not (list_any (is_address first) others) && are_distinct others

abbrev pub if_distinct : List Address → Result (List Address) WordsFault
if_distinct found = if are_distinct found then Ok found else Err Unknown

-- 1 to 16 pairs
abbrev pub upstreams : List (List ℕ) → Result (List Address) WordsFault
upstreams pairs =
    if nat_lt 0 (length pairs) && nat_le (length pairs) (2 * MAX_UPSTREAMS) then (to_each pairs ▷ λ found. if_distinct found) else Err Unknown

-- ---- the words

abbrev pub settings_of : List ℕ → List ℕ → List (List ℕ) → Result ProxySettings WordsFault
settings_of from policy pairs =
    one_address from ▷ λ address.
    policy_of policy ▷ λ rule.
    upstreams pairs ▷ λ found.
    Ok (record { from = address; policy = rule; upstreams = found })

-- `reverse-proxy --from A --policy P --to U ..`
abbrev pub settings : List (List ℕ) → Result ProxySettings WordsFault
settings [] = Err Unknown
settings (command ∷ []) = Err Unknown
settings (command ∷ from_option ∷ []) = Err Unknown
settings (command ∷ from_option ∷ from ∷ []) = Err Unknown
settings (command ∷ from_option ∷ from ∷ policy_option ∷ []) = Err Unknown
settings (command ∷ from_option ∷ from ∷ policy_option ∷ policy ∷ pairs) =
    if bytes_eq command (codes "reverse-proxy") && bytes_eq from_option (codes "--from") && bytes_eq policy_option (codes "--policy")
    then settings_of from policy pairs
    else Err Unknown
