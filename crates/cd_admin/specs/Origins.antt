-- Part of the main theorem.
-- By which hosts, and from which origins, the admin API may be asked (Caddy, JSON Config Structure, `admin`; RFC 6454, section 7).
use Rattle.std.specs.Prelude.{ℕ, ◌==◌, not, Bool, if◌then◌else◌, List, [], ◌∷◌, length, take, drop, codes, Option, Some, None, Ok}
use Rattle.std.specs.List.{list_any}
use Rattle.std.specs.Str.{str_eq_ignore_ascii_case}
use Rattle.cd_text.specs.Steps.{◌▷◌}
use Rattle.cd_outside.specs.declared.address.Address.{Address}
use Rattle.cd_addr.specs.Addresses.{written}
use Rattle.cd_wire.specs.Fields.{values}
use Rattle.cd_wire.specs.declared.fields.Field.{Field}
use Rattle.cd_admin.specs.Endings.{Test, denied}
use Rattle.cd_admin.specs.declared.admin.Admin.{Admin}
use Rattle.cd_admin.specs.declared.denial.Denial.TheVariants.{OtherHost, OtherOrigin}

-- ---- what is expected

-- an address is asked for by its text
abbrev pub text_at : List ℕ → ℕ → List ℕ
text_at host port = written (record { host = host; port = port })

-- and one without a host by the names of this machine
abbrev pub local_texts : ℕ → List (List ℕ)
local_texts port = text_at (codes "localhost") port ∷ (text_at (codes "127.0.0.1") port ∷ (text_at (codes "::1") port ∷ []))

abbrev pub texts_of : Address → List (List ℕ)
texts_of address = if length address.host == 0 then local_texts address.port else written address ∷ []

-- the origins that are given, and they alone; else the address that is listened on
abbrev pub given_or_address : Option (List (List ℕ)) → Address → List (List ℕ)
given_or_address None address = texts_of address
given_or_address (Some origins) address = origins

abbrev pub expected : Admin → List (List ℕ)
expected a = given_or_address a.origins a.listen

-- ---- what is one of them

-- a text begins with this scheme, in any case
abbrev pub has_scheme : List ℕ → List ℕ → Bool
has_scheme scheme text = str_eq_ignore_ascii_case (take (length scheme) text) scheme

-- a text without the scheme of HTTP or of HTTPS in front
unfoldable pub without_scheme : List ℕ → List ℕ
without_scheme text =
    if has_scheme (codes "http://") text then drop 7 text
    else if has_scheme (codes "https://") text then drop 8 text
    else text

-- a host is that of an entry, whose scheme does not count; nor does case
abbrev pub names : List ℕ → List ℕ → Bool
names host entry = str_eq_ignore_ascii_case (without_scheme entry) host

abbrev pub is_among : List (List ℕ) → List ℕ → Bool
is_among entries host = list_any (names host) entries

-- ---- the test of a request

-- the host that is asked for is expected
abbrev pub host_test : List (List ℕ) → List ℕ → Test (Unit {0})
host_test entries host = if is_among entries host then Ok tt else denied OtherHost

-- and so is the origin of the page that asks; who is no page names none
abbrev pub origin_test : List (List ℕ) → List (List ℕ) → Test (Unit {0})
origin_test entries [] = Ok tt
origin_test entries (origin ∷ []) = if is_among entries (without_scheme origin) then Ok tt else denied OtherOrigin
origin_test entries (origin ∷ other ∷ more) = denied OtherOrigin

-- both, where origins are enforced
unfoldable pub admitted : Admin → List ℕ → List Field → Test (Unit {0})
admitted a host fields =
    if not a.enforce_origin then Ok tt
    else (host_test (expected a) host ▷ λ _. origin_test (expected a) (values (codes "origin") fields))
