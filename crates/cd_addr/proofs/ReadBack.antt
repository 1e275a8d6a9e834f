-- The text of an address that was read reads as that address.
use Rattle.std.proofs.Common.{◌≡◌, ℕ, suc, ◌+◌, ◌-◌, ◌<◌, ◌≤◌, ◌^◌, List, [], ◌∷◌, ◌++◌, length, get_or, map, Bool, true, false, Option, Some, None, Result, Ok, Err, sym, ap, subst, ◌∙◌, refl, arith, append_assoc, decimal}
use Rattle.std.specs.Prelude.{◌&&◌, nat_lt, nat_le, if◌then◌else◌}
use Rattle.std.specs.Char.{is_ascii_digit, to_ascii_lowercase}
use Rattle.std.specs.List.{All, list_all, range_with_len}
use Rattle.std.specs.Str.{bytes_eq}
use Rattle.std.specs.Str.Parse.{digits_value}
use Rattle.std.proofs.lemmas.Bool.{and_parts, and_from}
use Rattle.std.proofs.lemmas.Bool.Decides.{nat_tests}
use Rattle.std.proofs.lemmas.Fmt.{digits_decimal}
use Rattle.std.proofs.lemmas.List.Elements.{All-from_get_or}
use Rattle.std.proofs.lemmas.List.FromFn.{length-map-range_with_len, get_or-map-range_with_len}
use Rattle.std.proofs.lemmas.Str.Parse.{digit_at}
use Rattle.cd_text.specs.Steps.{◌▷◌}
use Rattle.cd_outside.specs.declared.address.Address.{Address}
use Rattle.cd_addr.specs.declared.limits.TheConstants.{MAX_PORT, MAX_RANGE_PORTS}
use Rattle.cd_addr.specs.declared.range.AddressRange.{AddressRange}
use Rattle.cd_addr.specs.declared.fault.AddrFault.{AddrFault}
use Rattle.cd_addr.specs.declared.fault.AddrFault.TheVariants.{BadNetwork, BadRange}
use Rattle.cd_addr.specs.Addresses.{Parts, HostAndPorts, cut_at, after_leading, of_network, without_network, is_host_byte, is_ip_byte, is_ip_text, in_brackets, no_brackets, either_host, host_of, port, from_to, one_or_two, ports, listed, range_of, addresses, has_colon, written}
use Rattle.cd_addr.proofs.Ports.{own, port_decimal, is_le, lt_is, le_is}
use Rattle.cd_addr.proofs.Cuts.{other_than, without, both_parts, uncut, cut_there, no_lead}
use Rattle.cd_addr.proofs.Hosts.{IsHost, lower_twice, from_plain, from_brackets}

-- ---- the text of a port

digits_by : (s : List ℕ) → ((i : ℕ) → i < length s → is_ascii_digit (get_or s i 0) ≡ true) → list_all is_ascii_digit s ≡ true
digits_by [] h = refl
digits_by (b ∷ s) h = and_from _ _ (h 0 (omega arith)) (digits_by s (λ i within. h (suc i) (omega arith)))

digits : (n : ℕ) → n < 2 ^ 64 → list_all is_ascii_digit (decimal n) ≡ true
digits n small = digits_by (decimal n) (λ i within. let at = digit_at (decimal n) i (own.to (decimal n) (digits_decimal own n small)) within in grind (arith, nat_tests, at))

ports_one : (p : ℕ) → 0 < p → p ≤ MAX_PORT → ports (Some (decimal p)) ≡ Ok (p, p)
unfolding ports
ports_one p some most =
    ap (λ o. one_or_two o (decimal p)) (uncut 45 (decimal p) (without is_ascii_digit 45 refl (decimal p) (digits p (omega arith))))
    ∙ (ap (λ o. from_to o o) (port_decimal p some most) ∙ rw (is_le p p (omega arith), is_le (p - p + 1) MAX_RANGE_PORTS (omega arith)) refl)

-- ---- the steps of a text that is written

-- the range of a host as it is kept
abbrev range_at : List ℕ → ℕ → ℕ → AddressRange
range_at host first last = record { host = map to_ascii_lowercase host; first = first; last = last }

chain : (s text host : List ℕ) (rest : Option (List ℕ)) (p : ℕ) → without_network s ≡ Ok text → host_of text ≡ Ok (host, rest) → ports rest ≡ Ok (p, p) → addresses s ≡ Ok (listed (range_at host p p))
unfolding addresses range_of
chain s text host rest p a b c = rw (a, b, c) refl

one : List ℕ → ℕ → List Address
one host p = record { host = host; port = p } ∷ []

address_of : List ℕ → ℕ → Address
address_of host port = record { host = map to_ascii_lowercase host; port = port }

only_one : (host : List ℕ) (p : ℕ) → map to_ascii_lowercase host ≡ host → listed (range_at host p p) ≡ record { host = host; port = p } ∷ []
unfolding one address_of
only_one host p lower =
    let single : p - p + 1 ≡ 1 = omega arith in
    ap (λ n. map (address_of host) (range_with_len p n)) single
    ∙ ap (λ h. one h p) lower

no_network : (s : List ℕ) → list_all (other_than 47) s ≡ true → without_network s ≡ Ok s
unfolding without_network
no_network s h = ap (λ o. of_network o s) (uncut 47 s h)

host_plain : (host rest : List ℕ) → list_all is_host_byte host ≡ true → list_all (other_than 91) (host ++ 58 ∷ rest) ≡ true → host_of (host ++ 58 ∷ rest) ≡ Ok (host, Some rest)
unfolding host_of
host_plain host rest h lead =
    ap (λ o. either_host o (host ++ 58 ∷ rest)) (no_lead 91 (host ++ 58 ∷ rest) lead)
    ∙ (ap (λ o. no_brackets o (host ++ 58 ∷ rest)) (cut_there 58 host rest (without is_host_byte 58 refl host h)) ∙ rw h refl)

host_in_brackets : (host rest : List ℕ) → is_ip_text host ≡ true → host_of (91 ∷ (host ++ 93 ∷ 58 ∷ rest)) ≡ Ok (host, Some rest)
unfolding host_of
host_in_brackets host rest h =
    ap in_brackets (cut_there 93 host (58 ∷ rest) (without is_ip_byte 93 refl host (and_parts _ _ h).1)) ∙ rw h refl

plain_reads : (host : List ℕ) (p : ℕ) → map to_ascii_lowercase host ≡ host → list_all is_host_byte host ≡ true → 0 < p → p ≤ MAX_PORT
    → addresses (host ++ 58 ∷ decimal p) ≡ Ok (record { host = host; port = p } ∷ [])
plain_reads host p lower h some most =
    let tail : list_all is_ascii_digit (decimal p) ≡ true = digits p (omega arith) in
    let slash : list_all (other_than 47) (host ++ 58 ∷ decimal p) ≡ true =
    both_parts (other_than 47) host (58 ∷ decimal p) (without is_host_byte 47 refl host h) (without is_ascii_digit 47 refl (decimal p) tail) in
    let bracket : list_all (other_than 91) (host ++ 58 ∷ decimal p) ≡ true =
    both_parts (other_than 91) host (58 ∷ decimal p) (without is_host_byte 91 refl host h) (without is_ascii_digit 91 refl (decimal p) tail) in
    chain (host ++ 58 ∷ decimal p) (host ++ 58 ∷ decimal p) host (Some (decimal p)) p (no_network _ slash) (host_plain host (decimal p) h bracket) (ports_one p some most)
    ∙ ap (λ found. Ok found) (only_one host p lower)

brackets_read : (host : List ℕ) (p : ℕ) → map to_ascii_lowercase host ≡ host → is_ip_text host ≡ true → 0 < p → p ≤ MAX_PORT
    → addresses ((91 ∷ (host ++ 93 ∷ [])) ++ 58 ∷ decimal p) ≡ Ok (record { host = host; port = p } ∷ [])
brackets_read host p lower h some most =
    let tail : list_all is_ascii_digit (decimal p) ≡ true = digits p (omega arith) in
    let slash : list_all (other_than 47) (host ++ 93 ∷ 58 ∷ decimal p) ≡ true =
    both_parts (other_than 47) host (93 ∷ 58 ∷ decimal p) (without is_ip_byte 47 refl host (and_parts _ _ h).1) (without is_ascii_digit 47 refl (decimal p) tail) in
    ap (λ s. addresses (91 ∷ s)) (append_assoc host (93 ∷ []) (58 ∷ decimal p))
    ∙ (chain (91 ∷ (host ++ 93 ∷ 58 ∷ decimal p)) (91 ∷ (host ++ 93 ∷ 58 ∷ decimal p)) host (Some (decimal p)) p (no_network _ slash) (host_in_brackets host (decimal p) h) (ports_one p some most)
    ∙ ap (λ found. Ok found) (only_one host p lower))

by_colon : (host : List ℕ) (p : ℕ) (b : Bool) → has_colon host ≡ b → map to_ascii_lowercase host ≡ host → IsHost host → 0 < p → p ≤ MAX_PORT
    → addresses ((if b then 91 ∷ (host ++ 93 ∷ []) else host) ++ 58 ∷ decimal p) ≡ Ok (record { host = host; port = p } ∷ [])
by_colon host p true e lower is some most = brackets_read host p lower (is.in_brackets e) some most
by_colon host p false e lower is some most = plain_reads host p lower (is.plain e) some most

-- what is written of such an address
reads : (host : List ℕ) (p : ℕ) → map to_ascii_lowercase host ≡ host → IsHost host → 0 < p → p ≤ MAX_PORT
    → addresses (written (record { host = host; port = p })) ≡ Ok (record { host = host; port = p } ∷ [])
reads host p lower is some most = by_colon host p (has_colon host) refl lower is some most

-- ---- what was read is such an address

-- a step that went on, and what came of it
record Went {A B : Type 0} (r : Result A AddrFault) (next : A → Result B AddrFault) (x : B) : Type 0 where
  value : A
  is : r ≡ Ok value
  rest : next value ≡ Ok x

went : {A B : Type 0} (r : Result A AddrFault) (next : A → Result B AddrFault) (x : B) → (r ▷ next) ≡ Ok x → Went r next x
went (Ok a) next x h = record { value = a; is = refl; rest = h }
went (Err fault) next x h = cc

plain_by : (host : List ℕ) (rest : Option (List ℕ)) (x : HostAndPorts) (b : Bool) → list_all is_host_byte host ≡ b → (if b then Ok (host, rest) else Err BadNetwork) ≡ Ok x → IsHost (map to_ascii_lowercase x.0)
plain_by host rest x true e h = let same : host ≡ x.0 = cc in subst (λ z. IsHost (map to_ascii_lowercase z)) same (from_plain host e)
plain_by host rest x false e h = cc

brackets_by : (host : List ℕ) (rest : Option (List ℕ)) (x : HostAndPorts) (b : Bool) → is_ip_text host ≡ b → (if b then Ok (host, rest) else Err BadNetwork) ≡ Ok x → IsHost (map to_ascii_lowercase x.0)
brackets_by host rest x true e h = let same : host ≡ x.0 = cc in subst (λ z. IsHost (map to_ascii_lowercase z)) same (from_brackets host e)
brackets_by host rest x false e h = cc

no_brackets_host : (o : Option Parts) (s : List ℕ) (x : HostAndPorts) → no_brackets o s ≡ Ok x → IsHost (map to_ascii_lowercase x.0)
no_brackets_host None s x h = plain_by s None x (list_all is_host_byte s) refl h
no_brackets_host (Some cut) s x h = plain_by cut.0 (Some cut.1) x (list_all is_host_byte cut.0) refl h

brackets_host : (o : Option Parts) (x : HostAndPorts) → in_brackets o ≡ Ok x → IsHost (map to_ascii_lowercase x.0)
brackets_host None x h = cc
brackets_host (Some cut) x h = brackets_by cut.0 (after_leading 58 cut.1) x (is_ip_text cut.0) refl h

either : (lead : Option (List ℕ)) (s : List ℕ) (x : HostAndPorts) → either_host lead s ≡ Ok x → IsHost (map to_ascii_lowercase x.0)
either None s x h = no_brackets_host (cut_at 58 s) s x h
either (Some rest) s x h = brackets_host (cut_at 93 rest) x h

host_read : (s : List ℕ) (x : HostAndPorts) → host_of s ≡ Ok x → IsHost (map to_ascii_lowercase x.0)
unfolding host_of
host_read s x h = either (after_leading 91 s) s x h

-- a port
record IsPort (n : ℕ) : Type 0 where
  some : 0 < n
  most : n ≤ MAX_PORT

port_by : (v n : ℕ) (b c d : Bool) → nat_lt 0 v ≡ b → nat_le v MAX_PORT ≡ c → (if b && c && d then Some v else None) ≡ Some n → IsPort n
port_by v n true true true e f h = let same : v ≡ n = cc in subst IsPort same (record { some = lt_is 0 v e; most = le_is v MAX_PORT f })
port_by v n true true false e f h = cc
port_by v n true false d e f h = cc
port_by v n false c d e f h = cc

port_read : (s : List ℕ) (n : ℕ) → port s ≡ Some n → IsPort n
unfolding port
port_read s n h = port_by (digits_value 10 s) n (nat_lt 0 (digits_value 10 s)) (nat_le (digits_value 10 s) MAX_PORT) (bytes_eq (decimal (digits_value 10 s)) s) refl refl h

-- two ports
record ArePorts (x : ℕ × ℕ) : Type 0 where
  first : IsPort x.0
  last : IsPort x.1

fits_by : (a b : ℕ) (x : ℕ × ℕ) (t : Bool) → IsPort a → IsPort b → (if t then Ok (a, b) else Err BadRange) ≡ Ok x → ArePorts x
fits_by a b x true p q h =
    let first : a ≡ x.0 = cc in
    let last : b ≡ x.1 = cc in
    record { first = subst IsPort first p; last = subst IsPort last q }
fits_by a b x false p q h = cc

range_by : (a b : Option ℕ) (x : ℕ × ℕ) → ((n : ℕ) → a ≡ Some n → IsPort n) → ((n : ℕ) → b ≡ Some n → IsPort n) → from_to a b ≡ Ok x → ArePorts x
range_by None b x p q h = cc
range_by (Some a) None x p q h = cc
range_by (Some a) (Some b) x p q h = fits_by a b x (nat_le a b && nat_le (b - a + 1) MAX_RANGE_PORTS) (p a refl) (q b refl) h

one_or_two_read : (o : Option Parts) (s : List ℕ) (x : ℕ × ℕ) → one_or_two o s ≡ Ok x → ArePorts x
one_or_two_read None s x h = range_by (port s) (port s) x (port_read s) (port_read s) h
one_or_two_read (Some cut) s x h = range_by (port cut.0) (port cut.1) x (port_read cut.0) (port_read cut.1) h

ports_read : (o : Option (List ℕ)) (x : ℕ × ℕ) → ports o ≡ Ok x → ArePorts x
unfolding ports
ports_read None x h = cc
ports_read (Some s) x h = one_or_two_read (cut_at 45 s) s x h

-- the text of the address reads as the address
abbrev pub ReadsBack : Address → Type 0
ReadsBack address = addresses (written address) ≡ Ok (address ∷ [])

each_reads : (host : List ℕ) (first last : ℕ) → IsHost (map to_ascii_lowercase host) → IsPort first → IsPort last → All ReadsBack (listed (range_at host first last))
unfolding address_of
each_reads host first last is p q =
    let n = last - first + 1 in
    All-from_get_or ReadsBack (listed (range_at host first last)) (address_of host first) (λ i within.
    let inside : i < n = omega (arith, length-map-range_with_len (address_of host) first n) in
    subst ReadsBack (sym (get_or-map-range_with_len (address_of host) first n i (first + i) (address_of host first) inside refl))
    (reads (map to_ascii_lowercase host) (first + i) (lower_twice host) is (omega (arith, p.some)) (omega (arith, p.most, q.most))))

-- each address that was read
pub each_reads_back : (s : List ℕ) (found : List Address) → addresses s ≡ Ok found → All ReadsBack found
unfolding addresses range_of
each_reads_back s found h =
    let whole = went (range_of s) _ found h in
    let text = went (without_network s) _ whole.value whole.is in
    let host = went (host_of text.value) _ whole.value text.rest in
    let ends = went (ports host.value.1) _ whole.value host.rest in
    let range : range_at host.value.0 ends.value.0 ends.value.1 ≡ whole.value = cc in
    let same : listed whole.value ≡ found = cc in
    let within = ports_read host.value.1 ends.value ends.is in
    subst (All ReadsBack) (ap listed range ∙ same) (each_reads host.value.0 ends.value.0 ends.value.1 (host_read text.value host.value host.is) within.first within.last)
