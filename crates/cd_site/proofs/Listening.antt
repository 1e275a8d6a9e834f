-- `:PORT` is read as the one address of that port.
use Rattle.std.proofs.Common.{◌≡◌, ℕ, suc, ◌+◌, ◌-◌, ◌<◌, ◌^◌, List, [], ◌∷◌, ◌++◌, length, get_or, map, Bool, true, false, Option, Some, None, Result, Ok, Err, refl, sym, ap, ◌∙◌, subst, arith, decimal, eqb-true}
use Rattle.std.specs.Prelude.{◌==◌, ◌&&◌, not, nat_lt, nat_le, if◌then◌else◌}
use Rattle.std.specs.Char.{is_ascii_digit, to_ascii_lowercase}
use Rattle.std.specs.List.{list_all, position_or_len, range_with_len, flat_map}
use Rattle.std.specs.Str.{bytes_eq}
use Rattle.std.specs.Str.Parse.{AllDigits, digits_value}
use Rattle.std.proofs.lemmas.Bool.{and_parts, and_from}
use Rattle.std.proofs.lemmas.Bool.Decides.{nat_tests}
use Rattle.std.proofs.lemmas.Fmt.{digits_decimal, digits_value-decimal}
use Rattle.std.proofs.lemmas.Str.Parse.{IsNumeralModel, numerals_by_value, tells_digits, digit_at}
use Rattle.cd_text.specs.Steps.{◌▷◌}
use Rattle.cd_outside.specs.declared.address.Address.{Address}
use Rattle.cd_addr.specs.Addresses.{Parts, cut_at, of_network, without_network, no_brackets, either_host, host_of, if_port, port, from_to, one_or_two, ports, listed, range_of}
use Rattle.cd_addr.specs.declared.fault.AddrFault.{AddrFault}
use Rattle.cd_addr.specs.declared.fault.AddrFault.TheVariants.{BadRange, BadPort}
use Rattle.cd_addr.specs.declared.limits.TheConstants.{MAX_PORT, MAX_RANGE_PORTS}
use Rattle.cd_addr.specs.declared.range.AddressRange.{AddressRange}
use Rattle.cd_tree.specs.Path.{◌▸◌}
use Rattle.cd_tree.specs.declared.path.Path.{Path}
use Rattle.cd_tree.specs.declared.tree.Tree as tree
use Rattle.cd_module.specs.Settings.{text, list_of, each}
use Rattle.cd_routes.specs.Server.{placed, listen_text, some_text, listen, listened}
use Rattle.cd_routes.specs.declared.listen.Listen.{Listen}
use Rattle.cd_routes.specs.declared.listen.ListenText.{ListenText}
use Rattle.cd_caddyfile.specs.Shape.{text_list}
use Rattle.cd_site.proofs.Objects.{Went, went, same_value, text_is, list_is}

-- ---- cuts

no_lt : (n : ℕ) → nat_lt n n ≡ false
no_lt n = grind (arith, nat_tests)

next : (n : ℕ) → 1 + n ≡ suc n
next n = omega arith

-- another byte
abbrev other_than : ℕ → ℕ → Bool
other_than byte b = not (b == byte)

no_digit_by : (c b : ℕ) (t : Bool) → (b == c) ≡ t → is_ascii_digit c ≡ false → is_ascii_digit b ≡ true → not t ≡ true
no_digit_by c b true same fails passes = let is : is_ascii_digit b ≡ is_ascii_digit c = ap is_ascii_digit (eqb-true b c same) in cc
no_digit_by c b false same fails passes = refl

no_digit : (c : ℕ) → is_ascii_digit c ≡ false → (s : List ℕ) → list_all is_ascii_digit s ≡ true → list_all (other_than c) s ≡ true
no_digit c fails [] all = refl
no_digit c fails (b ∷ s) all =
    let both = and_parts (is_ascii_digit b) (list_all is_ascii_digit s) all in
    and_from _ _ (no_digit_by c b (b == c) refl fails both.0) (no_digit c fails s both.1)

not_true : (t : Bool) → not t ≡ true → t ≡ false
not_true true h = cc
not_true false h = refl

-- where a byte is not there, its place is the end
at_end : (byte : ℕ) (s : List ℕ) → list_all (other_than byte) s ≡ true → position_or_len (λ b. b == byte) s ≡ length s
at_end byte [] all = refl
at_end byte (b ∷ s) all =
    let both = and_parts (other_than byte b) (list_all (other_than byte) s) all in
    rw (not_true (b == byte) both.0) (ap (λ (n : ℕ). 1 + n) (at_end byte s both.1) ∙ next (length s))

uncut : (byte : ℕ) (s : List ℕ) → list_all (other_than byte) s ≡ true → cut_at byte s ≡ None
unfolding cut_at
uncut byte s all = rw (at_end byte s all, no_lt (length s)) refl

some_after : (s : List ℕ) → nat_lt 0 (length (58 ∷ s)) ≡ true
some_after s = grind (arith, nat_tests)

cut_at_colon : (s : List ℕ) → cut_at 58 (58 ∷ s) ≡ Some ([], s)
unfolding cut_at
cut_at_colon s = rw (some_after s) refl

-- ---- the text of a port

own : IsNumeralModel (AllDigits 10) (digits_value 10)
own = numerals_by_value (AllDigits 10) tells_digits

digits_by : (s : List ℕ) → ((i : ℕ) → i < length s → is_ascii_digit (get_or s i 0) ≡ true) → list_all is_ascii_digit s ≡ true
digits_by [] h = refl
digits_by (b ∷ s) h = and_from _ _ (h 0 (omega arith)) (digits_by s (λ i within. h (suc i) (omega arith)))

digits : (n : ℕ) → n < 2 ^ 64 → list_all is_ascii_digit (decimal n) ≡ true
digits n small = digits_by (decimal n) (λ i within. let at = digit_at (decimal n) i (own.to (decimal n) (digits_decimal own n small)) within in grind (arith, nat_tests, at))

port_is : (n : ℕ) → n < 2 ^ 64 → port (decimal n) ≡ if_port n (decimal n)
unfolding port
port_is n small = ap (λ v. if_port v (decimal n)) (digits_value-decimal own n small)

abbrev range_at : ℕ → AddressRange
range_at n = record { host = []; first = n; last = n }

-- ---- the range

abbrev ended : Option ℕ → Result AddressRange AddrFault
ended o = from_to o o ▷ λ ends. Ok (record { host = []; first = ends.0; last = ends.1 })

range_is : (n : ℕ) → n < 2 ^ 64 → range_of (58 ∷ decimal n) ≡ ended (port (decimal n))
unfolding range_of without_network host_of ports
range_is n small =
    ap (λ o. of_network o (58 ∷ decimal n) ▷ λ text. host_of text ▷ λ host. ports host.1 ▷ λ ends. Ok (record { host = map to_ascii_lowercase host.0; first = ends.0; last = ends.1 }))
    (uncut 47 (58 ∷ decimal n) (and_from _ _ refl (no_digit 47 refl (decimal n) (digits n small))))
    ∙ (ap (λ o. no_brackets o (58 ∷ decimal n) ▷ λ host. ports host.1 ▷ λ ends. Ok (record { host = map to_ascii_lowercase host.0; first = ends.0; last = ends.1 })) (cut_at_colon (decimal n))
    ∙ ap (λ o. one_or_two o (decimal n) ▷ λ ends. Ok (record { host = []; first = ends.0; last = ends.1 })) (uncut 45 (decimal n) (no_digit 45 refl (decimal n) (digits n small))))

abbrev one_port : ℕ → Bool → Result (ℕ × ℕ) AddrFault
one_port n t = if t then Ok (n, n) else Err BadRange

range_by : (n : ℕ) (t : Bool) (at : Path) (x : ListenText) → placed (one_port n t ▷ λ ends. Ok (record { host = []; first = ends.0; last = ends.1 })) at ≡ Ok x → x.range ≡ range_at n
range_by n true at x h = ap (λ y. y.range) (sym (same_value _ x h))
range_by n false at x h = cc

port_by : (n : ℕ) (t : Bool) (at : Path) (x : ListenText) → placed (ended (if t then Some n else None)) at ≡ Ok x → x.range ≡ range_at n
port_by n true at x h = range_by n (nat_le n n && nat_le (n - n + 1) MAX_RANGE_PORTS) at x h
port_by n false at x h = cc

range_read : (n : ℕ) (at : Path) (x : ListenText) → n < 2 ^ 64 → placed (range_of (58 ∷ decimal n)) at ≡ Ok x → x.range ≡ range_at n
range_read n at x small h =
    port_by n (nat_lt 0 n && nat_le n MAX_PORT && bytes_eq (decimal n) (decimal n)) at x (ap (λ r. placed r at) (sym (range_is n small ∙ ap ended (port_is n small))) ∙ h)

-- ---- what is listened on

only_one : (n : ℕ) → listed (range_at n) ≡ record { host = []; port = n } ∷ []
only_one n =
    let single : n - n + 1 ≡ 1 = omega arith in
    ap (λ k. map (λ (port : ℕ). record { host = []; port = port }) (range_with_len n k)) single

text_read : (n : ℕ) (at : Path) (x : ListenText) → n < 2 ^ 64 → listen_text (tree.Text (58 ∷ decimal n)) at ≡ Ok x → x.range ≡ range_at n
unfolding listen_text
text_read n at x small h = range_read n at x small (ap (λ r. r ▷ λ written. placed (range_of written) at) (sym (text_is (58 ∷ decimal n) at)) ∙ h)

one_listened : (x : ListenText) (n : ℕ) → x.range ≡ range_at n → listened (record { texts = x ∷ [] }) ≡ record { host = []; port = n } ∷ []
one_listened x n is = ap (λ r. listed r ++ []) is ∙ ap (λ l. l ++ []) (only_one n)

pub listen_read : (n : ℕ) (at : Path) (l : Listen) → n < 2 ^ 64 → listen (text_list ((58 ∷ decimal n) ∷ [])) at ≡ Ok l → listened l ≡ record { host = []; port = n } ∷ []
unfolding listen
listen_read n at l small h =
    let texts = went (list_of listen_text (text_list ((58 ∷ decimal n) ∷ [])) at) (λ texts. some_text texts at) l h in
    let one = went (listen_text (tree.Text (58 ∷ decimal n)) (at ▸ decimal 0)) _ texts.value (sym (list_is listen_text (tree.Text (58 ∷ decimal n) ∷ []) at) ∙ texts.is) in
    let all : one.value ∷ [] ≡ texts.value = same_value _ texts.value one.rest in
    let same : record { texts = one.value ∷ [] } ≡ l = same_value _ l (ap (λ ts. some_text ts at) all ∙ texts.rest) in
    ap listened (sym same) ∙ one_listened one.value n (text_read n (at ▸ decimal 0) one.value small one.is)
