-- Hosts in lower case, and the bytes that they may have.
use Rattle.std.proofs.Common.{◌≡◌, ℕ, ◌<◌, List, [], ◌∷◌, length, map, Bool, true, false, ap, ◌∙◌, refl, arith}
use Rattle.std.specs.Prelude.{◌==◌, ◌||◌, not}
use Rattle.std.specs.Char.{to_ascii_lowercase}
use Rattle.std.specs.List.{list_all}
use Rattle.std.proofs.lemmas.Bool.{and_parts, and_from, or_parts, agree_below_at}
use Rattle.std.proofs.lemmas.Bool.Decides.{nat_tests, eqb_tells}
use Rattle.std.proofs.lemmas.List.{length-map}
use Rattle.std.proofs.lemmas.Str.Ascii.{lowercase-lowercase}
use Rattle.cd_addr.specs.Addresses.{is_host_byte, is_ip_byte, is_ip_text, has_colon}
use Rattle.cd_addr.proofs.Cuts.{without, not_any}

-- a test that passes in lower case too, at each byte below 128, passes at each byte in lower case
keeps : (ℕ → Bool) → ℕ → Bool
keeps p b = not (p b) || p (to_ascii_lowercase b)

kept_by : (a b : Bool) → (not a || b) ≡ true → a ≡ true → b ≡ true
kept_by true b h passes = h
kept_by false b h passes = cc

lower_host_small : (b : ℕ) → b < 128 → keeps is_host_byte b ≡ true
unfolding keeps
lower_host_small b small = agree_below_at (keeps is_host_byte) (λ _. true) 128 b refl small

lower_ip_small : (b : ℕ) → b < 128 → keeps is_ip_byte b ≡ true
unfolding keeps
lower_ip_small b small = agree_below_at (keeps is_ip_byte) (λ _. true) 128 b refl small

host_small : (b : ℕ) → is_host_byte b ≡ true → b < 128
host_small b h = grind (arith, nat_tests, eqb_tells)

ip_small : (b : ℕ) → is_ip_byte b ≡ true → b < 128
ip_small b h = grind (arith, nat_tests, eqb_tells)

lower_host : (b : ℕ) → is_host_byte b ≡ true → is_host_byte (to_ascii_lowercase b) ≡ true
unfolding keeps
lower_host b h = kept_by _ _ (lower_host_small b (host_small b h)) h

lower_ip : (b : ℕ) → is_ip_byte b ≡ true → is_ip_byte (to_ascii_lowercase b) ≡ true
unfolding keeps
lower_ip b h = kept_by _ _ (lower_ip_small b (ip_small b h)) h

-- what passes passes in lower case, in each byte
lowered : (p : ℕ → Bool) → ((b : ℕ) → p b ≡ true → p (to_ascii_lowercase b) ≡ true) → (s : List ℕ) → list_all p s ≡ true → list_all p (map to_ascii_lowercase s) ≡ true
lowered p h [] a = refl
lowered p h (b ∷ s) a = and_from _ _ (h b (and_parts _ _ a).0) (lowered p h s (and_parts _ _ a).1)

-- lower case stays
pub lower_twice : (s : List ℕ) → map to_ascii_lowercase (map to_ascii_lowercase s) ≡ map to_ascii_lowercase s
lower_twice [] = refl
lower_twice (b ∷ s) = ap (λ c. c ∷ map to_ascii_lowercase (map to_ascii_lowercase s)) (lowercase-lowercase b) ∙ ap (λ rest. to_ascii_lowercase b ∷ rest) (lower_twice s)

-- a byte that may stand in brackets and is no colon may stand in a host
plain_byte : (b : ℕ) → is_ip_byte b ≡ true → (b == 58) ≡ false → is_host_byte b ≡ true
plain_byte b h other = grind (arith, nat_tests, eqb_tells)

plain_bytes : (s : List ℕ) → list_all is_ip_byte s ≡ true → has_colon s ≡ false → list_all is_host_byte s ≡ true
plain_bytes [] h other = refl
plain_bytes (b ∷ s) h other = and_from _ _ (plain_byte b (and_parts _ _ h).0 (or_parts _ _ other).0) (plain_bytes s (and_parts _ _ h).1 (or_parts _ _ other).1)

-- a host that is written as it was read: without brackets, or, where it has a colon, in brackets
pub record IsHost (host : List ℕ) : Type 0 where
  pub plain : has_colon host ≡ false → list_all is_host_byte host ≡ true
  pub in_brackets : has_colon host ≡ true → is_ip_text host ≡ true

-- a host that was read without brackets is such a one
pub from_plain : (host : List ℕ) → list_all is_host_byte host ≡ true → IsHost (map to_ascii_lowercase host)
from_plain host h =
    let all : list_all is_host_byte (map to_ascii_lowercase host) ≡ true = lowered is_host_byte lower_host host h in
    let none : has_colon (map to_ascii_lowercase host) ≡ false = not_any 58 (map to_ascii_lowercase host) (without is_host_byte 58 refl (map to_ascii_lowercase host) all) in
    record { plain = λ _. all; in_brackets = λ some. cc }

-- and so is one that was read in brackets
pub from_brackets : (host : List ℕ) → is_ip_text host ≡ true → IsHost (map to_ascii_lowercase host)
from_brackets host h =
    let all : list_all is_ip_byte (map to_ascii_lowercase host) ≡ true = lowered is_ip_byte lower_ip host (and_parts _ _ h).1 in
    let some : not (length (map to_ascii_lowercase host) == 0) ≡ true = rw length-map ((and_parts _ _ h).0) in
    record { plain = plain_bytes (map to_ascii_lowercase host) all; in_brackets = λ _. and_from _ _ some all }
