-- What a tag is written of is read back.
use Rattle.std.proofs.Common.{◌≡◌, ◌≢◌, ℕ, zero, suc, ◌*◌, ◌/◌, ◌%◌, ◌^◌, ◌<◌, ◌==◌, ◌&&◌, ◌||◌, Bool, true, false, not, cond, nat_lt, List, [], ◌∷◌, ◌++◌, length, map, Result, Ok, Err, Option, refl, sym, ap, ap₂, ◌∙◌, subst, arith, length-append, inl, inr, true≢false}
use Rattle.std.specs.Prelude.{All, slice_index}
use Rattle.std.specs.Char.{is_ascii_hexdigit}
use Rattle.std.specs.Fmt.{digit_glyph}
use Rattle.std.specs.Int.{byte_at, to_be_bytes, w32}
use Rattle.std.specs.List.{list_all, slice_split}
use Rattle.std.specs.Str.{is_utf8}
use Rattle.std.proofs.lemmas.Bool.{and_parts, agree_below_at, ltb-true, lt-ltb, cases_eq, ne_eqb}
use Rattle.std.proofs.lemmas.List.Folds.{list_all-append}
use Rattle.std.proofs.Math.Nat.{mod-lt}
use Rattle.std.proofs.lemmas.List.Splits.{slice_split_none, slice_split_at}
use Rattle.std.proofs.lemmas.List.Sums.{AllPass-from_list_all}
use Rattle.std.proofs.lemmas.Slice.Eq.{bytes_eq-Decides}
use Rattle.hex.specs.Hex.{encode_lower, encode_with, lower_digits}
use Rattle.hex.proofs.HexLemmas.{length-encode_with}
use Rattle.sha2.specs.Sha256.{sha256, digest_bytes}
use Rattle.sha2.proofs.Facts256.{length-sha256}
use Rattle.percent_encoding.specs.Percent.{percent_encode_byte, percent_decode}
use Rattle.percent_encoding.proofs.PercentLemmas.{percent_decode-percent_encode_byte, percent_decode_not_percent, percent_decode-nil}
use Rattle.cd_text.specs.Escapes.{begins_with_digits, escapes_are_whole}
use Rattle.cd_text.specs.Steps.{◌▷◌}
use Rattle.cd_tree.proofs.Outcomes.{chained}
use Rattle.cd_tree.specs.Tree.{text}
use Rattle.cd_tree.specs.declared.path.Path.{Path}
use Rattle.cd_tree.specs.declared.tree.Tree.{Tree}
use Rattle.cd_path.specs.Looking.{look, or_null}
use Rattle.cd_path.specs.declared.fault.EditFault.{EditFault}
use Rattle.cd_tags.specs.Encoding.{is_unreserved, encoded_byte, encoded, encoded_parts, tag_text}
use Rattle.cd_tags.specs.IfMatch.{is_lower_hex, IsDigest, is_path_byte, decoded, all_decoded, split_path, parts_of_path, IsTagOf}
use Rattle.cd_tags.specs.Parts.{are_bytes, is_text, are_texts}
use Rattle.cd_tags.specs.Tags.{digest, digest_found, digest_at, tag_of, is_digest, tag_holds}
use Rattle.cd_tags.specs.declared.fault.IfMatchFault.TheVariants.{Malformed}
use Rattle.cd_tags.specs.declared.fault.TagFault.{TagFault}
use Rattle.cd_tags.specs.declared.if_match.Tag.{Tag}
use Rattle.cd_tags.proofs.Forms.{one_tag}

-- ---- bytes

-- a byte that may be in a part as it is written
abbrev is_part_byte : ℕ → Bool
is_part_byte b = is_unreserved b || (b == 37)

glyph_is : (d : ℕ) → d < 16 → (is_part_byte (digit_glyph true d) ≡ true) × (is_ascii_hexdigit (digit_glyph true d) ≡ true)
glyph_is d h =
    (agree_below_at (λ n. is_part_byte (digit_glyph true n)) (λ n. true) 16 d refl h, agree_below_at (λ n. is_ascii_hexdigit (digit_glyph true n)) (λ n. true) 16 d refl h)

plain_is : (b : ℕ) → is_unreserved b ≡ true → (b ≢ 37) × ((b == 37) ≡ false)
plain_is b h = elim (cases_eq b 37) [ inl e ↦ absurd (true≢false (sym h ∙ ap is_unreserved e)) | inr n ↦ (n, ne_eqb b 37 n) ]

-- a byte other than `%` needs no digits after it
no_escape : (b : ℕ) (rest : List ℕ) → (b == 37) ≡ false → escapes_are_whole (b ∷ rest) ≡ escapes_are_whole rest
no_escape b rest other = ap (λ t. (not t || begins_with_digits rest) && escapes_are_whole rest) other

-- a digit is such a byte
digit_first : (c : ℕ) (rest : List ℕ) → is_ascii_hexdigit c ≡ true → escapes_are_whole (c ∷ rest) ≡ escapes_are_whole rest
digit_first c rest h =
    no_escape c rest (elim (cases_eq c 37) [ inl e ↦ absurd (true≢false (sym h ∙ ap is_ascii_hexdigit e)) | inr n ↦ ne_eqb c 37 n ])

-- an escape is whole, and what follows it decides
escape_first : (c d : ℕ) (rest : List ℕ) → is_ascii_hexdigit c ≡ true → is_ascii_hexdigit d ≡ true
    → escapes_are_whole (37 ∷ c ∷ d ∷ rest) ≡ escapes_are_whole rest
escape_first c d rest h k =
    ap₂ (λ u v. (u && v) && escapes_are_whole (c ∷ d ∷ rest)) h k ∙ digit_first c (d ∷ rest) h ∙ digit_first d rest k

-- what a written byte says of the text that goes on after it
record Written (b : ℕ) (written rest : List ℕ) : Type 0 where
  pub parts : list_all is_part_byte written ≡ true
  pub whole : escapes_are_whole (written ++ rest) ≡ escapes_are_whole rest
  pub back : percent_decode (written ++ rest) ≡ b ∷ percent_decode rest
  pub some : 0 < length written

kept : (b : ℕ) (rest : List ℕ) → is_unreserved b ≡ true → Written b (b ∷ []) rest
kept b rest h =
    let p = plain_is b h in
    record {
      parts = ap (λ u. (u || (b == 37)) && true) h;
      whole = no_escape b rest p.1;
      back = percent_decode_not_percent b rest p.0;
      some = omega arith;
    }

escaped : (b : ℕ) (rest : List ℕ) → b < 256 → Written b (percent_encode_byte b) rest
unfolding percent_encode_byte
escaped b rest small =
    let high = glyph_is (b / 16 % 16) (omega arith) in
    let low = glyph_is (b % 16) (omega arith) in
    record {
      parts = rw (high.0, low.0) refl;
      whole = escape_first (digit_glyph true (b / 16 % 16)) (digit_glyph true (b % 16)) rest high.1 low.1;
      back = percent_decode-percent_encode_byte b rest small;
      some = omega arith;
    }

byte_written : (u : Bool) (b : ℕ) (rest : List ℕ) → is_unreserved b ≡ u → b < 256 → Written b (cond u (b ∷ []) (percent_encode_byte b)) rest
byte_written true b rest h small = kept b rest h
byte_written false b rest h small = escaped b rest small

-- ---- one part

all_both : (p : ℕ → Bool) (xs ys : List ℕ) → list_all p xs ≡ true → list_all p ys ≡ true → list_all p (xs ++ ys) ≡ true
all_both p xs ys h k = list_all-append p xs ys ∙ ap₂ (λ a b. a && b) h k

record Part (s : List ℕ) : Type 0 where
  pub parts : list_all is_part_byte (encoded s) ≡ true
  pub whole : escapes_are_whole (encoded s) ≡ true
  pub back : percent_decode (encoded s) ≡ s

part_written : (s : List ℕ) → are_bytes s ≡ true → Part s
unfolding encoded
part_written [] h = record { parts = refl; whole = refl; back = percent_decode-nil }
part_written (b ∷ s) h =
    let both = and_parts (nat_lt b 256) _ h in
    let one = byte_written (is_unreserved b) b (encoded s) refl (ltb-true b 256 both.0) in
    let more = part_written s both.1 in
    record {
      parts = all_both is_part_byte (encoded_byte b) (encoded s) one.parts more.parts;
      whole = one.whole ∙ more.whole;
      back = one.back ∙ ap (λ t. b ∷ t) more.back;
    }

part_back : (s : List ℕ) → is_text s ≡ true → decoded (encoded s) ≡ Ok s
part_back s h =
    let both = and_parts (is_utf8 s) _ h in
    let p = part_written s both.1 in
    ap (λ w. cond (w && is_utf8 (percent_decode (encoded s))) (Ok (percent_decode (encoded s))) (Err Malformed)) p.whole
    ∙ ap (λ t. cond (is_utf8 t) (Ok t) (Err Malformed)) p.back ∙ ap (λ u. cond u (Ok s) (Err Malformed)) both.0

all_back : (parts : List (List ℕ)) → are_texts parts ≡ true → all_decoded (map encoded parts) ≡ Ok parts
all_back [] h = refl
all_back (part ∷ parts) h =
    let both = and_parts (is_text part) _ h in
    ap (λ r. r ▷ λ first. all_decoded (map encoded parts) ▷ λ rest. Ok (first ∷ rest)) (part_back part both.0) ∙ ap (λ r. r ▷ λ rest. Ok (part ∷ rest)) (all_back parts both.1)

-- ---- a path

no_slash_byte : (b : ℕ) → is_part_byte b ≡ true → (b == 47) ≡ false
no_slash_byte b h = elim (cases_eq b 47) [ inl e ↦ absurd (true≢false (sym h ∙ ap is_part_byte e)) | inr n ↦ ne_eqb b 47 n ]

no_slash : (s : List ℕ) → list_all is_part_byte s ≡ true → All (λ b. (b == 47) ≡ false) s
no_slash s e k d within = no_slash_byte _ (AllPass-from_list_all is_part_byte s e k d within)

parts_of_all : (part : List ℕ) → is_text part ≡ true → list_all is_part_byte (encoded part) ≡ true
parts_of_all part h = (part_written part (and_parts (is_utf8 part) _ h).1).parts

cut : (first : List ℕ) (parts : List (List ℕ)) → are_texts (first ∷ parts) ≡ true → slice_split (λ b. b == 47) (encoded_parts (first ∷ parts)) ≡ map encoded (first ∷ parts)
cut first [] h = slice_split_none (λ b. b == 47) (encoded first) (no_slash (encoded first) (parts_of_all first (and_parts (is_text first) _ h).0))
cut first (part ∷ parts) h =
    let both = and_parts (is_text first) _ h in
    slice_split_at (λ b. b == 47) (encoded first) 47 (encoded_parts (part ∷ parts)) (no_slash (encoded first) (parts_of_all first both.0)) refl
    ∙ ap (λ rest. encoded first ∷ rest) (cut part parts both.1)

wider : (u e s : Bool) → (u || e) ≡ true → (u || (e || s)) ≡ true
wider true e s h = refl
wider false true s h = refl
wider false false s h = cc

path_bytes : (s : List ℕ) → list_all is_part_byte s ≡ true → list_all is_path_byte s ≡ true
path_bytes [] h = refl
path_bytes (b ∷ s) h =
    let both = and_parts (is_part_byte b) _ h in
    ap₂ (λ x y. x && y) (wider (is_unreserved b) (b == 37) (b == 47) both.0) (path_bytes s both.1)

joined_bytes : (first : List ℕ) (parts : List (List ℕ)) → are_texts (first ∷ parts) ≡ true → list_all is_path_byte (encoded_parts (first ∷ parts)) ≡ true
joined_bytes first [] h = path_bytes (encoded first) (parts_of_all first (and_parts (is_text first) _ h).0)
joined_bytes first (part ∷ parts) h =
    let both = and_parts (is_text first) _ h in
    all_both is_path_byte (encoded first) (47 ∷ encoded_parts (part ∷ parts)) (path_bytes (encoded first) (parts_of_all first both.0)) (joined_bytes part parts both.1)

not_none : (s : List ℕ) → 0 < length s → (length s == 0) ≡ false
not_none s h = ne_eqb (length s) 0 (λ e. absurd (omega (arith, e, h)))

some_written : (b : ℕ) (s : List ℕ) → b < 256 → 0 < length (encoded (b ∷ s))
unfolding encoded
some_written b s small = let one = byte_written (is_unreserved b) b [] refl small in let sum = length-append (encoded_byte b) (encoded s) in omega (arith, one.some, sum)

some_joined : (first : List ℕ) (parts : List (List ℕ)) → are_texts (first ∷ parts) ≡ true → first ∷ parts ≢ [] ∷ [] → 0 < length (encoded_parts (first ∷ parts))
some_joined [] [] h d = absurd (d refl)
some_joined (b ∷ s) [] h d = some_written b s (ltb-true b 256 (and_parts (nat_lt b 256) _ (and_parts (is_utf8 (b ∷ s)) _ (and_parts (is_text (b ∷ s)) _ h).0).1).0)
some_joined first (part ∷ parts) h d = let sum = length-append (encoded first) (47 ∷ encoded_parts (part ∷ parts)) in omega (arith, sum)

parts_back : (parts : List (List ℕ)) → are_texts parts ≡ true → parts ≢ [] ∷ [] → parts_of_path (encoded_parts parts) ≡ Ok parts
parts_back [] h d = refl
parts_back (first ∷ parts) h d =
    let path = encoded_parts (first ∷ parts) in
    ap (λ b. cond b (split_path path) (Err Malformed)) (joined_bytes first parts h)
    ∙ ap (λ b. cond b (Ok []) (all_decoded (slice_split (λ c. c == 47) path))) (not_none path (some_joined first parts h d))
    ∙ ap all_decoded (cut first parts h) ∙ all_back (first ∷ parts) h

pub read_back : (path : Path) (hex : List ℕ) → are_texts path.parts ≡ true → path.parts ≢ [] ∷ [] → IsDigest hex → IsTagOf (tag_text path hex) (record { path = path; hex = hex })
unfolding tag_text
read_back path hex h d digits = record { path = encoded_parts path.parts; form = refl; digest = digits; parts = parts_back path.parts h d }

-- ---- digests

small_byte : (k n : ℕ) → nat_lt (byte_at k n) 256 ≡ true
small_byte zero n = lt-ltb (n % 256) 256 (omega arith)
small_byte (suc k) n = lt-ltb (n / 256 ^ suc k % 256) 256 (mod-lt (n / 256 ^ suc k) (omega arith))

word_bytes : (n : ℕ) → are_bytes (to_be_bytes w32 n) ≡ true
word_bytes n = rw (small_byte 3 n, small_byte 2 n, small_byte 1 n, small_byte 0 n) refl

digest_small : (h : List ℕ) (n : ℕ) → are_bytes (digest_bytes h n) ≡ true
unfolding digest_bytes
digest_small h zero = refl
digest_small h (suc n) = all_both (λ b. nat_lt b 256) (digest_bytes h n) _ (digest_small h n) (word_bytes (slice_index h n))

sha_small : (m : List ℕ) → are_bytes (sha256 m) ≡ true
unfolding sha256
sha_small m = digest_small _ 8

digit_is : (n : ℕ) → n < 16 → is_lower_hex (slice_index lower_digits n) ≡ true
digit_is n h = agree_below_at (λ k. is_lower_hex (slice_index lower_digits k)) (λ k. true) 16 n refl h

lower_hex : (bytes : List ℕ) → are_bytes bytes ≡ true → list_all is_lower_hex (encode_lower bytes) ≡ true
unfolding encode_with
lower_hex [] h = refl
lower_hex (b ∷ rest) h =
    let both = and_parts (nat_lt b 256) _ h in
    let small = ltb-true b 256 both.0 in
    rw (digit_is (b / 16) (omega (arith, small)), digit_is (b % 16) (omega arith)) (lower_hex rest both.1)

digest_is : (t : Tree) → IsDigest (digest t)
unfolding digest
digest_is t =
    record {
      digits = lower_hex (sha256 (text t)) (sha_small (text t));
      count = length-encode_with lower_digits (sha256 (text t)) ∙ ap (λ n. 2 * n) (length-sha256 (text t));
    }

-- ---- a tag that was just made

same_tag : {A : Type 0} (a b : A) → ◌≡◌ {A = Result A TagFault} (Ok a) (Ok b) → a ≡ b
same_tag a b h = cc

found_digest : (r : Result (Option Tree) EditFault) (hex : List ℕ) → digest_found r ≡ Ok hex → IsDigest hex
found_digest (Ok found) hex h = subst IsDigest (same_tag (digest (or_null found)) hex h) (digest_is (or_null found))
found_digest (Err fault) hex h = cc

pub made_holds : (path : Path) (t : Tree) (value : List ℕ) (tag : Tag) → are_texts path.parts ≡ true → path.parts ≢ [] ∷ [] → tag_of t path ≡ Ok value → IsTagOf value tag → (tag.path ≡ path) × (tag_holds t tag ≡ true)
made_holds path t value tag h d made is =
    let c = chained (digest_at t path) (λ hex. Ok (tag_text path hex)) value made in
    let first : Tag = record { path = path; hex = c.0 } in
    let known = read_back path c.0 h d (found_digest (look t path) c.0 c.1) in
    let same : first ≡ tag = one_tag value first tag (subst (λ (v : List ℕ). IsTagOf v first) (same_tag (tag_text path c.0) value c.2) known) is in
    (sym (ap (λ (x : Tag). x.path) same), sym (ap (tag_holds t) same) ∙ ap (λ r. is_digest r c.0) c.1 ∙ (bytes_eq-Decides c.0 c.0).1 refl)
