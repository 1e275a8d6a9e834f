-- The tests that lines of texts make are texts.
use Rattle.std.proofs.Common.{◌≡◌, ℕ, suc, ◌+◌, ◌<◌, ◌==◌, Bool, cond, not, ◌||◌, true, false, if◌then◌else◌, List, [], ◌∷◌, ◌++◌, length, get_or, take, drop, ◌-◌, ◌≤◌, refl, sym, ap, subst, ◌∙◌, eqb-true, length-append, arith, Option, Some, None}
use Rattle.std.specs.Prelude.{All, IsUtf8, IfSome, codes, option_map, unwrap_or}
use Rattle.std.specs.List.{list_any, before_first, after_first, position_or_len}
use Rattle.std.specs.Str.{bytes_eq}
use Rattle.std.proofs.lemmas.Bool.{false≢true}
use Rattle.std.proofs.Math.Seq.{take-append_seam, drop-append-add}
use Rattle.std.proofs.lemmas.List.{take_all}
use Rattle.std.proofs.lemmas.List.Elements.{All-nil, All-cons, All-append}
use Rattle.std.proofs.lemmas.List.Sums.{split_at_first, passes_at_first}
use Rattle.std.proofs.lemmas.Str.{IsUtf8-append, IsUtf8-take, IsUtf8-drop, IsUtf8-from_ascii, IsCharBoundary-after_ascii, IsCharBoundary-at_seam}
use Rattle.std.proofs.lemmas.Str.Ascii.{IsAscii-nil, IsAscii-cons}
use Rattle.cd_caddyfile.specs.Matchers.{with_value, some_more, field_test, key_test, is_equals}
use Rattle.cd_caddyfile.specs.Sites.{Tests, Wanted, no_tests}
use Rattle.cd_caddyfile.specs.declared.named.TestLine.{TestLine}
use Rattle.cd_parts.specs.Lines.{and_lines}
use Rattle.cd_parts.specs.Making.{and_line}
use Rattle.cd_parts.specs.Texts.{AreTexts, IsTextual, TestsAreTexts, LinesAreTexts}

-- ---- cuts at an ASCII byte

there : (a b : List ℕ) (c : ℕ) → get_or (a ++ c ∷ b) (length a) 0 ≡ c
there [] b c = refl
there (x ∷ a) b c = there a b c

after_cut : (a b : List ℕ) (c : ℕ) → c < 128 → IsUtf8 (a ++ c ∷ b) → IsUtf8 b
after_cut a b c small is =
    let within : length a < length (a ++ c ∷ b) = omega (arith, length-append a (c ∷ b)) in
    let ascii : get_or (a ++ c ∷ b) (length a) 0 < 128 = omega (arith, there a b c) in
    subst (λ (l : List ℕ). IsUtf8 l) (drop-append-add a (c ∷ b) 1)
    (IsUtf8-drop (a ++ c ∷ b) (length a + 1) is (IsCharBoundary-after_ascii (a ++ c ∷ b) (length a) is within ascii))

before_cut : (a b : List ℕ) (c : ℕ) → c < 128 → IsUtf8 (a ++ c ∷ b) → IsUtf8 a
before_cut a b c small is = subst (λ (l : List ℕ). IsUtf8 l) (take-append_seam a (c ∷ b))
    (IsUtf8-take (a ++ c ∷ b) (length a) is
    (IsCharBoundary-at_seam (a ++ c ∷ b) a (c ∷ b) refl
    (IsUtf8-append (c ∷ []) b (IsUtf8-from_ascii (c ∷ []) (IsAscii-cons c [] small IsAscii-nil)) (after_cut a b c small is))))

-- what follows a sign
pub after_sign : (field : List ℕ) (c : ℕ) → get_or field 0 0 ≡ c → c < 128 → 1 ≤ length field → IsUtf8 field → IsUtf8 (take (length field - 1) (drop 1 field))
after_sign [] c first small some is = absurd (omega (arith, some))
after_sign (x ∷ rest) c first small some is =
    let low : x < 128 = omega (arith, first) in
    subst (λ (l : List ℕ). IsUtf8 l) (sym (take_all (length (x ∷ rest) - 1) rest (omega arith))) (after_cut [] rest x low is)

-- what is on both sides of an equals sign
abbrev Cut : List ℕ → Type 0
Cut pair = pair ≡ before_first is_equals pair ++ 61 ∷ after_first is_equals pair

cut_at_equals : (pair : List ℕ) → position_or_len is_equals pair < length pair → Cut pair
cut_at_equals pair within =
    split_at_first is_equals pair 0 within
    ∙ ap (λ (c : ℕ). before_first is_equals pair ++ c ∷ after_first is_equals pair) (eqb-true _ 61 (passes_at_first is_equals pair 0 within))

pub name_is_text : (pair : List ℕ) → IsUtf8 pair → position_or_len is_equals pair < length pair → IsUtf8 (before_first is_equals pair)
name_is_text pair is within =
    before_cut (before_first is_equals pair) (after_first is_equals pair) 61 (omega arith) (subst (λ (l : List ℕ). IsUtf8 l) (cut_at_equals pair within) is)

pub value_is_text : (pair : List ℕ) → IsUtf8 pair → position_or_len is_equals pair < length pair → IsUtf8 (after_first is_equals pair)
value_is_text pair is within =
    after_cut (before_first is_equals pair) (after_first is_equals pair) 61 (omega arith) (subst (λ (l : List ℕ). IsUtf8 l) (cut_at_equals pair within) is)

-- ---- of lists

first : {X : Type 0} (P : X → Type 0) (x : X) (xs : List X) → All P (x ∷ xs) → P x
first P x xs all = all 0 x (omega arith)

others : {X : Type 0} (P : X → Type 0) (x : X) (xs : List X) → All P (x ∷ xs) → All P xs
others P x xs all = λ k d below. all (suc k) d (omega arith)

one : (word : List ℕ) → IsUtf8 word → AreTexts (word ∷ [])
one word is = All-cons (λ w. IsUtf8 w) word [] is (All-nil (λ w. IsUtf8 w))

-- of a list of words
pub first_is_text : (words : List (List ℕ)) (word : List ℕ) (rest : List (List ℕ)) → AreTexts words → words ≡ word ∷ rest → IsUtf8 word
first_is_text words word rest are is = first (λ w. IsUtf8 w) word rest (subst AreTexts is are)

pub second_is_text : (words : List (List ℕ)) (before word : List ℕ) (rest : List (List ℕ)) → AreTexts words → words ≡ before ∷ (word ∷ rest) → IsUtf8 word
second_is_text words before word rest are is = first (λ w. IsUtf8 w) word rest (others (λ w. IsUtf8 w) before (word ∷ rest) (subst AreTexts is are))

-- ---- a value more for a name

abbrev AreTextual : List Wanted → Type 0
AreTextual ws = All (λ w. IsTextual w) ws

none_wanted : AreTextual []
none_wanted = All-nil (λ w. IsTextual w)

value_at : (here : Bool) (name value : List ℕ) (w : Wanted) (ws : List Wanted) → bytes_eq w.name name ≡ here → IsUtf8 value → AreTextual (w ∷ ws) →
    AreTextual (with_value name value ws) → AreTextual (with_value name value (w ∷ ws))
value_at true name value w ws e v all known =
    let this : IsTextual w = first (λ x. IsTextual x) w ws all in
    rw e (All-cons (λ x. IsTextual x) (record w { values = w.values ++ value ∷ [] }) ws
    (this.0, All-append (λ x. IsUtf8 x) w.values (value ∷ []) this.1 (one value v)) (others (λ x. IsTextual x) w ws all))
value_at false name value w ws e v all known = rw e (All-cons (λ x. IsTextual x) w (with_value name value ws) (first (λ x. IsTextual x) w ws all) known)

with_value-texts : (name value : List ℕ) (ws : List Wanted) → IsUtf8 name → IsUtf8 value → AreTextual ws → AreTextual (with_value name value ws)
with_value-texts name value [] n v all = All-cons (λ x. IsTextual x) (record { name = name; values = value ∷ [] }) [] (n, one value v) none_wanted
with_value-texts name value (w ∷ ws) n v all =
    value_at (bytes_eq w.name name) name value w ws refl v all (with_value-texts name value ws n v (others (λ x. IsTextual x) w ws all))

-- ---- a line

abbrev GivenTexts : Option (List (List ℕ)) → Type 0
GivenTexts given = IfSome given (λ all. AreTexts all)

those : (before : Option (List (List ℕ))) → GivenTexts before → AreTexts (unwrap_or before [])
those None are = All-nil (λ w. IsUtf8 w)
those (Some all) are = are

more : (before : Option (List (List ℕ))) (arg : List ℕ) (args : List (List ℕ)) → GivenTexts before → AreTexts (arg ∷ args) → AreTexts (unwrap_or before [] ++ arg ∷ args)
more before arg args are all = All-append (λ w. IsUtf8 w) (unwrap_or before []) (arg ∷ args) (those before are) all

path-texts : (t : Tests) (args : List (List ℕ)) → TestsAreTexts t → AreTexts args → TestsAreTexts (unwrap_or (option_map (λ all. record t { path = Some all }) (some_more t.path args)) t)
path-texts t [] are all = are
path-texts t (arg ∷ args) are all = record { path = more t.path arg args are.path all; method = are.method; host = are.host; header = are.header; query = are.query }

method-texts : (t : Tests) (args : List (List ℕ)) → TestsAreTexts t → AreTexts args → TestsAreTexts (unwrap_or (option_map (λ all. record t { method = Some all }) (some_more t.method args)) t)
method-texts t [] are all = are
method-texts t (arg ∷ args) are all = record { path = are.path; method = more t.method arg args are.method all; host = are.host; header = are.header; query = are.query }

host-texts : (t : Tests) (args : List (List ℕ)) → TestsAreTexts t → AreTexts args → TestsAreTexts (unwrap_or (option_map (λ all. record t { host = Some all }) (some_more t.host args)) t)
host-texts t [] are all = are
host-texts t (arg ∷ args) are all = record { path = are.path; method = are.method; host = more t.host arg args are.host all; header = are.header; query = are.query }

field-texts : (t : Tests) (args : List (List ℕ)) → TestsAreTexts t → AreTexts args → TestsAreTexts (unwrap_or (field_test t args) t)
field-texts t [] are all = are
field-texts t (name ∷ []) are all = are
field-texts t (name ∷ value ∷ []) are all = record {
  path = are.path;
  method = are.method;
  host = are.host;
  header = with_value-texts name value t.header (first (λ w. IsUtf8 w) name (value ∷ []) all)
      (first (λ w. IsUtf8 w) value [] (others (λ w. IsUtf8 w) name (value ∷ []) all)) are.header;
  query = are.query;
}
field-texts t (name ∷ value ∷ other ∷ rest) are all = are

within_here : (b : Bool) (n m : ℕ) (rest : Bool) → (b || rest) ≡ true → (rest ≡ true → n < m) → cond (not b) (1 + n) 0 < suc m
within_here true n m rest some known = omega arith
within_here false n m rest some known = omega (arith, known some)

within_any : (bytes : List ℕ) → list_any is_equals bytes ≡ true → position_or_len is_equals bytes < length bytes
within_any [] some = absurd (false≢true some)
within_any (b ∷ bs) some = within_here (is_equals b) (position_or_len is_equals bs) (length bs) (list_any is_equals bs) some (within_any bs)

pair-texts : (cut : Bool) (t : Tests) (pair : List ℕ) → list_any is_equals pair ≡ cut → TestsAreTexts t → IsUtf8 pair →
    TestsAreTexts (unwrap_or (if cut then Some (record t { query = with_value (before_first is_equals pair) (after_first is_equals pair) t.query }) else None) t)
pair-texts true t pair e are is = record {
  path = are.path;
  method = are.method;
  host = are.host;
  header = are.header;
  query = with_value-texts (before_first is_equals pair) (after_first is_equals pair) t.query (name_is_text pair is (within_any pair e)) (value_is_text pair is (within_any pair e)) are.query;
}
pair-texts false t pair e are is = are

key-texts : (t : Tests) (args : List (List ℕ)) → TestsAreTexts t → AreTexts args → TestsAreTexts (unwrap_or (key_test t args) t)
key-texts t [] are all = are
key-texts t (pair ∷ []) are all = pair-texts (list_any is_equals pair) t pair refl are (first (λ w. IsUtf8 w) pair [] all)
key-texts t (pair ∷ other ∷ rest) are all = are

kind-texts : (a b c d e : Bool) (t : Tests) (args : List (List ℕ)) → TestsAreTexts t → AreTexts args → TestsAreTexts (unwrap_or (
    if a then option_map (λ all. record t { path = Some all }) (some_more t.path args) else
    (if b then option_map (λ all. record t { method = Some all }) (some_more t.method args) else
    (if c then option_map (λ all. record t { host = Some all }) (some_more t.host args) else
    (if d then field_test t args else (if e then key_test t args else None))))) t)
kind-texts true b c d e t args are all = path-texts t args are all
kind-texts false true c d e t args are all = method-texts t args are all
kind-texts false false true d e t args are all = host-texts t args are all
kind-texts false false false true e t args are all = field-texts t args are all
kind-texts false false false false true t args are all = key-texts t args are all
kind-texts false false false false false t args are all = are

line-texts : (t : Tests) (words : List (List ℕ)) → TestsAreTexts t → AreTexts words → TestsAreTexts (and_line t words)
line-texts t [] are all = are
line-texts t (kind ∷ args) are all =
    kind-texts (bytes_eq kind (codes "path")) (bytes_eq kind (codes "method")) (bytes_eq kind (codes "host")) (bytes_eq kind (codes "header")) (bytes_eq kind (codes "query"))
    t args are (others (λ w. IsUtf8 w) kind args all)

-- ---- the lines of a matcher

pub no_tests_texts : TestsAreTexts no_tests
no_tests_texts = record { path = tt; method = tt; host = tt; header = none_wanted; query = none_wanted }

and_lines-texts : (t : Tests) (ls : List TestLine) → TestsAreTexts t → LinesAreTexts ls → TestsAreTexts (and_lines t ls)
and_lines-texts t [] are all = are
and_lines-texts t (l ∷ ls) are all =
    and_lines-texts (and_line t l.words) ls (line-texts t l.words are (first (λ (x : TestLine). AreTexts x.words) l ls all))
    (others (λ (x : TestLine). AreTexts x.words) l ls all)

pub matcher_texts : (ls : List TestLine) → LinesAreTexts ls → TestsAreTexts (and_lines no_tests ls)
matcher_texts ls all = and_lines-texts no_tests ls no_tests_texts all

-- a path alone
pub path_texts : (path : List ℕ) → IsUtf8 path → TestsAreTexts (record no_tests { path = Some (path ∷ []) })
path_texts path is = record { path = one path is; method = tt; host = tt; header = none_wanted; query = none_wanted }
