-- A tree's text has a last byte, and that is not 0.
use Rattle.std.proofs.Common.{◌≡◌, ℕ, ◌+◌, ◌*◌, Bool, true, false, not, cond, ◌&&◌, ◌||◌, ◌==◌, nat_lt, List, [], ◌∷◌, ◌++◌, length, Option, Some, None, Result, Ok, Err, option_and_then, refl, sym, ap, ◌∙◌, subst, arith}
use Rattle.std.proofs.lemmas.Bool.{false≢true, eqb-true, ne_eqb, and_parts}
use Rattle.std.specs.Prelude.{⊤}
use Rattle.std.specs.Char.{digit_value, is_digit, encode_utf8}
use Rattle.std.specs.Str.{is_utf8}
use Rattle.json.specs.Token.{Token, begin_object, end_object, begin_array, end_array, key, string, number, boolean, null, bad}
use Rattle.json.specs.Text.{code_unit, short_escape, is_low_surrogate, surrogate_pair, Within, plain, after_backslash, after_u, after_high, prepend, content}
use Rattle.json.specs.Word.{is_operator, is_space, word}
use Rattle.json.specs.Lex.{Lexeme, token, comma, colon, quote, backslash, operator, space, other, string_token, Mode, between, in_word, in_string, in_escape, lex_byte, lex, tokens}
use Rattle.json.specs.Lex.{Place, fresh, after_value, after_comma, after_key, begins_colon, may_begin, may_close, if_allowed, place_token, punctuate}
use Rattle.json.specs.Json as raw
use Rattle.json.specs.Json.{Json, value, if_last}
use Rattle.json.specs.Tree.{json_tokens, items_tokens, members_tokens}
use Rattle.json.specs.Align.{is_good}
use Rattle.json.proofs.Unique.Spelling.{value-json_tokens_back}
use Rattle.serde_json.specs.Data as serde
use Rattle.serde_json.specs.Read.{read, of_json, max_depth}
use Rattle.cd_text.specs.Steps.{◌▷◌, refused_where, some_or}
use Rattle.cd_tree.specs.Reading.{tree_of}
use Rattle.cd_tree.specs.declared.fault.TreeFault.{TreeFault}
use Rattle.cd_tree.specs.declared.fault.TreeFault.TheVariants.{NotJson}
use Rattle.cd_tree.specs.declared.tree.Tree.{Tree}
use Rattle.cd_tree.specs.Endings.{last_byte}
use Rattle.cd_tree.proofs.SolidWords.{stops, word_end, good_word}

-- ---- last bytes

-- after this byte the last one is not 0
abbrev Ends : ℕ → List ℕ → Type 0
Ends before xs = last_byte before xs ≡ 0 → ⊥

ends_after : (x : ℕ) (xs : List ℕ) → (x ≡ 0 → ⊥) → Ends 1 xs → Ends x xs
ends_after x [] some ends = some
ends_after x (y ∷ ys) some ends = ends

further : (x : ℕ) (xs : List ℕ) → Ends 0 xs → Ends x xs
further x [] ends = absurd (ends refl)
further x (y ∷ ys) ends = ends

-- ---- good tokens and lexemes

abbrev Goods : List Token → Type 0
Goods [] = ⊤
Goods (t ∷ ts) = (is_good t ≡ true) × Goods ts

goods_append : (xs ys : List Token) → Goods xs → Goods ys → Goods (xs ++ ys)
goods_append [] ys one two = two
goods_append (x ∷ xs) ys one two = (one.0, goods_append xs ys one.1 two)

mutual
  json_good : (j : Json) → Goods (json_tokens j)
  json_good raw.null = (refl, tt)
  json_good (raw.boolean b) = (refl, tt)
  json_good (raw.number s) = (refl, tt)
  json_good (raw.string s) = (refl, tt)
  json_good (raw.array js) = (refl, items_good js)
  json_good (raw.object ms) = (refl, members_good ms)

  items_good : (js : raw.Items) → Goods (items_tokens js)
  items_good raw.no_items = (refl, tt)
  items_good (raw.item j js) = goods_append (json_tokens j) (items_tokens js) (json_good j) (items_good js)

  members_good : (ms : raw.Members) → Goods (members_tokens ms)
  members_good raw.no_members = (refl, tt)
  members_good (raw.member k j ms) = (refl, goods_append (json_tokens j) (members_tokens ms) (json_good j) (members_good ms))

abbrev is_good_lexeme : Lexeme → Bool
is_good_lexeme (token t) = is_good t
is_good_lexeme comma = true
is_good_lexeme colon = true

abbrev AllGood : List Lexeme → Type 0
AllGood [] = ⊤
AllGood (l ∷ ls) = (is_good_lexeme l ≡ true) × AllGood ls

allowed : (b : Bool) (t : Token) (k : Place → List Token) (next : Place) → Goods (if_allowed b t k next) → Goods (k next)
allowed true t k next g = g.1
allowed false t k next g = absurd (false≢true g.0)

placed : (p : Place) (t : Token) (before : Bool) (k : Place → List Token) (P : Type 0) → ((q : Place) → Goods (k q) → P) → Goods (place_token p t before k) → (is_good t ≡ true) × P
placed p begin_object before k P go g = (refl, go fresh (allowed (may_begin p) begin_object k fresh g))
placed p end_object before k P go g = (refl, go after_value (allowed (may_close p) end_object k after_value g))
placed p begin_array before k P go g = (refl, go fresh (allowed (may_begin p) begin_array k fresh g))
placed p end_array before k P go g = (refl, go after_value (allowed (may_close p) end_array k after_value g))
placed p (key s) before k P go g = absurd (false≢true g.0)
placed p (string s) true k P go g = (refl, go after_key (allowed (may_begin p) (key s) k after_key g))
placed p (string s) false k P go g = (refl, go after_value (allowed (may_begin p) (string s) k after_value g))
placed p (number s) before k P go g = (refl, go after_value (allowed (may_begin p) (number s) k after_value g))
placed p (boolean b) before k P go g = (refl, go after_value (allowed (may_begin p) (boolean b) k after_value g))
placed p null before k P go g = (refl, go after_value (allowed (may_begin p) null k after_value g))
placed p bad before k P go g = absurd (false≢true g.0)

punctuated : (p : Place) (ls : List Lexeme) → Goods (punctuate p ls) → AllGood ls
unfolding punctuate
punctuated p [] g = tt
punctuated fresh (token t ∷ ls) g = placed fresh t (begins_colon ls) (λ q. punctuate q ls) (AllGood ls) (λ q. punctuated q ls) g
punctuated after_value (token t ∷ ls) g = placed after_value t (begins_colon ls) (λ q. punctuate q ls) (AllGood ls) (λ q. punctuated q ls) g
punctuated after_comma (token t ∷ ls) g = placed after_comma t (begins_colon ls) (λ q. punctuate q ls) (AllGood ls) (λ q. punctuated q ls) g
punctuated after_key (token t ∷ ls) g = placed after_key t (begins_colon ls) (λ q. punctuate q ls) (AllGood ls) (λ q. punctuated q ls) g
punctuated fresh (comma ∷ ls) g = absurd (false≢true g.0)
punctuated after_value (comma ∷ ls) g = (refl, punctuated after_comma ls g)
punctuated after_comma (comma ∷ ls) g = absurd (false≢true g.0)
punctuated after_key (comma ∷ ls) g = absurd (false≢true g.0)
punctuated fresh (colon ∷ ls) g = absurd (false≢true g.0)
punctuated after_value (colon ∷ ls) g = absurd (false≢true g.0)
punctuated after_comma (colon ∷ ls) g = absurd (false≢true g.0)
punctuated after_key (colon ∷ ls) g = (refl, punctuated fresh ls g)

-- ---- how the lexer goes on in a string

abbrev next_in_string : Bool → Bool → Mode
next_in_string q b = cond q between (cond b in_escape in_string)

string_step : (q b o s : Bool) (x : ℕ) (xs : List ℕ) (k : Mode → List Lexeme) → lex_byte in_string (cond q quote (cond b backslash (cond o operator (cond s space other)))) x xs k ≡ k (next_in_string q b)
string_step true b o s x xs k = refl
string_step false true o s x xs k = refl
string_step false false true s x xs k = refl
string_step false false false true x xs k = refl
string_step false false false false x xs k = refl

in_text : (x : ℕ) (xs : List ℕ) → lex in_string (x ∷ xs) ≡ lex (next_in_string (x == 34) (x == 92)) xs
unfolding lex
in_text x xs = string_step (x == 34) (x == 92) (is_operator x) (is_space x) x xs (λ m. lex m xs)

in_pair : (s : ℕ) (xs : List ℕ) → (s == 92) ≡ true → lex in_string (s ∷ xs) ≡ lex in_escape xs
unfolding lex
in_pair s xs is = ap (λ y. lex in_string (y ∷ xs)) (eqb-true s 92 is)

escaped : (x : ℕ) (xs : List ℕ) → lex in_escape (x ∷ xs) ≡ lex in_string xs
unfolding lex
escaped x xs = refl

not_hex : (c x : ℕ) → is_digit c 16 ≡ false → is_digit x 16 ≡ true → (x == c) ≡ false
not_hex c x never hex = ne_eqb x c (λ is. absurd (false≢true (sym never ∙ ap (λ y. is_digit y 16) (sym is) ∙ hex)))

hex : (x : ℕ) (xs : List ℕ) → is_digit x 16 ≡ true → lex in_string (x ∷ xs) ≡ lex in_string xs
hex x xs is =
    let q = not_hex 34 x refl is in
    let b = not_hex 92 x refl is in
    in_text x xs ∙ (λ i. lex (next_in_string (q i) (b i)) xs)

four_hex : (a b c d : ℕ) (xs : List ℕ) → (is_digit a 16 && is_digit b 16 && is_digit c 16 && is_digit d 16) ≡ true → lex in_string (a ∷ b ∷ c ∷ d ∷ xs) ≡ lex in_string xs
four_hex a b c d xs is =
    let three = and_parts (is_digit a 16 && is_digit b 16 && is_digit c 16) (is_digit d 16) is in
    let two = and_parts (is_digit a 16 && is_digit b 16) (is_digit c 16) three.0 in
    let one = and_parts (is_digit a 16) (is_digit b 16) two.0 in
    hex a (b ∷ c ∷ d ∷ xs) one.0 ∙ hex b (c ∷ d ∷ xs) one.1 ∙ hex c (d ∷ xs) two.1 ∙ hex d xs three.1

-- ---- what a string's content says

abbrev Found : Option (List ℕ) → Type 0
Found None = ⊥
Found (Some s) = ⊤

good_string : (o : Option (List ℕ)) → is_good (string_token o) ≡ true → Found o
good_string None is = absurd (false≢true is)
good_string (Some s) is = tt

after : (bytes : List ℕ) (o : Option (List ℕ)) → Found (prepend bytes o) → Found o
after bytes None f = f
after bytes (Some s) f = tt

if_true : (P : Type 0) (b : Bool) (o : Option (List ℕ)) → (b ≡ true → Found o → P) → Found (cond b o None) → P
if_true P true o go f = go refl f
if_true P false o go f = absurd f

with_unit : (P : Type 0) (b : Bool) (v : ℕ) (k : ℕ → Option (List ℕ)) → (b ≡ true → Found (k v) → P) → Found (option_and_then k (cond b (Some v) None)) → P
with_unit P true v k go f = go refl f
with_unit P false v k go f = absurd f

plain_turn : (q b l : Bool) (x : ℕ) (xs : List ℕ) → (q ≡ true → x ≡ 0 → ⊥) → (AllGood (lex between xs) → Ends 1 xs) → (Found (content after_backslash xs) → AllGood (lex in_escape xs) → Ends 0 xs) → (Found (content plain xs) → AllGood (lex in_string xs) → Ends 0 xs)
    → Found (cond q (Some []) (cond b (content after_backslash xs) (cond l None (prepend (x ∷ []) (content plain xs))))) → AllGood (lex (next_in_string q b) xs) → Ends 0 (x ∷ xs)
plain_turn true b l x xs some closed escape go f g = ends_after x xs (some refl) (closed g)
plain_turn false true l x xs some closed escape go f g = further x xs (escape f g)
plain_turn false false true x xs some closed escape go f g = absurd f
plain_turn false false false x xs some closed escape go f g = further x xs (go (after (x ∷ []) (content plain xs) f) g)

escape_turn : (P : Type 0) (u : Bool) (o : Option ℕ) (xs : List ℕ) → (Found (content after_u xs) → P) → (Found (content plain xs) → P) → Found (cond u (content after_u xs) (option_and_then (λ c. prepend (c ∷ []) (content plain xs)) o)) → P
escape_turn P true o xs unit go f = unit f
escape_turn P false None xs unit go f = absurd f
escape_turn P false (Some c) xs unit go f = go (after (c ∷ []) (content plain xs) f)

unit_turn : (P : Type 0) (high low : Bool) (v : ℕ) (xs : List ℕ) → (Found (content (after_high v) xs) → P) → (Found (content plain xs) → P) → Found (cond high (content (after_high v) xs) (cond low None (prepend (encode_utf8 v) (content plain xs)))) → P
unit_turn P true low v xs pair go f = pair f
unit_turn P false true v xs pair go f = absurd f
unit_turn P false false v xs pair go f = go (after (encode_utf8 v) (content plain xs) f)

-- the code unit of four hex digits
abbrev unit_of : ℕ → ℕ → ℕ → ℕ → ℕ
unit_of a b c d = digit_value a * 4096 + digit_value b * 256 + digit_value c * 16 + digit_value d

abbrev mode : Within → Mode
mode plain = in_string
mode after_backslash = in_escape
mode after_u = in_string
mode (after_high v) = in_string

-- ---- the lexer

quote_some : (x : ℕ) → (x == 34) ≡ true → x ≡ 0 → ⊥
quote_some x is zero_byte = let this : x ≡ 34 = eqb-true x 34 is in absurd (omega (arith, this, zero_byte))

stop_some : (x : ℕ) → stops x ≡ true → x ≡ 0 → ⊥
stop_some x is zero_byte = false≢true (ap stops (sym zero_byte) ∙ is)

or_one : (a b : Bool) → a ≡ true → (a || b) ≡ true
or_one true b is = refl
or_one false b is = absurd (false≢true is)

or_two : (a b : Bool) → b ≡ true → (a || b) ≡ true
or_two true b is = refl
or_two false b is = is

module _ (x : ℕ) (xs : List ℕ) (closed : AllGood (lex between xs) → Ends 1 xs) (inside : (word_end x xs ≡ 0 → ⊥) → AllGood (lex in_word xs) → Ends x xs) where
  between_turn : (q b o s : Bool) → (q ≡ true → x ≡ 0 → ⊥) → (o ≡ true → x ≡ 0 → ⊥) → (s ≡ true → x ≡ 0 → ⊥) → (Found (content plain xs) → AllGood (lex in_string xs) → Ends 0 xs) → (is_good (word (x ∷ xs)) ≡ true → cond (o || s) 1 (word_end x xs) ≡ 0 → ⊥)
      → AllGood (lex_byte between (cond q quote (cond b backslash (cond o operator (cond s space other)))) x xs (λ m. lex m xs)) → Ends x xs
  between_turn true b o s is_quote is_operator is_space text good g = further x xs (text (good_string (content plain xs) g.0) g.1)
  between_turn false true o s is_quote is_operator is_space text good g = absurd (false≢true g.0)
  between_turn false false true s is_quote is_operator is_space text good g = ends_after x xs (is_operator refl) (closed g.1)
  between_turn false false false true is_quote is_operator is_space text good g = ends_after x xs (is_space refl) (closed g)
  between_turn false false false false is_quote is_operator is_space text good g = inside (good g.0) g.1

  word_turn : (before : ℕ) (q b o s : Bool) → (q ≡ true → (o || s) ≡ false) → (b ≡ true → (o || s) ≡ false) → (o ≡ true → x ≡ 0 → ⊥) → (s ≡ true → x ≡ 0 → ⊥) → (cond (o || s) before (word_end x xs) ≡ 0 → ⊥)
      → AllGood (lex_byte in_word (cond q quote (cond b backslash (cond o operator (cond s space other)))) x xs (λ m. lex m xs)) → Ends x xs
  word_turn before true b o s quotes slashes is_operator is_space solid g = inside (subst (λ c. cond c before (word_end x xs) ≡ 0 → ⊥) (quotes refl) solid) g
  word_turn before false true o s quotes slashes is_operator is_space solid g = inside (subst (λ c. cond c before (word_end x xs) ≡ 0 → ⊥) (slashes refl) solid) g
  word_turn before false false true s quotes slashes is_operator is_space solid g = ends_after x xs (is_operator refl) (closed g.1)
  word_turn before false false false true quotes slashes is_operator is_space solid g = ends_after x xs (is_space refl) (closed g)
  word_turn before false false false false quotes slashes is_operator is_space solid g = inside solid g

mutual
  unfolding lex content code_unit

  between_ends : (xs : List ℕ) → AllGood (lex between xs) → Ends 1 xs
  between_ends [] g = λ is. absurd (omega (arith, is))
  between_ends (x ∷ xs) g =
      between_turn x xs (between_ends xs) (word_ends x xs) (x == 34) (x == 92) (is_operator x) (is_space x) (quote_some x)
      (λ is. stop_some x (or_one (is_operator x) (is_space x) is)) (λ is. stop_some x (or_two (is_operator x) (is_space x) is)) (text_ends plain xs) (good_word (x ∷ xs)) g

  word_ends : (before : ℕ) (xs : List ℕ) → (word_end before xs ≡ 0 → ⊥) → AllGood (lex in_word xs) → Ends before xs
  word_ends before [] solid g = solid
  word_ends before (x ∷ xs) solid g =
      word_turn x xs (between_ends xs) (word_ends x xs) before (x == 34) (x == 92) (is_operator x) (is_space x) (λ is. ap stops (eqb-true x 34 is)) (λ is. ap stops (eqb-true x 92 is))
      (λ is. stop_some x (or_one (is_operator x) (is_space x) is)) (λ is. stop_some x (or_two (is_operator x) (is_space x) is)) solid g

  text_ends : (w : Within) (xs : List ℕ) → Found (content w xs) → AllGood (lex (mode w) xs) → Ends 0 xs
  text_ends plain [] f g = absurd f
  text_ends plain (x ∷ xs) f g = plain_turn (x == 34) (x == 92) (nat_lt x 32) x xs (quote_some x) (between_ends xs) (text_ends after_backslash xs) (text_ends plain xs) f (subst AllGood (in_text x xs) g)
  text_ends after_backslash [] f g = absurd f
  text_ends after_backslash (x ∷ xs) f g =
      let next = subst AllGood (escaped x xs) g in
      escape_turn (Ends x xs) (x == 117) (short_escape x) xs (λ unit. further x xs (text_ends after_u xs unit next)) (λ more. further x xs (text_ends plain xs more next)) f
  text_ends after_u [] f g = absurd f
  text_ends after_u (a ∷ []) f g = absurd f
  text_ends after_u (a ∷ b ∷ []) f g = absurd f
  text_ends after_u (a ∷ b ∷ c ∷ []) f g = absurd f
  text_ends after_u (a ∷ b ∷ c ∷ d ∷ xs) f g =
      with_unit (Ends d xs) (is_digit a 16 && is_digit b 16 && is_digit c 16 && is_digit d 16) _ _ (λ is unit.
      let next = subst AllGood (four_hex a b c d xs is) g in
      unit_turn (Ends d xs) _ _ _ xs (λ pair. further d xs (text_ends (after_high _) xs pair next)) (λ more. further d xs (text_ends plain xs more next)) unit) f
  text_ends (after_high v) [] f g = absurd f
  text_ends (after_high v) (s ∷ []) f g = absurd f
  text_ends (after_high v) (s ∷ u ∷ []) f g = absurd f
  text_ends (after_high v) (s ∷ u ∷ a ∷ []) f g = absurd f
  text_ends (after_high v) (s ∷ u ∷ a ∷ b ∷ []) f g = absurd f
  text_ends (after_high v) (s ∷ u ∷ a ∷ b ∷ c ∷ []) f g = absurd f
  text_ends (after_high v) (s ∷ u ∷ a ∷ b ∷ c ∷ d ∷ xs) f g =
      if_true (Ends d xs) ((s == 92) && (u == 117)) _ (λ pair found.
      with_unit (Ends d xs) (is_digit a 16 && is_digit b 16 && is_digit c 16 && is_digit d 16) _ _ (λ is low.
      let next = subst AllGood (in_pair s (u ∷ a ∷ b ∷ c ∷ d ∷ xs) (and_parts (s == 92) (u == 117) pair).0 ∙ escaped u (a ∷ b ∷ c ∷ d ∷ xs) ∙ four_hex a b c d xs is) g in
      if_true (Ends d xs) (is_low_surrogate (unit_of a b c d)) (prepend (encode_utf8 (surrogate_pair v (unit_of a b c d))) (content plain xs))
      (λ second more. further d xs (text_ends plain xs (after (encode_utf8 (surrogate_pair v (unit_of a b c d))) (content plain xs) more) next)) low) found) f

-- ---- a whole text

none≢some : {A : Type 0} (x : A) → None ≡ Some x → ⊥
none≢some x is = cc is

last_good : (ts : List Token) (o : Option (Json × List Token)) (d : serde.Data) → value max_depth ts ≡ o → option_and_then of_json (option_and_then (λ p. if_last p.0 p.1) o) ≡ Some d → Goods ts
last_good ts None d is e = absurd (none≢some d e)
last_good ts (Some (j, [])) d is e = subst Goods (sym (value-json_tokens_back max_depth ts [] j is)) (goods_append (json_tokens j) [] (json_good j) tt)
last_good ts (Some (j, t ∷ more)) d is e = absurd (none≢some d e)

read_ends : (text : List ℕ) (d : serde.Data) → read text ≡ Some d → Ends 0 text
unfolding value lex punctuate
read_ends [] d e = absurd (none≢some d e)
read_ends (x ∷ xs) d e = between_ends (x ∷ xs) (punctuated fresh (lex between (x ∷ xs)) (last_good (tokens (x ∷ xs)) (value max_depth (tokens (x ∷ xs))) d refl e))

err≢ok : {A E : Type 0} (e : E) (a : A) → Err e ≡ Ok a → ⊥
err≢ok e a is = cc is

reading : (text : List ℕ) (long utf8 : Bool) (o : Option serde.Data) → read text ≡ o → (k : serde.Data → Result Tree TreeFault) (fault : TreeFault) (tree : Tree)
    → (refused_where long fault ▷ λ _. (refused_where (not utf8) NotJson ▷ λ _. some_or NotJson o) ▷ k) ≡ Ok tree → Ends 0 text
reading text true utf8 o is k fault tree e = absurd (err≢ok fault tree e)
reading text false false o is k fault tree e = absurd (err≢ok NotJson tree e)
reading text false true None is k fault tree e = absurd (err≢ok NotJson tree e)
reading text false true (Some d) is k fault tree e = read_ends text d is

pub tree_ends : (text : List ℕ) (tree : Tree) → tree_of text ≡ Ok tree → Ends 0 text
unfolding tree_of
tree_ends text tree e = reading text (nat_lt _ (length text)) (is_utf8 text) (read text) refl _ _ tree e
