-- A body is neither a list nor an object where its first byte is neither a space nor a bracket that opens one.
use Rattle.std.proofs.Common.{◌≡◌, ℕ, ◌||◌, Bool, true, false, List, [], ◌∷◌, ◌&&◌, length, drop, refl, ap, ◌∙◌, rules, Option, Some, None, Result, Ok}
use Rattle.std.specs.Prelude.{◌==◌, cond, not, nat_eq, nat_lt, slice_get, option_map, option_and_then}
use Rattle.std.specs.List.{starts_with}
use Rattle.std.specs.Str.{is_utf8}
use Rattle.json.specs.Ascii as ascii
use Rattle.json.specs.Json as json
use Rattle.json.specs.Lex.{Class, Lexeme, Place, Mode, class, string_token, lex, lex_byte, place_token, punctuate, tokens}
use Rattle.json.specs.Token.{Token}
use Rattle.json.specs.Word.{is_space, word, literal, number_before, ends_word}
use Rattle.serde_json.specs.Data as reading
use Rattle.serde_json.specs.Read.{read, of_json, max_depth}
use Rattle.cd_text.specs.Steps.{◌▷◌, refused_where, some_or}
use Rattle.cd_tree.specs.Reading.{json_reading, of_reading, tree_of}
use Rattle.cd_tree.specs.Tree.{text}
use Rattle.cd_tree.specs.declared.fault.TreeFault.{TreeFault}
use Rattle.cd_tree.specs.declared.fault.TreeFault.TheVariants.{NotJson, TooDeep, TooLong}
use Rattle.cd_tree.specs.declared.limits.TheConstants.{MAX_DEPTH, MAX_TEXT_BYTES}
use Rattle.cd_tree.specs.declared.tree.Tree.{Tree, the_lemmas}
use Rattle.cd_handlers.specs.Body.{nests_if_tree, is_json, starts_plain}

-- ---- tokens

-- a token that begins a list or an object
abbrev opens : Token → Bool
opens Token.begin_object = true
opens Token.end_object = false
opens Token.begin_array = true
opens Token.end_array = false
opens (Token.key s) = false
opens (Token.string s) = false
opens (Token.number s) = false
opens (Token.boolean b) = false
opens Token.null = false
opens Token.bad = false

-- the first of these does
abbrev first_opens : List Token → Bool
first_opens [] = false
first_opens (t ∷ ts) = opens t

abbrev lexeme_opens : Lexeme → Bool
lexeme_opens (Lexeme.token t) = opens t
lexeme_opens Lexeme.comma = false
lexeme_opens Lexeme.colon = false

cond-plain : (b : Bool) (s t : Token) → opens s ≡ false → opens t ≡ false → opens (cond b s t) ≡ false
cond-plain b s t p q = search rules

number-plain : (text : List ℕ) (left : Option (List ℕ)) → opens (number_before text left) ≡ false
number-plain text left = search (rules, cond-plain)

literal-plain : (name : List ℕ) (t : Token) (text : List ℕ) → opens t ≡ false → opens (literal name t text) ≡ false
literal-plain name t text p = cond-plain (starts_with nat_eq text name && ends_word (drop (length name) text)) t Token.bad p refl

-- no word opens anything
word-plain : (text : List ℕ) → opens (word text) ≡ false
unfolding word
word-plain text = search (rules, cond-plain, literal-plain, number-plain)

operator-cases : (a b c d e : Bool) → a ≡ false → c ≡ false
    → lexeme_opens (cond a (Lexeme.token Token.begin_object) (cond b (Lexeme.token Token.end_object) (cond c (Lexeme.token Token.begin_array) (cond d (Lexeme.token Token.end_array) (cond e Lexeme.comma Lexeme.colon))))) ≡ false
operator-cases a b c d e p q = search rules

string-plain : (s : Option (List ℕ)) → opens (string_token s) ≡ false
string-plain s = search rules

-- a token that opens nothing is followed by none that does, in its place
placed-plain : (t : Token) (b : Bool) (k : Place → List Token) → opens t ≡ false → first_opens (place_token Place.fresh t b k) ≡ false
placed-plain t b k p = search rules

punctuated-plain : (l : Lexeme) (ls : List Lexeme) → lexeme_opens l ≡ false → first_opens (punctuate Place.fresh (l ∷ ls)) ≡ false
unfolding punctuate
punctuated-plain l ls p = search (rules, placed-plain)

-- a space is no byte of a word
space-cases : (a b c d : Bool) → cond a Class.quote (cond b Class.backslash (cond c Class.operator (cond d Class.space Class.other))) ≡ Class.space → d ≡ false → ⊥
space-cases a b c d is p = search rules

class-plain : (c : Class) (x : ℕ) (xs : List ℕ) → class x ≡ c → (x == ascii.open_brace) ≡ false → (x == ascii.open_bracket) ≡ false → is_space x ≡ false
    → first_opens (punctuate Place.fresh (lex_byte Mode.between c x xs (λ next. lex next xs))) ≡ false
class-plain c x xs is brace bracket space = search (rules, punctuated-plain, string-plain, operator-cases, space-cases, word-plain)

-- the first token of a text that begins so opens nothing
tokens-plain : (x : ℕ) (xs : List ℕ) → (x == ascii.open_brace) ≡ false → (x == ascii.open_bracket) ≡ false → is_space x ≡ false → first_opens (tokens (x ∷ xs)) ≡ false
unfolding lex
tokens-plain x xs brace bracket space = class-plain (class x) x xs refl brace bracket space

-- ---- values

abbrev json_nests : json.Json → Bool
json_nests json.null = false
json_nests (json.boolean b) = false
json_nests (json.number s) = false
json_nests (json.string s) = false
json_nests (json.array js) = true
json_nests (json.object ms) = true

abbrev read_nests : Option (json.Json × List Token) → Bool
read_nests None = false
read_nests (Some p) = json_nests p.0

value-with-plain : (a : json.Parse json.Items) (o : json.Parse json.Members) (ts : List Token) → first_opens ts ≡ false → read_nests (json.value_with a o ts) ≡ false
value-with-plain a o ts p = search rules

value-plain : (n : ℕ) (ts : List Token) → first_opens ts ≡ false → read_nests (json.value n ts) ≡ false
unfolding json.value
value-plain n ts p = search (rules, value-with-plain)

-- ---- readings

abbrev data_nests : reading.Data → Bool
data_nests reading.null = false
data_nests (reading.boolean b) = false
data_nests (reading.number n) = false
data_nests (reading.string s) = false
data_nests (reading.array ds) = true
data_nests (reading.object ms) = true

abbrev found_nests : Option reading.Data → Bool
found_nests None = false
found_nests (Some d) = data_nests d

number-found : (n : Option reading.Num) → found_nests (option_map reading.number n) ≡ false
number-found n = search rules

json-plain : (j : json.Json) → json_nests j ≡ false → found_nests (of_json j) ≡ false
json-plain j p = search (rules, number-found)

last-plain : (j : json.Json) (ts : List Token) → json_nests j ≡ false → found_nests (option_and_then of_json (json.if_last j ts)) ≡ false
last-plain j ts p = search (rules, json-plain)

document-plain : (found : Option (json.Json × List Token)) → read_nests found ≡ false → found_nests (option_and_then of_json (option_and_then (λ p. json.if_last p.0 p.1) found)) ≡ false
document-plain found p = search (rules, last-plain)

-- ---- trees

number-tree : (n : reading.Num) → nests_if_tree (of_reading (reading.number n)) ≡ false
number-tree n = search (rules, the_lemmas)

reading-plain : (d : reading.Data) → data_nests d ≡ false → nests_if_tree (of_reading d) ≡ false
reading-plain d p = search (rules, the_lemmas, number-tree)

unless-plain : (b : Bool) (fault : TreeFault) (next : Result Tree TreeFault) → nests_if_tree next ≡ false → nests_if_tree (refused_where b fault ▷ λ _. next) ≡ false
unless-plain b fault next p = search rules

-- the last test passes the tree on, or refuses
passed-plain : (t : Result Tree TreeFault) (test : Tree → Bool) (fault : TreeFault) → nests_if_tree t ≡ false → nests_if_tree (t ▷ λ found. refused_where (test found) fault ▷ λ _. Ok found) ≡ false
passed-plain t test fault p = search (rules, unless-plain)

read-plain : (found : Option reading.Data) (fault deep long : TreeFault) (too_deep : reading.Data → Bool) (too_long : Tree → Bool) → found_nests found ≡ false
    → nests_if_tree (some_or fault found ▷ λ value. refused_where (too_deep value) deep ▷ λ _. of_reading value ▷ λ t. refused_where (too_long t) long ▷ λ _. Ok t) ≡ false
read-plain found fault deep long too_deep too_long p = search (rules, unless-plain, passed-plain, reading-plain)

utf8-plain : (b : Bool) (found : Option reading.Data) (fault other deep long : TreeFault) (too_deep : reading.Data → Bool) (too_long : Tree → Bool) → found_nests found ≡ false
    → nests_if_tree ((refused_where b other ▷ λ _. some_or fault found) ▷ λ value. refused_where (too_deep value) deep ▷ λ _. of_reading value ▷ λ t. refused_where (too_long t) long ▷ λ _. Ok t) ≡ false
utf8-plain b found fault other deep long too_deep too_long p = search (rules, read-plain)

none-of : (a b c : Bool) → not (a || (b || c)) ≡ true → (a ≡ false) × (b ≡ false) × (c ≡ false)
none-of a b c p = search rules

-- the first byte shows that a body is neither a list nor an object
pub plain_start : (x : ℕ) (xs : List ℕ) → starts_plain x ≡ true → is_json (x ∷ xs) ≡ false
unfolding tree_of
plain_start x xs plain =
    let none = none-of (x == ascii.open_brace) (x == ascii.open_bracket) (is_space x) plain in
    let tokens-are : first_opens (tokens (x ∷ xs)) ≡ false = tokens-plain x xs none.0 none.1 none.2 in
    unless-plain (nat_lt MAX_TEXT_BYTES (length (x ∷ xs))) TooLong
    (json_reading (x ∷ xs) ▷ λ value. refused_where (nat_lt MAX_DEPTH (reading.depth value)) TooDeep ▷ λ _. of_reading value ▷ λ t. refused_where (nat_lt MAX_TEXT_BYTES (length (text t))) TooLong ▷ λ _. Ok t)
    (utf8-plain (not (is_utf8 (x ∷ xs))) (read (x ∷ xs)) NotJson NotJson TooDeep TooLong (λ value. nat_lt MAX_DEPTH (reading.depth value)) (λ t. nat_lt MAX_TEXT_BYTES (length (text t)))
    (document-plain (json.value max_depth (tokens (x ∷ xs))) (value-plain max_depth (tokens (x ∷ xs)) tokens-are)))

-- the same of a body with that first byte
pub plain_body : (body : List ℕ) (x : ℕ) → slice_get body 0 ≡ Some x → starts_plain x ≡ true → is_json body ≡ false
plain_body [] x first plain = cc
plain_body (y ∷ ys) x first plain = let same : y ≡ x = cc in plain_start y ys (ap starts_plain same ∙ plain)
