-- The words of a text are texts, and so is a text with its shorthands spelled out.
use Rattle.std.proofs.Common.{◌≡◌, ℕ, ◌+◌, ◌<◌, ◌==◌, Bool, true, false, if◌then◌else◌, List, [], ◌∷◌, ◌++◌, length, get_or, refl, sym, subst, append_assoc, append-nil, eqb-true, length-append, arith}
use Rattle.std.specs.Prelude.{All, IsUtf8, codes}
use Rattle.std.specs.Str.{bytes_eq, is_utf8, chars}
use Rattle.std.proofs.Math.Seq.{take-append_seam, drop-append-add}
use Rattle.std.proofs.lemmas.Bool.Decides.{nat_tests}
use Rattle.std.proofs.lemmas.List.Elements.{All-nil, All-cons}
use Rattle.std.proofs.lemmas.Str.{IsUtf8-append, IsUtf8-take, IsUtf8-drop, IsUtf8-from_is_utf8, IsUtf8-from_ascii, IsCharBoundary-after_ascii, IsCharBoundary-at_seam}
use Rattle.std.proofs.lemmas.Str.Ascii.{IsAscii-nil, IsAscii-cons}
use lib.Utf8.{encode}
use Rattle.cd_caddyfile.specs.Shorthands.{long_name, spelled, after_brace}
use Rattle.cd_caddyfile.specs.Words.{word, words, bare, quoted, escaped, is_blank, is_hash, is_quote, is_backslash}
use Rattle.cd_caddyfile.specs.declared.word.Word.{Word}
use Rattle.cd_caddyfile.specs.declared.word.Mark.TheVariants.{Bare, Quoted, Open}
use Rattle.cd_caddyfile.proofs.WordSteps.{words_blank, words_hash, words_quote, words_other, bare_blank, bare_other, quoted_quote, quoted_backslash, quoted_other, escaped_quote, escaped_other}
use Rattle.cd_caddyfile.proofs.SpellSteps.{spelled-other, spelled-at_brace, after_brace-other, after_brace-at_brace, after_brace-at_end}

-- ---- cuts at an ASCII byte

there : (a b : List ℕ) (c : ℕ) → get_or (a ++ c ∷ b) (length a) 0 ≡ c
there [] b c = refl
there (x ∷ a) b c = there a b c

one_byte : (c : ℕ) → c < 128 → IsUtf8 (c ∷ [])
one_byte c small = IsUtf8-from_ascii (c ∷ []) (IsAscii-cons c [] small IsAscii-nil)

after_cut : (a b : List ℕ) (c : ℕ) → c < 128 → IsUtf8 (a ++ c ∷ b) → IsUtf8 b
after_cut a b c small is =
    let within : length a < length (a ++ c ∷ b) = omega (arith, length-append a (c ∷ b)) in
    let ascii : get_or (a ++ c ∷ b) (length a) 0 < 128 = omega (arith, there a b c) in
    subst (λ (l : List ℕ). IsUtf8 l) (drop-append-add a (c ∷ b) 1)
    (IsUtf8-drop (a ++ c ∷ b) (length a + 1) is (IsCharBoundary-after_ascii (a ++ c ∷ b) (length a) is within ascii))

before_cut : (a b : List ℕ) (c : ℕ) → c < 128 → IsUtf8 (a ++ c ∷ b) → IsUtf8 a
before_cut a b c small is = subst (λ (l : List ℕ). IsUtf8 l) (take-append_seam a (c ∷ b))
    (IsUtf8-take (a ++ c ∷ b) (length a) is
    (IsCharBoundary-at_seam (a ++ c ∷ b) a (c ∷ b) refl (IsUtf8-append (c ∷ []) b (one_byte c small) (after_cut a b c small is))))

moved : (a b : List ℕ) (c : ℕ) → IsUtf8 (a ++ c ∷ b) → IsUtf8 ((a ++ c ∷ []) ++ b)
moved a b c is = subst (λ (l : List ℕ). IsUtf8 l) (sym (append_assoc a (c ∷ []) b)) is

-- ---- words

abbrev Texts : List Word → Type 0
Texts ws = All (λ (w : Word). IsUtf8 w.text) ws

same_texts : (ws vs : List Word) → ws ≡ vs → Texts vs → Texts ws
same_texts ws vs is known = subst Texts (sym is) known

small_blank : (b : ℕ) → is_blank b ≡ true → b < 128
small_blank b is = grind (arith, nat_tests)

small : (b c : ℕ) → (b == c) ≡ true → c < 128 → b < 128
small b c is below = omega (arith, eqb-true b c is)

words_at : (byte : ℕ) (rest : List ℕ) (blank hash quote : Bool) → is_blank byte ≡ blank → is_hash byte ≡ hash → is_quote byte ≡ quote → IsUtf8 (byte ∷ rest) →
    (IsUtf8 rest → Texts (words rest)) → (IsUtf8 rest → Texts (quoted [] rest)) → (IsUtf8 (byte ∷ rest) → Texts (bare (byte ∷ []) rest)) → Texts (words (byte ∷ rest))
words_at byte rest true hash quote a b c is on in_quotes in_bare = same_texts _ _ (words_blank byte rest a) (on (after_cut [] rest byte (small_blank byte a) is))
words_at byte rest false true quote a b c is on in_quotes in_bare = same_texts _ _ (words_hash byte rest a b) (All-nil (λ (w : Word). IsUtf8 w.text))
words_at byte rest false false true a b c is on in_quotes in_bare =
    same_texts _ _ (words_quote byte rest a b c) (in_quotes (after_cut [] rest byte (small byte 34 c (omega arith)) is))
words_at byte rest false false false a b c is on in_quotes in_bare = same_texts _ _ (words_other byte rest a b c) (in_bare is)

bare_at : (text : List ℕ) (byte : ℕ) (rest : List ℕ) (blank : Bool) → is_blank byte ≡ blank → IsUtf8 (text ++ byte ∷ rest) →
    (IsUtf8 rest → Texts (words rest)) → (IsUtf8 ((text ++ byte ∷ []) ++ rest) → Texts (bare (text ++ byte ∷ []) rest)) → Texts (bare text (byte ∷ rest))
bare_at text byte rest true a is on in_bare = same_texts _ _ (bare_blank text byte rest a)
    (All-cons (λ (w : Word). IsUtf8 w.text) (word text Bare) (words rest) (before_cut text rest byte (small_blank byte a) is) (on (after_cut text rest byte (small_blank byte a) is)))
bare_at text byte rest false a is on in_bare = same_texts _ _ (bare_other text byte rest a) (in_bare (moved text rest byte is))

quoted_at : (text : List ℕ) (byte : ℕ) (rest : List ℕ) (quote slash : Bool) → is_quote byte ≡ quote → is_backslash byte ≡ slash → IsUtf8 (text ++ byte ∷ rest) →
    (IsUtf8 rest → Texts (words rest)) → (IsUtf8 (text ++ 92 ∷ rest) → Texts (escaped text rest)) →
    (IsUtf8 ((text ++ byte ∷ []) ++ rest) → Texts (quoted (text ++ byte ∷ []) rest)) → Texts (quoted text (byte ∷ rest))
quoted_at text byte rest true slash a b is on in_escape in_quotes = same_texts _ _ (quoted_quote text byte rest a)
    (All-cons (λ (w : Word). IsUtf8 w.text) (word text Quoted) (words rest) (before_cut text rest byte (small byte 34 a (omega arith)) is) (on (after_cut text rest byte (small byte 34 a (omega arith)) is)))
quoted_at text byte rest false true a b is on in_escape in_quotes = same_texts _ _ (quoted_backslash text byte rest a b)
    (in_escape (subst (λ (c : ℕ). IsUtf8 (text ++ c ∷ rest)) (eqb-true byte 92 b) is))
quoted_at text byte rest false false a b is on in_escape in_quotes = same_texts _ _ (quoted_other text byte rest a b) (in_quotes (moved text rest byte is))

escaped_at : (text : List ℕ) (byte : ℕ) (rest : List ℕ) (quote : Bool) → is_quote byte ≡ quote → IsUtf8 (text ++ 92 ∷ byte ∷ rest) →
    ((more : List ℕ) → IsUtf8 (more ++ rest) → Texts (quoted more rest)) → Texts (escaped text (byte ∷ rest))
escaped_at text byte rest true a is in_quotes = same_texts _ _ (escaped_quote text byte rest a)
    (in_quotes (text ++ 34 ∷ []) (moved text rest 34 (subst (λ (c : ℕ). IsUtf8 (text ++ c ∷ rest)) (eqb-true byte 34 a)
    (IsUtf8-append text (byte ∷ rest) (before_cut text (byte ∷ rest) 92 (omega arith) is) (after_cut text (byte ∷ rest) 92 (omega arith) is)))))
escaped_at text byte rest false a is in_quotes = same_texts _ _ (escaped_other text byte rest a)
    (in_quotes (text ++ 92 ∷ byte ∷ []) (subst (λ (l : List ℕ). IsUtf8 l) (sym (append_assoc text (92 ∷ byte ∷ []) rest)) is))

one_word : (w : Word) → IsUtf8 w.text → Texts (w ∷ [])
one_word w is = All-cons (λ (v : Word). IsUtf8 v.text) w [] is (All-nil (λ (v : Word). IsUtf8 v.text))

ended : (text : List ℕ) → IsUtf8 (text ++ []) → IsUtf8 text
ended text is = subst (λ (l : List ℕ). IsUtf8 l) (append-nil text) is

mutual
  unfolding words bare quoted escaped

  pub words_texts : (line : List ℕ) → IsUtf8 line → Texts (words line)
  words_texts [] is = All-nil (λ (w : Word). IsUtf8 w.text)
  words_texts (byte ∷ rest) is = words_at byte rest (is_blank byte) (is_hash byte) (is_quote byte) refl refl refl is
      (λ u. words_texts rest u) (λ u. quoted_texts [] rest u) (λ u. bare_texts (byte ∷ []) rest u)

  bare_texts : (text rest : List ℕ) → IsUtf8 (text ++ rest) → Texts (bare text rest)
  bare_texts text [] is = one_word (word text Bare) (ended text is)
  bare_texts text (byte ∷ rest) is = bare_at text byte rest (is_blank byte) refl is (λ u. words_texts rest u) (λ u. bare_texts (text ++ byte ∷ []) rest u)

  quoted_texts : (text rest : List ℕ) → IsUtf8 (text ++ rest) → Texts (quoted text rest)
  quoted_texts text [] is = one_word (word text Open) (ended text is)
  quoted_texts text (byte ∷ rest) is = quoted_at text byte rest (is_quote byte) (is_backslash byte) refl refl is
      (λ u. words_texts rest u) (λ u. escaped_texts text rest u) (λ u. quoted_texts (text ++ byte ∷ []) rest u)

  escaped_texts : (text rest : List ℕ) → IsUtf8 (text ++ 92 ∷ rest) → Texts (escaped text rest)
  escaped_texts text [] is = one_word (word (text ++ 92 ∷ []) Open) is
  escaped_texts text (byte ∷ rest) is = escaped_at text byte rest (is_quote byte) refl is (λ more u. quoted_texts more rest u)

-- ---- shorthands

if_text : (b : Bool) (x y : List ℕ) → IsUtf8 x → IsUtf8 y → IsUtf8 (if b then x else y)
if_text true x y p q = p
if_text false x y p q = q

long_text : (name : List ℕ) → IsUtf8 name → IsUtf8 (long_name name)
unfolding is_utf8 chars encode
long_text name is =
    if_text (bytes_eq name (codes "method")) _ _ (IsUtf8-from_is_utf8 (codes "http.request.method") refl)
    (if_text (bytes_eq name (codes "host")) _ _ (IsUtf8-from_is_utf8 (codes "http.request.host") refl)
    (if_text (bytes_eq name (codes "path")) _ _ (IsUtf8-from_is_utf8 (codes "http.request.uri.path") refl)
    (if_text (bytes_eq name (codes "query")) _ _ (IsUtf8-from_is_utf8 (codes "http.request.uri.query") refl)
    (if_text (bytes_eq name (codes "uri")) _ _ (IsUtf8-from_is_utf8 (codes "http.request.uri") refl) is))))

in_front : (c : ℕ) (text : List ℕ) → c < 128 → IsUtf8 text → IsUtf8 (c ∷ text)
in_front c text below is = IsUtf8-append (c ∷ []) text (one_byte c below) is

outside_at : (before : List ℕ) (byte : ℕ) (rest : List ℕ) (brace : Bool) → (byte == 123) ≡ brace → IsUtf8 (before ++ byte ∷ rest) →
    (IsUtf8 rest → IsUtf8 (after_brace [] rest)) → (IsUtf8 ((before ++ byte ∷ []) ++ rest) → IsUtf8 ((before ++ byte ∷ []) ++ spelled rest)) → IsUtf8 (before ++ spelled (byte ∷ rest))
outside_at before byte rest true a is in_brace on =
    subst (λ (l : List ℕ). IsUtf8 (before ++ l)) (sym (spelled-at_brace byte rest a))
    (IsUtf8-append before (after_brace [] rest) (before_cut before rest byte (small byte 123 a (omega arith)) is) (in_brace (after_cut before rest byte (small byte 123 a (omega arith)) is)))
outside_at before byte rest false a is in_brace on =
    subst (λ (l : List ℕ). IsUtf8 (before ++ l)) (sym (spelled-other byte rest a))
    (subst (λ (l : List ℕ). IsUtf8 l) (append_assoc before (byte ∷ []) (spelled rest)) (on (moved before rest byte is)))

inside_at : (name : List ℕ) (byte : ℕ) (rest : List ℕ) (brace end : Bool) → (byte == 123) ≡ brace → (byte == 125) ≡ end → IsUtf8 (name ++ byte ∷ rest) →
    (IsUtf8 rest → IsUtf8 (after_brace [] rest)) → (IsUtf8 rest → IsUtf8 (spelled rest)) →
    (IsUtf8 ((name ++ byte ∷ []) ++ rest) → IsUtf8 (after_brace (name ++ byte ∷ []) rest)) → IsUtf8 (after_brace name (byte ∷ rest))
inside_at name byte rest true end a b is in_brace on more =
    subst (λ (l : List ℕ). IsUtf8 l) (sym (after_brace-at_brace name byte rest a))
    (in_front 123 (name ++ after_brace [] rest) (omega arith)
    (IsUtf8-append name (after_brace [] rest) (before_cut name rest byte (small byte 123 a (omega arith)) is) (in_brace (after_cut name rest byte (small byte 123 a (omega arith)) is))))
inside_at name byte rest false true a b is in_brace on more =
    subst (λ (l : List ℕ). IsUtf8 l) (sym (after_brace-at_end name byte rest b))
    (in_front 123 (long_name name ++ 125 ∷ spelled rest) (omega arith)
    (IsUtf8-append (long_name name) (125 ∷ spelled rest) (long_text name (before_cut name rest byte (small byte 125 b (omega arith)) is))
    (in_front 125 (spelled rest) (omega arith) (on (after_cut name rest byte (small byte 125 b (omega arith)) is)))))
inside_at name byte rest false false a b is in_brace on more =
    subst (λ (l : List ℕ). IsUtf8 l) (sym (after_brace-other name byte rest a b)) (more (moved name rest byte is))

mutual
  unfolding spelled after_brace

  spelled_on : (before rest : List ℕ) → IsUtf8 (before ++ rest) → IsUtf8 (before ++ spelled rest)
  spelled_on before [] is = is
  spelled_on before (byte ∷ rest) is = outside_at before byte rest (byte == 123) refl is (λ u. after_on [] rest u) (λ u. spelled_on (before ++ byte ∷ []) rest u)

  after_on : (name rest : List ℕ) → IsUtf8 (name ++ rest) → IsUtf8 (after_brace name rest)
  after_on name [] is = in_front 123 name (omega arith) (ended name is)
  after_on name (byte ∷ rest) is = inside_at name byte rest (byte == 123) (byte == 125) refl refl is
      (λ u. after_on [] rest u) (λ u. spelled_on [] rest u) (λ u. after_on (name ++ byte ∷ []) rest u)

pub spelled_text : (text : List ℕ) → IsUtf8 text → IsUtf8 (spelled text)
spelled_text text is = spelled_on [] text is
