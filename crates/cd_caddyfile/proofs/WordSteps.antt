-- What each byte does to the words of a line.
use Rattle.std.proofs.Common.{◌≡◌, ℕ, ◌==◌, true, false, List, [], ◌∷◌, ◌++◌, ◌≢◌, refl, sym, ap, ◌∙◌, append_assoc, append-nil, rules}
use Rattle.cd_caddyfile.specs.Words.{word, words, bare, quoted, escaped, is_blank, is_hash, is_quote, is_backslash}
use Rattle.std.specs.Prelude.{Result, Ok, Err, OnOk, IfOk}
use Rattle.cd_caddyfile.specs.Still.{still}
use Rattle.cd_caddyfile.specs.declared.reading.Reading.{Reading}
use Rattle.cd_caddyfile.specs.declared.reading.Reading.TheVariants as mode
use Rattle.cd_caddyfile.specs.declared.word.Word.{Word}
use Rattle.cd_caddyfile.specs.declared.word.Mark.TheVariants.{Bare, Quoted, Open}

pub words_blank : (byte : ℕ) (rest : List ℕ) → is_blank byte ≡ true → words (byte ∷ rest) ≡ words rest
unfolding words
words_blank byte rest is = rw (is, words) refl

pub words_hash : (byte : ℕ) (rest : List ℕ) → is_blank byte ≡ false → is_hash byte ≡ true → words (byte ∷ rest) ≡ []
unfolding words
words_hash byte rest is_not is = rw (is_not, is, words) refl

pub words_quote : (byte : ℕ) (rest : List ℕ) → is_blank byte ≡ false → is_hash byte ≡ false → is_quote byte ≡ true → words (byte ∷ rest) ≡ quoted [] rest
unfolding words
words_quote byte rest a b is = rw (a, b, is, words) refl

pub words_other : (byte : ℕ) (rest : List ℕ) → is_blank byte ≡ false → is_hash byte ≡ false → is_quote byte ≡ false → words (byte ∷ rest) ≡ bare (byte ∷ []) rest
unfolding words
words_other byte rest a b c = rw (a, b, c, words) refl

pub bare_blank : (text : List ℕ) (byte : ℕ) (rest : List ℕ) → is_blank byte ≡ true → bare text (byte ∷ rest) ≡ word text Bare ∷ words rest
unfolding bare
bare_blank text byte rest is = rw (is, bare) refl

pub bare_other : (text : List ℕ) (byte : ℕ) (rest : List ℕ) → is_blank byte ≡ false → bare text (byte ∷ rest) ≡ bare (text ++ byte ∷ []) rest
unfolding bare
bare_other text byte rest is = rw (is, bare) refl

pub quoted_quote : (text : List ℕ) (byte : ℕ) (rest : List ℕ) → is_quote byte ≡ true → quoted text (byte ∷ rest) ≡ word text Quoted ∷ words rest
unfolding quoted
quoted_quote text byte rest is = rw (is, quoted) refl

pub quoted_backslash : (text : List ℕ) (byte : ℕ) (rest : List ℕ) → is_quote byte ≡ false → is_backslash byte ≡ true → quoted text (byte ∷ rest) ≡ escaped text rest
unfolding quoted
quoted_backslash text byte rest a is = rw (a, is, quoted) refl

pub quoted_other : (text : List ℕ) (byte : ℕ) (rest : List ℕ) → is_quote byte ≡ false → is_backslash byte ≡ false → quoted text (byte ∷ rest) ≡ quoted (text ++ byte ∷ []) rest
unfolding quoted
quoted_other text byte rest a b = rw (a, b, quoted) refl

pub escaped_quote : (text : List ℕ) (byte : ℕ) (rest : List ℕ) → is_quote byte ≡ true → escaped text (byte ∷ rest) ≡ quoted (text ++ 34 ∷ []) rest
unfolding escaped
escaped_quote text byte rest is = rw (is, escaped) refl

pub escaped_other : (text : List ℕ) (byte : ℕ) (rest : List ℕ) → is_quote byte ≡ false → escaped text (byte ∷ rest) ≡ quoted (text ++ 92 ∷ byte ∷ []) rest
unfolding escaped
escaped_other text byte rest is = rw (is, escaped) refl

-- ---- the same of calls that may fail, and of bytes that were compared

pub is : (byte other : ℕ) → byte ≡ other → (byte == other) ≡ true
is byte other same = search (rules, same)

pub is_not : (byte other : ℕ) → byte ≢ other → (byte == other) ≡ false
is_not byte other differs = search (rules, differs)

pub on_ok : {A E : Type 0} (r : Result A E) {P Q : Type 0} → (P → Q) → OnOk r P → OnOk r Q
on_ok (Ok value) step known = step known
on_ok (Err error) step known = tt

-- a word in front of what follows
pub in_front : (ws new : List Word) (w : Word) (following : List Word) → new ≡ ws ++ w ∷ [] → ws ++ w ∷ following ≡ new ++ following
in_front ws new w following is = sym (ap (λ n. n ++ following) is ∙ append_assoc ws (w ∷ []) following)

pub at_blank : (ws new : List Word) (text : List ℕ) (byte : ℕ) (rest : List ℕ) → is_blank byte ≡ true → new ≡ ws ++ word text Bare ∷ [] →
    ws ++ bare text (byte ∷ rest) ≡ new ++ words rest
at_blank ws new text byte rest blank new-is = ap (λ l. ws ++ l) (bare_blank text byte rest blank) ∙ in_front ws new (word text Bare) (words rest) new-is

pub at_quote : (ws new : List Word) (text : List ℕ) (byte : ℕ) (rest : List ℕ) → byte ≡ 34 → new ≡ ws ++ word text Quoted ∷ [] →
    ws ++ quoted text (byte ∷ rest) ≡ new ++ words rest
at_quote ws new text byte rest quote new-is = ap (λ l. ws ++ l) (quoted_quote text byte rest (is byte 34 quote)) ∙ in_front ws new (word text Quoted) (words rest) new-is

pub more_bare : (ws : List Word) (text new : List ℕ) (byte : ℕ) (rest : List ℕ) → is_blank byte ≡ false → new ≡ text ++ byte ∷ [] →
    ws ++ bare text (byte ∷ rest) ≡ ws ++ bare new rest
more_bare ws text new byte rest plain new-is = ap (λ l. ws ++ l) (bare_other text byte rest plain ∙ ap (λ t. bare t rest) (sym new-is))

pub more_quoted : (ws : List Word) (text new : List ℕ) (byte : ℕ) (rest : List ℕ) → byte ≢ 34 → byte ≢ 92 → new ≡ text ++ byte ∷ [] →
    ws ++ quoted text (byte ∷ rest) ≡ ws ++ quoted new rest
more_quoted ws text new byte rest a b new-is =
    ap (λ l. ws ++ l) (quoted_other text byte rest (is_not byte 34 a) (is_not byte 92 b) ∙ ap (λ t. quoted t rest) (sym new-is))

pub now_escaped : (ws : List Word) (text : List ℕ) (byte : ℕ) (rest : List ℕ) → byte ≢ 34 → byte ≡ 92 →
    ws ++ quoted text (byte ∷ rest) ≡ ws ++ escaped text rest
now_escaped ws text byte rest a b = ap (λ l. ws ++ l) (quoted_backslash text byte rest (is_not byte 34 a) (is byte 92 b))

pub escaped_end : (ws : List Word) (text new : List ℕ) (byte : ℕ) (rest : List ℕ) → byte ≡ 34 → new ≡ text ++ 34 ∷ [] →
    ws ++ escaped text (byte ∷ rest) ≡ ws ++ quoted new rest
escaped_end ws text new byte rest quote new-is = ap (λ l. ws ++ l) (escaped_quote text byte rest (is byte 34 quote) ∙ ap (λ t. quoted t rest) (sym new-is))

pub escaped_pair : (ws : List Word) (text mid new : List ℕ) (byte : ℕ) (rest : List ℕ) → byte ≢ 34 → mid ≡ text ++ 92 ∷ [] → new ≡ mid ++ byte ∷ [] →
    ws ++ escaped text (byte ∷ rest) ≡ ws ++ quoted new rest
escaped_pair ws text mid new byte rest other mid-is new-is = ap (λ l. ws ++ l) (escaped_other text byte rest (is_not byte 34 other)
    ∙ ap (λ t. quoted t rest) (sym (new-is ∙ (ap (λ t. t ++ byte ∷ []) mid-is ∙ append_assoc text (92 ∷ []) (byte ∷ [])))))

pub begun_bare : (ws : List Word) (none new : List ℕ) (byte : ℕ) (rest : List ℕ) → is_blank byte ≡ false → byte ≢ 35 → byte ≢ 34 →
    none ≡ [] → new ≡ none ++ byte ∷ [] → ws ++ words (byte ∷ rest) ≡ ws ++ bare new rest
begun_bare ws none new byte rest plain a b none-is new-is = ap (λ l. ws ++ l) (words_other byte rest plain (is_not byte 35 a) (is_not byte 34 b)
    ∙ ap (λ t. bare t rest) (sym (new-is ∙ ap (λ t. t ++ byte ∷ []) none-is)))

pub begun_quoted : (ws : List Word) (none : List ℕ) (byte : ℕ) (rest : List ℕ) → is_blank byte ≡ false → byte ≢ 35 → byte ≡ 34 →
    none ≡ [] → ws ++ words (byte ∷ rest) ≡ ws ++ quoted none rest
begun_quoted ws none byte rest plain a b none-is = ap (λ l. ws ++ l) (words_quote byte rest plain (is_not byte 35 a) (is byte 34 b) ∙ ap (λ t. quoted t rest) (sym none-is))

pub begun_comment : (ws : List Word) (byte : ℕ) (rest : List ℕ) → is_blank byte ≡ false → byte ≡ 35 → ws ++ words (byte ∷ rest) ≡ ws ++ []
begun_comment ws byte rest plain a = ap (λ l. ws ++ l) (words_hash byte rest plain (is byte 35 a))

pub on_both : {A E : Type 0} (r : Result A E) {P Q R : Type 0} → (P → Q → R) → OnOk r P → OnOk r Q → OnOk r R
on_both (Ok value) step one other = step one other
on_both (Err error) step one other = tt

pub if_ok : {A E : Type 0} (r : Result A E) {P Q : A → Type 0} → ((a : A) → P a → Q a) → IfOk r P → IfOk r Q
if_ok (Ok value) step known = step value known
if_ok (Err error) step known = tt

pub if_ok2 : {A E : Type 0} (r : Result A E) {P Q R : A → Type 0} → ((a : A) → P a → Q a → R a) → IfOk r P → IfOk r Q → IfOk r R
if_ok2 (Ok value) step one other = step value one other
if_ok2 (Err error) step one other = tt

-- ---- the end of a line

pub ended_between : (ws : List Word) (text : List ℕ) (at : Reading) → at ≡ mode.Between → ws ≡ ws ++ still at text []
unfolding words
ended_between ws text at is = sym (ap (λ m. ws ++ still m text []) is ∙ append-nil ws)

pub ended_bare : (ws found : List Word) (text : List ℕ) (at : Reading) → at ≡ mode.Bare → found ≡ ws ++ word text Bare ∷ [] → found ≡ ws ++ still at text []
unfolding bare
ended_bare ws found text at is found-is = found-is ∙ sym (ap (λ m. ws ++ still m text []) is)

pub ended_quoted : (ws found : List Word) (text : List ℕ) (at : Reading) → at ≡ mode.Quoted → found ≡ ws ++ word text Open ∷ [] → found ≡ ws ++ still at text []
unfolding quoted
ended_quoted ws found text at is found-is = found-is ∙ sym (ap (λ m. ws ++ still m text []) is)

pub ended_escaped : (ws found : List Word) (text new : List ℕ) → new ≡ text ++ 92 ∷ [] → found ≡ ws ++ word new Open ∷ [] → found ≡ ws ++ escaped text []
unfolding escaped
ended_escaped ws found text new new-is found-is = found-is ∙ ap (λ t. ws ++ word t Open ∷ []) new-is

-- ---- one byte more

pub step_on : (line : List ℕ) (ws new : List Word) (text text' : List ℕ) (at at' : Reading) (byte : ℕ) (before after : List ℕ) →
    words line ≡ ws ++ still at text before → before ≡ byte ∷ after →
    ((rest : List ℕ) → ws ++ still at text (byte ∷ rest) ≡ new ++ still at' text' rest) → words line ≡ new ++ still at' text' after
step_on line ws new text text' at at' byte before after known is step = known ∙ (ap (λ b. ws ++ still at text b) is ∙ step after)
