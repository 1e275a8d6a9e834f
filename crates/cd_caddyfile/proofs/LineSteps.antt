-- What the last word of a line decides, and which lines are text.
use Rattle.std.proofs.Common.{◌≡◌, ℕ, Bool, true, false, List, [], ◌∷◌, ◌++◌, refl, sym, ap, ◌∙◌, append_assoc, append-nil}
use Rattle.std.specs.Prelude.{IsUtf8}
use Rattle.std.specs.Str.{is_utf8}
use Rattle.std.proofs.lemmas.Str.{IsUtf8-from_is_utf8, is_utf8-from_IsUtf8}
use Rattle.cd_caddyfile.specs.Lines.{by_last, with_last}
use Rattle.cd_caddyfile.specs.declared.line.Line.{Line}
use Rattle.cd_caddyfile.specs.declared.line.Line.TheVariants.{Empty}
use Rattle.cd_caddyfile.specs.declared.word.Word.{Word}

pub by_last-snoc : (acc before : List Word) (w : Word) → by_last acc (before ++ w ∷ []) ≡ with_last (acc ++ before) w
unfolding by_last
by_last-snoc acc [] w = ap (λ a. with_last a w) (sym (append-nil acc))
by_last-snoc acc (b ∷ []) w = refl
by_last-snoc acc (b ∷ c ∷ cs) w = by_last-snoc (acc ++ b ∷ []) (c ∷ cs) w ∙ ap (λ a. with_last a w) (append_assoc acc (b ∷ []) (c ∷ cs))

pub without_words : (ws : List Word) → ws ≡ [] → Empty ≡ by_last [] ws
unfolding by_last
without_words ws is = sym (ap (λ l. by_last [] l) is)

pub with_words : (ws before : List Word) (w : Word) (line : Line) → ws ≡ before ++ w ∷ [] → line ≡ with_last before w → line ≡ by_last [] ws
with_words ws before w line is known = known ∙ sym (ap (λ l. by_last [] l) is ∙ by_last-snoc [] before w)

no_text_at : (bs : List ℕ) (b : Bool) → is_utf8 bs ≡ b → (IsUtf8 bs → ⊥) → b ≡ false
no_text_at bs true is refused = absurd (refused (IsUtf8-from_is_utf8 bs is))
no_text_at bs false is refused = refl

pub no_text : (bs : List ℕ) → (IsUtf8 bs → ⊥) → false ≡ is_utf8 bs
no_text bs refused = sym (no_text_at bs (is_utf8 bs) refl refused)

pub text : (bs : List ℕ) → IsUtf8 bs → true ≡ is_utf8 bs
text bs is = sym (is_utf8-from_IsUtf8 bs is)
