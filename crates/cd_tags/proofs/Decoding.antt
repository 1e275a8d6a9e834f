-- Parts that are decoded one after another.
use Rattle.std.proofs.Common.{◌≡◌, ℕ, List, [], ◌∷◌, ◌++◌, Bool, true, false, ◌&&◌, Result, Ok, Err, refl, sym, ap, ◌∙◌, append_assoc}
use Rattle.std.specs.Prelude.{if◌then◌else◌}
use Rattle.std.specs.Str.{IsUtf8, is_utf8}
use Rattle.std.proofs.lemmas.Str.{IsUtf8-from_is_utf8, is_utf8-from_IsUtf8}
use Rattle.percent_encoding.specs.Percent.{percent_decode}
use Rattle.cd_text.specs.Escapes.{escapes_are_whole}
use Rattle.cd_text.specs.Steps.{◌▷◌}
use Rattle.cd_tags.specs.IfMatch.{decoded, all_decoded}
use Rattle.cd_tags.specs.declared.fault.IfMatchFault.{IfMatchFault}
use Rattle.cd_tags.specs.declared.fault.IfMatchFault.TheVariants.{Malformed}

-- ---- one part

-- what it decodes to, by whether its escapes are whole and whether that is UTF-8
abbrev chosen : Bool → Bool → List ℕ → Result (List ℕ) IfMatchFault
chosen whole utf8 bytes = if whole && utf8 then Ok bytes else Err Malformed

not_utf8 : (bytes : List ℕ) → (b : Bool) → is_utf8 bytes ≡ b → (IsUtf8 bytes → ⊥) → is_utf8 bytes ≡ false
not_utf8 bytes true e never = absurd (never (IsUtf8-from_is_utf8 bytes e))
not_utf8 bytes false e never = e

pub is_text : (part bytes : List ℕ) → escapes_are_whole part ≡ true → bytes ≡ percent_decode part → IsUtf8 bytes → decoded part ≡ Ok bytes
is_text part bytes whole is utf8 =
    ap (λ b. chosen b (is_utf8 (percent_decode part)) (percent_decode part)) whole ∙ ap (λ bs. chosen true (is_utf8 bs) bs) (sym is)
    ∙ ap (λ b. chosen true b bytes) (is_utf8-from_IsUtf8 bytes utf8)

pub is_no_text : (part bytes : List ℕ) → escapes_are_whole part ≡ true → bytes ≡ percent_decode part → (IsUtf8 bytes → ⊥) → decoded part ≡ Err Malformed
is_no_text part bytes whole is never =
    ap (λ b. chosen b (is_utf8 (percent_decode part)) (percent_decode part)) whole ∙ ap (λ bs. chosen true (is_utf8 bs) bs) (sym is)
    ∙ ap (λ b. chosen true b bytes) (not_utf8 bytes (is_utf8 bytes) refl never)

-- ---- one after another

-- what was decoded stands in front of the rest
abbrev pub behind : List (List ℕ) → Result (List (List ℕ)) IfMatchFault → Result (List (List ℕ)) IfMatchFault
behind found rest = rest ▷ λ more. Ok (found ++ more)

behind-push : (found : List (List ℕ)) (first : List ℕ) (rest : Result (List (List ℕ)) IfMatchFault) → behind found (rest ▷ λ more. Ok (first ∷ more)) ≡ behind (found ++ first ∷ []) rest
behind-push found first (Ok more) = ap Ok (sym (append_assoc found (first ∷ []) more))
behind-push found first (Err fault) = refl

pub behind-nothing : (rest : Result (List (List ℕ)) IfMatchFault) → behind [] rest ≡ rest
behind-nothing (Ok more) = refl
behind-nothing (Err fault) = refl

pub part_decoded : (found : List (List ℕ)) (text part : List ℕ) (parts : List (List ℕ)) → decoded part ≡ Ok text → behind found (all_decoded (part ∷ parts)) ≡ behind (found ++ text ∷ []) (all_decoded parts)
part_decoded found text part parts e = ap (λ r. behind found (r ▷ λ first. all_decoded parts ▷ λ rest. Ok (first ∷ rest))) e ∙ behind-push found text (all_decoded parts)

pub part_refused : (found : List (List ℕ)) (fault : IfMatchFault) (part : List ℕ) (parts : List (List ℕ)) → decoded part ≡ Err fault → behind found (all_decoded (part ∷ parts)) ≡ Err fault
part_refused found fault part parts e = ap (λ r. behind found (r ▷ λ first. all_decoded parts ▷ λ rest. Ok (first ∷ rest))) e
