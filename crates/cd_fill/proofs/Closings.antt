-- A `}` ends no escape, so it may be written behind what stands before it.
use Rattle.std.proofs.Common.{◌≡◌, ℕ, ◌+◌, ◌*◌, Bool, true, false, cond, ◌++◌, ◌∷◌, List, [], refl, ap, ◌∙◌, append_assoc, arith}
use Rattle.std.specs.List.{list_any}
use Rattle.std.specs.Char.{digit_value}
use Rattle.percent_encoding.specs.Percent.{is_escape, percent_decode}
use Rattle.percent_encoding.proofs.PercentLemmas.{KeepsFirst_from_no_escape}
use Rattle.cd_fill.specs.declared.form.Form.{Form}
use Rattle.cd_fill.specs.declared.form.Form.TheVariants.{Plain, Path, Query}
use Rattle.cd_fill.specs.declared.scene.Scene.{Scene}
use Rattle.cd_fill.specs.Filling.{open_brace, written, closed_piece}

both_close : (escape : Bool) (d b : ℕ) (one other : List ℕ) → cond escape (d ∷ (one ++ 125 ∷ [])) (b ∷ (other ++ 125 ∷ [])) ≡ cond escape (d ∷ one) (b ∷ other) ++ 125 ∷ []
both_close true d b one other = refl
both_close false d b one other = refl

decoded_close : (text : List ℕ) → percent_decode (text ++ 125 ∷ []) ≡ percent_decode text ++ 125 ∷ []
unfolding percent_decode
decoded_close [] = refl
decoded_close (b ∷ []) = refl
decoded_close (b ∷ c ∷ []) = KeepsFirst_from_no_escape (b ∷ c ∷ 125 ∷ []) (λ _ _ _ low. omega (arith, low))
decoded_close (b ∷ high ∷ low ∷ rest) =
    let d = 16 * digit_value high + digit_value low in
    ap (λ one. cond (is_escape b high low) (d ∷ one) (b ∷ percent_decode (high ∷ low ∷ (rest ++ 125 ∷ [])))) (decoded_close rest)
    ∙ ap (λ other. cond (is_escape b high low) (d ∷ (percent_decode rest ++ 125 ∷ [])) (b ∷ other)) (decoded_close (high ∷ low ∷ rest))
    ∙ both_close (is_escape b high low) d b (percent_decode rest) (percent_decode (high ∷ low ∷ rest))

written_close : (form : Form) (text : List ℕ) → written form (text ++ 125 ∷ []) ≡ written form text ++ 125 ∷ []
unfolding written
written_close Plain text = refl
written_close Path text = decoded_close text
written_close Query text = refl

pub unopened_written : (form : Form) (x : Scene) (piece out old new : List ℕ) → list_any open_brace piece ≡ false →
    old ≡ out ++ written form piece → new ≡ old ++ 125 ∷ [] → new ≡ out ++ closed_piece form x piece
unfolding closed_piece
unopened_written form x piece out old new none old-is new-is =
    rw (none, written_close form piece, new-is, old-is) (append_assoc out (written form piece) (125 ∷ []))
