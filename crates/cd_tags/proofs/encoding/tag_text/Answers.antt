use Rattle.std.proofs.Common.{◌≡◌, ℕ, List, [], ◌∷◌, ◌++◌, codes, ap, ap₂, ◌∙◌, append_assoc}
use Rattle.cd_tags.specs.Encoding.{encoded_parts, tag_text}
use Rattle.cd_tags.proofs.encoding.tag_text.Goals as goal

regroup : (a p d q : List ℕ) → (((([] ++ a) ++ p) ++ 32 ∷ []) ++ d) ++ q ≡ a ++ (p ++ 32 ∷ (d ++ q))
regroup a p d q = simp append_assoc

pub returns : goal.returns
unfolding tag_text
returns c =
    let path = encoded_parts c.args.path.now.parts in
    let a = codes "\"/config/" in
    let one = c.in_ok-push_str.ensures.bytes ∙ ap (λ s. s ++ a) c.new-out.ensures.bytes in
    let two = c.in_ok-push_parts.ensures ∙ ap₂ (λ s ps. s ++ encoded_parts ps) one c.as_slice.ensures in
    let three = c.in_ok-push_str-2.ensures.bytes ∙ ap (λ s. s ++ 32 ∷ []) two in
    let four = c.in_ok-push_str-3.ensures.bytes ∙ ap (λ s. s ++ c.args.hex.now) three in
    let five = c.in_ok-push_str-4.ensures.bytes ∙ ap (λ s. s ++ 34 ∷ []) four in
    c.from_string.ensures ∙ five ∙ regroup a path c.args.hex.now (34 ∷ [])
