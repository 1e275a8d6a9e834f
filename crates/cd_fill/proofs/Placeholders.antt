-- A placeholder in the midst of a text.
use Rattle.std.proofs.Common.{◌≡◌, ℕ, suc, ◌+◌, ◌-◌, ◌<◌, ◌≤◌, Bool, true, false, cond, List, [], ◌∷◌, ◌++◌, length, take, drop, get_or, refl, ap, sym, ◌∙◌, arith, length-append, append_assoc, append-nil, rules}
use Rattle.std.specs.List.{All, slice_split, onto_first, list_any, before_last, after_last}
use Rattle.std.proofs.Math.Seq.{get_or-append_seam, take-append_seam, drop-append-add}
use Rattle.std.proofs.lemmas.Bool.{or_parts}
use Rattle.std.proofs.lemmas.List.{get_or-append-add}
use Rattle.std.proofs.lemmas.List.Splits.{slice_split_none, length-slice_split}
use Rattle.cd_fill.specs.declared.form.Form.{Form}
use Rattle.cd_fill.specs.declared.scene.Scene.{Scene}
use Rattle.cd_fill.specs.Filling.{open_brace, close_brace, is_brace, written, named, closed_piece, pieces_filled, filled_as}
use Rattle.cd_fill.proofs.Braces.{last_before, last_after, some_open, none_open}
use Rattle.cd_fill.proofs.Pieces.{pieces-more}

-- a piece that ends in `{` and a name without braces
opens_not : (name : List ℕ) → All (λ byte. is_brace byte ≡ false) name → (piece : List ℕ) (k : ℕ) → length piece + 1 ≤ k → k < length (piece ++ 123 ∷ name) → open_brace (get_or (piece ++ 123 ∷ name) k 0) ≡ false
opens_not name plain piece k low high =
    let j = k - length piece - 1 in
    let place : k ≡ length piece + suc j = omega arith in
    let within : j < length name = omega (arith, length-append piece (123 ∷ name)) in
    ap (λ i. open_brace (get_or (piece ++ 123 ∷ name) i 0)) place
    ∙ ap open_brace (get_or-append-add piece (123 ∷ name) (suc j) 0)
    ∙ (or_parts (open_brace (get_or name j 0)) (close_brace (get_or name j 0)) (plain j 0 within)).0

closed_name : (form : Form) (x : Scene) (piece name : List ℕ) → All (λ byte. is_brace byte ≡ false) name → closed_piece form x (piece ++ 123 ∷ name) ≡ written form piece ++ named form x name
unfolding closed_piece
closed_name form x piece name plain =
    let xs = piece ++ 123 ∷ name in
    let within : length piece < length xs = omega (arith, length-append piece (123 ∷ name)) in
    let here : open_brace (get_or xs (length piece) 0) ≡ true = ap open_brace (get_or-append_seam piece 123 name 0) in
    let back : length piece + 1 - 1 ≡ length piece = omega arith in
    let there : open_brace (get_or xs (length piece + 1 - 1) 0) ≡ true = ap (λ k. open_brace (get_or xs k 0)) back ∙ here in
    let opens : list_any open_brace xs ≡ true = some_open xs (length piece) within here in
    let before : before_last open_brace xs ≡ piece =
    last_before xs (length piece + 1) (omega arith) (omega arith) (opens_not name plain piece) there
    ∙ ap (λ k. take k xs) back ∙ take-append_seam piece (123 ∷ name) in
    let after : after_last open_brace xs ≡ name =
    last_after xs (length piece + 1) (omega arith) (omega arith) (opens_not name plain piece) there
    ∙ ap (λ k. drop (k + 1) xs) back ∙ drop-append-add piece (123 ∷ name) 1 in
    rw (opens, before, after) refl

-- pieces that are all closed
abbrev closed_all : Form → Scene → List (List ℕ) → List ℕ
closed_all form x [] = []
closed_all form x (piece ∷ pieces) = closed_piece form x piece ++ closed_all form x pieces

-- the last piece with more behind it
abbrev onto_last : List ℕ → List (List ℕ) → List (List ℕ)
onto_last more [] = more ∷ []
onto_last more (piece ∷ []) = (piece ++ more) ∷ []
onto_last more (piece ∷ next ∷ pieces) = piece ∷ onto_last more (next ∷ pieces)

pieces-append : (form : Form) (x : Scene) (pieces more : List (List ℕ)) → 0 < length more → pieces_filled form x (pieces ++ more) ≡ closed_all form x pieces ++ pieces_filled form x more
unfolding pieces_filled
pieces-append form x [] more some = refl
pieces-append form x (piece ∷ pieces) more some =
    pieces-more form x piece (pieces ++ more) (omega (arith, length-append pieces more))
    ∙ ap (λ t. closed_piece form x piece ++ t) (pieces-append form x pieces more some)
    ∙ sym (append_assoc (closed_piece form x piece) (closed_all form x pieces) (pieces_filled form x more))

closed_last : (form : Form) (x : Scene) (pieces : List (List ℕ)) (name : List ℕ) → All (λ byte. is_brace byte ≡ false) name → 0 < length pieces → closed_all form x (onto_last (123 ∷ name) pieces) ≡ pieces_filled form x pieces ++ named form x name
unfolding pieces_filled
closed_last form x [] name plain some = absurd (omega arith)
closed_last form x (piece ∷ []) name plain some = append-nil (closed_piece form x (piece ++ 123 ∷ name)) ∙ closed_name form x piece name plain
closed_last form x (piece ∷ next ∷ pieces) name plain some =
    ap (λ t. closed_piece form x piece ++ t) (closed_last form x (next ∷ pieces) name plain (omega arith))
    ∙ sym (append_assoc (closed_piece form x piece) (pieces_filled form x (next ∷ pieces)) (named form x name))

-- ---- cutting at each `}`

behind_step : (closes : Bool) (byte : ℕ) (pieces more : List (List ℕ)) → 0 < length pieces → cond closes ([] ∷ (pieces ++ more)) (onto_first byte (pieces ++ more)) ≡ cond closes ([] ∷ pieces) (onto_first byte pieces) ++ more
behind_step closes byte pieces more some = search rules

cut_behind : (front rest : List ℕ) → slice_split close_brace (front ++ 125 ∷ rest) ≡ slice_split close_brace front ++ slice_split close_brace rest
cut_behind [] rest = refl
cut_behind (byte ∷ front) rest =
    ap (λ pieces. cond (close_brace byte) ([] ∷ pieces) (onto_first byte pieces)) (cut_behind front rest)
    ∙ behind_step (close_brace byte) byte (slice_split close_brace front) (slice_split close_brace rest) (omega (arith, length-slice_split close_brace front))

last_step : (closes : Bool) (byte : ℕ) (more : List ℕ) (pieces : List (List ℕ)) → 0 < length pieces → cond closes ([] ∷ onto_last more pieces) (onto_first byte (onto_last more pieces)) ≡ onto_last more (cond closes ([] ∷ pieces) (onto_first byte pieces))
last_step closes byte more pieces some = search rules

cut_last : (front more : List ℕ) → All (λ byte. close_brace byte ≡ false) more → slice_split close_brace (front ++ more) ≡ onto_last more (slice_split close_brace front)
cut_last [] more plain = slice_split_none close_brace more plain
cut_last (byte ∷ front) more plain =
    ap (λ pieces. cond (close_brace byte) ([] ∷ pieces) (onto_first byte pieces)) (cut_last front more plain)
    ∙ last_step (close_brace byte) byte more (slice_split close_brace front) (omega (arith, length-slice_split close_brace front))

plain_name : (name : List ℕ) → All (λ byte. is_brace byte ≡ false) name → (k d : ℕ) → k < length (123 ∷ name) → close_brace (get_or (123 ∷ name) k d) ≡ false
plain_name name plain k d within = search (rules, or_parts)

-- a placeholder is replaced, and what stands on its two sides is filled by itself
pub placeholder_replaced : (form : Form) (x : Scene) (before name after : List ℕ) → All (λ byte. is_brace byte ≡ false) name → filled_as form x (before ++ 123 ∷ (name ++ 125 ∷ after)) ≡ filled_as form x before ++ named form x name ++ filled_as form x after
unfolding filled_as
placeholder_replaced form x before name after plain =
    ap (λ text. pieces_filled form x (slice_split close_brace text)) (sym (append_assoc before (123 ∷ name) (125 ∷ after)))
    ∙ ap (pieces_filled form x) (cut_behind (before ++ 123 ∷ name) after)
    ∙ pieces-append form x (slice_split close_brace (before ++ 123 ∷ name)) (slice_split close_brace after) (omega (arith, length-slice_split close_brace after))
    ∙ ap (λ pieces. closed_all form x pieces ++ pieces_filled form x (slice_split close_brace after)) (cut_last before (123 ∷ name) (plain_name name plain))
    ∙ ap (λ text. text ++ pieces_filled form x (slice_split close_brace after)) (closed_last form x (slice_split close_brace before) name plain (omega (arith, length-slice_split close_brace before)))

-- without a `}` all of a text is its last piece
pub unclosed_stays : (form : Form) (x : Scene) (text : List ℕ) → All (λ byte. close_brace byte ≡ false) text → filled_as form x text ≡ written form text
unfolding filled_as pieces_filled
unclosed_stays form x text plain = ap (pieces_filled form x) (slice_split_none close_brace text plain)

closed_front : (form : Form) (x : Scene) (front : List ℕ) → All (λ byte. is_brace byte ≡ false) front → closed_piece form x front ≡ written form (front ++ 125 ∷ [])
unfolding closed_piece
closed_front form x front plain = search (rules, none_open, or_parts)

-- what a `}` ends that no `{` stands before is as written, and what stands behind it is filled by itself
pub unopened_stays : (form : Form) (x : Scene) (front rest : List ℕ) → All (λ byte. is_brace byte ≡ false) front → filled_as form x (front ++ 125 ∷ rest) ≡ written form (front ++ 125 ∷ []) ++ filled_as form x rest
unfolding filled_as
unopened_stays form x front rest plain = search (rules, or_parts, cut_behind, slice_split_none, pieces-more, length-slice_split, closed_front)
