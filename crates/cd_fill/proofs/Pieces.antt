-- A text is filled piece by piece.
use Rattle.std.proofs.Common.{◌≡◌, ℕ, ◌<◌, List, ◌∷◌, ◌++◌, length, length-append, append_assoc, Result, Err, rules}
use Rattle.std.specs.List.{before_first, after_first, position_or_len}
use Rattle.std.proofs.lemmas.Bool.Decides.{nat_tests}
use Rattle.std.proofs.lemmas.List.Splits.{slice_split_first, slice_split_none, length-slice_split}
use Rattle.std.proofs.lemmas.List.Sums.{fails_before_first}
use Rattle.cd_fill.specs.declared.form.Form.{Form}
use Rattle.cd_fill.specs.declared.scene.Scene.{Scene}
use Rattle.cd_text.specs.Gives.{Gives}
use Rattle.cd_fill.specs.declared.fault.FillFault.{FillFault}
use Rattle.cd_fill.specs.declared.fault.FillFault.TheVariants.{TooLong, NoMemory}
use Rattle.cd_fill.specs.declared.limits.TheConstants.{MAX_FILLED_BYTES}
use Rattle.cd_fill.specs.Filling.{close_brace, written, closed_piece, pieces_filled, filled_as, bounded, fill_as}

-- a piece with others behind it was closed
pub pieces-more : (form : Form) (x : Scene) (piece : List ℕ) (pieces : List (List ℕ)) → 0 < length pieces → pieces_filled form x (piece ∷ pieces) ≡ closed_piece form x piece ++ pieces_filled form x pieces
unfolding pieces_filled
pieces-more form x piece pieces some = search rules

pub filled_closed : (form : Form) (x : Scene) (text : List ℕ) → position_or_len close_brace text < length text →
    filled_as form x text ≡ closed_piece form x (before_first close_brace text) ++ filled_as form x (after_first close_brace text)
unfolding filled_as
filled_closed form x text within = search (rules, length-slice_split, slice_split_first, pieces-more)

pub filled_last : (form : Form) (x : Scene) (text : List ℕ) → position_or_len close_brace text ≡ length text → filled_as form x text ≡ written form text
unfolding filled_as pieces_filled
filled_last form x text none = search (rules, slice_split_none, fails_before_first)

-- what was written so far is too long
pub too_long : (form : Form) (x : Scene) (text out rest : List ℕ) → filled_as form x text ≡ out ++ rest → MAX_FILLED_BYTES < length out → fill_as form x text ≡ Err TooLong
too_long form x text out rest is long = search (rules, length-append, nat_tests)

pub piece_written : (form : Form) (x : Scene) (whole out rest piece behind new : List ℕ) → whole ≡ out ++ filled_as form x rest →
    position_or_len close_brace rest < length rest → piece ≡ before_first close_brace rest → behind ≡ after_first close_brace rest →
    new ≡ out ++ closed_piece form x piece → whole ≡ new ++ filled_as form x behind
piece_written form x whole out rest piece behind new is within piece-is behind-is new-is = search (rules, append_assoc, filled_closed)

-- once the last piece is written, what was written is the whole
pub last_written : (form : Form) (x : Scene) (text out rest new : List ℕ) → filled_as form x text ≡ out ++ filled_as form x rest →
    position_or_len close_brace rest ≡ length rest → new ≡ out ++ written form rest → fill_as form x text ≡ bounded new
last_written form x text out rest new is none new-is = search (rules, filled_last)

pub gives_that : (result : Result (List ℕ) FillFault) → Gives NoMemory result result
gives_that result = search rules
