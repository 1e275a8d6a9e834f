-- A text without a `}` that is not too long stands for itself.
use Rattle.std.proofs.Common.{◌≡◌, ◌≤◌, ℕ, List, length, Ok, rules, arith}
use Rattle.std.specs.List.{position_or_len}
use Rattle.std.proofs.lemmas.Bool.Decides.{nat_tests}
use Rattle.cd_fill.specs.declared.form.Form.TheVariants.{Plain}
use Rattle.cd_fill.specs.declared.scene.Scene.{Scene}
use Rattle.cd_fill.specs.declared.limits.TheConstants.{MAX_FILLED_BYTES}
use Rattle.cd_fill.specs.Filling.{close_brace, written, fill}
use Rattle.cd_fill.proofs.Pieces.{filled_last}

pub stands_for_itself : (x : Scene) (text : List ℕ) → position_or_len close_brace text ≡ length text → length text ≤ MAX_FILLED_BYTES → fill x text ≡ Ok text
unfolding written
stands_for_itself x text none short = search (rules, filled_last, nat_tests)
