-- A disk that tells nothing: all that is said of its images holds.
use Rattle.std.proofs.Common.{ℕ, List, refl}
use Rattle.cd_autosave.specs.Disk.{Throughout, IsUnchanged}
use Rattle.cd_disk.specs.Untold.{untold, no_image, no_image_at}

pub nothing_left : {D : Type 0} (old new : D) (P : List ℕ → Type 0) → Throughout (λ disk. 0) (λ disk. no_image_at) old new P
nothing_left old new P = record { past = λ n low. (low, λ image. (λ left. left, λ left. left)); in_between = λ n image low high left. absurd left }

pub nothing_changes : {D : Type 0} (old new : D) → IsUnchanged (λ disk. untold) (λ disk. no_image) (λ disk. 0) (λ disk. no_image_at) old new
nothing_changes old new = record { reads = refl; fewer = λ image left. left; meanwhile = nothing_left old new no_image }
