-- What a disk tells that tells nothing.
use Rattle.std.specs.Prelude.{ℕ, List, Option, None}

-- not the bytes that reads give
abbrev pub untold : Option (List ℕ)
untold = None

-- no image that a crash may leave
abbrev pub no_image : List ℕ → Type 0
no_image image = ⊥

-- nor one that a crash leaves at a moment
abbrev pub no_image_at : ℕ → List ℕ → Type 0
no_image_at n image = ⊥
