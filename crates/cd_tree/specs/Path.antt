-- Part of the main theorem.
-- Paths: how they grow, and how they are written.
use Rattle.std.specs.Prelude.{ℕ, List, [], ◌∷◌, ◌++◌}
use Rattle.std.specs.List.{join_with_byte}
use Rattle.cd_tree.specs.declared.path.Path.{Path}

infixl 6 ◌▸◌
-- the path of a member or an element of the value at a path
abbrev pub ◌▸◌ : Path → List ℕ → Path
at ▸ part = record { parts = at.parts ++ part ∷ [] }

-- a slash, and the parts joined by slashes
abbrev pub written : Path → List ℕ
written path = 47 ∷ join_with_byte 47 path.parts
