-- Part of the main theorem.
-- The path that a spot keeps.
use Rattle.std.specs.Prelude.{ℕ, List, [], ◌++◌, map, decimal, Option, None, Some}
use Rattle.cd_tree.specs.declared.path.Path.{Path}
use Rattle.cd_tree.specs.declared.spot_parts.SpotPart.{SpotPart}
use Rattle.cd_tree.specs.declared.spot_parts.SpotPart.TheVariants.{Name, Element}
use Rattle.cd_tree.specs.declared.spot_parts.SpotParts.{SpotParts}

-- a name as it is, and the place of an element in decimal
abbrev pub part_text : SpotPart → List ℕ
part_text (Name name) = name
part_text (Element place) = decimal place

-- part by part
abbrev pub base_path : List SpotPart → Path
base_path parts = record { parts = map part_text parts }

-- without a base there are no parts before the rest
abbrev pub base_texts : Option (List SpotPart) → List (List ℕ)
base_texts None = []
base_texts (Some parts) = map part_text parts

-- the parts of the base, and then the rest
abbrev pub spot_path : SpotParts → Path
spot_path spot = record { parts = base_texts spot.base ++ map part_text spot.rest }
