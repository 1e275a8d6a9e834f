-- Where all that is given as an id is one.
use Rattle.std.specs.Prelude.{◌≡◌, Bool, true, false, List}
use Rattle.std.specs.List.{list_any}
use Rattle.cd_tree.specs.declared.path.Path.{Path}
use Rattle.cd_tree.specs.declared.tree.Tree.{Tree}
use Rattle.cd_ids.specs.Walk.{Mark, named, wrong, walk}

abbrev pub is_wrong : Mark → Bool
is_wrong (named name at) = false
is_wrong (wrong at) = true

abbrev pub are_wrong : List Mark → Bool
are_wrong ms = list_any is_wrong ms

-- all that stands as an `@id` inside a value at a path is a text or a number
abbrev pub HasFitIds : Tree → Path → Type 0
HasFitIds t at = are_wrong ((walk t).inside at) ≡ false
