-- PUTs, one after another.
use Rattle.std.specs.Prelude.{◌≢◌, Some, Result, Err}
use Rattle.cd_tree.specs.declared.path.Path.{Path}
use Rattle.cd_tree.specs.declared.tree.Tree.{Tree}
use Rattle.cd_path.specs.Editing.{edit}
use Rattle.cd_path.specs.declared.fault.EditFault.{EditFault}
use Rattle.cd_path.specs.declared.fault.EditFault.TheVariants.{ResultTooDeep, ResultTooLong}
use Rattle.cd_path.specs.declared.verb.Verb.TheVariants.{Put}

-- the tree with the body put at the path
abbrev pub put : Path → Tree → Tree → Result Tree EditFault
put path body t = edit t Put path (Some body)

-- not refused for the size of the result
abbrev pub IsNotTooLarge : Result Tree EditFault → Type 0
IsNotTooLarge result = (result ≢ Err ResultTooDeep) × (result ≢ Err ResultTooLong)
