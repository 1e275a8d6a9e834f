-- The change that a history has of a configuration, by where it comes from.
use Rattle.cd_legal.specs.declared.entry.Change.{Change}
use Rattle.cd_legal.specs.declared.entry.Change.TheVariants as change
use Rattle.cd_life.specs.declared.origin.Origin.{Origin}
use Rattle.cd_life.specs.declared.origin.Origin.TheVariants as origin

abbrev pub change_of : Origin → Change
change_of origin.First = change.First
change_of (origin.Request asked) = change.Request asked.value
