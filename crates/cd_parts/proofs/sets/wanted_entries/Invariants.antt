use Rattle.std.proofs.Common.{◌≡◌, map, take}
use Rattle.cd_parts.specs.Making.{wanted_entry}
use Rattle.cd_parts.proofs.sets.wanted_entries.Given as goal

abbrev pub invariant-loop-one : goal.invariant-loop-one
invariant-loop-one l = l.entries ≡ map wanted_entry (take l.one-index l.all)
