use Rattle.std.proofs.Common.{◌≡◌, take}
use Rattle.cd_module.proofs.id.copies_of.Given as goal

abbrev pub invariant-loop-label : goal.invariant-loop-label
invariant-loop-label l = l.copies ≡ take l.label-index l.labels
