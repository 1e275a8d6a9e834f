use Rattle.std.proofs.Common.{◌≡◌, ◌++◌, map, take}
use Rattle.cd_outside.specs.declared.key.Key.TheVariants as key
use Rattle.cd_standard.proofs.listening.planned_app.Given as goal

abbrev pub invariant-loop-one : goal.invariant-loop-one
invariant-loop-one l = l.keys ≡ l.initial.keys ++ map (λ one. key.Listen one.address) (take l.one-index l.listened)
