use Rattle.std.proofs.Common.{◌≡◌, drop, Some}
use Rattle.std.specs.Option.{option_copied}
use Rattle.cd_path.specs.Looking.{walk}
use Rattle.cd_path.proofs.looking.find.Given as goal

abbrev pub invariant-loop-part : goal.invariant-loop-part
invariant-loop-part l = walk (drop l.part-index l.parts) (option_copied l.here) ≡ walk l.parts (Some l.fn.tree)
