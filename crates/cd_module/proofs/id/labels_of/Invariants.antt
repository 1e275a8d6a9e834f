use Rattle.std.proofs.Common.{◌≡◌, ◌++◌, map, drop}
use Rattle.cd_module.proofs.id.labels_of.Given as goal

abbrev pub invariant-loop-part : goal.invariant-loop-part
invariant-loop-part l = map (λ part. part.now) l.parts ≡ l.labels ++ map (λ part. part.now) (drop l.part-index l.parts)
