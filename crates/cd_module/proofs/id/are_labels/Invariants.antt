use Rattle.std.proofs.Common.{◌≡◌, map, drop}
use Rattle.std.specs.List.{list_all}
use Rattle.cd_module.specs.Ids.{is_label}
use Rattle.cd_module.proofs.id.are_labels.Given as goal

abbrev pub invariant-loop-part : goal.invariant-loop-part
invariant-loop-part l = list_all is_label (map (λ part. part.now) l.parts) ≡ list_all is_label (map (λ part. part.now) (drop l.part-index l.parts))
