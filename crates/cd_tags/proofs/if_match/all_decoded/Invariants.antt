use Rattle.std.proofs.Common.{◌≡◌, map, drop}
use Rattle.cd_tags.specs.IfMatch.{all_decoded}
use Rattle.cd_tags.proofs.Decoding.{behind}
use Rattle.cd_tags.proofs.if_match.all_decoded.Given as goal

abbrev pub invariant-loop-part : goal.invariant-loop-part
invariant-loop-part l =
    behind l.parts (all_decoded (map (λ part. part.now) (drop l.part-index l.part-items))) ≡ all_decoded (map (λ part. part.now) l.part-items)
