use Rattle.std.proofs.Common.{subst}
use Rattle.std.specs.Str.{bytes_eq}
use Rattle.std.specs.List.{IsDistinct}
use Rattle.std.proofs.lemmas.List.Sorted.{IsPermutation-sym}
use Rattle.std.proofs.lemmas.Map.Keys.{IsDistinct-IsPermutation}
use Rattle.cd_ids.proofs.Distinct.{bytes_eq-flips}
use Rattle.cd_ids.proofs.names.are_distinct.Goals as goal

pub returns : goal.returns
returns c is =
    let sorted = subst (IsDistinct bytes_eq) c.as_slice.ensures.value (c.each_is_below_the_next.ensures is) in
    subst (IsDistinct bytes_eq) c.into_vec-names.ensures (IsDistinct-IsPermutation bytes_eq bytes_eq-flips _ _ (IsPermutation-sym _ _ c.sort_unstable_by.ensures.permutation) sorted)
