use Rattle.std.proofs.Common.{◌≡◌, ◌+◌, ◌≤◌, ◌-◌, ◌^◌, map, drop}
use Rattle.std.specs.Prelude.{sum, min}
use Rattle.cd_leads.specs.Totals.{count_of}
use Rattle.cd_leads.proofs.counting.sum_of.Given as goal

abbrev pub invariant-loop-n : goal.invariant-loop-n
invariant-loop-n l =
    (min (l.found + sum (map (count_of l.counts) (drop l.n-index l.numbers))) (2 ^ 64 - 1) ≡ min (sum (map (count_of l.counts) l.numbers)) (2 ^ 64 - 1)) × (l.found ≤ 2 ^ 64 - 1)
