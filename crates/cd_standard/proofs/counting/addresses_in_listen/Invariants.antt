use Rattle.std.proofs.Common.{◌≡◌, ◌+◌, ◌≤◌, ◌-◌, ◌^◌, length, drop}
use Rattle.std.specs.Prelude.{min}
use Rattle.std.specs.List.{flat_map}
use Rattle.cd_standard.specs.Plans.{text_addresses}
use Rattle.cd_standard.proofs.counting.addresses_in_listen.Given as goal

abbrev pub invariant-loop-text : goal.invariant-loop-text
invariant-loop-text l =
    (min (l.found + length (flat_map text_addresses (drop l.text-index l.text-items))) (2 ^ 64 - 1) ≡ min (length (flat_map text_addresses l.text-items)) (2 ^ 64 - 1)) × (l.found ≤ 2 ^ 64 - 1)
