use Rattle.std.proofs.Common.{◌≡◌, ◌++◌, drop}
use Rattle.std.specs.List.{flat_map}
use Rattle.cd_standard.specs.Plans.{text_addresses}
use Rattle.cd_standard.proofs.listening.add_listen.Given as goal

abbrev pub invariant-loop-text : goal.invariant-loop-text
invariant-loop-text l = l.listened ++ flat_map text_addresses (drop l.text-index l.text-items) ≡ l.initial.listened ++ flat_map text_addresses l.text-items
