use Rattle.std.proofs.Common.{◌≡◌, ◌++◌, map, take}
use Rattle.cd_standard.proofs.listening.add_text.Given as goal

abbrev pub invariant-loop-address : goal.invariant-loop-address
invariant-loop-address l = l.listened ≡ l.initial.listened ++ map (λ address. record { address = address; at = l.text.at }) (take l.address-index l.address-items)
