use Rattle.std.proofs.Common.{◌≡◌, drop}
use Rattle.std.specs.List.{flat_map, list_any}
use Rattle.cd_addr.specs.Addresses.{is_address, listed}
use Rattle.cd_routes.proofs.listen.Listen.contains.Given as goal

abbrev pub invariant-loop-text : goal.invariant-loop-text
invariant-loop-text l = list_any (is_address l.address) (flat_map (λ text. listed text.range) l.text-items) ≡ list_any (is_address l.address) (flat_map (λ text. listed text.range) (drop l.text-index l.text-items))
