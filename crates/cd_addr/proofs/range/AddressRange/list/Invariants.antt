use Rattle.std.proofs.Common.{◌≡◌, map}
use Rattle.std.specs.List.{range_with_len}
use Rattle.cd_addr.proofs.Ranges.{at_port}
use Rattle.cd_addr.proofs.range.AddressRange.list.Given as goal

abbrev pub invariant-loop-place : goal.invariant-loop-place
invariant-loop-place l = l.made ≡ map (at_port l.self.host) (range_with_len l.self.first l.place)
