use Rattle.std.proofs.Common.{◌≡◌, length, map, reverse}
use Rattle.cd_caddyfile.specs.Faults.{first_fault, sooner, fault_at}
use Rattle.cd_caddyfile.specs.Left.{opening_lines}
use Rattle.cd_caddyfile.specs.declared.fault.CaddyfileKind.TheVariants.{BadBlock}
use Rattle.cd_caddyfile.proofs.faults.open_fault.Given as goal

abbrev pub invariant-each : goal.invariant-each
invariant-each l = first_fault (map (λ n. fault_at n BadBlock) (opening_lines (reverse l.initial.blocks)))
    ≡ sooner l.fault (first_fault (map (λ n. fault_at n BadBlock) (opening_lines (reverse l.blocks))))

abbrev pub decreases-each : goal.decreases-each
decreases-each l = length l.blocks
