use Rattle.std.proofs.Common.{◌≡◌, ◌≤◌, ◌+◌, ◌-◌, ◌++◌, length, option_map}
use Rattle.cd_tree.specs.declared.limits.TheConstants.{MAX_TEXT_BYTES}
use Rattle.cd_program.specs.declared.config.TheConstants.{CONFIG_READ_BYTES}
use Rattle.cd_program.proofs.config.read_config.Given as goal

abbrev pub invariant-loop-buffer : goal.invariant-loop-buffer
invariant-loop-buffer g l = record {
  later : g.S.Source.faults l.initial.config ≤ g.S.Source.faults l.config;
  given : g.S.Source.left l.initial.config ≡ option_map (λ rest. l.bytes ++ rest) (g.S.Source.left l.config);
  few : length l.bytes ≤ MAX_TEXT_BYTES + CONFIG_READ_BYTES;
}

abbrev pub decreases-loop-buffer : goal.decreases-loop-buffer
decreases-loop-buffer g l = MAX_TEXT_BYTES + 1 - length l.bytes
