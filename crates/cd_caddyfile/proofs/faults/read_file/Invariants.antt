use Rattle.std.proofs.Common.{◌≡◌, ◌+◌, ◌≤◌, length}
use Rattle.cd_caddyfile.specs.Blocks.{nested}
use Rattle.cd_caddyfile.specs.Faults.{line_faults, first_fault, sooner}
use Rattle.cd_caddyfile.specs.Going.{HasRead}
use Rattle.cd_caddyfile.specs.Lines.{lines_of}
use Rattle.cd_caddyfile.proofs.faults.read_file.Given as goal

abbrev pub invariant-lines : goal.invariant-lines
invariant-lines l = record {
  text : first_fault (line_faults 1 (lines_of l.bytes)) ≡ sooner l.file.text_fault (first_fault (line_faults l.number (lines_of l.rest)));
  all : HasRead l.bytes l.file.reader (nested l.number (lines_of l.rest));
  count : l.number + length l.rest ≤ 1 + length l.bytes;
}

abbrev pub decreases-lines : goal.decreases-lines
decreases-lines l = length l.rest
