use Rattle.std.proofs.Common.{◌≡◌, ◌≤◌, ◌-◌, length}
use Rattle.cd_outside.specs.Places.{left_of, piece_at}
use Rattle.cd_outside.proofs.pieces.skip.Given as goal

abbrev pub invariant-loop-piece : goal.invariant-loop-piece
invariant-loop-piece l = record {
  inside : l.next ≤ length l.pieces;
  offset : l.offset ≤ length (piece_at l.pieces l.next);
  same : left_of l.pieces l.next l.offset ≡ left_of l.pieces l.initial.next l.initial.offset;
}

abbrev pub decreases-loop-piece : goal.decreases-loop-piece
decreases-loop-piece l = length l.pieces - l.next
