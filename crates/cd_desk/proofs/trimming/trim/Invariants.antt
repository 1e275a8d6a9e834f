use Rattle.std.proofs.Common.{◌≡◌, length}
use Rattle.std.specs.Vec.{vec_capacity}
use Rattle.cd_desk.specs.Trimming.{Trims}
use Rattle.cd_desk.proofs.trimming.trim.Given as goal

abbrev pub invariant-loop-books : goal.invariant-loop-books
invariant-loop-books l = record {
  trims : Trims l.fn.books l.books;
  capacity : vec_capacity l.books.rows ≡ vec_capacity l.fn.books.rows;
}

abbrev pub decreases-loop-books : goal.decreases-loop-books
decreases-loop-books l = length l.books.rows.items
