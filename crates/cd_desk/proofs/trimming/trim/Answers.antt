use Rattle.std.proofs.Common.{◌∙◌, refl}
use Rattle.cd_desk.proofs.Trims.{trims_none, trims_on}
use Rattle.cd_desk.proofs.trimming.trim.Goals as goal

pub loop-books-init : goal.loop-books-init
loop-books-init c = record { trims = trims_none c.args.books.now; capacity = refl }

pub loop-books-preserved : goal.loop-books-preserved
loop-books-preserved c = record {
  trims = trims_on c.args.books.now c.loop-books.books _ c.loop-books.invariant.trims c.drop_at.ensures.trims;
  capacity = c.drop_at.ensures.capacity ∙ c.loop-books.invariant.capacity;
}
