use Rattle.std.proofs.Common.{◌%◌, ap, length, sym, subst, ◌∙◌, arith}
use Rattle.cd_index.specs.Runs.{Has, IsRising}
use Rattle.cd_index.specs.Tables.{bucket}
use Rattle.cd_index.proofs.table.Table.best_of.Goals as goal

pub greatest_to-found-requires : goal.greatest_to-found-requires
greatest_to-found-requires c = subst IsRising (sym c.bucket.ensures) (c.args.self.now.buckets_rise (c.args.made % length c.args.self.now.buckets.items)).rising

pub returns-clause-at_most : goal.returns-clause-at_most
returns-clause-at_most c = c.larger.ensures.one c.args.limit c.requires.best c.greatest_to-found.ensures.at_most

pub returns-clause-greatest : goal.returns-clause-greatest
returns-clause-greatest c n key fits =
    omega (
      arith,
      c.greatest_to-found.ensures.greatest n (subst (Has n) (ap (bucket c.args.self.now) (sym c.requires.made) ∙ sym c.bucket.ensures) key.2) fits,
      c.larger.ensures.second,
    )
