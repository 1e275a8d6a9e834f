use Rattle.cd_index.proofs.Runs.{run_up}
use Rattle.cd_index.proofs.table.Table.add_free.Goals as goal

pub invariant_of-self : goal.invariant_of-self
invariant_of-self c = record {
  free_rise = c.put.ensures.rises;
  buckets_rise = λ b. run_up _ c.args.n _ c.requires (c.args.self.now.buckets_rise b);
  some = c.args.self.now.some;
}
