use Rattle.std.proofs.Common.{sym}
use Rattle.cd_index.proofs.Runs.{run_up}
use Rattle.cd_index.proofs.Tables.{key_added}
use Rattle.cd_index.proofs.table.Table.add_key.Goals as goal

pub invariant_of-self : goal.invariant_of-self
invariant_of-self c = record {
  free_rise = run_up _ c.args.n _ c.requires c.args.self.now.free_rise;
  buckets_rise = λ b. run_up _ c.args.n _ c.requires (c.args.self.now.buckets_rise b);
  some = c.args.self.now.some;
}

pub put_in-requires-clause-rise : goal.put_in-requires-clause-rise
put_in-requires-clause-rise c b = run_up _ c.args.n _ c.requires (c.args.self.now.buckets_rise b)

pub returns-clause-added : goal.returns-clause-added
returns-clause-added c text begins =
    key_added c.args.self.now.free c.mark.new.lengths.items c.put_in.new.buckets.items text c.args.key.now c.front-bytes.result.now 64 c.args.n c.hash.result _ c.front-bytes.ensures begins c.in_ok-mark.ensures.marked c.hash.ensures (sym c.put_in.ensures.size) c.in_ok-put_in.ensures.has
