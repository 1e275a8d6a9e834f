use Rattle.std.proofs.Common.{sym, subst, ◌∙◌, arith}
use Rattle.cd_index.specs.Runs.{Has}
use Rattle.cd_index.proofs.Tables.{all_found, at_end, hash_more, hash_none, no_more, one_more}
use Rattle.cd_index.proofs.table.Table.candidate.Goals as goal

pub loop-long-init : goal.loop-long-init
loop-long-init c = record {
  within = omega arith;
  made = hash_none c.args.text.now;
  small = omega arith;
  at_most = c.greatest_to-best.ensures.at_most;
  free = λ n has fits. c.greatest_to-best.ensures.greatest n (subst (Has n) (sym c.as_slice.ensures) has) fits;
  keys = λ n k less key fits. absurd (omega (arith, less));
}

pub returns-then-long-text-clause-greatest : goal.returns-then-long-text-clause-greatest
returns-then-long-text-clause-greatest c n is fits =
    all_found c.args.self.now c.args.text.now c.best_of-best.result c.loop-long.long n
    (λ has. omega (arith, c.loop-long.invariant.free n has fits, c.best_of-best.ensures.least))
    (λ k less key. omega (arith, c.loop-long.invariant.keys n k less key fits, c.best_of-best.ensures.least))
    (λ k beyond key. at_end c.args.self.now c.args.text.now c.best_of-best.result c.loop-long.long n k (omega (arith, c.if-long-text.true)) (λ here. c.best_of-best.ensures.greatest n here fits) beyond key) is

pub loop-long-preserved : goal.loop-long-preserved
loop-long-preserved c = record {
  within = omega (arith, c.if-long-text.false);
  made = c.mixed-made.ensures.value ∙ hash_more c.args.text.now c.loop-long.long c.loop-long.made (omega (arith, c.if-long-text.false)) c.loop-long.invariant.made;
  small = c.mixed-made.ensures.small;
  at_most = c.best_of-best.ensures.at_most;
  free = λ n has fits. omega (arith, c.loop-long.invariant.free n has fits, c.best_of-best.ensures.least);
  keys = λ n k less key fits. one_more c.args.self.now c.args.text.now c.loop-long.best c.best_of-best.result c.loop-long.long n k c.best_of-best.ensures.least
      (λ small there. c.loop-long.invariant.keys n k small there fits) (λ here. c.best_of-best.ensures.greatest n here fits) less key;
}

pub returns-clause-greatest : goal.returns-clause-greatest
returns-clause-greatest c n is fits =
    all_found c.args.self.now c.args.text.now c.loop-long.best c.loop-long.long n
    (λ has. c.loop-long.invariant.free n has fits)
    (λ k less key. c.loop-long.invariant.keys n k less key fits)
    (λ k beyond key. no_more c.args.self.now c.args.text.now c.loop-long.best c.loop-long.long n k (omega (arith, c.loop-long-test.false, c.len-long-end.ensures)) beyond key) is
