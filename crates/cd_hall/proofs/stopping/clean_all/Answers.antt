use Rattle.std.proofs.Common.{◌-◌, refl, sym, ap, subst, ◌∙◌}
use Rattle.cd_legal.specs.Runs.{cleaned_all}
use Rattle.cd_gate.specs.Passes.{view}
use Rattle.cd_desk.specs.declared.closing.Closing.{Closing}
use Rattle.cd_desk.specs.Closings.{MayClean}
use Rattle.cd_hall.proofs.OneByOne.{far_none, cleans_on, cleans_over, no_instance, same_cleaned, none_left, some_left}
use Rattle.cd_hall.proofs.stopping.clean_all.Goals as goal

pub clean_next-requires-clause-closing : goal.clean_next-requires-clause-closing
clean_next-requires-clause-closing g c κs within = record { turn = c.loop-left.invariant.turn; at = c.loop-left.invariant.at }

pub clean_next-requires-clause-more : goal.clean_next-requires-clause-more
clean_next-requires-clause-more g c κs within = some_left c.loop-left.left c.loop-left.closing.instances c.loop-left.invariant.count c.loop-left-test.true

pub clean_next-requires-clause-may : goal.clean_next-requires-clause-may
clean_next-requires-clause-may g c κs within = c.loop-left.invariant.may (some_left c.loop-left.left c.loop-left.closing.instances c.loop-left.invariant.count c.loop-left-test.true)

pub loop-left-init : goal.loop-left-init
loop-left-init g c = record {
  count = c.instances_left-left.ensures;
  turn = c.requires.closing.turn;
  goes = far_none (view c.args.pass.now) (cleaned_all c.args.closing.now.number c.args.closing.now.instances) c.requires.closing.turn.knows;
  unsettled = refl;
  closing = refl;
  at = c.requires.closing.at;
  stopped = c.requires.stopped;
  may = c.requires.may;
}

pub loop-left-preserved : goal.loop-left-preserved
loop-left-preserved g c =
    let i = c.loop-left.invariant in
    let n = c.clean_next.ensures in
    let more = some_left c.loop-left.left c.loop-left.closing.instances i.count c.loop-left-test.true in
    record {
      count = ap (λ z. z - 1) i.count ∙ sym (ap (λ (z : Closing). z.instances) n.closing);
      turn = n.turn;
      goes = cleans_on (view c.args.pass.now) (view c.loop-left.pass) (view c.clean_next.new.pass) (cleaned_all c.args.closing.now.number c.args.closing.now.instances) c.loop-left.closing c.clean_next.new.closing more i.goes n.goes n.closing;
      unsettled = n.unsettled ∙ i.unsettled;
      closing = same_cleaned c.loop-left.closing c.args.closing.now c.clean_next.new.closing n.closing i.closing;
      at = n.at;
      stopped = ap (λ (z : Closing). z.apps) n.closing ∙ i.stopped;
      may = λ some. subst (λ z. MayClean c.clean_next.new.turn.value.desk.books z) (sym (ap (λ (z : Closing). z.number) n.closing)) n.clean;
    }

pub returns-clause-goes : goal.returns-clause-goes
returns-clause-goes g c =
    cleans_over (view c.args.pass.now) (view c.loop-left.pass) (cleaned_all c.args.closing.now.number c.args.closing.now.instances) c.loop-left.closing (none_left c.loop-left.left c.loop-left.closing.instances c.loop-left.invariant.count c.loop-left-test.false) c.loop-left.invariant.goes

pub returns-clause-closing : goal.returns-clause-closing
returns-clause-closing g c = no_instance c.loop-left.closing (none_left c.loop-left.left c.loop-left.closing.instances c.loop-left.invariant.count c.loop-left-test.false) ∙ c.loop-left.invariant.closing
