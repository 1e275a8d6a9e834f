use Rattle.std.proofs.Common.{◌-◌, refl, sym, ap, subst, ◌∙◌}
use Rattle.cd_legal.specs.Runs.{stopped_all}
use Rattle.cd_gate.specs.Passes.{view}
use Rattle.cd_desk.specs.declared.closing.Closing.{Closing}
use Rattle.cd_desk.specs.Closings.{MayClean}
use Rattle.cd_hall.proofs.OneByOne.{far_none, stops_on, stops_over, no_app, same_stopped, none_left, some_left}
use Rattle.cd_hall.proofs.stopping.stop_all.Goals as goal

pub stop_next-requires-clause-closing : goal.stop_next-requires-clause-closing
stop_next-requires-clause-closing g c κs within = record { turn = c.loop-left.invariant.turn; at = c.loop-left.invariant.at }

pub stop_next-requires-clause-more : goal.stop_next-requires-clause-more
stop_next-requires-clause-more g c κs within = some_left c.loop-left.left c.loop-left.closing.apps c.loop-left.invariant.count c.loop-left-test.true

pub loop-left-init : goal.loop-left-init
loop-left-init g c = record {
  count = c.apps_left-left.ensures;
  turn = c.requires.closing.turn;
  goes = far_none (view c.args.pass.now) (stopped_all c.args.closing.now.number c.args.closing.now.apps) c.requires.closing.turn.knows;
  unsettled = refl;
  closing = refl;
  at = c.requires.closing.at;
  clean = λ may. may;
}

pub loop-left-preserved : goal.loop-left-preserved
loop-left-preserved g c =
    let i = c.loop-left.invariant in
    let n = c.stop_next.ensures in
    let more = some_left c.loop-left.left c.loop-left.closing.apps i.count c.loop-left-test.true in
    let number = ap (λ (z : Closing). z.number) i.closing in
    record {
      count = ap (λ z. z - 1) i.count ∙ sym (ap (λ (z : Closing). z.apps) n.closing);
      turn = n.turn;
      goes = stops_on (view c.args.pass.now) (view c.loop-left.pass) (view c.stop_next.new.pass) (stopped_all c.args.closing.now.number c.args.closing.now.apps) c.loop-left.closing c.stop_next.new.closing more i.goes n.goes n.closing;
      unsettled = n.unsettled ∙ i.unsettled;
      closing = same_stopped c.loop-left.closing c.args.closing.now c.stop_next.new.closing n.closing i.closing;
      at = n.at;
      clean = λ may. subst (λ z. MayClean c.stop_next.new.turn.value.desk.books z) number (n.clean (subst (λ z. MayClean c.loop-left.turn.value.desk.books z) (sym number) (i.clean may)));
    }

pub returns-clause-goes : goal.returns-clause-goes
returns-clause-goes g c =
    stops_over (view c.args.pass.now) (view c.loop-left.pass) (stopped_all c.args.closing.now.number c.args.closing.now.apps) c.loop-left.closing (none_left c.loop-left.left c.loop-left.closing.apps c.loop-left.invariant.count c.loop-left-test.false) c.loop-left.invariant.goes

pub returns-clause-closing : goal.returns-clause-closing
returns-clause-closing g c = no_app c.loop-left.closing (none_left c.loop-left.left c.loop-left.closing.apps c.loop-left.invariant.count c.loop-left-test.false) ∙ c.loop-left.invariant.closing
