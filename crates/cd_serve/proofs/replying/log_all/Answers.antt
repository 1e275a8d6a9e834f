use Rattle.std.proofs.Common.{◌∙◌, ◌++◌, ◌∷◌, ◌+◌, [], take, refl, ap, sym, arith}
use Rattle.std.specs.Prelude.{map}
use Rattle.std.proofs.lemmas.List.{take_more, map-append}
use Rattle.cd_module_set.specs.declared.target.Line.{Line}
use Rattle.cd_serve.specs.Meanings.{logged}
use Rattle.cd_serve.proofs.Sends.{line-logged, logged-some, logged-all}
use Rattle.cd_serve.proofs.Told.{nothing-sent}
use Rattle.cd_serve.proofs.replying.log_all.Goals as goal

pub logging-init : goal.logging-init
logging-init g c = record {
  inside = omega arith;
  busy = c.requires;
  later = omega arith;
  since = refl;
  past = nothing-sent (g.L.Lane.past c.args.lane.now);
}

pub logging-preserved : goal.logging-preserved
logging-preserved g c = record {
  inside = omega (arith, c.logging-test.true);
  busy = c.in-All.ensures.busy;
  later = omega (arith, c.logging.invariant.later, c.in-All.ensures.cause.later);
  since = c.in-All.ensures.since ∙ c.logging.invariant.since;
  past = line-logged (map logged (take c.logging.next c.args.lines.now)) (logged c.index-lines-next.result) (map logged (take (c.logging.next + 1) c.args.lines.now)) (g.L.Lane.past c.args.lane.now) (g.L.Lane.past c.logging.lane) (g.L.Lane.past c.log.new.self) c.logging.invariant.past c.in-All.ensures.past
      (ap (map logged) (take_more c.args.lines.now c.logging.next c.index-lines-next.result c.logging-test.true ∙ ap (λ (x : Line). take c.logging.next c.args.lines.now ++ x ∷ []) (sym c.index-lines-next.is)) ∙ map-append logged (take c.logging.next c.args.lines.now) (c.index-lines-next.result ∷ []));
}

pub returns-in-Failed-clause-logged : goal.returns-in-Failed-clause-logged
returns-in-Failed-clause-logged g c =
    logged-some c.logging.next c.args.lines.now (g.L.Lane.past c.args.lane.now) (g.L.Lane.past c.logging.lane) (g.L.Lane.past c.log.new.self) c.logging-test.true c.logging.invariant.past c.in-Failed.ensures.past

pub returns-clause-logged : goal.returns-clause-logged
returns-clause-logged g c = logged-all c.logging.next c.args.lines.now (g.L.Lane.past c.args.lane.now) (g.L.Lane.past c.logging.lane) (omega (arith, c.logging-test.false)) c.logging.invariant.past
