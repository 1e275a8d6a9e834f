use Rattle.std.proofs.Common.{◌<◌, length, arith}
use Rattle.cd_gate.specs.Passes.{view}
use Rattle.cd_hall.specs.Drafts.{held}
use Rattle.cd_serve.proofs.Opens.{starts-none, starts-more, starts-fails}
use Rattle.cd_serve.proofs.opening.start_all.Goals as goal

pub starting-init : goal.starting-init
starting-init g c = record {
  pass = c.requires.may.pass;
  draft = c.requires.may.draft;
  so_far = starts-none (view c.args.pass.now) (held c.args.draft.now) c.requires.may.pass.history c.requires.none;
  made = c.requires.made;
  unfailed = c.requires.may.unfailed;
}

pub starting-preserved : goal.starting-preserved
starting-preserved g c =
    let less : (held c.starting.draft).started < length (held c.starting.draft).plan.apps = omega (arith, c.starting-test.true, c.apps_left.ensures, c.starting.invariant.draft.apps) in
    record {
      pass = c.in_default.ensures.pass;
      draft = c.in_default.ensures.draft;
      so_far = starts-more (view c.args.pass.now) (view c.starting.pass) (view c.start_next.new.pass) (held c.args.draft.now) (held c.starting.draft) (held c.start_next.new.draft) c.starting.invariant.so_far less c.in_default.ensures.started c.in_default.ensures.held c.starting.invariant.unfailed;
      made = c.starting.invariant.made;
      unfailed = c.starting.invariant.unfailed;
    }

pub returns-in-Err-clause-starts : goal.returns-in-Err-clause-starts
returns-in-Err-clause-starts g c =
    starts-fails (view c.args.pass.now) (view c.starting.pass) (view c.start_next.new.pass) (held c.args.draft.now) (held c.starting.draft) (held c.start_next.new.draft) c.in-Err.key c.starting.invariant.so_far c.in-Err.ensures.started c.in-Err.ensures.held
