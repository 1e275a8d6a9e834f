use Rattle.std.proofs.Common.{◌<◌, length, arith}
use Rattle.cd_gate.specs.Passes.{view}
use Rattle.cd_hall.specs.Drafts.{held}
use Rattle.cd_serve.proofs.Opens.{makes-none, makes-more, makes-fails}
use Rattle.cd_serve.proofs.opening.make_all.Goals as goal

pub making-init : goal.making-init
making-init g c = record {
  pass = c.requires.may.pass;
  draft = c.requires.may.draft;
  so_far = makes-none (view c.args.pass.now) (held c.args.draft.now) c.requires.may.pass.history c.requires.none;
  unfailed = c.requires.may.unfailed;
}

pub making-preserved : goal.making-preserved
making-preserved g c =
    let less : (held c.making.draft).made < length (held c.making.draft).plan.modules = omega (arith, c.making-test.true, c.modules_left.ensures, c.making.invariant.draft.modules) in
    record {
      pass = c.in_default.ensures.pass;
      draft = c.in_default.ensures.draft;
      so_far = makes-more (view c.args.pass.now) (view c.making.pass) (view c.make_next.new.pass) (held c.args.draft.now) (held c.making.draft) (held c.make_next.new.draft) c.making.invariant.so_far less c.in_default.ensures.made c.in_default.ensures.held c.making.invariant.unfailed;
      unfailed = c.making.invariant.unfailed;
    }

pub returns-in-Err-clause-makes : goal.returns-in-Err-clause-makes
returns-in-Err-clause-makes g c =
    makes-fails (view c.args.pass.now) (view c.making.pass) (view c.make_next.new.pass) (held c.args.draft.now) (held c.making.draft) (held c.make_next.new.draft) c.in-Err.key c.making.invariant.so_far c.in-Err.ensures.made c.in-Err.ensures.held
