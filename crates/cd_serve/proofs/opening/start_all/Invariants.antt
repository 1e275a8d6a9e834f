use Rattle.std.proofs.Common.{◌≡◌, ◌-◌, length, false}
use Rattle.cd_gate.specs.Passes.{view}
use Rattle.cd_hall.specs.Calls.{IsPassOf}
use Rattle.cd_hall.specs.Drafts.{IsDraftOf, held}
use Rattle.cd_serve.proofs.Opens.{StartsSoFar}
use Rattle.cd_serve.proofs.opening.start_all.Given as goal

abbrev pub invariant-starting : goal.invariant-starting
invariant-starting g l = record {
  pass : IsPassOf l.hall l.pass;
  draft : IsDraftOf (view l.pass) l.draft;
  so_far : StartsSoFar (view l.fn.pass) (view l.pass) (held l.fn.draft) (held l.draft);
  made : (held l.fn.draft).made ≡ length (held l.fn.draft).plan.modules;
  unfailed : (held l.fn.draft).failed ≡ false;
}

abbrev pub decreases-starting : goal.decreases-starting
decreases-starting g l = length (held l.draft).plan.apps - (held l.draft).started
