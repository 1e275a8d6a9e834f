use Rattle.std.proofs.Common.{◌≡◌, ◌-◌, length, false}
use Rattle.cd_gate.specs.Passes.{view}
use Rattle.cd_hall.specs.Calls.{IsPassOf}
use Rattle.cd_hall.specs.Drafts.{IsDraftOf, held}
use Rattle.cd_serve.proofs.Opens.{MakesSoFar}
use Rattle.cd_serve.proofs.opening.make_all.Given as goal

abbrev pub invariant-making : goal.invariant-making
invariant-making g l = record {
  pass : IsPassOf l.hall l.pass;
  draft : IsDraftOf (view l.pass) l.draft;
  so_far : MakesSoFar (view l.fn.pass) (view l.pass) (held l.fn.draft) (held l.draft);
  unfailed : (held l.fn.draft).failed ≡ false;
}

abbrev pub decreases-making : goal.decreases-making
decreases-making g l = length (held l.draft).plan.modules - (held l.draft).made
