use Rattle.std.proofs.Common.{◌≡◌, ◌≤◌, ◌-◌, length, false}
use Rattle.cd_hall.specs.Drafts.{held}
use Rattle.cd_pair.specs.Passes.{HasDraft}
use Rattle.cd_hall_cases.proofs.opening.open.Given as goal

abbrev pub invariant-making : goal.invariant-making
invariant-making g l = record {
  same : (l.on ≡ l.fn.on) × (l.ticket ≡ l.fn.ticket) × (l.number ≡ l.fn.number);
  draft : HasDraft l.on.hall.now l.pass l.number l.ticket l.draft;
  changes : held l.draft ≡ record (held l.fn.draft) { made = (held l.draft).made };
  so_far : (held l.draft).made ≤ length (held l.draft).plan.modules;
  unfailed : (held l.draft).failed ≡ false;
}

abbrev pub decreases-making : goal.decreases-making
decreases-making g l = length (held l.draft).plan.modules - (held l.draft).made

abbrev pub invariant-starting : goal.invariant-starting
invariant-starting g l = record {
  same : (l.on ≡ l.fn.on) × (l.ticket ≡ l.fn.ticket) × (l.number ≡ l.fn.number);
  draft : HasDraft l.on.hall.now l.pass l.number l.ticket l.draft;
  tree : (held l.draft).tree ≡ (held l.fn.draft).tree;
  made : (held l.draft).made ≡ length (held l.draft).plan.modules;
  so_far : (held l.draft).started ≤ length (held l.draft).plan.apps;
  unfailed : (held l.draft).failed ≡ false;
}

abbrev pub decreases-starting : goal.decreases-starting
decreases-starting g l = length (held l.draft).plan.apps - (held l.draft).started
