use Rattle.std.proofs.Common.{◌≡◌, false, [], refl, ap, sym, ◌∙◌, ⊎_elim}
use Rattle.std.proofs.lemmas.List.{append-nil}
use Rattle.cd_gate.specs.Passes.{view}
use Rattle.cd_host.specs.Hosting.{is_served}
use Rattle.cd_host.proofs.Gone.{served-gone, left-gone, spans-length, spans-untouched, unused-idle, unused-mine}
use Rattle.cd_host.proofs.hosting.serve_or_leave.Goals as goal

pub returns-in-Served-clause-gone : goal.returns-in-Served-clause-gone
returns-in-Served-clause-gone g c =
    served-gone _ (is_served c.args.how.now) (view c.args.root.now).seen (view c.serve_all.new.root).seen _ c.serve_all.new.passes.items c.serve_all.result.answered c.serve_all.result.cut
    (ap is_served c.in-Served.is) c.serve_all.ensures.back.seen c.serve_all.ensures.served

pub returns-in-FirstRefused-clause-back : goal.returns-in-FirstRefused-clause-back
returns-in-FirstRefused-clause-back g c = record {
  root = c.requires.ready.root;
  seen = ([], append-nil _);
  same = refl;
  passes = unused-idle c.args.hall.now 1 c.args.passes.now.items c.requires.ready.passes;
  as_many_passes = refl;
  as_many_lanes = refl;
  idle = c.requires.ready.idle;
}

pub returns-in-FirstRefused-clause-gone : goal.returns-in-FirstRefused-clause-gone
returns-in-FirstRefused-clause-gone g c =
    let left : is_served c.args.how.now ≡ false = ⊎_elim (λ f. ap is_served f.1) (λ w. ⊎_elim (λ f. ap is_served f) (λ f. ap is_served f) w) c.in-FirstRefused.is in
    left-gone _ (is_served c.args.how.now) (view c.args.root.now).seen _ c.args.passes.now.items c.new.result.answered c.new.result.cut
    left (unused-mine c.args.hall.now 1 c.args.passes.now.items c.requires.ready.passes)
    (c.requires.ready.enough ∙ sym (spans-length g.L.Lane.faults g.L.Lane.past g.L.Lane.since c.args.lanes.now.items c.args.lanes.now.items refl))
    (spans-untouched g.L.Lane.faults g.L.Lane.past g.L.Lane.since c.args.lanes.now.items)
    (ap (λ n. n.answered) c.new.ensures) (ap (λ n. n.cut) c.new.ensures)
