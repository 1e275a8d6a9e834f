use Rattle.std.proofs.Common.{◌∙◌, inl, sym, rules}
use mathlib.Core.List.{IsPrefix}
use Rattle.cd_legal.proofs.Logs.{prefix_trans}
use Rattle.cd_gate.specs.Passes.{view}
use Rattle.cd_hall.proofs.Requested.{ticket_stays}
use Rattle.cd_life.specs.Shares.{conf_in}
use Rattle.cd_serve.proofs.Acts.{begun-halted, halt-stays}
use Rattle.cd_serve.proofs.Begun.{begun-by, served-once, not-worn}
use Rattle.cd_serve.proofs.Guarded.{once-keeps-up}
use Rattle.cd_serve.proofs.LetGo.{let-go, nothing-begun, nothing-concluded}
use Rattle.cd_serve.proofs.task.Task.serve_once.Goals as goal

pub act_unless_older-how-requires-clause-may : goal.act_unless_older-how-requires-clause-may
act_unless_older-how-requires-clause-may g c κs within =
    let b = c.in-Ok.ensures.begun in
    record {
      pass = search rules;
      ticket = begun-by (view c.args.pass.now) (view c.begin.new.pass) c.in-Ok.ticket b.0 b.1 c.in-Ok.ensures.ticket;
      owes = search rules;
      busy = search rules;
    }

pub conclude-requires-clause-ticket : goal.conclude-requires-clause-ticket
conclude-requires-clause-ticket g c κs within =
    let w = view c.begin.new.pass in
    let x = view c.act_unless_older-how.new.pass in
    let a = c.act_unless_older-how.ensures.acted in
    ticket_stays w x c.in-Ok.ticket c.in-Ok.ensures.ticket a.acted.places.seen a.acted.places.history (a.owes.0 ∙ sym c.in-Ok.ensures.ticket.own)

pub returns-clause-served : goal.returns-clause-served
returns-clause-served g c =
    let b = c.in-Ok.ensures.begun in
    let t = c.in-Ok.ticket in
    served-once (record { acts = g.M.ModuleSet.acts; plan = g.M.ModuleSet.plan }) c.args.self.now.means.now.at.now c.args.self.now.request.now (conf_in t.share) t.serial c.act_unless_older-how.result (view c.args.pass.now) (view c.begin.new.pass) (view c.act_unless_older-how.new.pass) (view c.conclude.new.pass) b.0
    (g.L.Lane.past c.args.lane.now) (g.L.Lane.past c.act_unless_older-how.new.lane) b.1.places b.1.begins b.1.with_ticket c.act_unless_older-how.ensures.acted.acted c.conclude.ensures.concluded

pub returns-clause-halted : goal.returns-clause-halted
returns-clause-halted g c is =
    let w = view c.begin.new.pass in
    let x = view c.act_unless_older-how.new.pass in
    let z = view c.conclude.new.pass in
    let b = c.in-Ok.ensures.begun in
    let t = c.in-Ok.ticket in
    let begun = begun-by (view c.args.pass.now) w t b.0 b.1 c.in-Ok.ensures.ticket in
    let front : IsPrefix begun.begin.before w.seen = (_, sym begun.stands) in
    halt-stays begun.begin.before z.seen (prefix_trans begun.begin.before w.seen z.seen front (prefix_trans w.seen x.seen z.seen c.act_unless_older-how.ensures.acted.acted.places.seen c.conclude.ensures.concluded.places.seen)) (sym (begun-halted w t begun) ∙ c.act_unless_older-how.ensures.halted is)

pub returns-clause-worn : goal.returns-clause-worn
returns-clause-worn g c is =
    let b = c.in-Ok.ensures.begun in
    let t = c.in-Ok.ticket in
    absurd (not-worn (record { acts = g.M.ModuleSet.acts; plan = g.M.ModuleSet.plan }) c.args.self.now.means.now.at.now c.args.self.now.request.now (conf_in t.share) t.serial c.act_unless_older-how.result (view c.begin.new.pass) (view c.act_unless_older-how.new.pass) (view c.conclude.new.pass) b.0
    (g.L.Lane.past c.args.lane.now) (g.L.Lane.past c.act_unless_older-how.new.lane) b.1.with_ticket c.act_unless_older-how.ensures.acted.acted c.conclude.ensures.concluded is)

pub returns-in-Err-clause-let_go : goal.returns-in-Err-clause-let_go
returns-in-Err-clause-let_go g c = inl c.in-Err.ensures.nothing

pub returns-clause-let_go : goal.returns-clause-let_go
returns-clause-let_go g c =
    let v = view c.args.pass.now in
    let w = view c.begin.new.pass in
    let x = view c.act_unless_older-how.new.pass in
    let z = view c.conclude.new.pass in
    let b = c.in-Ok.ensures.begun in
    let-go v w x z c.act_unless_older-how.new.superseded _ (nothing-begun v w c.in-Ok.ticket b.0 b.1) c.act_unless_older-how.ensures.noted (nothing-concluded x z c.conclude.ensures.concluded) c.conclude.ensures.let_go

pub returns-in-Err-clause-keeps_up : goal.returns-in-Err-clause-keeps_up
returns-in-Err-clause-keeps_up g c since came = c.in-Err.ensures.keeps_up since (g.L.Lane.past c.args.lane.now)

pub returns-clause-keeps_up : goal.returns-clause-keeps_up
returns-clause-keeps_up g c since came =
    let b = c.in-Ok.ensures.begun in
    let t = c.in-Ok.ticket in
    let a = c.act_unless_older-how.ensures.acted in
    once-keeps-up view t.serial (conf_in t.share) c.act_unless_older-how.result (view c.args.pass.now) (view c.conclude.new.pass) c.begin.new.pass c.act_unless_older-how.new.pass b.0 a.acted.work (g.L.Lane.past c.args.lane.now) (g.L.Lane.past c.act_unless_older-how.new.lane)
    b.1.places b.1.begins b.1.with_ticket a.acted.places c.conclude.ensures.concluded (g.L.Lane.since c.args.lane.now) since came c.act_unless_older-how.ensures.none_later
