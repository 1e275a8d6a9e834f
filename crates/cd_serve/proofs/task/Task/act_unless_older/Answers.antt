use Rattle.std.proofs.Common.{◌≤◌, inl, inr, refl, subst}
use Rattle.cd_serve.specs.Meanings.{Meaning}
use Rattle.cd_serve.proofs.Begun.{acted-declined, acted-since}
use Rattle.cd_serve.proofs.task.Task.act_unless_older.Goals as goal

pub returns-in-All-clause-acted : goal.returns-in-All-clause-acted
returns-in-All-clause-acted g c =
    let m : Meaning = record { acts = g.M.ModuleSet.acts; plan = g.M.ModuleSet.plan } in
    acted-since m c.args.self.now.means.now.hall.now c.args.ticket.now c.args.self.now.means.now.at.now c.args.self.now.request.now c.act.result c.args.pass.now c.act.new.pass (g.L.Lane.past c.args.lane.now) (g.L.Lane.past c.seen.new.self) (g.L.Lane.past c.act.new.lane) c.in-All.ensures.past c.act.ensures.acted

pub returns-in-Failed-clause-acted : goal.returns-in-Failed-clause-acted
returns-in-Failed-clause-acted g c =
    let m : Meaning = record { acts = g.M.ModuleSet.acts; plan = g.M.ModuleSet.plan } in
    acted-declined m c.args.self.now.means.now.hall.now c.args.ticket.now c.args.self.now.means.now.at.now c.args.self.now.request.now c.args.pass.now _ (g.L.Lane.past c.args.lane.now) (g.L.Lane.past c.seen.new.self) c.requires.may c.in-Failed.ensures.past

pub returns-in-All-clause-none_later : goal.returns-in-All-clause-none_later
returns-in-All-clause-none_later g c = inl (λ since came. subst (λ n. since ≤ n) c.serial.ensures (c.in-All.ensures.none_later refl since came))

pub returns-in-Failed-clause-none_later : goal.returns-in-Failed-clause-none_later
returns-in-Failed-clause-none_later g c = inr (record { is = refl; same = refl; past = c.in-Failed.ensures.past })
