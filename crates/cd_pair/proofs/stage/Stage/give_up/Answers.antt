use Rattle.std.proofs.Common.{◌∷◌, None, Some}
use Rattle.cd_legal.specs.declared.entry.Entry.TheVariants.{Abandon}
use Rattle.cd_legal.specs.Runs.{ended_all}
use Rattle.cd_hall.specs.Drafts.{held}
use Rattle.cd_pair.proofs.Goes.{owes, runs-on, ends-owe}
use Rattle.cd_pair.proofs.stage.Stage.give_up.Goals as goal

pub returns : goal.returns
returns g c =
    let d = held c.args.draft in
    runs-on c.args.self.now.hall.now c.args.pass.now c.abandon.new.pass c.args.number c.args.ticket.now (Some d.number) None (Abandon d.number ∷ ended_all d.number d.made d.started) c.requires.draft.runs c.abandon.ensures.pass c.abandon.ensures.spreads.1.grows
    (ends-owe (owes (Some c.args.ticket.now.serial) None) d.number d.made d.started) c.abandon.ensures.duties
