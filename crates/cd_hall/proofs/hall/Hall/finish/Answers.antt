use Rattle.std.proofs.Common.{◌∙◌, ap}
use Rattle.cd_legal.specs.Serials.{is_halted}
use Rattle.cd_gate.specs.Passes.{view}
use Rattle.cd_hall.proofs.Confs.{halted_conf}
use Rattle.cd_hall.proofs.hall.Hall.finish.Goals as goal

pub end_at-requires-clause-ticket : goal.end_at-requires-clause-ticket
end_at-requires-clause-ticket g c κs within = c.requires.ticket.own

pub end_at-requires-clause-halted : goal.end_at-requires-clause-halted
end_at-requires-clause-halted g c κs within = c.halted-halted.ensures ∙ (ap is_halted c.requires.ticket.has.conf ∙ halted_conf (view c.args.pass.now).seen c.args.ticket.serial c.requires.pass.history.is_legal)
