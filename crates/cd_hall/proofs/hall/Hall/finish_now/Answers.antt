use Rattle.std.proofs.Common.{◌∙◌, ap}
use Rattle.cd_legal.specs.Serials.{is_halted}
use Rattle.cd_gate.specs.Passes.{view}
use Rattle.cd_hall.proofs.Cached.{cache_has}
use Rattle.cd_hall.proofs.Confs.{halted_conf}
use Rattle.cd_hall.proofs.Requested.{configuration_stays}
use Rattle.cd_hall.proofs.hall.Hall.finish_now.Goals as goal

pub end_at-duty-requires-clause-ticket : goal.end_at-duty-requires-clause-ticket
end_at-duty-requires-clause-ticket g c κs within = c.requires.ticket.own

pub end_at-duty-requires-clause-halted : goal.end_at-duty-requires-clause-halted
end_at-duty-requires-clause-halted g c κs within = c.halted-halted.ensures ∙ (ap is_halted c.requires.ticket.has.conf ∙ halted_conf (view c.args.pass.now).seen c.args.ticket.serial c.requires.pass.history.is_legal)

pub returns-clause-cache : goal.returns-clause-cache
returns-clause-cache g c =
    let t = c.end_at-duty.ensures.finishes in
    cache_has (view c.end_at-duty.new.pass) c.put.new.self c.args.ticket c.put.ensures
    (configuration_stays (view c.args.pass.now) (view c.end_at-duty.new.pass) c.args.ticket c.requires.ticket.has t.1.grows.seen t.1.grows.history)
