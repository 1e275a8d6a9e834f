use Rattle.std.proofs.Common.{None}
use Rattle.cd_life.specs.Shares.{conf_in}
use Rattle.cd_serve_cases.proofs.Asks.{asks}
use Rattle.cd_serve_cases.proofs.Works.{works}
use Rattle.cd_serve_cases.proofs.asking.attempt.Goals as goal

pub attempt_change-requires-clause-asks : goal.attempt_change-requires-clause-asks
attempt_change-requires-clause-asks g c κs within =
    asks (conf_in c.args.ticket.now.share) c.in-Ok.request c.args.other c.in-Ok-load_fixed.loaded.tree c.requires.runs c.in-Ok.ensures c.in-Ok-load_fixed.ensures.tree

pub returns : goal.returns
returns g c =
    let a = c.attempt_change.ensures in
    works c.args.on.now.hall.now c.args.pass.now c.attempt_change.new.pass c.args.number c.args.ticket.now None None a.attempted.0 c.requires.has a.pass a.attempted.1 a.free
