use Rattle.std.proofs.Common.{ℕ, List, subst}
use Rattle.cd_caddyfile.specs.Adapting.{adapted}
use Rattle.cd_outside.specs.Devices.{device}
use Rattle.cd_program.specs.Endings.{IsAdapted}
use Rattle.cd_program.proofs.Adapted.{has_read}
use Rattle.cd_program.proofs.adapting.adapt_file.Goals as goal

pub returns-in-Ok : goal.returns-in-Ok
returns-in-Ok g c =
    let output = device g.O.Sink.holds g.O.Sink.faults c.args.out.now c.say_adapted.new.out in
    has_read (device g.S.Source.left g.S.Source.faults c.args.config.now c.read_config.new.config) output c.in-Ok.bytes c.in-Ok.ensures.gave c.say_adapted.result
    (subst (λ (bytes : List ℕ). IsAdapted (adapted bytes) output c.say_adapted.result) c.as_slice.ensures c.say_adapted.ensures)
