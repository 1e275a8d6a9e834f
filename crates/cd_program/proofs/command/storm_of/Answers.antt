use Rattle.std.proofs.Common.{rules, ◌<◌, ◌^◌}
use Rattle.cd_program.proofs.Numbers.{storm, no_storm}
use Rattle.cd_program.proofs.command.storm_of.Goals as goal

pub returns-in-Some : goal.returns-in-Some
returns-in-Some c =
    let small : c.in-Some.number < 2 ^ 64 = search rules in
    storm c.args.text.now c.in-Some.number small c.in-Some.ensures.some

pub returns-in-None : goal.returns-in-None
returns-in-None c = no_storm c.args.text.now c.in-None.ensures.none
