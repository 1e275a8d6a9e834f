use Rattle.cd_program.proofs.concluding.say_last.Goals as goal

pub returns-in-FirstRefused : goal.returns-in-FirstRefused
returns-in-FirstRefused g c = rw c.in-FirstRefused.is (c.say_unopened.ensures c.args.answered c.args.published)
