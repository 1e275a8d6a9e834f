use Rattle.cd_gate.proofs.gate.Gate.publish_step.Given as goal

abbrev pub ghosts-supersede_by : goal.ghosts-supersede_by
ghosts-supersede_by g a = record { said = g.M.Names.entry a.about.now }
