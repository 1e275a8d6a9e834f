use Rattle.cd_saved.proofs.top.run_saved.Given as goal

abbrev pub ghosts-run_over-K-Ledger : goal.ghosts-run_over-K-Ledger
ghosts-run_over-K-Ledger g a = record { name = a.blank.name; parts = a.blank.parts }

abbrev pub ghosts-run_over-K-SavingRun : goal.ghosts-run_over-K-SavingRun
ghosts-run_over-K-SavingRun g a = record { start = g.D.Disk.faults a.saver.slots.disk }
