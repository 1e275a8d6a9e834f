use Rattle.cd_gate.proofs.Readied.{ready_turn, ready_quiet, ready_runs, ready_full, ready_reused}
use Rattle.cd_gate.proofs.laws.a_ready_serial_stands_alone.Goals as goal

pub returns-clause-alone : goal.returns-clause-alone
returns-clause-alone g c o log m seat v r at ready =
    (ready_turn g.T.Stands.stands o log m r seat v at ready, ready_quiet g.T.Stands.stands o log m r seat v at ready, ready_runs g.T.Stands.stands o log m r seat v at ready)

pub returns-clause-full : goal.returns-clause-full
returns-clause-full g c o log m seat v r at ready = ready_full g.T.Stands.stands o log m r seat v at ready

pub returns-clause-reused : goal.returns-clause-reused
returns-clause-reused g c o log m seat n v r at ready last = ready_reused g.T.Stands.stands o log m r seat v at ready n last
