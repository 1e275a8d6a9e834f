use Rattle.cd_serve.proofs.Going.{lane-starts, lane-goes, lane-ends, lane-fails}
use Rattle.cd_serve.proofs.laws.lanes_go_on.Goals as goal

pub returns-clause-starts : goal.returns-clause-starts
returns-clause-starts c = lane-starts

pub returns-clause-goes : goal.returns-clause-goes
returns-clause-goes c = lane-goes

pub returns-clause-ends : goal.returns-clause-ends
returns-clause-ends c = lane-ends

pub returns-clause-fails : goal.returns-clause-fails
returns-clause-fails c = lane-fails
