use Rattle.cd_legal.proofs.Undone.{no_trace}
use Rattle.cd_legal.proofs.laws.abandoned_drafts_leave_no_trace.Goals as goal

pub returns-clause-still_legal : goal.returns-clause-still_legal
returns-clause-still_legal c log draft legal gone = (no_trace log legal draft gone).0

pub returns-clause-leaves_the_same : goal.returns-clause-leaves_the_same
returns-clause-leaves_the_same c log draft legal gone = (no_trace log legal draft gone).1
