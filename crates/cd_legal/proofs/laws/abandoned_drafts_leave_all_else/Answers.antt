use Rattle.cd_legal.proofs.Leaving.{leaving}
use Rattle.cd_legal.proofs.laws.abandoned_drafts_leave_all_else.Goals as goal

pub returns : goal.returns
returns c = leaving
