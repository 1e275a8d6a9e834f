use Rattle.cd_legal.proofs.Closed.{closed-refuses}
use Rattle.cd_legal.proofs.laws.closed_drafts_have_no_further_entries.Goals as goal

pub returns : goal.returns
returns c = closed-refuses
