use Rattle.cd_legal.proofs.Owners.{live-owned}
use Rattle.cd_legal.proofs.laws.live_drafts_are_owed.Goals as goal

pub returns-clause-live : goal.returns-clause-live
returns-clause-live c log pass draft is owes = (live-owned log is).alive pass draft owes

pub returns-clause-one : goal.returns-clause-one
returns-clause-one c log pass other draft is owes too = (live-owned log is).one pass other draft owes too

pub returns-clause-owned : goal.returns-clause-owned
returns-clause-owned c log draft is live = (live-owned log is).owner draft live
