use Rattle.cd_legal.proofs.Serials.{legal-agree}
use Rattle.cd_legal.proofs.laws.published_drafts_have_their_serials.Goals as goal

pub returns-clause-has : goal.returns-clause-has
returns-clause-has c log n draft legal is = (legal-agree log legal).lives n draft is

pub returns-clause-only : goal.returns-clause-only
returns-clause-only c log n draft legal is = (legal-agree log legal).published n draft is
