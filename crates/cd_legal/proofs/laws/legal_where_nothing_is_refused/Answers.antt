use Rattle.cd_legal.proofs.Apart.{refused-legal}
use Rattle.cd_legal.proofs.laws.legal_where_nothing_is_refused.Goals as goal

pub returns : goal.returns
returns c = refused-legal
