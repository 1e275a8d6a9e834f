use Rattle.cd_legal.proofs.Serials.{retired-once, retired-below}
use Rattle.cd_legal.proofs.laws.serials_are_retired_once.Goals as goal

pub returns-clause-once : goal.returns-clause-once
returns-clause-once c log n legal = retired-once log n legal

pub returns-clause-superseded : goal.returns-clause-superseded
returns-clause-superseded c log n legal is = retired-below log n legal is
