use Rattle.cd_gate.proofs.Fates.{fate, duty_allowed, retired_empty}
use Rattle.cd_gate.proofs.laws.superseded_serials_have_their_fate.Goals as goal

pub returns-clause-fate : goal.returns-clause-fate
returns-clause-fate g c o log m n r low = fate g.T.Stands.stands o log m r n low

pub returns-clause-duty : goal.returns-clause-duty
returns-clause-duty g c o log m seat v n r at live has = duty_allowed g.T.Stands.stands o log m r n (r.duties.sound seat v n at live has)

pub returns-clause-empty : goal.returns-clause-empty
returns-clause-empty g c o log m n r is used = retired_empty g.T.Stands.stands o log m r n is used

pub returns-clause-one : goal.returns-clause-one
returns-clause-one g c o log m i j n v w r ev ew lv lw hv hw = r.duties.one i j v w n ev ew lv lw hv hw
