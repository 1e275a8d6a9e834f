use Rattle.cd_hall.proofs.LastEnd.{one_gives, other_gives_none, gives_at_once, last_end}
use Rattle.cd_hall.proofs.laws.a_halt_or_the_last_end_gives_the_duty.Goals as goal

pub returns-clause-last : goal.returns-clause-last
returns-clause-last g c w x y other log n done gives ends halt t history p q has is order last = one_gives n w.seen gives halt x y other log ends t history p q has done is order last

pub returns-clause-others : goal.returns-clause-others
returns-clause-others g c s n done ends is more = other_gives_none n s done ends is more

pub returns-clause-at_once : goal.returns-clause-at_once
returns-clause-at_once g c w n gives halt low none = gives_at_once n w.seen gives halt low none

pub returns-clause-there : goal.returns-clause-there
returns-clause-there g c seen log n history p low some none = last_end n seen low some log history p none
