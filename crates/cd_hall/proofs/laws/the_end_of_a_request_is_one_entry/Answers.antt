use Rattle.std.proofs.Common.{refl}
use Rattle.cd_legal.specs.Legal.{state_at}
use Rattle.cd_hall.proofs.DueThen.{due_then, duty_may, finish_may, turned_by_finish}
use Rattle.cd_hall.proofs.laws.the_end_of_a_request_is_one_entry.Goals as goal

pub returns-clause-turned : goal.returns-clause-turned
returns-clause-turned g c v w serial due log is = turned_by_finish v w serial due log is

pub returns-clause-duty : goal.returns-clause-duty
returns-clause-duty g c v w serial due log is = due_then v w serial due log is

pub returns-clause-may : goal.returns-clause-may
returns-clause-may g c v w serial due log is = duty_may (state_at w.seen) due serial _ (finish_may v w serial due log is) refl
