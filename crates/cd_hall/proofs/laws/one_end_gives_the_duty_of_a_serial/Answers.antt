use Rattle.cd_hall.proofs.OneEnd.{one_end}
use Rattle.cd_hall.proofs.laws.one_end_gives_the_duty_of_a_serial.Goals as goal

pub returns : goal.returns
returns g c v w x y found other log n t u history front behind has also may_first may_second = one_end v w x y found other log n t u history front behind has also may_first may_second
