use Rattle.cd_hall.proofs.LastEnd.{retired_once}
use Rattle.cd_hall.proofs.laws.a_serial_is_retired_once.Goals as goal

pub returns : goal.returns
returns c one two log j k n history p q = retired_once n one two log j k history p q
