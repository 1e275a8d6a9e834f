-- A pass may go to another thread, and threads may share a hall, for the set of modules of this program.
use denote.Param.Send.{IsSend, IsSync, sendable}
use Rattle.std.proofs.Crossing as std
use Rattle.cd_life.specs.contracts.board.Board as Board
use Rattle.cd_gate.specs.contracts.pass.Pass as Pass
use Rattle.cd_hall.specs.contracts.hall.Hall as Hall
use Rattle.cd_hall.proofs.Crossing.{pass_send, hall_sync}
use Rattle.cd_outside.specs.contracts.memory_fixtures.MemoryFixtures as Memory
use Rattle.cd_fixed.specs.contracts.fixed.Fixed as Fixed
use Rattle.cd_fixed.specs.contracts.fixed.Form as Form
use Rattle.cd_hall_cases.specs.contracts.plans.PlainAndWide as Plans

fixtures_send : IsSend Memory.the_row
fixtures_send = search (std.crosses, sendable) depth 60 fits 20000

form_send : IsSend Form.the_row
form_send = search sendable

form_sync : IsSync Form.the_row
form_sync = search sendable

pub fixed_pass_send : (g : _) → IsSend (Pass.the_row (Board.the_row (Fixed.the_row Plans.the_row) Memory.the_row Form.the_row g))
fixed_pass_send g = pass_send (Fixed.the_row Plans.the_row) Memory.the_row Form.the_row g fixtures_send form_send form_sync

pub fixed_hall_sync : (g : _) (f : _) → IsSync (Hall.the_row (Fixed.the_row Plans.the_row) Memory.the_row Form.the_row g f)
fixed_hall_sync g f = hall_sync (Fixed.the_row Plans.the_row) Memory.the_row Form.the_row g fixtures_send form_send form_sync f
