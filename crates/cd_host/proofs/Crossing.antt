-- A slot may go to another thread.
use denote.RattleType.{RattleType}
use denote.Param.Send.{IsSend, IsSync, sendable}
use denote.Param.SendFields.{declared_send}
use Rattle.cd_hall.proofs.Crossing.{pass_send}
use Rattle.cd_session.proofs.lane_end.LaneEnd.TheSendSync as end
use Rattle.cd_host.specs.contracts.slot.Slot as Slot

module _ (M F C : RattleType) (g : _) (fs : IsSend F) (cs : IsSend C) (cy : IsSync C) where
  pub slot_send : (L : RattleType) → IsSend L → IsSend (Slot.the_row M F L C g)
  slot_send L ls = declared_send (Slot.the_type M F L C g) (pass_send M F C g fs cs cy, (search (ls, sendable), (end.the_send, tt)))
