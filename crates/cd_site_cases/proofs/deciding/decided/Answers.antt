use denote.Exit.{no}
use denote.Param.Send.{arg_send, arg_sync, param_send, param_sync}
use Rattle.cd_standard.specs.contracts.compiled.Compiled.{the_row}
use Rattle.cd_standard.proofs.Crossing.{configuration_send, configuration_sync}
use Rattle.cd_site_cases.proofs.deciding.decided.Goals as goal

-- a configuration may go to other threads, and be shared by them
pub decide-requires-send-M-Compiled : goal.decide-requires-send-M-Compiled
decide-requires-send-M-Compiled c κs = param_send 1 _ (arg_send _ no the_row configuration_send)

pub decide-requires-sync-M-Compiled : goal.decide-requires-sync-M-Compiled
decide-requires-sync-M-Compiled c κs = param_sync 1 _ (arg_sync _ no the_row configuration_sync)
