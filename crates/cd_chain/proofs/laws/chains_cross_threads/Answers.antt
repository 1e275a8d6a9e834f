use denote.Exit.{no}
use denote.Param.Send.{arg_send, arg_sync, param_send, param_sync}
use Rattle.cd_chain.specs.contracts.chain.Chain.{the_row}
use Rattle.cd_chain.proofs.Crossing.{chain_send, chain_sync}
use Rattle.cd_chain.proofs.laws.chains_cross_threads.Goals as goal

pub crosses-requires-send-T : goal.crosses-requires-send-T
crosses-requires-send-T c κs = param_send 0 _ (arg_send _ no the_row chain_send)

pub crosses-requires-sync-T : goal.crosses-requires-sync-T
crosses-requires-sync-T c κs = param_sync 0 _ (arg_sync _ no the_row chain_sync)
