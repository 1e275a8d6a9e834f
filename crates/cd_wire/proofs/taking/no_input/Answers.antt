use Rattle.std.proofs.Common.{[], inl, lit<}
use Rattle.cd_wire.proofs.KeptLemmas.{nothing_may, all_may}
use Rattle.cd_wire.proofs.TakingLemmas.{no_head_no_request, empty_no_head}
use Rattle.cd_wire.proofs.taking.no_input.Goals as goal

pub returns-else-ended : goal.returns-else-ended
returns-else-ended c = (
  c.if-ended.false,
  (no_head_no_request [] empty_no_head, inl (record { short = lit< tt; none = empty_no_head; may = all_may [] nothing_may })),
  c.no_search.ensures [],
)
