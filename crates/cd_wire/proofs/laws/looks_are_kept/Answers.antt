use Rattle.cd_wire.proofs.CutLemmas.{whole_is_taken, taken_is_whole}
use Rattle.cd_wire.proofs.laws.looks_are_kept.Goals as goal

pub returns-clause-whole : goal.returns-clause-whole
returns-clause-whole c = whole_is_taken

pub returns-clause-only : goal.returns-clause-only
returns-clause-only c = taken_is_whole
