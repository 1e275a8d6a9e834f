use Rattle.std.proofs.Common.{◌∙◌, append_assoc, refl}
use Rattle.cd_program.specs.Storm.{storm_line}
use Rattle.cd_program.proofs.storm.storm_line.Goals as goal

pub returns : goal.returns
unfolding storm_line
returns c = c.from_string.ensures ∙ (c.in_ok-line.ensures.ok ∙ simp append_assoc refl)
