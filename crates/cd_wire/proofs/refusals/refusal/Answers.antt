use Rattle.std.proofs.Common.{rules}
use Rattle.std.specs.Fmt.{digits}
use Rattle.cd_wire.specs.Render.{render, status_line, reason_of, phrase_of, length_line, close_line, refusal_bytes}
use Rattle.cd_wire.proofs.refusals.refusal.Goals as goal

pub returns-in-400 : goal.returns-in-400
unfolding refusal_bytes render status_line reason_of phrase_of length_line close_line digits
returns-in-400 c = search rules

pub returns-in-413 : goal.returns-in-413
unfolding refusal_bytes render status_line reason_of phrase_of length_line close_line digits
returns-in-413 c = search rules

pub returns-in-501 : goal.returns-in-501
unfolding refusal_bytes render status_line reason_of phrase_of length_line close_line digits
returns-in-501 c = search rules

pub returns-in-503 : goal.returns-in-503
unfolding refusal_bytes render status_line reason_of phrase_of length_line close_line digits
returns-in-503 c = search rules
