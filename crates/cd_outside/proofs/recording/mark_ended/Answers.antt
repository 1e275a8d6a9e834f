use Rattle.std.proofs.Common.{◌-◌, ◌∙◌, length, refl, arith, ap}
use Rattle.std.proofs.lemmas.Grind.{common_steps}
use Rattle.cd_outside.proofs.LastOne.{told_last}
use Rattle.cd_outside.proofs.recording.mark_ended.Goals as goal

pub returns-clause-ended : goal.returns-clause-ended
returns-clause-ended c =
    let out = c.into_vec-connections.ensures ∙ c.replace.ensures.value in
    told_last _ c.args.past.now _ _ (c.len-last.result - 1) c.index_mut-connection.result.now _ out (grind (arith, common_steps, ap length out)) c.index_mut-connection.ensures.value refl c.from_vec.ensures
