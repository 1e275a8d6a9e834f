use Rattle.std.proofs.Common.{◌++◌, ◌∷◌, ◌-◌, ◌∙◌, [], List, length, arith, ap}
use Rattle.std.proofs.lemmas.Grind.{common_steps}
use Rattle.std.proofs.lemmas.Result.{on_ok_weaker}
use Rattle.cd_outside.specs.declared.past.Connection.{Connection}
use Rattle.cd_outside.specs.declared.past.Logged.{Logged}
use Rattle.cd_outside.proofs.LastOne.{told_last}
use Rattle.cd_outside.proofs.recording.add_line.Goals as goal

pub returns-clause-ok : goal.returns-clause-ok
returns-clause-ok c =
    let out = c.into_vec-connections.ensures ∙ c.replace.ensures.value in
    let last : Connection = c.index_mut-connection.result.now in
    on_ok_weaker c.push-added.result (λ is. told_last (λ (one : Connection). record one { lines = one.lines ++ record { key = c.args.key.now; line = c.args.line.now } ∷ [] }) c.args.past.now _ _ (c.len-last.result - 1) last _ out (grind (arith, common_steps, ap length out)) c.index_mut-connection.ensures.value (ap (λ (lines : List Logged). record last { lines = lines }) (is ∙ ap (λ (line : Logged). last.lines ++ line ∷ []) c.in_ok-logged.ensures)) c.from_vec.ensures) c.push-added.ensures.ok
