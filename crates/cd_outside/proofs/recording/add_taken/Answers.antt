use Rattle.std.proofs.Common.{◌++◌, ◌-◌, ◌∙◌, List, ℕ, length, arith, ap}
use Rattle.std.proofs.lemmas.Grind.{common_steps}
use Rattle.std.proofs.lemmas.Result.{on_ok_weaker}
use Rattle.cd_outside.specs.declared.past.Connection.{Connection}
use Rattle.cd_outside.proofs.LastOne.{told_last}
use Rattle.cd_outside.proofs.recording.add_taken.Goals as goal

pub returns-clause-ok : goal.returns-clause-ok
returns-clause-ok c =
    let out = c.into_vec-connections.ensures ∙ c.replace.ensures.value in
    let last : Connection = c.index_mut-connection.result.now in
    on_ok_weaker c.append-added.result (λ is. told_last (λ (one : Connection). record one { taken = one.taken ++ c.args.bytes.now }) c.args.past.now _ _ (c.len-last.result - 1) last _ out (grind (arith, common_steps, ap length out)) c.index_mut-connection.ensures.value (ap (λ (bytes : List ℕ). record last { taken = bytes }) is) c.from_vec.ensures) c.append-added.ensures.ok
