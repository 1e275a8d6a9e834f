use Rattle.std.proofs.Common.{◌≡◌, ◌++◌, ◌∷◌, ◌-◌, ◌∙◌, [], List, length, arith, ap}
use Rattle.std.proofs.lemmas.Grind.{common_steps}
use Rattle.std.proofs.lemmas.Result.{on_ok_weaker}
use Rattle.cd_outside.specs.declared.past.Connection.{Connection}
use Rattle.cd_outside.specs.declared.past.KeepRecord.{KeepRecord}
use Rattle.cd_outside.proofs.LastOne.{told_last}
use Rattle.cd_outside.proofs.recording.add_keep.Goals as goal

pub returns-clause-ok : goal.returns-clause-ok
returns-clause-ok c =
    let out = c.into_vec-connections.ensures ∙ c.replace.ensures.value in
    let last : Connection = c.index_mut-connection.result.now in
    let kept : ◌≡◌ {A = KeepRecord} (record { put = c.len-put.result; serial = c.args.serial; text = c.in_ok-text.text }) (record { put = length last.put; serial = c.args.serial; text = c.args.text.now }) = λ i. record { put = c.len-put.ensures i; serial = c.args.serial; text = c.in_ok-text.ensures i } in
    on_ok_weaker c.push-added.result (λ is. told_last (λ (one : Connection). record one { keeps = one.keeps ++ record { put = length one.put; serial = c.args.serial; text = c.args.text.now } ∷ [] }) c.args.past.now _ _ (c.len-last.result - 1) last _ out (grind (arith, common_steps, ap length out)) c.index_mut-connection.ensures.value (ap (λ (keeps : List KeepRecord). record last { keeps = keeps }) (is ∙ ap (λ (one : KeepRecord). last.keeps ++ one ∷ []) kept)) c.from_vec.ensures) c.push-added.ensures.ok
