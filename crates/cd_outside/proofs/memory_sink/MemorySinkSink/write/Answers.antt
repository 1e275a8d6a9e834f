use Rattle.std.proofs.Common.{◌≡◌, ◌∙◌, [], Some, refl, ap, sym, arith}
use Rattle.std.proofs.lemmas.Grind.{common_steps}
use Rattle.std.proofs.lemmas.List.{append-nil}
use Rattle.cd_outside.proofs.memory_sink.MemorySinkSink.write.Goals as goal

-- nothing of the piece was given
pub returns-then-is_err-clause-bytes : goal.returns-then-is_err-clause-bytes
returns-then-is_err-clause-bytes c =
    let same : c.append.new.self ≡ c.args.self.now.bytes = grind (arith, common_steps) in
    ([], (0, c.requires, refl), ap Some (same ∙ sym (append-nil c.args.self.now.bytes)))
