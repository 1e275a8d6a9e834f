use Rattle.std.proofs.Common.{◌≡◌, ◌++◌}
use Rattle.form_urlencoded.specs.Form.{byte_serialize}
use Rattle.form_urlencoded.specs.Serialize.{serialized_text}
use Rattle.cd_fill.proofs.treating.put_encoded.Given as goal

abbrev pub invariant-loop-piece : goal.invariant-loop-piece
invariant-loop-piece l = l.initial.out ++ byte_serialize l.value ≡ l.out ++ serialized_text l.piece-iterator
