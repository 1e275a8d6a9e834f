use Rattle.std.proofs.Common.{List, ℕ, length, subst, sym}
use Rattle.cd_wire.specs.Taking.{IsBegun}
use Rattle.cd_wire.proofs.TakingLemmas.{no_length, is_nil}
use Rattle.cd_wire.proofs.taking.search_on.Goals as goal

-- nothing came
pub returns-then-is_empty : goal.returns-then-is_empty
returns-then-is_empty c =
    let none = no_length (length c.args.bytes.now) c.is_empty.result c.is_empty.ensures c.if-is_empty.true in
    subst (λ (input : List ℕ). IsBegun input c.args.ended c.no_input.result) (sym (is_nil c.args.bytes.now none)) c.no_input.ensures
