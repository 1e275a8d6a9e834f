use Rattle.std.proofs.Common.{refl}
use Rattle.cd_tree.proofs.Outcomes.{reads, reads_not}
use Rattle.cd_tree.proofs.json_place.place_of_json_fault.Goals as goal

pub returns-in_default : goal.returns-in_default
returns-in_default c =
    let h = c.in_default.ensures.ok in
    let read = reads _ _ h.0 h.1 in
    ((λ none. cc), λ refused. cc)

pub returns-in_default-classify : goal.returns-in_default-classify
returns-in_default-classify c =
    ((λ _. reads_not c.args.bytes.now (c.in-Err.ensures.err (λ memory. c.in_default-classify.not-Memory (c.classify.ensures.memory.1 memory)))), λ _. refl)
