use Rattle.std.proofs.Common.{ℕ, List, ◌++◌, subst, ap, ◌∙◌}
use Rattle.cd_wire.specs.Chunks.{HasData}
use Rattle.cd_wire.proofs.ReadingLemmas.{read_step, last_after, going_after, refused_after}
use Rattle.cd_wire.proofs.bodies.read_chunks.Goals as goal

-- one more chunk
pub chunks-preserved : goal.chunks-preserved
chunks-preserved c =
    let rest = c.rest_from-rest.result.now in
    let d = subst (λ (k : ℕ). HasData k rest c.in-Data.start c.in-Data.size c.in-Data.next) c.len.ensures c.in-Data.ensures in
    read_step c.args.found.now c.args.text.now c.chunks.found rest c.append.new.self c.chunks.at c.in-Data.start c.in-Data.size
    c.in-Data.next c.chunks.invariant c.rest_from-rest.ensures d
    (c.in-Ok.ensures.ok ∙ ap (λ (t : List ℕ). c.chunks.found ++ t) c.part_of.ensures)

-- the last one
pub returns-in-Last-clause-ok : goal.returns-in-Last-clause-ok
returns-in-Last-clause-ok c =
    last_after c.args.found.now c.args.text.now c.chunks.found c.rest_from-rest.result.now c.chunks.at c.in-Last.next
    c.chunks.invariant c.rest_from-rest.ensures c.in-Last.ensures.0 c.in-Last.ensures.1 c.replace-all.result
    c.replace-all.ensures.value

-- no whole one yet
pub returns-in-Partial-clause-ok : goal.returns-in-Partial-clause-ok
returns-in-Partial-clause-ok c =
    going_after c.args.found.now c.args.text.now c.chunks.found c.rest_from-rest.result.now c.chunks.at c.len.result
    c.chunks.invariant c.rest_from-rest.ensures c.len.ensures c.in-Partial.ensures.0 c.in-Partial.ensures.1

-- a fault
pub returns-in-Refused-clause-ok : goal.returns-in-Refused-clause-ok
returns-in-Refused-clause-ok c =
    refused_after c.args.found.now c.args.text.now c.chunks.found c.rest_from-rest.result.now c.cut_back-in-Refused.new.found
    c.chunks.at c.len.result c.len-had.result c.in-Refused.fault c.chunks.invariant c.rest_from-rest.ensures c.len.ensures
    c.in-Refused.ensures.0 c.in-Refused.ensures.1 c.len-had.ensures c.cut_back-in-Refused.ensures
