use Rattle.std.proofs.Common.{ℕ, List, drop, subst, inl, inr}
use Rattle.httparse.specs.Grammar.{HasNoChunkLine, NeverHasChunkLine, MayBecomeChunkLine}
use Rattle.cd_wire.proofs.LineLemmas.{line_found, no_line_in_front, short_may}
use Rattle.cd_wire.proofs.chunks.read_line.Goals as goal

pub returns-then-size-most : goal.returns-then-size-most
returns-then-size-most c =
    let found = rw c.in-Ok-Complete.field-0-is at c.in-Ok-Complete.ensures.complete in
    let line = line_found c.args.text.now c.front_of.result.now c.in-Ok-Complete.len c.in-Ok-Complete.size found.0
    c.front_of.ensures.value c.front_of.ensures.short c.front_of.ensures.within found.1 in
    (c.in-Ok-Complete.size, drop c.in-Ok-Complete.len c.args.text.now, line.1, c.if-size-most.true)

pub returns-else-size-most : goal.returns-else-size-most
returns-else-size-most c =
    let found = rw c.in-Ok-Complete.field-0-is at c.in-Ok-Complete.ensures.complete in
    let line = line_found c.args.text.now c.front_of.result.now c.in-Ok-Complete.len c.in-Ok-Complete.size found.0
    c.front_of.ensures.value c.front_of.ensures.short c.front_of.ensures.within found.1 in
    (line.0, c.if-size-most.false, line.1)

pub returns-then-text-ge-MAX_CHUNK_LINE_BYTES : goal.returns-then-text-ge-MAX_CHUNK_LINE_BYTES
returns-then-text-ge-MAX_CHUNK_LINE_BYTES c =
    let none = rw c.in-Ok-Partial.field-0-is at c.in-Ok-Partial.ensures.partial in
    inr (c.if-text-ge-MAX_CHUNK_LINE_BYTES.true, subst (λ (b : List ℕ). HasNoChunkLine b) c.front_of.ensures.value none)

pub returns-else-text-ge-MAX_CHUNK_LINE_BYTES : goal.returns-else-text-ge-MAX_CHUNK_LINE_BYTES
returns-else-text-ge-MAX_CHUNK_LINE_BYTES c =
    let none = rw c.in-Ok-Partial.field-0-is at c.in-Ok-Partial.ensures.partial in
    let may = rw c.in-Ok-Partial.field-0-is at c.in-Ok-Partial.ensures.unfinished in (
      no_line_in_front c.args.text.now (subst (λ (b : List ℕ). HasNoChunkLine b) c.front_of.ensures.value none),
      short_may c.args.text.now c.if-text-ge-MAX_CHUNK_LINE_BYTES.false
          (subst (λ (b : List ℕ). MayBecomeChunkLine b) c.front_of.ensures.value may),
    )

pub returns-in-Err : goal.returns-in-Err
returns-in-Err c = inl (subst (λ (b : List ℕ). NeverHasChunkLine b) c.front_of.ensures.value c.in-Err.ensures.invalid)
