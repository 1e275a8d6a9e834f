use Rattle.std.proofs.Common.{◌++◌, ◌∙◌, ℕ, List, take, Some, ap, sym}
use Rattle.cd_text.specs.Steps.{joined}
use Rattle.cd_outside.specs.Pieces.{left_after}
use Rattle.cd_outside.proofs.Left.{read_front}
use Rattle.cd_outside.proofs.memory_source.MemorySourceSource.read.Goals as goal

pub returns-in_default-clause-bytes : goal.returns-in_default-clause-bytes
returns-in_default-clause-bytes c =
    let before : List (List ℕ) = c.args.self.now.pieces in
    let count : ℕ = c.read.result in
    ap Some (
    read_front count before
    ∙ ap (λ (front : List ℕ). front ++ joined (left_after count before)) (sym c.read.ensures.bytes)
    ∙ ap (λ (left : List (List ℕ)). take count c.read.new.into ++ joined left) (sym c.read.ensures.left)
    )
