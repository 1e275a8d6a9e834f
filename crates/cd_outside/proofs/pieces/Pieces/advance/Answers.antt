use Rattle.std.proofs.Common.{◌≡◌, ◌<◌, ◌∙◌, ℕ, List, length, ap, subst}
use Rattle.cd_outside.specs.Pieces.{left_after}
use Rattle.cd_outside.specs.Places.{left_of, piece_at}
use Rattle.cd_outside.proofs.Left.{read_on}
use Rattle.cd_outside.proofs.pieces.Pieces.advance.Goals as goal

pub returns : goal.returns
returns c =
    let ps : List (List ℕ) = c.self.inside.pieces in
    let next : ℕ = c.skip.new.next in
    let offset : ℕ = c.skip.new.offset in
    let some : next < length ps → offset < length (piece_at ps next) = subst (λ (xs : List (List ℕ)). next < length xs → offset < length (piece_at xs next)) c.as_slice.ensures c.skip.ensures.some in
    let same : left_of ps next offset ≡ left_of ps c.self.inside.next c.self.inside.offset = subst (λ (xs : List (List ℕ)). left_of xs next offset ≡ left_of xs c.self.inside.next c.self.inside.offset) c.as_slice.ensures c.skip.ensures.left in
    read_on ps next offset c.args.count some ∙ ap (left_after c.args.count) (same ∙ c.self.view_is)
