-- What is told of a call is what its clause allows.
use Rattle.std.proofs.Common.{◌≡◌, ◌<◌, ◌++◌, ◌∙◌, ℕ, List, [], ◌∷◌, length, take, drop, Some, refl, sym, ap, subst}
use Rattle.cd_outside.specs.declared.past.Past.{Past}
use Rattle.cd_outside.specs.declared.received.Received.{Received}
use Rattle.cd_outside.specs.declared.received.Received.TheVariants as received
use Rattle.cd_outside.specs.declared.given.Given.{Given}
use Rattle.cd_outside.specs.Given.{IsGivenOf}
use Rattle.cd_outside.specs.Past.{after_put}
use Rattle.cd_outside.specs.Received.{IsReceived, after_receipt}
use Rattle.cd_link.specs.Came.{came}

-- a part that was given is reported
pub tells_part : (r : Given) (n : ℕ) (piece : List ℕ) (told after : Past) → after ≡ after_put (take n piece) told → IsGivenOf r (take n piece) piece
    → (part : List ℕ) × IsGivenOf r part piece × (Some after ≡ Some (after_put part told))
tells_part r n piece told after is given = (take n piece, given, ap Some is)

-- what follows a front
behind : (xs ys : List ℕ) → drop (length xs) (xs ++ ys) ≡ ys
behind [] ys = refl
behind (x ∷ xs) ys = behind xs ys

-- where a piece was received, the bytes that are seen to have come are such a piece
seen_piece : (r : Received) (piece before now : List ℕ) → IsReceived r piece before now → IsReceived r (came r before now) before now
seen_piece received.Some piece before now is =
    subst (λ (x : List ℕ). (0 < length x) × (now ≡ before ++ x)) (sym (ap (drop (length before)) is.1 ∙ behind before piece)) is
seen_piece received.End piece before now is = is
seen_piece received.Failed piece before now is = is
seen_piece received.Lacking piece before now is = is

pub tells_receipt : (r : Received) (piece kept before now : List ℕ) (told after : Past) → after ≡ after_receipt r (came r kept now) told → kept ≡ before → IsReceived r piece before now
    → (p : List ℕ) × IsReceived r p before now × (Some after ≡ Some (after_receipt r p told))
tells_receipt r piece kept before now told after is same received =
    (came r before now, seen_piece r piece before now received, ap Some (is ∙ ap (λ (k : List ℕ). after_receipt r (came r k now) told) same))
