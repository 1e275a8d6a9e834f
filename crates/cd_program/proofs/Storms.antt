-- A storm: its digits, and its line.
use Rattle.std.proofs.Common.{◌≡◌, ◌≢◌, ◌<◌, ◌∙◌, ℕ, true, List, [], ◌∷◌, length, Option, Some, None, Ok, ap, refl, sym, subst, arith}
use Rattle.std.proofs.lemmas.List.{length-map}
use Rattle.std.proofs.lemmas.Slice.Eq.{bytes_eq-Decides}
use Rattle.cd_outside.specs.declared.given.Given.{Given}
use Rattle.cd_outside.specs.declared.given.Given.TheVariants as given
use Rattle.cd_tree.specs.declared.path.Path.{Path}
use Rattle.cd_tree.specs.declared.tree.Tree.{Tree}
use Rattle.cd_tags.specs.Encoding.{tag_text}
use Rattle.cd_tags.specs.IfMatch.{IsTagOf}
use Rattle.cd_tags.specs.Tags.{digest, digest_at, is_digest, tag_of, tag_holds}
use Rattle.cd_tags.specs.declared.if_match.Tag.{Tag}
use Rattle.cd_outside.specs.declared.past.Past.{Past}
use Rattle.cd_storm.specs.declared.limits.TheConstants.{LANES}
use Rattle.cd_serve.specs.Meanings.{Meaning}
use Rattle.cd_host.specs.Runs.{Observed as Run}
use Rattle.cd_host.specs.Seated.{spans}
use Rattle.cd_program.specs.Storm.{root, HasDigits, IsStorm, storm_line}

-- the tag of a whole tree, as it is read, has the digits of the tree
pub same_digits : (tree : Tree) (path : Path) (text : List ℕ) (tag : Tag) → path.parts ≡ [] → tag_of tree path ≡ Ok text → IsTagOf text tag
    → (path.parts ≢ [] ∷ [] → (tag.path ≡ path) × (tag_holds tree tag ≡ true)) → HasDigits tree tag.hex
same_digits tree path text tag none made is law =
    let held = law (λ one. cc) in
    let there : tag.path ≡ root = held.0 ∙ ap (λ (parts : List (List ℕ)). record { parts = parts }) none in
    let holds : is_digest (digest_at tree root) tag.hex ≡ true = ap (λ (p : Path). is_digest (digest_at tree p) tag.hex) (sym there) ∙ held.1 in
    let same : digest tree ≡ tag.hex = (bytes_eq-Decides (digest tree) tag.hex).0 holds in
    record { tag = ap (λ (hex : List ℕ). Ok (tag_text root hex)) same; are = is.digest }

-- the line is not empty
pub some_line : (line : List ℕ) (number answered published : ℕ) (digits : List ℕ) → line ≡ storm_line number answered published digits → 0 < length line
unfolding storm_line
some_line line number answered published digits is = subst (λ (l : List ℕ). 0 < length l) (sym is) (omega arith)

-- what was given in whole did not fail
pub gave_all : (way : Given) → way ≡ given.All → way ≡ given.Failed → ⊥
gave_all way all failed = cc

-- as many lanes are told of as there are
module _ {L : Type 0} (faults : L → ℕ) (past : L → Option Past) (since : L → Option (List ℕ)) where
  told-of-each : (olds news : List L) → length news ≡ length olds → length (spans faults past since olds news) ≡ length olds
  told-of-each [] news same = refl
  told-of-each (x ∷ xs) [] same = absurd (omega (arith, same))
  told-of-each (x ∷ xs) (y ∷ ys) same = let rest = told-of-each xs ys (omega (arith, same)) in omega (arith, rest)

pub each-lane : (m : Meaning) (number : ℕ) (run : Run) → IsStorm m number run → length run.lanes ≡ LANES
each-lane m number run storm =
    ap length storm.seen
    ∙ told-of-each (λ lane. lane.faults.count) (λ lane. Some lane.past) (λ lane. None) storm.lanes storm.ends storm.count
    ∙ sym (length-map storm.lanes (λ lane. lane.script))
    ∙ ap length storm.are.played
    ∙ refl
