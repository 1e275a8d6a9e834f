-- What `tree_of` gives is sound.
use Rattle.std.proofs.Common.{◌≡◌, ℕ, List, length, not, nat_lt, Option, Some, None, Ok, sym, ap, ◌∙◌}
use Rattle.std.proofs.lemmas.Bool.{ltb-false}
use Rattle.std.specs.Str.{is_utf8}
use Rattle.serde_json.specs.Data as json
use Rattle.serde_json.specs.Read.{read}
use Rattle.cd_text.specs.Steps.{◌▷◌, some_or}
use Rattle.cd_tree.specs.Tree.{text, IsSound}
use Rattle.cd_tree.specs.Reading.{of_reading, json_reading, tree_of}
use Rattle.cd_tree.specs.declared.fault.TreeFault.TheVariants.{NotJson, TooDeep, TooLong}
use Rattle.cd_tree.specs.declared.limits.TheConstants.{MAX_DEPTH, MAX_TEXT_BYTES}
use Rattle.cd_tree.specs.declared.tree.Tree.{Tree}
use Rattle.cd_tree.proofs.Inside.{from_parts}
use Rattle.cd_tree.proofs.Outcomes.{chained, passed, if_short, of_json}
use Rattle.cd_tree.proofs.Readings.{is_same}
use Rattle.cd_tree.proofs.Rising.{read_rises, tree_ordered}

some : (o : Option json.Data) (d : json.Data) → some_or NotJson o ≡ Ok d → o ≡ Some d
some None d e = absurd (let no : ⊥ = cc in no)
some (Some d) e f = let is : d ≡ e = cc in ap Some is

pub tree_of-sound : (b : List ℕ) (t : Tree) → tree_of b ≡ Ok t → IsSound t
unfolding tree_of
tree_of-sound b t e =
    let short = passed (nat_lt MAX_TEXT_BYTES (length b)) TooLong (json_reading b ▷ of_json) t e in
    let reading = chained (json_reading b) of_json t short.1 in
    let d = reading.0 in
    let utf8 = passed (not (is_utf8 b)) NotJson (some_or NotJson (read b)) d reading.1 in
    let is = some (read b) d utf8.1 in
    let deep = passed (nat_lt MAX_DEPTH (json.depth d)) TooDeep (of_reading d ▷ if_short) t reading.2 in
    let tree = chained (of_reading d) if_short t deep.1 in
    let fits = passed (nat_lt MAX_TEXT_BYTES (length (text tree.0))) TooLong (Ok tree.0) t tree.2 in
    let same : tree.0 ≡ t = let q = fits.1 in cc in
    let whole : of_reading d ≡ Ok t = tree.1 ∙ ap Ok same in
    from_parts t (record {
      ordered = tree_ordered d t whole (read_rises b d is);
      shallow = rw (sym (is_same d t whole).deep) (ltb-false MAX_DEPTH (json.depth d) deep.0);
      short = rw (sym same) (ltb-false MAX_TEXT_BYTES (length (text tree.0)) fits.0);
    })
