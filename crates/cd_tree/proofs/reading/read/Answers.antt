use Rattle.std.proofs.Common.{◌≡◌, length, ◌<◌, ◌≤◌, true, false, arith, rules}
use Rattle.std.proofs.lemmas.Result.{err_from_is_err_and}
use Rattle.serde_json.specs.Data as json
use Rattle.cd_tree.specs.Marked.{is_whole}
use Rattle.cd_tree.specs.declared.limits.TheConstants.{MAX_DEPTH, MAX_TEXT_BYTES}
use Rattle.cd_tree.proofs.Marks.{marked_deep, marked_tree, marked_fault}
use Rattle.cd_tree.proofs.Outcomes.{not_above, too_long, unread, too_deep, no_tree, long_text, is_tree}
use Rattle.cd_tree.proofs.Soundness.{tree_of-sound}
use Rattle.cd_tree.proofs.reading.read.Goals as goal

pub returns-then-is_too_long-clause-exact : goal.returns-then-is_too_long-clause-exact
returns-then-is_too_long-clause-exact c _ = too_long c.args.bytes.now (c.if-is_too_long.ensures.0 (search rules))

pub returns-in_err-tree-clause-exact : goal.returns-in_err-tree-clause-exact
returns-in_err-tree-clause-exact c =
    let short = not_above MAX_TEXT_BYTES (length c.args.bytes.now) c.if-is_too_long.ensures.1 in
    let p = err_from_is_err_and c.from_residual.result c.from_residual.ensures.1 in
    rw (p.1, p.2) (λ other. unread c.args.bytes.now _ short (c.in_err-tree.ensures.err other))

pub returns-then-is_too_deep-clause-exact : goal.returns-then-is_too_deep-clause-exact
returns-then-is_too_deep-clause-exact c _ =
    let short = not_above MAX_TEXT_BYTES (length c.args.bytes.now) c.if-is_too_long.ensures.1 in
    let one = c.in_ok-tree.ensures.ok in
    let above : MAX_DEPTH < c.nesting.result = c.if-is_too_deep.ensures.0 (search rules) in
    too_deep c.args.bytes.now one.reading short one.reads (omega (arith, above, c.nesting.ensures, marked_deep one.reading c.in_ok-tree.tree one.shows))

pub returns-then-not-is_whole-clause-exact : goal.returns-then-not-is_whole-clause-exact
returns-then-not-is_whole-clause-exact c _ =
    let short = not_above MAX_TEXT_BYTES (length c.args.bytes.now) c.if-is_too_long.ensures.1 in
    let one = c.in_ok-tree.ensures.ok in
    let below = not_above MAX_DEPTH c.nesting.result c.if-is_too_deep.ensures.1 in
    let shallow : json.depth one.reading ≤ MAX_DEPTH = omega (arith, below, c.nesting.ensures, marked_deep one.reading c.in_ok-tree.tree one.shows) in
    let marks : is_whole c.in_ok-tree.tree ≡ false = search rules in
    no_tree c.args.bytes.now one.reading _ short one.reads shallow (marked_fault one.reading c.in_ok-tree.tree one.shows marks)

pub returns-then-is_too_long-2-clause-exact : goal.returns-then-is_too_long-2-clause-exact
returns-then-is_too_long-2-clause-exact c _ =
    let short = not_above MAX_TEXT_BYTES (length c.args.bytes.now) c.if-is_too_long.ensures.1 in
    let one = c.in_ok-tree.ensures.ok in
    let t = c.in_ok-tree.tree in
    let below = not_above MAX_DEPTH c.nesting.result c.if-is_too_deep.ensures.1 in
    let shallow : json.depth one.reading ≤ MAX_DEPTH = omega (arith, below, c.nesting.ensures, marked_deep one.reading t one.shows) in
    let whole : is_whole t ≡ true = search rules in
    let above : MAX_TEXT_BYTES < c.text_length.result = c.if-is_too_long-2.ensures.0 (search rules) in
    long_text c.args.bytes.now one.reading t short one.reads shallow (marked_tree one.reading t one.shows whole) (omega (arith, above, c.text_length.ensures))

pub returns-clause-exact : goal.returns-clause-exact
returns-clause-exact c =
    let short = not_above MAX_TEXT_BYTES (length c.args.bytes.now) c.if-is_too_long.ensures.1 in
    let one = c.in_ok-tree.ensures.ok in
    let t = c.in_ok-tree.tree in
    let below = not_above MAX_DEPTH c.nesting.result c.if-is_too_deep.ensures.1 in
    let shallow : json.depth one.reading ≤ MAX_DEPTH = omega (arith, below, c.nesting.ensures, marked_deep one.reading t one.shows) in
    let whole : is_whole t ≡ true = search rules in
    let fits = not_above MAX_TEXT_BYTES c.text_length.result c.if-is_too_long-2.ensures.1 in
    is_tree c.args.bytes.now one.reading t short one.reads shallow (marked_tree one.reading t one.shows whole) (omega (arith, fits, c.text_length.ensures))

pub returns-clause-sound : goal.returns-clause-sound
returns-clause-sound c = tree_of-sound c.args.bytes.now c.in_ok-tree.tree (returns-clause-exact c)
