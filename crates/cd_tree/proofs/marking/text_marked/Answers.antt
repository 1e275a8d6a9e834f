use Rattle.std.proofs.Common.{◌≡◌, [], ◌∷◌, arith, rules}
use Rattle.json.specs.Lex.{tokens}
use Rattle.json.specs.Reads.{token_of}
use Rattle.cd_tree.proofs.Marks.{text_reads, text_fails, text_goes_on}
use Rattle.cd_tree.proofs.marking.text_marked.Goals as goal

pub returns-in_err-tree-clause-err : goal.returns-in_err-tree-clause-err
returns-in_err-tree-clause-err c refused =
    let is : c.in_ok-reader.reader ≡ tokens c.args.text.now = search rules in
    text_fails c.args.text.now c.in_ok-reader.reader is (c.value_marked.ensures.err (grind arith))

pub returns-in-Some-clause-err : goal.returns-in-Some-clause-err
returns-in-Some-clause-err c refused =
    let is : c.in_ok-reader.reader ≡ tokens c.args.text.now = search rules in
    let more : c.value_marked.new.reader ≡ token_of c.in-Some.field-0 ∷ c.next.new.self = search rules in
    text_goes_on c.args.text.now c.in_ok-reader.reader c.value_marked.new.reader c.in_ok-tree.tree (token_of c.in-Some.field-0) c.next.new.self is more c.in_ok-tree.ensures.ok

pub returns-clause-ok : goal.returns-clause-ok
returns-clause-ok c =
    let is : c.in_ok-reader.reader ≡ tokens c.args.text.now = search rules in
    let none : c.value_marked.new.reader ≡ [] = search rules in
    text_reads c.args.text.now c.in_ok-reader.reader c.value_marked.new.reader c.in_ok-tree.tree is none c.in_ok-tree.ensures.ok
