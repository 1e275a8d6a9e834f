use Rattle.std.proofs.Common.{◌≡◌, None, sym, ap, ◌∙◌, subst, arith, rules}
use Rattle.std.specs.Str.{IsUtf8}
use Rattle.serde_json.specs.Read.{read}
use Rattle.cd_tree.specs.Marked.{IsTextOf}
use Rattle.cd_tree.proofs.Outcomes.{reads, reads_not}
use Rattle.cd_tree.proofs.marking.read_marked.Goals as goal

pub returns-in-Ok-text_marked-clause-ok : goal.returns-in-Ok-text_marked-clause-ok
returns-in-Ok-text_marked-clause-ok c =
    let bytes = c.args.bytes.now in
    let same : c.in-Ok.text.now ≡ bytes = search rules in
    let utf8 : IsUtf8 bytes = search rules in
    let one = subst (λ b. IsTextOf b c.in-Ok-text_marked.tree) same c.in-Ok-text_marked.ensures.ok in
    record { reading = one.reading; reads = reads bytes one.reading utf8 one.reads; shows = one.shows }

pub returns-in-Err-NotJson-clause-err : goal.returns-in-Err-NotJson-clause-err
returns-in-Err-NotJson-clause-err c other =
    let same : c.in-Ok.text.now ≡ c.args.bytes.now = search rules in
    let none : read c.in-Ok.text.now ≡ None = c.text_marked.ensures.err (grind arith) in
    reads_not c.args.bytes.now (λ utf8. ap read (sym same) ∙ none)

pub returns-in_default-clause-err : goal.returns-in_default-clause-err
returns-in_default-clause-err c other = reads_not c.args.bytes.now (λ utf8. absurd (c.in_default.ensures utf8))
