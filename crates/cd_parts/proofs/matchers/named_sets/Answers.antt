use Rattle.std.proofs.Common.{◌∙◌, ap, arith, map}
use Rattle.std.proofs.lemmas.List.{take_all}
use Rattle.cd_parts.specs.Lines.{lines_at, set_from}
use Rattle.cd_parts.proofs.LineLaws.{sets_from_lines, texts_of_lines}
use Rattle.cd_parts.proofs.matchers.named_sets.Goals as goal

pub named_set-requires : goal.named_set-requires
named_set-requires c =
    let line = c.matcher-item.result.line in
    texts_of_lines c.args.tested.now (lines_at c.in_ok-lines.lines line) line c.requires (c.in_ok-lines.ensures line)

pub returns : goal.returns
returns c =
    c.loop-matcher.invariant
    ∙ ap (map (λ d. set_from (lines_at c.in_ok-lines.lines d.line) d)) (take_all c.loop-matcher.matcher-index c.args.defined.now (omega (arith, c.loop-matcher-test.false)))
    ∙ sets_from_lines c.args.tested.now c.in_ok-lines.lines c.in_ok-lines.ensures c.args.defined.now
