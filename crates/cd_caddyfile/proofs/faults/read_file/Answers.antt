use Rattle.std.proofs.Common.{◌≡◌, ◌+◌, ◌==◌, [], sym, ap, ◌∙◌, arith}
use Rattle.std.specs.List.{before_first, after_first}
use Rattle.cd_caddyfile.specs.Blocks.{last, end, preceded_by, nested}
use Rattle.cd_caddyfile.specs.Faults.{sooner, first_fault, line_faults}
use Rattle.cd_caddyfile.specs.Lines.{lines_of, line_of, without_return}
use Rattle.cd_caddyfile.proofs.FaultSteps.{at_start, first_line, last_line, shorter, text_on, text_end, nested_line, nested_end, reads_on}
use Rattle.cd_caddyfile.proofs.faults.read_file.Goals as goal

pub lines-init : goal.lines-init
lines-init c = record {
  text = sym (ap (λ f. sooner f (first_fault (line_faults 1 (lines_of c.args.bytes.now)))) c.new-file.ensures.text);
  all = at_start c.args.bytes.now c.new-file.result.reader c.new-file.ensures.fault c.new-file.ensures.sites c.new-file.ensures.defined c.new-file.ensures.used c.new-file.ensures.tested c.new-file.ensures.no_blocks;
  count = omega arith;
}

pub lines-preserved : goal.lines-preserved
lines-preserved c =
    let rest = c.lines.rest.now in
    let line = c.in-Some.line.now in
    let after = c.in-Some.after.now in
    let n = c.lines.number in
    let line-is : line ≡ before_first (λ b. b == 10) rest = c.in-Some.ensures.1 in
    let after-is : after ≡ after_first (λ b. b == 10) rest = c.in-Some.ensures.2 in
    let all-is = first_line rest line after c.in-Some.ensures.0 line-is after-is in
    let less = shorter rest after c.in-Some.ensures.0 after-is in
    record {
      text = text_on _ c.lines.file.text_fault c.take-in-Some.new.self.text_fault n (lines_of rest) (lines_of after) (without_return line) all-is c.lines.invariant.text c.in_ok-take-in-Some.ensures.text;
      all = reads_on _ c.lines.file.reader c.take-in-Some.new.self.reader (nested n (lines_of rest)) (preceded_by n (line_of (without_return line)) (nested (n + 1) (lines_of after)))
          (nested (n + 1) (lines_of after)) (nested_line n (lines_of rest) (lines_of after) (without_return line) all-is) c.lines.invariant.all
          (c.in_ok-take-in-Some.ensures.goes (nested (n + 1) (lines_of after)));
      count = omega (arith, less, c.lines.invariant.count);
    }

pub returns-in-None-clause-lines : goal.returns-in-None-clause-lines
returns-in-None-clause-lines c =
    let rest = c.lines.rest.now in
    text_end _ c.take.new.self.text_fault (c.lines.number + 1)
    (text_on _ c.lines.file.text_fault c.take.new.self.text_fault c.lines.number (lines_of rest) [] (without_return rest) (last_line rest c.in-None.ensures) c.lines.invariant.text
    c.in_ok-take-in-None.ensures.text)

pub returns-in-None-clause-all : goal.returns-in-None-clause-all
returns-in-None-clause-all c =
    let rest = c.lines.rest.now in
    let n = c.lines.number in
    reads_on _ c.lines.file.reader c.take.new.self.reader (nested n (lines_of rest)) (preceded_by n (line_of (without_return rest)) (last end)) (last end)
    (nested_line n (lines_of rest) [] (without_return rest) (last_line rest c.in-None.ensures)
    ∙ ap (λ tail. preceded_by n (line_of (without_return rest)) tail) (nested_end (n + 1)))
    c.lines.invariant.all (c.in_ok-take-in-None.ensures.goes (last end))
