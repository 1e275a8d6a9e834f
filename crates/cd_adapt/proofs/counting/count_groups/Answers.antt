use Rattle.std.proofs.Common.{◌≡◌, ◌≤◌, ◌<◌, ◌+◌, ◌-◌, length, drop, sym, subst, ◌∙◌, arith}
use Rattle.cd_caddyfile.specs.Blocks.{last, end, preceded_by}
use Rattle.cd_adapt.specs.Counting.{IsCounted}
use Rattle.std.proofs.lemmas.List.Elements.{All-get_or}
use Rattle.cd_adapt.specs.Splitting.{followed, IsReadLine}
use Rattle.cd_adapt.specs.declared.counting.Counter.{Counter}
use Rattle.cd_adapt.proofs.SplitSteps.{followed_before, followed_all}
use Rattle.cd_adapt.proofs.CountSteps.{starts_counted, starts_size, all_groups}
use Rattle.cd_adapt.proofs.counting.count_groups.Goals as goal

pub lines-init : goal.lines-init
lines-init c =
    let start : Counter = record { «open» = c.new.result; here = c.none.result } in
    record {
      within = omega arith;
      few = omega (arith, starts_size start c.new.ensures c.none.ensures);
      counted = λ tests_of. starts_counted tests_of c.args.lines.now start c.new.ensures c.none.ensures;
    }

pub lines-preserved : goal.lines-preserved
lines-preserved c =
    let i = c.lines.left - 1 in
    let all = c.args.lines.now in
    let x = c.index-lines-left.result in
    let within : i < length all = omega (arith, c.lines.invariant.within) in
    let next : c.lines.left ≡ i + 1 = omega arith in
    record {
      within = omega (arith, c.lines.invariant.within);
      few = omega (arith, c.lines.invariant.few, c.in_ok-take.ensures.size);
      counted = λ tests_of.
          subst (λ N. IsCounted tests_of N c.take.new.self) (sym (followed_before i c.lines.left all x (last end) within next c.index-lines-left.is))
          (c.in_ok-take.ensures.counted tests_of x.number (followed (drop c.lines.left all) (last end)) (c.lines.invariant.counted tests_of));
    }

pub take-requires-clause-words : goal.take-requires-clause-words
take-requires-clause-words c =
    let i = c.lines.left - 1 in
    let all = c.args.lines.now in
    let within : i < length all = omega (arith, c.lines.invariant.within) in
    (subst IsReadLine (sym c.index-lines-left.is) (All-get_or IsReadLine all i _ within c.requires.read)).words

pub returns-clause-groups : goal.returns-clause-groups
returns-clause-groups c tests_of =
    let none : c.lines.left ≤ 0 = omega arith in
    c.count.ensures ∙ all_groups tests_of (followed c.args.lines.now (last end)) c.lines.counter
    (subst (λ N. IsCounted tests_of N c.lines.counter) (followed_all c.lines.left c.args.lines.now (last end) none) (c.lines.invariant.counted tests_of))
