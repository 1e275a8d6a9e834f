use Rattle.std.proofs.Common.{◌≡◌, ◌≤◌, ◌<◌, ◌+◌, ◌-◌, List, length, drop, sym, ap, subst, ◌∙◌, arith}
use Rattle.cd_caddyfile.proofs.WordSteps.{if_ok}
use Rattle.cd_caddyfile.specs.Blocks.{last, end}
use Rattle.cd_adapt.specs.Laying.{AreLaid}
use Rattle.std.proofs.lemmas.List.Elements.{All-get_or}
use Rattle.cd_adapt.specs.Splitting.{followed, IsReadLine, AreReadLines}
use Rattle.cd_adapt.specs.declared.splitting.Numbered.{Numbered}
use Rattle.cd_adapt.proofs.SplitSteps.{followed_before, followed_all}
use Rattle.cd_adapt.proofs.LayingSteps.{starts_laid, all_routes}
use Rattle.cd_adapt.proofs.laying.routes_of.Goals as goal

pub lines-init : goal.lines-init
lines-init c = record {
  within = omega arith;
  laid = λ tests_of agrees. starts_laid tests_of c.args.next c.as_slice-lines.result.now c.new-layout.result.outer c.new-layout.result.here c.new-layout.result.free c.new-layout.ensures.outer c.new-layout.ensures.here c.new-layout.ensures.free;
}

pub lines-preserved : goal.lines-preserved
lines-preserved c =
    let i = c.lines.left - 1 in
    let all = c.as_slice-lines.result.now in
    let x = c.index-lines-left.result in
    let within : i < length all = omega (arith, c.lines.invariant.within) in
    let next : c.lines.left ≡ i + 1 = omega arith in
    record {
      within = omega (arith, c.lines.invariant.within);
      laid = λ tests_of agrees.
          subst (λ N. AreLaid tests_of c.args.next N c.take.new.self.outer c.take.new.self.here c.take.new.self.free) (sym (followed_before i c.lines.left all x (last end) within next c.index-lines-left.is))
          (c.in_ok-take.ensures tests_of c.args.next (followed (drop c.lines.left all) (last end)) agrees (c.lines.invariant.laid tests_of agrees));
    }

pub returns : goal.returns
returns c =
    let all = c.as_slice-lines.result.now in
    let none : c.lines.left ≤ 0 = omega arith in
    let same : followed (drop c.lines.left all) (last end) ≡ followed c.args.site.now.lines (last end) =
    followed_all c.lines.left all (last end) none ∙ ap (λ (ls : List Numbered). followed ls (last end)) c.as_slice-lines.ensures in
    if_ok c.routes_at.result (λ made made-is tests_of first agrees is.
    all_routes tests_of (followed c.args.site.now.lines (last end)) c.lines.layout.outer c.lines.layout.here c.lines.layout.free first c.args.next made c.requires.closed
    (subst (λ N. AreLaid tests_of c.args.next N c.lines.layout.outer c.lines.layout.here c.lines.layout.free) same (c.lines.invariant.laid tests_of agrees)) is made-is) c.routes_at.ensures

pub take-requires : goal.take-requires
take-requires c =
    let i = c.lines.left - 1 in
    let all = c.as_slice-lines.result.now in
    let within : i < length all = omega (arith, c.lines.invariant.within) in
    subst IsReadLine (sym c.index-lines-left.is)
    (All-get_or IsReadLine all i _ within (subst AreReadLines (sym c.as_slice-lines.ensures) c.requires.lines))
