use Rattle.std.specs.Prelude.{All, IsUtf8}
use Rattle.std.proofs.lemmas.List.Elements.{All-head, All-tail}
use Rattle.std.proofs.Common.{ℕ, List, subst, ◌≡◌, ◌+◌, ◌==◌, ◌++◌, [], map, ap, ◌∙◌, arith}
use Rattle.std.specs.List.{before_first, after_first}
use Rattle.cd_caddyfile.specs.Blocks.{last, end, preceded_by, nested}
use Rattle.cd_caddyfile.specs.Lines.{lines_of, line_of, without_return}
use Rattle.cd_caddyfile.proofs.FaultSteps.{first_line, last_line, shorter, nested_line, nested_end}
use Rattle.cd_caddyfile.proofs.WordSteps.{if_ok}
use Rattle.cd_adapt.specs.Splitting.{site_made, sites_left}
use Rattle.cd_adapt.proofs.SplitSteps.{starts_split, starts_sites}
use Rattle.cd_adapt.proofs.splitting.sites_of.Goals as goal

pub lines-init : goal.lines-init
lines-init c = record {
  sites = λ tests_of. starts_sites tests_of c.new-splitter.result (nested 1 (lines_of c.args.bytes.now)) c.new-splitter.ensures.sites c.new-splitter.ensures.current;
  split = starts_split c.new-splitter.result c.new-splitter.ensures.sites c.new-splitter.ensures.current;
  texts = c.requires.texts;
  count = omega arith;
}

pub lines-preserved : goal.lines-preserved
lines-preserved c =
    let rest = c.lines.rest.now in
    let line = c.in-Some.line.now in
    let after = c.in-Some.after.now in
    let n = c.lines.number in
    let line-is : line ≡ before_first (λ b. b == 10) rest = c.in-Some.ensures.1 in
    let after-is : after ≡ after_first (λ b. b == 10) rest = c.in-Some.ensures.2 in
    let all-is = first_line rest line after c.in-Some.ensures.0 line-is after-is in
    let less = shorter rest after c.in-Some.ensures.0 after-is in
    record {
      sites = λ tests_of. c.lines.invariant.sites tests_of
          ∙ (ap (λ N. map (site_made tests_of) c.lines.splitter.sites ++ sites_left tests_of c.lines.splitter.current N) (nested_line n (lines_of rest) (lines_of after) (without_return line) all-is)
          ∙ c.in_ok-read-in-Some.ensures.sites tests_of (nested (n + 1) (lines_of after)));
      split = c.in_ok-read-in-Some.ensures.split;
      texts = All-tail (λ l. IsUtf8 l) (without_return line) (lines_of after) (subst (λ (ls : List (List ℕ)). All (λ l. IsUtf8 l) ls) all-is c.lines.invariant.texts);
      count = omega (arith, less, c.lines.invariant.count);
    }

pub returns-in-None-clause-sites : goal.returns-in-None-clause-sites
returns-in-None-clause-sites c =
    let rest = c.lines.rest.now in
    let n = c.lines.number in
    if_ok c.finish.result (λ made known tests_of. c.lines.invariant.sites tests_of
    ∙ (ap (λ N. map (site_made tests_of) c.lines.splitter.sites ++ sites_left tests_of c.lines.splitter.current N)
    (nested_line n (lines_of rest) [] (without_return rest) (last_line rest c.in-None.ensures) ∙ ap (λ tail. preceded_by n (line_of (without_return rest)) tail) (nested_end (n + 1)))
    ∙ (c.in_ok-read-in-None.ensures.sites tests_of (last end) ∙ known tests_of))) c.finish.ensures.sites

pub returns-in-None-clause-few : goal.returns-in-None-clause-few
returns-in-None-clause-few c =
    if_ok c.finish.result (λ made few. omega (arith, few, c.in_ok-read-in-None.ensures.split.few, c.lines.invariant.count)) c.finish.ensures.few

pub read-requires-in-Some-clause-text : goal.read-requires-in-Some-clause-text
read-requires-in-Some-clause-text c =
    let rest = c.lines.rest.now in
    let line = c.in-Some.line.now in
    let after = c.in-Some.after.now in
    let all-is = first_line rest line after c.in-Some.ensures.0 c.in-Some.ensures.1 c.in-Some.ensures.2 in
    All-head (λ l. IsUtf8 l) (without_return line) (lines_of after) (subst (λ (ls : List (List ℕ)). All (λ l. IsUtf8 l) ls) all-is c.lines.invariant.texts)

pub read-requires-clause-text : goal.read-requires-clause-text
read-requires-clause-text c =
    let rest = c.lines.rest.now in
    All-head (λ l. IsUtf8 l) (without_return rest) [] (subst (λ (ls : List (List ℕ)). All (λ l. IsUtf8 l) ls) (last_line rest c.in-None.ensures) c.lines.invariant.texts)
