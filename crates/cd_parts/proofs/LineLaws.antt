-- The lines of a matcher alone make its tests.
use Rattle.std.proofs.Common.{◌≡◌, ℕ, Bool, true, false, cond, ◌==◌, if◌then◌else◌, List, [], ◌∷◌, map, refl, sym, ap, subst, ◌∙◌}
use Rattle.std.specs.BTreeMap.{BTreeMap}
use Rattle.std.specs.Borrow.{Bor}
use Rattle.std.specs.Global.{Vec}
use Rattle.std.specs.List.{filter}
use Rattle.std.proofs.lemmas.List.Elements.{All-cons, All-head, All-tail}
use Rattle.cd_caddyfile.specs.FileSites.{tests_at}
use Rattle.cd_caddyfile.specs.Shape.{set_of}
use Rattle.cd_caddyfile.specs.Sites.{Tests, no_tests}
use Rattle.cd_caddyfile.specs.declared.named.Named.{Named}
use Rattle.cd_caddyfile.specs.declared.named.TestLine.{TestLine}
use Rattle.cd_parts.specs.Lines.{is_of, and_lines, lines_at, set_from}
use Rattle.cd_parts.specs.Making.{and_line}
use Rattle.cd_parts.specs.Matching.{named_set}
use Rattle.cd_parts.specs.Measures.{measured}
use Rattle.cd_parts.specs.Texts.{AreTexts, LinesAreTexts}

lines_step : (here : Bool) (matcher : ℕ) (t : Tests) (l : TestLine) (ls : List TestLine) →
    ((t' : Tests) → and_lines t' (filter (is_of matcher) ls) ≡ tests_at matcher t' ls) →
    and_lines t (cond here (l ∷ filter (is_of matcher) ls) (filter (is_of matcher) ls)) ≡ tests_at matcher (if here then and_line t l.words else t) ls
lines_step true matcher t l ls known = known (and_line t l.words)
lines_step false matcher t l ls known = known t

lines_of : (matcher : ℕ) (t : Tests) (ls : List TestLine) → and_lines t (filter (is_of matcher) ls) ≡ tests_at matcher t ls
lines_of matcher t [] = refl
lines_of matcher t (l ∷ ls) = lines_step (l.matcher == matcher) matcher t l ls (λ t'. lines_of matcher t' ls)

set_from_lines : (tested ls : List TestLine) (m : Named) → ls ≡ filter (is_of m.line) tested → set_from ls m ≡ named_set tested m
set_from_lines tested ls m is =
    ap (λ t. record { site = m.site; name = m.name; set = measured (set_of t) }) (ap (and_lines no_tests) is ∙ lines_of m.line no_tests tested)

pub sets_from_lines : (tested : List TestLine) (found : BTreeMap ℕ (Vec (Bor TestLine))) → ((matcher : ℕ) → lines_at found matcher ≡ filter (is_of matcher) tested) →
    (ms : List Named) → map (λ d. set_from (lines_at found d.line) d) ms ≡ map (λ d. named_set tested d) ms
sets_from_lines tested found is [] = refl
sets_from_lines tested found is (m ∷ ms) =
    ap (λ s. s ∷ map (λ d. set_from (lines_at found d.line) d) ms) (set_from_lines tested (lines_at found m.line) m (is m.line))
    ∙ ap (λ l. named_set tested m ∷ l) (sets_from_lines tested found is ms)

texts_step : (here : Bool) (matcher : ℕ) (l : TestLine) (ls : List TestLine) → AreTexts l.words → LinesAreTexts (filter (is_of matcher) ls) →
    LinesAreTexts (cond here (l ∷ filter (is_of matcher) ls) (filter (is_of matcher) ls))
texts_step true matcher l ls is are = All-cons (λ (x : TestLine). AreTexts x.words) l (filter (is_of matcher) ls) is are
texts_step false matcher l ls is are = are

texts_among : (matcher : ℕ) (ls : List TestLine) → LinesAreTexts ls → LinesAreTexts (filter (is_of matcher) ls)
texts_among matcher [] are = are
texts_among matcher (l ∷ ls) are = texts_step (l.matcher == matcher) matcher l ls (All-head (λ (x : TestLine). AreTexts x.words) l ls are)
    (texts_among matcher ls (All-tail (λ (x : TestLine). AreTexts x.words) l ls are))

pub texts_of_lines : (tested ls : List TestLine) (matcher : ℕ) → LinesAreTexts tested → ls ≡ filter (is_of matcher) tested → LinesAreTexts ls
texts_of_lines tested ls matcher are is = subst LinesAreTexts (sym is) (texts_among matcher tested are)
