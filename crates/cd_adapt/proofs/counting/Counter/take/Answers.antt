use Rattle.std.proofs.Common.{◌≡◌, ℕ, List, sym, ap, subst, map, ◌∙◌}
use Rattle.cd_caddyfile.proofs.WordSteps.{on_ok}
use Rattle.cd_caddyfile.specs.Blocks.{preceded_by}
use Rattle.cd_caddyfile.specs.Shorthands.{spelled}
use Rattle.cd_caddyfile.specs.declared.line.Line.{Line}
use Rattle.cd_adapt.specs.Counting.{IsCounted, and_words}
use Rattle.cd_adapt.specs.Splitting.{words_spelled}
use Rattle.cd_adapt.proofs.CountSteps.{says_counted, closes_counted, size_says, size_closes}
use Rattle.cd_adapt.proofs.counting.Counter.take.Goals as goal

pub returns-in-Empty-clause-counted : goal.returns-in-Empty-clause-counted
returns-in-Empty-clause-counted c tests_of n after counted = subst (λ (l : Line). IsCounted tests_of (preceded_by n l after) c.args.self.now) (sym c.in-Empty.is) counted

pub returns-in-Misplaced-clause-counted : goal.returns-in-Misplaced-clause-counted
returns-in-Misplaced-clause-counted c tests_of n after counted = subst (λ (l : Line). IsCounted tests_of (preceded_by n l after) c.args.self.now) (sym c.in-Misplaced.is) counted

pub returns-in-Closes-clause-size : goal.returns-in-Closes-clause-size
returns-in-Closes-clause-size c = on_ok c.close.result (λ open-is. size_closes c.args.self.now c.close.new.self open-is c.close.ensures.here) c.close.ensures.open

pub returns-in-Closes-clause-counted : goal.returns-in-Closes-clause-counted
returns-in-Closes-clause-counted c = on_ok c.close.result (λ open-is tests_of n after counted.
    subst (λ (l : Line). IsCounted tests_of (preceded_by n l after) c.close.new.self) (sym c.in-Closes.is)
    (closes_counted tests_of n after c.args.self.now c.close.new.self open-is c.close.ensures.here counted)) c.close.ensures.open

pub returns-in-Opens-clause-counted : goal.returns-in-Opens-clause-counted
returns-in-Opens-clause-counted c tests_of n after counted =
    subst (λ (l : Line). IsCounted tests_of (preceded_by n l after) c.open.new.self) (sym c.in-Opens.is)
    (c.open.ensures.counted tests_of n c.in-Opens.field-0 after (c.as_slice.ensures ∙ (c.requires.words ∙ ap words_spelled c.in-Opens.is)) counted)

pub returns-in-Says-clause-size : goal.returns-in-Says-clause-size
returns-in-Says-clause-size c = size_says c.as_slice-in-Says.result.now c.args.self.now c.say.new.self c.say.ensures.open c.say.ensures.here

pub returns-in-Says-clause-counted : goal.returns-in-Says-clause-counted
returns-in-Says-clause-counted c tests_of n after counted =
    let words-is : c.as_slice-in-Says.result.now ≡ map spelled c.in-Says.field-0 = c.as_slice-in-Says.ensures ∙ (c.requires.words ∙ ap words_spelled c.in-Says.is) in
    subst (λ (l : Line). IsCounted tests_of (preceded_by n l after) c.say.new.self) (sym c.in-Says.is)
    (says_counted tests_of n c.in-Says.field-0 after c.args.self.now c.say.new.self c.say.ensures.open
    (c.say.ensures.here ∙ ap (λ (ws : List (List ℕ)). and_words ws c.args.self.now.here) words-is) counted)
