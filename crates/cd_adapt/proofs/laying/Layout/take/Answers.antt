use Rattle.std.proofs.Common.{ℕ, List, refl, sym, ap, subst, ◌∙◌}
use Rattle.cd_caddyfile.proofs.WordSteps.{on_ok}
use Rattle.cd_caddyfile.specs.Blocks.{preceded_by}
use Rattle.cd_caddyfile.specs.declared.line.Line.{Line}
use Rattle.cd_adapt.specs.Laying.{AreLaid}
use Rattle.cd_parts.specs.Matching.{set_named}
use Rattle.cd_adapt.proofs.LayingSteps.{says_laid, closes_laid, same_laid}
use Rattle.cd_adapt.proofs.TextSteps.{made_texts}
use Rattle.cd_adapt.specs.Splitting.{IsTextLine, words_spelled}
use Rattle.cd_adapt.specs.Steps.{and_statement}
use Rattle.cd_adapt.proofs.laying.Layout.take.Goals as goal

pub open-requires : goal.open-requires
open-requires c = made_texts c.in-Opens.field-0 _ (c.as_slice.ensures ∙ (c.requires.words ∙ ap words_spelled c.in-Opens.is)) (subst IsTextLine c.in-Opens.is c.requires.texts)

pub say-requires : goal.say-requires
say-requires c = made_texts c.in-Says.field-0 _ (c.as_slice-in-Says.ensures ∙ (c.requires.words ∙ ap words_spelled c.in-Says.is)) (subst IsTextLine c.in-Says.is c.requires.texts)

pub returns-in-Empty : goal.returns-in-Empty
returns-in-Empty c tests_of next after agrees laid =
    let self = c.args.self.now in
    subst (λ (l : Line). AreLaid tests_of next (preceded_by c.args.line.now.number l after) self.outer self.here self.free) (sym c.in-Empty.is) laid

pub returns-in-Misplaced : goal.returns-in-Misplaced
returns-in-Misplaced c tests_of next after agrees laid =
    let self = c.args.self.now in
    subst (λ (l : Line). AreLaid tests_of next (preceded_by c.args.line.now.number l after) self.outer self.here self.free) (sym c.in-Misplaced.is) laid

pub returns-in-Closes : goal.returns-in-Closes
returns-in-Closes c = on_ok c.close.result (λ outer-is tests_of next after agrees laid.
    subst (λ (l : Line). AreLaid tests_of next (preceded_by c.args.line.now.number l after) c.close.new.self.outer c.close.new.self.here c.close.new.self.free) (sym c.in-Closes.is)
    (closes_laid tests_of next c.args.line.now.number after _ _ _ _ _ _ outer-is c.close.ensures.here c.close.ensures.free laid)) c.close.ensures.outer

pub returns-in-Opens : goal.returns-in-Opens
returns-in-Opens c = on_ok c.open.result (λ known tests_of next after agrees laid.
    subst (λ (l : Line). AreLaid tests_of next (preceded_by c.args.line.now.number l after) c.open.new.self.outer c.open.new.self.here c.open.new.self.free) (sym c.in-Opens.is)
    (known tests_of next c.args.line.now.number c.in-Opens.field-0 after (c.as_slice.ensures ∙ (c.requires.words ∙ ap words_spelled c.in-Opens.is)) agrees laid)) c.open.ensures

pub returns-in-Says : goal.returns-in-Says
returns-in-Says c = on_ok c.say.result (λ here-is tests_of next after agrees laid.
    let self = c.args.self.now in
    let n = c.args.line.now.number in
    subst (λ (l : Line). AreLaid tests_of next (preceded_by n l after) c.say.new.self.outer c.say.new.self.here c.say.new.self.free) (sym c.in-Says.is)
    (says_laid (set_named c.args.table.now c.args.site) tests_of next n c.in-Says.field-0 after c.say.new.self.outer self.here c.say.new.self.here c.say.new.self.free agrees
    (here-is ∙ ap (λ (ws : List (List ℕ)). and_statement (set_named c.args.table.now c.args.site) ws self.here) (c.as_slice-in-Says.ensures ∙ (c.requires.words ∙ ap words_spelled c.in-Says.is)))
    (same_laid tests_of next after self.outer c.say.new.self.outer self.here self.here self.free c.say.new.self.free c.say.ensures.outer refl c.say.ensures.free laid))) c.say.ensures.here
