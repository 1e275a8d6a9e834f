use Rattle.std.proofs.Common.{sym, ap, ◌∙◌, ◌++◌, []}
use Rattle.cd_caddyfile.specs.Spelling.{to_spell}
use Rattle.cd_caddyfile.proofs.WordSteps.{if_ok}
use Rattle.cd_caddyfile.proofs.SpellSteps.{left_inside, left_outside}
use Rattle.cd_caddyfile.proofs.shorthands.Speller.finish.Goals as goal

pub returns-then-is_in_brace : goal.returns-then-is_in_brace
returns-then-is_in_brace c = if_ok c.left_in_brace.result (λ whole is. left_inside c.args.self.made whole c.args.self.name is
    ∙ ap (λ b. c.args.self.made ++ to_spell b c.args.self.name []) (sym c.if-is_in_brace.true)) c.left_in_brace.ensures

pub returns-else-is_in_brace : goal.returns-else-is_in_brace
returns-else-is_in_brace c = left_outside c.args.self.made ∙ ap (λ b. c.args.self.made ++ to_spell b c.args.self.name []) (sym c.if-is_in_brace.false)
