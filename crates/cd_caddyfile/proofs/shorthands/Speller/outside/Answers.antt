use Rattle.std.proofs.Common.{sym, ap, ◌∙◌, ◌++◌}
use Rattle.cd_caddyfile.specs.Spelling.{to_spell}
use Rattle.cd_caddyfile.proofs.WordSteps.{on_ok}
use Rattle.cd_caddyfile.proofs.SpellSteps.{opens_brace, plain_byte}
use Rattle.cd_caddyfile.proofs.shorthands.Speller.outside.Goals as goal

pub returns-then-byte-eq123 : goal.returns-then-byte-eq123
returns-then-byte-eq123 c rest = opens_brace c.args.self.now.made _ c.args.byte rest c.if-byte-eq123.true c.new.ensures

pub returns : goal.returns
returns c = on_ok c.push.result (λ new-is rest.
    plain_byte c.args.self.now.made c.push.new.self c.args.byte rest c.if-byte-eq123.false new-is
    ∙ ap (λ b. c.push.new.self ++ to_spell b c.args.self.now.name rest) (sym c.requires)) c.push.ensures.ok
