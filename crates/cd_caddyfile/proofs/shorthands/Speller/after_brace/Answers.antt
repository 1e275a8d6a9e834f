use Rattle.std.proofs.Common.{sym, ap, ◌∙◌, ◌++◌, ◌∷◌, []}
use Rattle.cd_caddyfile.specs.Shorthands.{long_name}
use Rattle.cd_caddyfile.specs.Spelling.{to_spell}
use Rattle.cd_caddyfile.proofs.WordSteps.{on_ok}
use Rattle.cd_caddyfile.proofs.SpellSteps.{brace_again, brace_ends, name_byte}
use Rattle.cd_caddyfile.proofs.shorthands.Speller.after_brace.Goals as goal

pub returns-then-byte-eq123 : goal.returns-then-byte-eq123
returns-then-byte-eq123 c rest =
    brace_again c.args.self.now.made _ c.args.self.now.name _ c.args.byte rest c.if-byte-eq123.true
    (c.in_ok-push_brace.ensures ∙ ap (λ n. c.args.self.now.made ++ 123 ∷ n) c.as_slice.ensures) c.new.ensures
    ∙ ap (λ b. c.push_brace.new.made ++ to_spell b c.new.result rest) (sym c.requires)

pub returns-then-byte-eq125 : goal.returns-then-byte-eq125
returns-then-byte-eq125 c = on_ok c.push_braces.result (λ is rest.
    brace_ends c.args.self.now.made c.push_braces.new.made c.args.self.now.name c.args.byte rest c.if-byte-eq125.true
    (is ∙ ap (λ n. c.args.self.now.made ++ 123 ∷ (long_name n ++ 125 ∷ [])) c.as_slice-then-byte-eq125.ensures)) c.push_braces.ensures

pub returns : goal.returns
returns c = on_ok c.push.result (λ is rest.
    name_byte c.args.self.now.made c.args.self.now.name c.push.new.self c.args.byte rest c.if-byte-eq123.false c.if-byte-eq125.false is
    ∙ ap (λ b. c.args.self.now.made ++ to_spell b c.push.new.self rest) (sym c.requires)) c.push.ensures.ok
