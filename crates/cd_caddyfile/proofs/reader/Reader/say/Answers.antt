use Rattle.std.proofs.Common.{◌∙◌}
use Rattle.cd_caddyfile.proofs.WordSteps.{on_ok}
use Rattle.cd_caddyfile.proofs.ReaderSteps.{all_noted, says_on}
use Rattle.cd_caddyfile.proofs.reader.Reader.say.Goals as goal

pub returns : goal.returns
returns c = on_ok c.note.result (λ noted after.
    says_on c.args.self.now.notes c.note.new.self c.args.self.now.blocks c.innermost-at.result c.args.number c.args.words c.as_slice.result.now after
    c.innermost-at.ensures (c.as_slice.ensures ∙ c.in_ok-words.ensures) noted)
    (all_noted c.note.result c.args.self.now.notes c.note.new.self c.innermost-at.result _ c.args.number c.as_slice.result.now
    c.note.ensures.fault c.note.ensures.sites c.note.ensures.defined c.note.ensures.used c.note.ensures.tested)
