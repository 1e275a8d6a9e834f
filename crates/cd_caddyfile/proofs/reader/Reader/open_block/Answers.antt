use Rattle.std.proofs.Common.{sym, ap, ◌∙◌}
use Rattle.cd_caddyfile.specs.Walk.{inside}
use Rattle.cd_caddyfile.proofs.WordSteps.{on_ok}
use Rattle.cd_caddyfile.proofs.ReaderSteps.{opens_on}
use Rattle.cd_caddyfile.proofs.reader.Reader.open_block.Goals as goal

pub returns : goal.returns
returns c = on_ok c.push.result (λ blocks-is after.
    opens_on c.args.self.now.notes c.note.new.self c.args.self.now.blocks c.push.new.self c.innermost-at.result c.inside-inside.result c.args.number c.args.words c.as_slice.result.now after
    c.innermost-at.ensures (c.as_slice.ensures ∙ c.in_ok-words.ensures)
    (c.inside-inside.ensures ∙ ap (λ r. inside c.innermost-at.result c.args.number r) (c.as_slice-2.ensures ∙ sym c.as_slice.ensures)) blocks-is
    (record { fault = c.in_ok-note.ensures.fault; sites = c.in_ok-note.ensures.sites; defined = c.in_ok-note.ensures.defined; used = c.in_ok-note.ensures.used; tested = c.in_ok-note.ensures.tested }))
    c.push.ensures.ok
