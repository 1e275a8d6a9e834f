use Rattle.std.proofs.Common.{◌∙◌, sym}
use Rattle.cd_handlers.proofs.PlainStart.{plain_body}
use Rattle.cd_handlers.proofs.body.is_seen_plain.Goals as goal

pub returns-in-Some : goal.returns-in-Some
returns-in-Some c = λ seen. plain_body c.args.body.now c.in-Some.first.now (sym c.in-Some.ensures.value) (sym c.starts_plain.ensures ∙ seen)
