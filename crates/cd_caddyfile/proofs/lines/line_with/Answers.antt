use Rattle.cd_caddyfile.proofs.WordSteps.{if_ok}
use Rattle.cd_caddyfile.proofs.LineSteps.{without_words, with_words}
use Rattle.cd_caddyfile.proofs.lines.line_with.Goals as goal

pub returns-in-None : goal.returns-in-None
returns-in-None c = without_words c.args.words c.in-None.ensures.0

pub returns-in-Some : goal.returns-in-Some
returns-in-Some c = if_ok c.with_last.result (λ line is. with_words c.args.words _ _ line c.in-Some.ensures is) c.with_last.ensures
