use Rattle.cd_caddyfile.proofs.WordSteps.{on_ok}
use Rattle.cd_caddyfile.proofs.SpellSteps.{one_then}
use Rattle.cd_caddyfile.proofs.shorthands.push_brace.Goals as goal

pub returns : goal.returns
returns c = on_ok c.append.result (λ is. one_then c.args.made.now _ _ c.args.name.now c.in_ok-push.ensures.ok is) c.append.ensures.ok
