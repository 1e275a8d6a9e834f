use Rattle.std.proofs.Common.{◌∙◌, rules, sym}
use Rattle.cd_module.proofs.Parts.{stands_at_start, stands_behind, stands_nowhere}
use Rattle.cd_module.proofs.pattern.stands_in.Goals as goal

pub returns-then-is_empty : goal.returns-then-is_empty
returns-then-is_empty c = sym (c.loop-rest.invariant ∙ stands_nowhere c.args.part.now c.loop-rest.rest.now (search rules) (search rules))

pub loop-rest-preserved : goal.loop-rest-preserved
loop-rest-preserved c = rw c.but_first-rest.ensures (c.loop-rest.invariant ∙ stands_behind c.args.part.now c.loop-rest.rest.now (search rules) (search rules))

pub returns : goal.returns
returns c = sym (c.loop-rest.invariant ∙ stands_at_start c.args.part.now c.loop-rest.rest.now (search rules))
