use Rattle.std.proofs.Common.{◌∙◌, true, false, rules, sym, ap}
use Rattle.std.specs.List.{drop-map}
use Rattle.std.specs.Str.{str_to_ascii_lowercase}
use Rattle.std.specs.Char.{to_ascii_lowercase}
use Rattle.cd_module.specs.Patterns.{stands_in}
use Rattle.cd_module.proofs.Parts.{stands_at_start, stands_behind, stands_nowhere, empty_lowered}
use Rattle.cd_module.proofs.pattern.stands_in_any_case.Goals as goal

pub returns-then-is_empty : goal.returns-then-is_empty
returns-then-is_empty c =
    sym (c.loop-rest.invariant
    ∙ stands_nowhere (str_to_ascii_lowercase c.args.part.now) (str_to_ascii_lowercase c.loop-rest.rest.now) (search rules) (empty_lowered c.loop-rest.rest.now true (search rules)))

pub loop-rest-preserved : goal.loop-rest-preserved
loop-rest-preserved c =
    rw c.but_first-rest.ensures (c.loop-rest.invariant
    ∙ stands_behind (str_to_ascii_lowercase c.args.part.now) (str_to_ascii_lowercase c.loop-rest.rest.now) (search rules) (empty_lowered c.loop-rest.rest.now false (search rules))
    ∙ ap (stands_in (str_to_ascii_lowercase c.args.part.now)) (drop-map to_ascii_lowercase 1 c.loop-rest.rest.now))

pub returns : goal.returns
returns c = sym (c.loop-rest.invariant ∙ stands_at_start (str_to_ascii_lowercase c.args.part.now) (str_to_ascii_lowercase c.loop-rest.rest.now) (search rules))
