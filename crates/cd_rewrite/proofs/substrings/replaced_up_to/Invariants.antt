use Rattle.std.proofs.Common.{◌≡◌, ◌++◌, ◌-◌}
use Rattle.cd_rewrite.specs.Substrings.{replaced_up_to}
use Rattle.cd_rewrite.proofs.substrings.replaced_up_to.Given as goal

-- what was made, and what is to be made of what is left, are the whole
abbrev pub invariant-loop : goal.invariant-loop
invariant-loop l =
    replaced_up_to l.most l.find l.replace l.text ≡ l.made ++ replaced_up_to (l.most - l.counter) l.find l.replace l.left
