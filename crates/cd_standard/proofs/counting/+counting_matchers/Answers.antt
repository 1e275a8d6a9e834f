use Rattle.std.proofs.Common.{◌^◌, ◌-◌, ◌∷◌, length, ap, sym, ◌∙◌, arith}
use Rattle.std.specs.Prelude.{min}
use Rattle.std.specs.List.{flat_map}
use Rattle.cd_tree.specs.Path.{◌▸◌}
use Rattle.cd_match.specs.Names.{matcher_name}
use Rattle.cd_standard.specs.Plans.{planned, matcher_id, matcher_modules}
use Rattle.cd_standard.specs.Walking.{in_matcher}
use Rattle.cd_standard.proofs.Counts.{all_counted}
use Rattle.cd_standard.proofs.Levels.{matcher_modules_is, set_modules_is}
use Rattle.cd_standard.proofs.Tallies.{counted_same, inside_counted}
use Rattle.cd_standard.proofs.counting.+counting_matchers.Goals as goal

pub modules_in_matcher-returns : goal.modules_in_matcher-returns
modules_in_matcher-returns t c =
    let m = c.args.matcher.now in
    counted_same (λ at. planned (matcher_id (matcher_name m)) (at ▸ matcher_name m) ∷ in_matcher m (at ▸ matcher_name m)) (matcher_modules m)
    c.saturating_add.result (λ at. sym (matcher_modules_is m at))
    (inside_counted (in_matcher m) (λ at. planned (matcher_id (matcher_name m)) (at ▸ matcher_name m)) (λ at. at ▸ matcher_name m)
    c.modules_inside_matcher.result c.saturating_add.result c.modules_inside_matcher.ensures c.saturating_add.ensures)

pub modules_in_set-returns : goal.modules_in_set-returns
modules_in_set-returns t c = λ at.
    all_counted (λ m. matcher_modules m at) c.as_slice-matcher-items.result.now c.loop-matcher.matcher-index c.loop-matcher.found (2 ^ 64 - 1) _
    (c.loop-matcher.invariant.0 at) (omega (arith, c.loop-matcher-test.false)) c.loop-matcher.invariant.1
    ∙ ap (λ ms. min (length (flat_map (λ m. matcher_modules m at) ms)) (2 ^ 64 - 1)) c.as_slice-matcher-items.ensures
    ∙ ap (λ all. min (length all) (2 ^ 64 - 1)) (sym (set_modules_is c.args.set.now at))
