use Rattle.std.proofs.Common.{[], ◌∷◌, ◌++◌, ap, sym, ◌∙◌, arith}
use Rattle.std.specs.List.{flat_map}
use Rattle.cd_tree.specs.Path.{◌▸◌}
use Rattle.cd_standard.specs.Plans.{planned, matcher_id, matcher_modules}
use Rattle.cd_standard.specs.Walking.{in_matcher}
use Rattle.cd_standard.specs.declared.found.ModuleKind.{ModuleKind}
use Rattle.cd_standard.proofs.Adding.{members_done, module_and_inside}
use Rattle.cd_standard.proofs.Levels.{matcher_modules_is, set_modules_is}
use Rattle.cd_standard.proofs.walking.+adding_matchers.Goals as goal

pub add_matcher-returns : goal.add_matcher-returns
add_matcher-returns t c =
    let m = c.args.matcher.now in
    let at = c.args.at.now in
    let kind = c.in_ok-name.ensures.kind in
    module_and_inside (in_matcher m) _ _ _ _ _ _ _
    (c.in_ok-add_module.ensures ∙ ap (λ r. r ++ (planned c.in_ok-name.field-0.id c.named-here.result ∷ [])) c.kind.ensures.modules)
    c.in_ok-add_inside.ensures
    (ap (λ (k : ModuleKind). k.id) kind ∙ ap matcher_id c.name.ensures)
    (c.named-here.ensures ∙ ap (λ n. at ▸ n) (ap (λ (k : ModuleKind). k.name) kind ∙ c.name.ensures))
    ∙ ap (λ r. c.args.out.now ++ r) (sym (matcher_modules_is m at))

pub add_set-returns : goal.add_set-returns
add_set-returns t c =
    let s = c.args.set.now in
    let at = c.args.at.now in
    members_done (λ m. matcher_modules m at) c.as_slice-matcher-items.result.now c.loop-matcher.matcher-index _ _ (omega (arith, c.loop-matcher-test.false)) c.loop-matcher.invariant
    ∙ ap (λ ms. c.args.out.now ++ flat_map (λ m. matcher_modules m at) ms) c.as_slice-matcher-items.ensures
    ∙ ap (λ r. c.args.out.now ++ r) (sym (set_modules_is s at))
