use Rattle.std.proofs.Common.{◌≡◌, List, ◌∷◌, ◌++◌, [], codes, map, OnOk, refl, ap, ap₂, sym, subst, ◌∙◌}
use Rattle.cd_tree.specs.Path.{◌▸◌}
use Rattle.cd_standard.specs.Plans.{planned, handler_id, in_elements, set_modules, step_modules}
use Rattle.cd_legal.specs.declared.plan.PlanModule.{PlanModule}
use Rattle.cd_standard.proofs.Adding.{module_and_inside, two_added}
use Rattle.cd_standard.specs.Walking.{in_subroute}
use Rattle.cd_standard.specs.declared.found.ModuleKind.{ModuleKind}
use Rattle.cd_standard.proofs.Levels.{route_modules_is, handler_step, subroute_step}
use Rattle.cd_standard.proofs.walking.+adding_routes.Goals as goal

pub add_route-returns : goal.add_route-returns
add_route-returns t c =
    let r = c.args.route.now in
    let at = c.args.at.now in
    two_added (λ p. in_elements 0 (map set_modules c.as_slice.result.now) (p ▸ codes "match")) (λ p. in_elements 0 (map step_modules c.as_slice-2.result.now) (p ▸ codes "handle"))
    _ _ _ at at c.in_ok-add_match.ensures refl c.in_ok-add_handle.ensures
    ∙ ap₂ (λ sets steps. c.args.out.now ++ (in_elements 0 (map set_modules sets) (at ▸ codes "match") ++ in_elements 0 (map step_modules steps) (at ▸ codes "handle"))) c.as_slice.ensures c.as_slice-2.ensures
    ∙ ap (λ all. c.args.out.now ++ all) (sym (route_modules_is r at))

pub add_step-returns-in-Handler : goal.add_step-returns-in-Handler
add_step-returns-in-Handler t c =
    let s = c.args.step.now in
    let at = c.args.at.now in
    c.in_ok-add_module.ensures
    ∙ ap (λ r. r ++ (planned c.in_ok-id.field-0.id at ∷ [])) c.kind.ensures.modules
    ∙ ap (λ id. c.args.out.now ++ (planned id at ∷ [])) (ap (λ (k : ModuleKind). k.id) c.in_ok-id.ensures.kind ∙ ap handler_id c.name.ensures)
    ∙ ap (λ all. c.args.out.now ++ all) (handler_step s c.in-Handler.field-0 at c.in-Handler.is)

pub add_step-returns-in-Subroute : goal.add_step-returns-in-Subroute
add_step-returns-in-Subroute t c =
    let s = c.args.step.now in
    let at = c.args.at.now in
    let inside = c.in-Subroute.inside in
    let whole = module_and_inside (in_subroute inside) c.args.out.now c.add_module.new.out (c.add_module.new.out ++ in_subroute inside at) _ _ at at
    (c.in_ok-add_module.ensures ∙ ap (λ r. r ++ (planned c.in_ok-id.field-0.id at ∷ [])) c.kind.ensures.modules) refl
    (ap (λ (k : ModuleKind). k.id) c.in_ok-id.ensures.kind ∙ ap handler_id c.name.ensures) refl
    ∙ ap (λ all. c.args.out.now ++ all) (subroute_step s inside at c.in-Subroute.is) in
    subst (λ (all : List PlanModule). OnOk c.add_inside_subroute.result (c.add_inside_subroute.new.out ≡ all)) whole c.add_inside_subroute.ensures
