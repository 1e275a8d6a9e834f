use Rattle.std.proofs.Common.{◌≡◌, ◌∙◌, ap, sym, subst, refl, rules, arith, All, ◌+◌, length, map, sum_by}
use Rattle.cd_desk.specs.Rows.{line_waits}
use Rattle.cd_desk.specs.Waiting.{IsEmpty, AllWait, waits}
use Rattle.cd_desk.proofs.Planned.{all_empty, planned}
use Rattle.cd_desk.proofs.Lists.{get_last}
use Rattle.cd_desk.proofs.Standing.{adds}
use Rattle.cd_desk.proofs.Drafted.{drafts, shows_new}
use Rattle.cd_desk.proofs.desk.Desk.draft.Goals as goal

pub end_all-requires : goal.end_all-requires
end_all-requires g c = all_empty c.in-Ok.modules.items _ c.in-Ok.ensures

pub end_all-requires-in_default-make_room : goal.end_all-requires-in_default-make_room
end_all-requires-in_default-make_room g c = all_empty c.in-Ok.modules.items _ c.in-Ok.ensures

pub end_all-requires-in_default-make_room-2 : goal.end_all-requires-in_default-make_room-2
end_all-requires-in_default-make_room-2 g c = all_empty c.in-Ok-apps_for.apps.items _ c.in-Ok-apps_for.ensures

pub new_line-modules-requires-clause-bound : goal.new_line-modules-requires-clause-bound
new_line-modules-requires-clause-bound g c =
    let all : length c.args.plan.now.modules ≡ length c.in-Ok.modules.items = planned (λ m. m.keys) c.args.plan.now.modules c.in-Ok.modules.items (subst (λ z. AllWait c.in-Ok.modules.items (map (λ m. m.keys) z)) c.as_slice.ensures c.in-Ok.ensures) in
    let bound = c.requires.modules in
    omega (arith, all, bound)

pub new_line-apps-requires-clause-bound : goal.new_line-apps-requires-clause-bound
new_line-apps-requires-clause-bound g c =
    let all : length c.args.plan.now.apps ≡ length c.in-Ok-apps_for.apps.items = planned (λ m. m.keys) c.args.plan.now.apps c.in-Ok-apps_for.apps.items (subst (λ z. AllWait c.in-Ok-apps_for.apps.items (map (λ m. m.keys) z)) c.as_slice-2.ensures c.in-Ok-apps_for.ensures) in
    let bound = c.requires.apps in
    omega (arith, all, bound)

pub add_row-requires-clause-modules : goal.add_row-requires-clause-modules
add_row-requires-clause-modules g c = subst (λ z. All IsEmpty z) (sym (ap (λ z. z.parts.items) c.new_row-row.ensures.modules ∙ c.new_line-modules.ensures.parts)) (all_empty c.in-Ok.modules.items _ c.in-Ok.ensures)

pub add_row-requires-clause-apps : goal.add_row-requires-clause-apps
add_row-requires-clause-apps g c = subst (λ z. All IsEmpty z) (sym (ap (λ z. z.parts.items) c.new_row-row.ensures.apps ∙ c.new_line-apps.ensures.parts)) (all_empty c.in-Ok-apps_for.apps.items _ c.in-Ok-apps_for.ensures)

pub add_row-requires-clause-waits : goal.add_row-requires-clause-waits
add_row-requires-clause-waits g c =
    let r = c.new_row-row.ensures in
    let keys : c.in-Some.waits ≡ sum_by waits c.in-Ok.modules.items + sum_by waits c.in-Ok-apps_for.apps.items = search rules in
    let modules : line_waits c.new_row-row.result.modules ≡ sum_by waits c.in-Ok.modules.items = ap line_waits r.modules ∙ ap (sum_by waits) c.new_line-modules.ensures.parts in
    let apps : line_waits c.new_row-row.result.apps ≡ sum_by waits c.in-Ok-apps_for.apps.items = ap line_waits r.apps ∙ ap (sum_by waits) c.new_line-apps.ensures.parts in
    omega (arith, keys, modules, apps)

pub returns-clause-entry : goal.returns-clause-entry
returns-clause-entry g c =
    let v = c.args.self.now in
    let m = c.new_line-modules.ensures in
    let n = c.new_line-apps.ensures in
    let r = c.new_row-row.ensures in
    adds g.F.Fixtures.calls v _ _
    (drafts g.F.Fixtures.calls v c.add_row.new.books c.new_row-row.result c.args.tree.now c.args.plan.now v.books.next refl (omega arith) r.number (search rules) (search rules) (search rules)
    (λ retired. shows_new retired c.new_row-row.result c.args.tree.now c.args.plan.now r.tree r.plan r.rest (ap (λ z. z.opened) r.modules ∙ m.opened, ap (λ z. z.ended) r.modules ∙ m.ended) (ap (λ z. z.opened) r.apps ∙ n.opened, ap (λ z. z.ended) r.apps ∙ n.ended)))

pub returns-clause-row : goal.returns-clause-row
returns-clause-row g c =
    let v = c.args.self.now in
    let m = c.new_line-modules.ensures in
    let n = c.new_line-apps.ensures in
    let r = c.new_row-row.ensures in
    record {
      place = length v.books.rows.items;
      row = c.new_row-row.result;
      at = record { number = sym r.number; there = get_last v.books.rows.items c.add_row.new.books.rows.items (length v.books.rows.items) c.new_row-row.result (search rules) refl };
      tree = r.tree;
      plan = r.plan;
      unused = r.rest;
      modules = (ap (λ z. z.opened) r.modules ∙ m.opened, ap (λ z. z.ended) r.modules ∙ m.ended);
      apps = (ap (λ z. z.opened) r.apps ∙ n.opened, ap (λ z. z.ended) r.apps ∙ n.ended);
    }
