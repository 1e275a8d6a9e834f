use Rattle.std.proofs.Common.{◌≡◌, ◌∙◌, ℕ, ap, sym, subst, rules, refl, OnErr, false, length}
use Rattle.cd_tree.specs.declared.tree.Tree.{Tree}
use Rattle.cd_legal.specs.declared.plan.Plan.{Plan}
use Rattle.cd_legal.specs.declared.entry.Entry.TheVariants.{Draft}
use Rattle.cd_desk.specs.Desks.{AddsTo, Keeps as KeepsDesk}
use Rattle.cd_desk.specs.declared.left.Left.{Left}
use Rattle.cd_desk.specs.Lefts.{IsLeft}
use Rattle.cd_desk.proofs.Counts.{new_is}
use Rattle.cd_life.proofs.Standings.{adds, calm, keeps, shelf_draft, shelf_same, on_err}
use Rattle.cd_life.proofs.board.Board.draft.Goals as goal

pub returns-clause-entry : goal.returns-clause-entry
returns-clause-entry g c =
    let calls = g.F.Fixtures.calls in
    let v = c.args.self.now in
    let w = c.draft.new.self in
    let number = ap (λ z. z.number) c.new_left-left.ensures in
    let tree : c.deref.result.now.tree ≡ c.args.loaded.tree = ap (λ z. z.tree) (c.deref.ensures ∙ c.in-Ok.ensures.ok) in
    let planned : c.deref-2.result.now.plan ≡ c.args.loaded.plan = ap (λ z. z.plan) (c.deref-2.ensures ∙ c.in-Ok.ensures.ok) in
    let same : g.F.Fixtures.faults w.fixtures ≡ g.F.Fixtures.faults v.desk.fixtures = search rules in
    adds calls g.F.Fixtures.faults g.M.ModuleSet.plan g.M.ModuleSet.change v _ _
    (subst (λ (z : ℕ). AddsTo calls v.desk w (Draft z c.args.loaded.tree c.args.loaded.plan)) (sym number)
    (subst (λ (z : Plan). AddsTo calls v.desk w (Draft c.in_ok-number.number c.args.loaded.tree z)) planned
    (subst (λ (z : Tree). AddsTo calls v.desk w (Draft c.in_ok-number.number z c.deref-2.result.now.plan)) tree c.in_ok-number.ensures.entry)))
    (calm _ _ same)
    (λ o log h. c.args.loaded.planned)
    (shelf_draft calls g.F.Fixtures.faults g.M.ModuleSet.plan g.M.ModuleSet.change v _ _ _ _ (search rules) (search rules) (search rules) (search rules))

pub returns-in_err-number-clause-err : goal.returns-in_err-number-clause-err
returns-in_err-number-clause-err g c =
    let calls = g.F.Fixtures.calls in
    let v = c.args.self.now in
    let desk : OnErr c.from_residual.result (KeepsDesk calls v.desk c.draft.new.self) = search rules in
    let same : g.F.Fixtures.faults c.draft.new.self.fixtures ≡ g.F.Fixtures.faults v.desk.fixtures = search rules in
    on_err c.from_residual.result (KeepsDesk calls v.desk c.draft.new.self) _ (λ k. keeps calls g.F.Fixtures.faults g.M.ModuleSet.plan g.M.ModuleSet.change v _ k same (shelf_same v _ c.reserve.ensures.items c.reserve.ensures.len c.reserve.ensures.capacity refl)) desk

pub returns-clause-draft : goal.returns-clause-draft
returns-clause-draft g c =
    let tree : c.deref.result.now.tree ≡ c.args.loaded.tree = ap (λ z. z.tree) (c.deref.ensures ∙ c.in-Ok.ensures.ok) in
    subst (λ (z : Tree). IsLeft c.draft.new.self.books z c.new_left-left.result) tree (new_is c.draft.new.self.books c.in_ok-number.number c.deref.result.now.tree c.deref-2.result.now.plan c.new_left-left.result c.in_ok-number.ensures.row (search rules))

pub returns-clause-left : goal.returns-clause-left
returns-clause-left g c =
    let left = c.new_left-left.result in
    let one : ℕ → Plan → Left = λ n p. record { number = n; made = 0; modules = length p.modules; started = 0; apps = length p.apps; failed = false } in
    let is : left ≡ one c.in_ok-number.number c.deref-2.result.now.plan = search rules in
    let planned : c.deref-2.result.now.plan ≡ c.args.loaded.plan = ap (λ z. z.plan) (c.deref-2.ensures ∙ c.in-Ok.ensures.ok) in
    is ∙ (ap (λ (n : ℕ). one n c.deref-2.result.now.plan) (sym (ap (λ (z : Left). z.number) is)) ∙ ap (λ (p : Plan). one left.number p) planned)
