use Rattle.std.proofs.Common.{◌≡◌, ◌∙◌, ◌<◌, ◌==◌, ◌&&◌, ℕ, true, false, sym, ap, subst, rules, refl, slice_get, Some, None}
use Rattle.std.specs.Arc.{arc_value}
use Rattle.std.proofs.lemmas.Option.{slice_get_read, slice_get_within}
use Rattle.cd_legal.specs.State.{Conf}
use Rattle.cd_desk.proofs.Lists.{same_at}
use Rattle.cd_life.specs.Changes.{tree_at, tree_of, IsPlaceOf}
use Rattle.cd_life.proofs.Shelving.{some_none}
use Rattle.cd_life.proofs.Laws.{conf_is, conf_there_is, here_is, here_halted}
use Rattle.cd_life.proofs.board.Board.share.Goals as goal

pub returns-then-is_halt-clause-here : goal.returns-then-is_halt-clause-here
returns-then-is_halt-clause-here g c = here_halted c.args.self.now c.args.serial (sym c.is_halt.ensures ∙ search rules)

pub returns-then-is_halt-clause-state : goal.returns-then-is_halt-clause-state
returns-then-is_halt-clause-state g c opening log h low free =
    here_halted c.args.self.now c.args.serial (sym c.is_halt.ensures ∙ search rules) ∙ conf_is g.F.Fixtures.calls g.F.Fixtures.faults g.M.ModuleSet.plan g.M.ModuleSet.change opening c.args.self.now log h c.args.serial low free

pub unreachable-requires : goal.unreachable-requires
unreachable-requires g c =
    let b = c.args.self.now in
    let n : ℕ = c.args.serial in
    let u = c.requires in
    let flag : (b.desk.halted && (n == b.desk.serial)) ≡ false = sym c.is_halt.ensures ∙ search rules in
    let t = conf_there_is g.F.Fixtures.calls g.F.Fixtures.faults g.M.ModuleSet.plan g.M.ModuleSet.change u.0 b u.1 u.2 n c.if-serial-eq0.false u.3 u.4 flag in
    let none : tree_at b.kept.items n ≡ None = ap (λ z. tree_at z n) (sym c.as_slice.ensures.value) ∙ c.in_default.ensures in
    let f : false ≡ true = some_none t.0 (sym t.1 ∙ none) in cc

pub index-requires : goal.index-requires
index-requires g c =
    let place = c.in-Some.place in
    let p : IsPlaceOf c.as_slice.result.now c.args.serial (Some place) = subst (λ z. IsPlaceOf c.as_slice.result.now c.args.serial z) c.in-Some.is c.place_of.ensures in
    subst (λ (z : ℕ). place < z) c.as_slice.ensures.len (slice_get_within c.as_slice.result.now place p.0 p.1)

pub returns-clause-here : goal.returns-clause-here
returns-clause-here g c =
    let b = c.args.self.now in
    let n : ℕ = c.args.serial in
    let place = c.in-Some.place in
    let p : IsPlaceOf b.kept.items n (Some place) = subst (λ z. IsPlaceOf b.kept.items n z) c.in-Some.is (subst (λ z. IsPlaceOf z n c.place_of.result) c.as_slice.ensures.value c.place_of.ensures) in
    let k = c.index.result.now in
    let there : slice_get b.kept.items place ≡ Some k = slice_get_read b.kept.items _ place k refl (slice_get_within b.kept.items place p.0 p.1) (search rules) in
    let flag : (b.desk.halted && (n == b.desk.serial)) ≡ false = sym c.is_halt.ensures ∙ search rules in
    let same : (arc_value c.in_ok-try_clone-3.field-0).tree ≡ tree_of p.0 = ap (λ z. z.tree) (let one : arc_value c.in_ok-try_clone-3.field-0 ≡ arc_value k.loaded = search rules in one) ∙ ap tree_of (same_at b.kept.items place k p.0 there p.1) in
    ap (λ z. Conf.Of z) same ∙ sym (here_is b n (tree_of p.0) flag c.if-serial-eq0.false p.3)

pub returns-clause-state : goal.returns-clause-state
returns-clause-state g c opening log h low free =
    returns-clause-here g c ∙ conf_is g.F.Fixtures.calls g.F.Fixtures.faults g.M.ModuleSet.plan g.M.ModuleSet.change opening c.args.self.now log h c.args.serial low free
