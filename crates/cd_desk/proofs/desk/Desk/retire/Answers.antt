use Rattle.std.proofs.Common.{◌≡◌, ℕ, false, true, sym, ap, ◌∙◌, Some, None, subst}
use Rattle.std.proofs.lemmas.Option.{slice_get_within}
use Rattle.cd_legal.specs.declared.entry.Entry.TheVariants.{Retire}
use Rattle.cd_legal.specs.Serials.{has_serial}
use Rattle.cd_desk.specs.declared.row.Row.{Row}
use Rattle.cd_desk.specs.Desks.{AddsTo}
use Rattle.cd_desk.specs.Closings.{CanRetire, IsStopped}
use Rattle.cd_desk.specs.Serials.{IsPlaceOf, row_of}
use Rattle.cd_desk.proofs.Lists.{same_at}
use Rattle.cd_desk.proofs.Placing.{row_of-has}
use Rattle.cd_desk.proofs.Standing.{adds}
use Rattle.cd_desk.proofs.Retirings.{retires, retires_opening, positive, stopped_at, stopped_there}
use Rattle.cd_desk.proofs.desk.Desk.retire.Goals as goal

pub returns-then-serial-eq0-clause-entry : goal.returns-then-serial-eq0-clause-entry
returns-then-serial-eq0-clause-entry g c =
    let v = c.args.self.now in
    let is : c.args.serial ≡ 0 = c.if-serial-eq0.true in
    let r : CanRetire v 0 = subst (λ (z : ℕ). CanRetire v z) is c.requires in
    subst (λ (z : ℕ). AddsTo g.F.Fixtures.calls v (record v { opening_retired = true }) (Retire z)) (sym is) (adds g.F.Fixtures.calls v _ _ (retires_opening g.F.Fixtures.calls v r.superseded r.stopped r.free))

pub unreachable-requires : goal.unreachable-requires
unreachable-requires g c =
    let v = c.args.self.now in
    let can : IsStopped v.books c.args.serial = stopped_at v c.args.serial c.if-serial-eq0.false c.requires.stopped in
    let none : row_of c.args.serial v.books.rows.items ≡ None = ap (row_of c.args.serial) (sym c.as_slice.ensures.value) ∙ c.in_default.ensures in
    let f : false ≡ true = stopped_there v.books c.args.serial can none in cc

pub set_retired-requires : goal.set_retired-requires
set_retired-requires g c =
    let n : ℕ = c.args.serial in
    let rows = c.args.self.now.books.rows.items in
    let p : IsPlaceOf n rows (Some c.in-Some.place) = subst (λ z. IsPlaceOf n rows z) c.in-Some.is (subst (λ z. IsPlaceOf n z c.place_with.result) c.as_slice.ensures.value c.place_with.ensures) in
    record { there = slice_get_within rows c.in-Some.place p.0 p.1 }

pub returns-clause-entry : goal.returns-clause-entry
returns-clause-entry g c =
    let v = c.args.self.now in
    let n : ℕ = c.args.serial in
    let rows = v.books.rows.items in
    let place = c.in-Some.place in
    let p : IsPlaceOf n rows (Some place) = subst (λ z. IsPlaceOf n rows z) c.in-Some.is (subst (λ z. IsPlaceOf n z c.place_with.result) c.as_slice.ensures.value c.place_with.ensures) in
    let m = c.set_retired.ensures.retires in
    let has : has_serial n m.changes.was.life ≡ true = ap (λ (z : Row). has_serial n z.life) (same_at rows place m.changes.was p.0 m.changes.there p.1) ∙ row_of-has n rows p.0 p.2 in
    adds g.F.Fixtures.calls v _ _ (retires g.F.Fixtures.calls v c.set_retired.new.books n place m (positive n c.if-serial-eq0.false) c.requires.superseded has (stopped_at v n c.if-serial-eq0.false c.requires.stopped) c.requires.free)
