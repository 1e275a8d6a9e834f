use Rattle.std.proofs.Common.{◌≡◌, ◌∙◌, ℕ, ap, subst, arith, rules, refl, slice_get, Some}
use Rattle.std.proofs.lemmas.Option.{slice_get_read, slice_get_within}
use Rattle.cd_legal.specs.declared.part.Part.TheVariants.{App}
use Rattle.cd_legal.specs.declared.entry.Entry.TheVariants.{Stopped}
use Rattle.cd_desk.specs.Desks.{AddsTo}
use Rattle.cd_desk.proofs.Lists.{same_at, get_set_same}
use Rattle.cd_desk.proofs.Standing.{adds}
use Rattle.cd_desk.proofs.Stoppings.{can_stop, can_end, rest_stopped, last_app, may_on, stops}
use Rattle.cd_desk.proofs.desk.Desk.stop.Goals as goal

pub place_of-place-requires : goal.place_of-place-requires
place_of-place-requires g c = let can = can_stop c.args.self.now c.args.closing.now c.requires.at c.requires.more in record { there = (can.place, can.row, can.at) }

pub stop_in-requires : goal.stop_in-requires
stop_in-requires g c = record { can = can_end App c.args.self.now c.args.closing.now.number c.place_of-place.result (can_stop c.args.self.now c.args.closing.now c.requires.at c.requires.more) c.place_of-place.ensures.at }

pub returns-clause-entry : goal.returns-clause-entry
returns-clause-entry g c =
    let calls = g.F.Fixtures.calls in
    let v = c.args.self.now in
    let k = c.args.closing.now in
    let place = c.place_of-place.result in
    let number = c.place_of-place.ensures.at in
    let o = c.stop_in.ensures.ends in
    let can = can_stop v k c.requires.at c.requires.more in
    let was = o.changes.was in
    let i = last_app v.books c.stop_in.new.books k place number (c.requires.at.rest (omega (arith, c.requires.more))) o.changes in
    let rows = c.stop_in.new.books.rows.items in
    let now : slice_get rows place ≡ Some o.changes.is = ap (λ z. slice_get z place) o.changes.rows ∙ get_set_same v.books.rows.items place was o.changes.is o.changes.there in
    let t = c.index.result.now in
    let read : slice_get rows place ≡ Some t = slice_get_read rows _ place t refl (slice_get_within rows place o.changes.is now) (search rules) in
    subst (λ (z : ℕ). AddsTo calls v (record v { fixtures = c.shut_where.new.fixtures; books = c.stop_in.new.books }) (Stopped k.number z)) i
    (adds calls v _ _ (stops calls v c.stop_in.new.fixtures c.shut_where.new.fixtures c.stop_in.new.books k.number place can number o t c.is_last-last.result (same_at rows place t o.changes.is read now) c.is_last-last.ensures c.shut_where.ensures.calls))

pub returns-clause-at : goal.returns-clause-at
returns-clause-at g c = record {
  superseded = c.requires.at.superseded;
  rest = λ more. rest_stopped c.args.self.now.books c.stop_in.new.books c.args.closing.now c.place_of-place.result _ _ c.place_of-place.ensures.at (c.requires.at.rest (omega (arith, c.requires.more))) c.stop_in.ensures.ends c.requires.more;
}

pub returns-clause-clean : goal.returns-clause-clean
returns-clause-clean g c may = may_on App c.args.self.now.books c.stop_in.new.books c.args.closing.now.number c.place_of-place.result _ _ c.place_of-place.ensures.at c.stop_in.ensures.ends may
