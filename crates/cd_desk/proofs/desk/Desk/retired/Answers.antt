use Rattle.std.proofs.Common.{◌≡◌, ◌==◌, ◌<◌, false, sym, ap, ◌∙◌, arith, rules, refl, slice_get, Some, None, subst}
use Rattle.std.proofs.lemmas.Option.{slice_get_read, slice_get_within}
use Rattle.cd_legal.specs.Entry.{entries}
use Rattle.cd_legal.specs.Legal.{state_at}
use Rattle.cd_legal.proofs.Serials.{legal-agree}
use Rattle.cd_desk.specs.Serials.{IsPlaceOf}
use Rattle.cd_desk.proofs.Placing.{row_of-has, retired_none, retired_row}
use Rattle.cd_desk.proofs.Lists.{same_at}
use Rattle.cd_desk.proofs.desk.Desk.retired.Goals as goal

pub returns-in-Some : goal.returns-in-Some
returns-in-Some g c opening log h =
    let rows = c.args.self.now.books.rows.items in
    let place = c.in-Some.place in
    let p : IsPlaceOf c.args.serial rows (Some place) = subst (λ z. IsPlaceOf c.args.serial rows z) c.in-Some.is (subst (λ z. IsPlaceOf c.args.serial z c.place_with.result) c.as_slice.ensures.value c.place_with.ensures) in
    let there : slice_get rows place ≡ Some c.index.result.now = slice_get_read rows _ place c.index.result.now refl (slice_get_within rows place p.0 p.1) (search rules) in
    ap (λ z. z.retired) (same_at rows place c.index.result.now p.0 there p.1)
    ∙ sym (retired_row g.F.Fixtures.calls opening c.args.self.now (state_at log) _ _ (legal-agree (entries log) h.is_legal) h.agrees c.args.serial place p.0 p.1 (row_of-has c.args.serial rows p.0 p.2))

pub returns-in-None : goal.returns-in-None
returns-in-None g c opening log h =
    let rows = c.args.self.now.books.rows.items in
    let p : IsPlaceOf c.args.serial rows None = subst (λ z. IsPlaceOf c.args.serial rows z) c.in-None.is (subst (λ z. IsPlaceOf c.args.serial z c.place_with.result) c.as_slice.ensures.value c.place_with.ensures) in
    let some : (c.args.serial == 0) ≡ false = search rules in
    let low : c.args.serial < c.args.self.now.serial = omega arith in
    sym (retired_none g.F.Fixtures.calls opening c.args.self.now (state_at log) _ _ (legal-agree (entries log) h.is_legal) h.agrees c.args.serial some low p)
