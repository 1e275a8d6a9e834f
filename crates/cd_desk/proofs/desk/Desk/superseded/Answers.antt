use Rattle.std.proofs.Common.{◌≡◌, ◌∙◌, ap, rules, refl, slice_get, Some, None, subst}
use Rattle.std.proofs.lemmas.Option.{slice_get_read, slice_get_within}
use Rattle.cd_legal.specs.Entry.{entries}
use Rattle.cd_legal.specs.Legal.{state_at}
use Rattle.cd_legal.specs.Serials.{has_serial}
use Rattle.cd_legal.proofs.Serials.{legal-agree}
use Rattle.cd_desk.specs.declared.row.Row.{Row}
use Rattle.cd_desk.specs.Serials.{IsPlaceOf}
use Rattle.cd_desk.proofs.Lists.{same_at}
use Rattle.cd_desk.proofs.Placing.{row_of-has}
use Rattle.cd_desk.proofs.Supersedings.{is_closing, is_nothing, leaves_row, leaves_none, may_clean_retired}
use Rattle.cd_desk.proofs.desk.Desk.superseded.Goals as goal

pub returns-in-None-clause-at : goal.returns-in-None-clause-at
returns-in-None-clause-at g c = is_nothing c.args.self.now c.args.serial c.requires

pub returns-in-None-clause-left : goal.returns-in-None-clause-left
returns-in-None-clause-left g c opening log h =
    let rows = c.args.self.now.books.rows.items in
    let p : IsPlaceOf c.args.serial rows None = subst (λ z. IsPlaceOf c.args.serial rows z) c.in-None.is (subst (λ z. IsPlaceOf c.args.serial z c.place_with.result) c.as_slice.ensures.value c.place_with.ensures) in
    leaves_none g.F.Fixtures.calls opening c.args.self.now (state_at log) _ _ (legal-agree (entries log) h.is_legal) h.agrees c.args.serial p

pub returns-in-Some-clause-at : goal.returns-in-Some-clause-at
returns-in-Some-clause-at g c =
    let rows = c.args.self.now.books.rows.items in
    let place = c.in-Some.place in
    let p : IsPlaceOf c.args.serial rows (Some place) = subst (λ z. IsPlaceOf c.args.serial rows z) c.in-Some.is (subst (λ z. IsPlaceOf c.args.serial z c.place_with.result) c.as_slice.ensures.value c.place_with.ensures) in
    let r = c.index-row.result.now in
    let there : slice_get rows place ≡ Some r = slice_get_read rows _ place r refl (slice_get_within rows place p.0 p.1) (search rules) in
    is_closing c.args.self.now c.args.serial place r c.requires there (ap (λ (z : Row). has_serial c.args.serial z.life) (same_at rows place r p.0 there p.1) ∙ row_of-has c.args.serial rows p.0 p.2)

pub returns-in-Some-clause-left : goal.returns-in-Some-clause-left
returns-in-Some-clause-left g c opening log h =
    let rows = c.args.self.now.books.rows.items in
    let place = c.in-Some.place in
    let p : IsPlaceOf c.args.serial rows (Some place) = subst (λ z. IsPlaceOf c.args.serial rows z) c.in-Some.is (subst (λ z. IsPlaceOf c.args.serial z c.place_with.result) c.as_slice.ensures.value c.place_with.ensures) in
    let r = c.index-row.result.now in
    let there : slice_get rows place ≡ Some r = slice_get_read rows _ place r refl (slice_get_within rows place p.0 p.1) (search rules) in
    leaves_row g.F.Fixtures.calls opening c.args.self.now (state_at log) _ _ (legal-agree (entries log) h.is_legal) h.agrees c.args.serial place r there (ap (λ (z : Row). has_serial c.args.serial z.life) (same_at rows place r p.0 there p.1) ∙ row_of-has c.args.serial rows p.0 p.2)

pub returns-in-Some-clause-clean : goal.returns-in-Some-clause-clean
returns-in-Some-clause-clean g c opening log h over more =
    let rows = c.args.self.now.books.rows.items in
    let place = c.in-Some.place in
    let p : IsPlaceOf c.args.serial rows (Some place) = subst (λ z. IsPlaceOf c.args.serial rows z) c.in-Some.is (subst (λ z. IsPlaceOf c.args.serial z c.place_with.result) c.as_slice.ensures.value c.place_with.ensures) in
    let r = c.index-row.result.now in
    let there : slice_get rows place ≡ Some r = slice_get_read rows _ place r refl (slice_get_within rows place p.0 p.1) (search rules) in
    may_clean_retired g.F.Fixtures.calls opening c.args.self.now (state_at log) _ _ (legal-agree (entries log) h.is_legal) h.agrees c.args.serial place r there (ap (λ (z : Row). has_serial c.args.serial z.life) (same_at rows place r p.0 there p.1) ∙ row_of-has c.args.serial rows p.0 p.2) over
