use Rattle.std.proofs.Common.{◌≡◌, subst, rules, cond, slice_get, Some, None}
use Rattle.cd_legal.specs.State.{holds}
use Rattle.cd_desk.specs.Books.{IsRowPlace}
use Rattle.cd_desk.specs.Trimming.{is_closed_row, IsClosedPlace}
use Rattle.cd_desk.proofs.Numbers.{row_place}
use Rattle.cd_desk.proofs.Trims.{closed_place_of, no_closed_place}
use Rattle.cd_desk.proofs.trimming.closed_place.Goals as goal

pub returns-in-Some : goal.returns-in-Some
returns-in-Some c =
    let b = c.args.books.now in
    let rows = b.rows.items in
    let place = c.in-Some.place in
    let p : IsRowPlace c.args.draft rows (Some place) = subst (λ z. IsRowPlace c.args.draft rows z) c.in-Some.is (subst (λ z. IsRowPlace c.args.draft z c.find.result) c.as_slice.ensures.value c.find.ensures) in
    let flag : c.is_closed_at.result ≡ holds is_closed_row (slice_get rows place) = search rules in
    let is : cond c.is_closed_at.result (Some place) None ≡ c.then_some.result = search rules in
    subst (λ z. IsClosedPlace b c.args.draft z) is (closed_place_of b c.args.draft place c.is_closed_at.result (row_place b c.args.draft place p) flag)

pub returns-in-None : goal.returns-in-None
returns-in-None c =
    let rows = c.args.books.now.rows.items in
    let p : IsRowPlace c.args.draft rows None = subst (λ z. IsRowPlace c.args.draft rows z) c.in-None.is (subst (λ z. IsRowPlace c.args.draft z c.find.result) c.as_slice.ensures.value c.find.ensures) in
    no_closed_place c.args.books.now c.args.draft p
