use Rattle.std.proofs.Common.{◌≡◌, ◌∙◌, ap, sym, subst, false, true, Some, None}
use Rattle.std.proofs.lemmas.Option.{slice_get_within}
use Rattle.cd_desk.specs.Rows.{row_with}
use Rattle.cd_desk.specs.Books.{IsRowPlace}
use Rattle.cd_desk.proofs.Lists.{some_none}
use Rattle.cd_desk.proofs.Numbers.{row_with_at, row_place}
use Rattle.cd_desk.proofs.rows.place_of.Goals as goal

pub unreachable-requires : goal.unreachable-requires
unreachable-requires c =
    let b = c.args.books.now in
    let there = c.requires.there in
    let none : row_with c.args.draft b.rows.items ≡ None = ap (row_with c.args.draft) (sym c.as_slice.ensures.value) ∙ c.in_default.ensures in
    let f : false ≡ true = some_none there.1 (sym (row_with_at b c.args.draft there.0 there.1 there.2) ∙ none) in cc

pub returns : goal.returns
returns c =
    let b = c.args.books.now in
    let p : IsRowPlace c.args.draft b.rows.items (Some c.in-Some.place) = subst (λ z. IsRowPlace c.args.draft b.rows.items z) c.in-Some.is (subst (λ z. IsRowPlace c.args.draft z c.find.result) c.as_slice.ensures.value c.find.ensures) in
    record { at = row_place b c.args.draft c.in-Some.place p; within = slice_get_within b.rows.items c.in-Some.place p.0 p.1 }
