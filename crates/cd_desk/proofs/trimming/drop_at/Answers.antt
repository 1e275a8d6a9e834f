use Rattle.std.proofs.Common.{◌≡◌, ◌∙◌, ◌+◌, true, ap, sym, subst, arith, refl, rules, length, slice_get, Some, sum_by}
use Rattle.std.specs.Vec.{vec_len}
use Rattle.std.proofs.lemmas.Option.{slice_get_read, slice_get_within}
use Rattle.std.proofs.lemmas.List.Edits.{length-remove}
use Rattle.std.specs.List.{remove}
use Rattle.cd_legal.specs.State.{holds}
use Rattle.cd_desk.specs.Rows.{Numbered, row_waits, row_with, leases_at}
use Rattle.cd_desk.specs.Trimming.{is_closed_row}
use Rattle.cd_desk.proofs.Numbers.{numbered_remove}
use Rattle.cd_desk.proofs.Trims.{closed_at, fewer_wait, removed_leases, trims_one}
use Rattle.cd_desk.proofs.trimming.drop_at.Goals as goal

pub remove-row-requires : goal.remove-row-requires
remove-row-requires c =
    let rows = c.args.books.now.rows.items in
    let p = closed_at rows c.args.place c.requires in
    let within = slice_get_within rows c.args.place p.0 p.1 in
    let len : vec_len c.args.books.now.rows ≡ length rows = search rules in
    omega (arith, within, len)

pub row_waiting-requires : goal.row_waiting-requires
row_waiting-requires c =
    let b = c.args.books.now in
    let rows = b.rows.items in
    let r = c.remove-row.result in
    let p = closed_at rows c.args.place c.requires in
    let there : slice_get rows c.args.place ≡ Some r = slice_get_read rows _ c.args.place r refl (slice_get_within rows c.args.place p.0 p.1) (search rules) in
    let fewer = fewer_wait rows c.args.place r there in
    let sum = b.sum in
    omega (arith, fewer, sum)

pub end_row-requires : goal.end_row-requires
end_row-requires c =
    let rows = c.args.books.now.rows.items in
    let r = c.remove-row.result in
    let p = closed_at rows c.args.place c.requires in
    let there : slice_get rows c.args.place ≡ Some r = slice_get_read rows _ c.args.place r refl (slice_get_within rows c.args.place p.0 p.1) (search rules) in
    ap (holds is_closed_row) (sym there) ∙ c.requires

pub invariant_of-books : goal.invariant_of-books
invariant_of-books c =
    let b = c.args.books.now in
    let rows = b.rows.items in
    let r = c.remove-row.result in
    let p = closed_at rows c.args.place c.requires in
    let there : slice_get rows c.args.place ≡ Some r = slice_get_read rows _ c.args.place r refl (slice_get_within rows c.args.place p.0 p.1) (search rules) in
    let closed : is_closed_row r ≡ true = ap (holds is_closed_row) (sym there) ∙ c.requires in
    let items : c.remove-row.new.self.items ≡ remove rows c.args.place = c.remove-row.ensures.items in
    let fewer : sum_by row_waits c.remove-row.new.self.items + row_waits r ≡ sum_by row_waits rows = ap (λ z. sum_by row_waits z + row_waits r) items ∙ fewer_wait rows c.args.place r there in
    let sum = b.sum in
    record {
      numbers = subst (λ z. Numbered 0 z b.next) (sym items) (numbered_remove 0 rows b.next c.args.place r b.numbers there);
      leases = λ d n app. b.leases d n app ∙ (sym (removed_leases rows b.next c.args.place r b.numbers there closed d n app) ∙ ap (λ z. leases_at (row_with d z) app n) (sym items));
      sum = omega (arith, fewer, sum);
      room = (let room = b.room in omega (arith, room));
    }

pub returns : goal.returns
returns c =
    let b = c.args.books.now in
    let rows = b.rows.items in
    let r = c.remove-row.result in
    let p = closed_at rows c.args.place c.requires in
    let within = slice_get_within rows c.args.place p.0 p.1 in
    let there : slice_get rows c.args.place ≡ Some r = slice_get_read rows _ c.args.place r refl within (search rules) in
    let closed : is_closed_row r ≡ true = ap (holds is_closed_row) (sym there) ∙ c.requires in
    let items : c.remove-row.new.self.items ≡ remove rows c.args.place = c.remove-row.ensures.items in
    record {
      trims = trims_one rows b.next c.args.place r b.numbers there closed b _ refl items refl refl;
      rows = items;
      one = ap (λ z. length z + 1) items ∙ length-remove rows c.args.place within;
      capacity = search rules;
    }
