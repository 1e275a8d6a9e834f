use Rattle.std.proofs.Common.{◌≡◌, ◌∙◌, sym, subst, ◌+◌, None, ap, arith, sum_by}
use Rattle.cd_desk.specs.Rows.{Numbered, row_waits, row_with, leases_at}
use Rattle.cd_desk.proofs.Numbers.{numbered_push, with_none_after}
use Rattle.cd_desk.proofs.Parts.{added_leases, added_sum}
use Rattle.cd_desk.proofs.drafts.add_row.Goals as goal

pub invariant_of-books : goal.invariant_of-books
invariant_of-books c =
    let b = c.args.books.now in
    let number = c.requires.number in
    let pushed = c.push_reserved.ensures.items in
    let none : row_with c.args.row.number b.rows.items ≡ None = with_none_after c.args.row.number 0 b.rows.items b.next (omega (arith, number)) b.numbers in
    let all : sum_by row_waits c.push_reserved.new.self.items ≡ sum_by row_waits b.rows.items + row_waits c.args.row = ap (sum_by row_waits) pushed ∙ added_sum b.rows.items c.args.row in
    let sum = b.sum in
    let more = c.requires.waits in
    record {
      numbers = subst (λ z. Numbered 0 z (b.next + 1)) (sym pushed) (numbered_push 0 b.rows.items b.next c.args.row b.numbers number);
      leases = λ d n app. b.leases d n app ∙ (sym (added_leases b.rows.items c.args.row none c.requires.modules c.requires.apps d n app) ∙ ap (λ z. leases_at (row_with d z) app n) (sym pushed));
      sum = omega (arith, all, sum, more);
      room = c.requires.room;
    }
