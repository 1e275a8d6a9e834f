use Rattle.std.proofs.Common.{◌≡◌, ap, ◌∙◌}
use Rattle.cd_desk.specs.Serials.{row_of}
use Rattle.cd_desk.specs.Closings.{is_stopped_row}
use Rattle.cd_desk.proofs.Standing.{adds}
use Rattle.cd_desk.proofs.Retirings.{halts}
use Rattle.cd_desk.proofs.desk.Desk.halt.Goals as goal

pub returns-clause-entry : goal.returns-clause-entry
returns-clause-entry g c =
    let v = c.args.self.now in
    let last : c.are_stopped-last.result ≡ is_stopped_row (row_of v.serial v.books.rows.items) = c.are_stopped-last.ensures ∙ ap (λ z. is_stopped_row (row_of v.serial z)) c.as_slice.ensures.value in
    adds g.F.Fixtures.calls v _ _ (halts g.F.Fixtures.calls v c.shut_where.new.fixtures c.are_stopped-last.result c.requires.running last c.shut_where.ensures.calls)
