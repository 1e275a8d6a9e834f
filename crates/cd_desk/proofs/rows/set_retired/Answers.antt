use Rattle.std.proofs.Common.{rules, refl}
use Rattle.cd_desk.proofs.Lined.{row_there, beside_kept}
use Rattle.cd_desk.proofs.rows.set_retired.Goals as goal

pub invariant_of-books : goal.invariant_of-books
invariant_of-books c = beside_kept c.args.books.now c.args.place c.index_mut.result.now _ c.requires.there (search rules) refl refl refl

pub returns : goal.returns
returns c =
    let there = row_there c.args.books.now c.args.place c.index_mut.result.now c.requires.there (search rules) in
    record { retires = record { changes = record { was = _; is = _; there = there; rows = refl; number = refl; next = refl; tree = refl; plan = refl }; pool = refl; modules = refl; apps = refl; failed = refl; life = refl; retired = refl }; capacity = search rules }
