use Rattle.std.proofs.Common.{rules, refl}
use Rattle.cd_desk.proofs.Lined.{row_there, beside_kept}
use Rattle.cd_desk.proofs.rows.set_life.Goals as goal

pub invariant_of-books : goal.invariant_of-books
invariant_of-books c = beside_kept c.args.books.now c.args.place c.index_mut.result.now _ c.requires.there (search rules) refl refl refl

pub returns : goal.returns
returns c =
    let there = row_there c.args.books.now c.args.place c.index_mut.result.now c.requires.there (search rules) in
    record { lives = record { changes = record { was = _; is = _; there = there; rows = refl; number = refl; next = refl; tree = refl; plan = refl }; pool = refl; modules = refl; apps = refl; failed = refl; life = refl; retired = refl }; capacity = search rules }

pub invariant_of-index_mut : goal.invariant_of-index_mut
invariant_of-index_mut c =
    let r = c.index_mut.result.now in
    record { instances = r.instances; started = r.started; modules_plan = r.modules_plan; apps_plan = r.apps_plan; whole = λ live. absurd (c.requires.over live) }
