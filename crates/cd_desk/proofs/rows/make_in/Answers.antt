use Rattle.std.proofs.Common.{rules, refl, ap, ◌∙◌}
use Rattle.cd_legal.specs.declared.part.Part.TheVariants.{Instance}
use Rattle.cd_desk.proofs.Wholes.{opened_whole}
use Rattle.cd_desk.proofs.Lined.{open_left, none_ended, next_fits, next_free, taken_within, opened_kept, opens_in}
use Rattle.cd_desk.proofs.rows.make_in.Goals as goal

pub open_next-opened-requires-clause-left : goal.open_next-opened-requires-clause-left
open_next-opened-requires-clause-left g c = open_left Instance c.args.books.now c.args.place c.index_mut-row.result.now c.requires.can.0 c.requires.can.1 (search rules) c.requires.can.2

pub open_next-opened-requires-clause-unended : goal.open_next-opened-requires-clause-unended
open_next-opened-requires-clause-unended g c = none_ended Instance c.args.books.now c.args.place c.index_mut-row.result.now c.requires.can.0 c.requires.can.1 (search rules) c.requires.can.3

pub open_next-opened-requires-clause-room : goal.open_next-opened-requires-clause-room
open_next-opened-requires-clause-room g c = next_fits Instance c.args.books.now c.args.place c.index_mut-row.result.now c.requires.can.0 c.requires.can.1 (search rules)

pub open_next-opened-requires-clause-none : goal.open_next-opened-requires-clause-none
open_next-opened-requires-clause-none g c = next_free Instance c.args.books.now c.args.place c.index_mut-row.result.now c.requires.can.0 c.requires.can.1 (search rules)

pub invariant_of-row : goal.invariant_of-row
invariant_of-row g c =
    let r = c.index_mut-row.result.now in
    let o = c.open_next-opened.ensures.opens in
    record { instances = o.part ∙ r.instances; started = r.started; modules_plan = ap (λ z. z.value) o.plan ∙ r.modules_plan; apps_plan = r.apps_plan; whole = λ live. (opened_whole _ r.modules _ _ _ _ _ _ o (r.whole live).0, (r.whole live).1) }

pub next_waits-taken-requires : goal.next_waits-taken-requires
next_waits-taken-requires g c = open_left Instance c.args.books.now c.args.place c.index_mut-row.result.now c.requires.can.0 c.requires.can.1 (search rules) c.requires.can.2

pub overflow_sub-books : goal.overflow_sub-books
overflow_sub-books g c = taken_within Instance c.args.books.now c.args.place c.index_mut-row.result.now c.requires.can.0 c.requires.can.1 (search rules) c.open_next-opened.new.self c.open_next-opened.new.pool _ _ _ c.next_waits-taken.result c.open_next-opened.ensures.opens c.next_waits-taken.ensures

pub invariant_of-books : goal.invariant_of-books
invariant_of-books g c =
    opened_kept Instance c.args.books.now c.args.place c.index_mut-row.result.now c.requires.can.0 c.requires.can.1 (search rules) c.open_next-opened.new.self c.open_next-opened.new.pool _ _ _ c.next_waits-taken.result c.open_next-opened.ensures.opens c.next_waits-taken.ensures _ refl (record { number = refl; tree = refl; plan = refl; others = refl; life = refl; retired = refl })

pub returns-clause-opens : goal.returns-clause-opens
returns-clause-opens g c = opens_in Instance c.args.books.now c.args.place c.index_mut-row.result.now c.requires.can.0 c.requires.can.1 (search rules) _ _ _ _ _ refl refl (record { number = refl; tree = refl; plan = refl; others = refl; life = refl; retired = refl }) (search rules) c.open_next-opened.ensures.opens
