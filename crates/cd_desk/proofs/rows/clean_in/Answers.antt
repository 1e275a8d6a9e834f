use Rattle.std.proofs.Common.{rules, refl, ap, ◌∙◌}
use Rattle.cd_legal.specs.declared.part.Part.TheVariants.{Instance}
use Rattle.cd_desk.proofs.Wholes.{ended_whole}
use Rattle.cd_desk.proofs.Lined.{end_left, last_holds, ended_kept, ends_in}
use Rattle.cd_desk.proofs.rows.clean_in.Goals as goal

pub end_last-requires-clause-left : goal.end_last-requires-clause-left
end_last-requires-clause-left g c = end_left Instance c.args.books.now c.args.place c.index_mut-row.result.now c.requires.can.0 c.requires.can.1 (search rules) c.requires.can.2

pub end_last-requires-clause-leases : goal.end_last-requires-clause-leases
end_last-requires-clause-leases g c = last_holds Instance c.args.books.now c.args.place c.index_mut-row.result.now c.requires.can.0 c.requires.can.1 (search rules)

pub invariant_of-row : goal.invariant_of-row
invariant_of-row g c =
    let r = c.index_mut-row.result.now in
    let o = c.end_last.ensures.ends in
    record { instances = o.part ∙ r.instances; started = r.started; modules_plan = ap (λ z. z.value) o.plan ∙ r.modules_plan; apps_plan = r.apps_plan; whole = λ live. (ended_whole _ r.modules _ _ _ _ _ o (r.whole live).0, (r.whole live).1) }

pub invariant_of-books : goal.invariant_of-books
invariant_of-books g c =
    ended_kept Instance c.args.books.now c.args.place c.index_mut-row.result.now c.requires.can.0 c.requires.can.1 (search rules) c.end_last.new.self c.end_last.new.pool _ _ c.end_last.ensures.ends _ refl (record { number = refl; tree = refl; plan = refl; others = refl; life = refl; retired = refl })

pub returns : goal.returns
returns g c = record {
  ends = ends_in Instance c.args.books.now c.args.place c.index_mut-row.result.now c.requires.can.0 c.requires.can.1 (search rules) _ _ _ _ refl refl (record { number = refl; tree = refl; plan = refl; others = refl; life = refl; retired = refl }) refl c.end_last.ensures.ends;
  faults = c.end_last.ensures.faults;
  capacity = search rules;
}
