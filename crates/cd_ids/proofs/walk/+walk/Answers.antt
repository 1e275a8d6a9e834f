use Rattle.std.proofs.Common.{map}
use Rattle.std.proofs.lemmas.Result.{err_from_is_err_and}
use Rattle.cd_ids.specs.Walk.{walk, walk_member, in_elements, in_members}
use Rattle.cd_ids.specs.Noting.{noted}
use Rattle.cd_ids.proofs.Loops.{object_noted, object_refused, element_noted, element_refused, member_noted, member_refused}
use Rattle.cd_ids.proofs.walk.+walk.Goals as goal

pub walk-returns-in_err-note_own-in-Object : goal.walk-returns-in_err-note_own-in-Object
walk-returns-in_err-note_own-in-Object g t c =
    let p = err_from_is_err_and c.from_residual.result c.from_residual.ensures.1 in
    rw (p.1, p.2) (λ other. object_refused g.N.Notes.with c.args.notes.now _ c.args.tree.now c.in-Object.members c.args.at.now c.in-Object.is (c.in_err-note_own-in-Object.ensures other))

pub walk-returns-in_ok-note_own-in-Object : goal.walk-returns-in_ok-note_own-in-Object
walk-returns-in_ok-note_own-in-Object g t c =
    rw (object_noted g.N.Notes.with c.args.notes.now _ c.args.tree.now c.in-Object.members c.args.at.now c.in-Object.is c.in_ok-note_own-in-Object.ensures) c.walk_members.ensures

pub walk_items-returns-in_err-walk : goal.walk_items-returns-in_err-walk
walk_items-returns-in_err-walk g t c =
    let l = c.loop-place in
    let p = err_from_is_err_and c.from_residual.result c.from_residual.ensures.1 in
    rw (p.1, p.2) (λ other. element_refused g.N.Notes.with l.notes c.args.notes.now _ c.as_slice-item-items.result.now c.args.items.now l.place c.item-item.result c.args.at.now c.element-here.result
    c.as_slice-item-items.ensures c.loop-place-test.true c.item-item.is c.element-here.ensures (c.in_err-walk.ensures other) l.invariant)

pub walk_items-loop-place-preserved : goal.walk_items-loop-place-preserved
walk_items-loop-place-preserved g t c =
    let l = c.loop-place in
    element_noted g.N.Notes.with l.notes c.walk.new.notes c.as_slice-item-items.result.now l.place c.item-item.result c.args.at.now c.element-here.result
    (noted g.N.Notes.with c.args.notes.now (in_elements 0 (map walk c.as_slice-item-items.result.now) c.args.at.now))
    c.loop-place-test.true c.item-item.is c.element-here.ensures c.in_ok-walk.ensures l.invariant

pub walk_members-returns-in_err-walk : goal.walk_members-returns-in_err-walk
walk_members-returns-in_err-walk g t c =
    let l = c.loop-member in
    let p = err_from_is_err_and c.from_residual.result c.from_residual.ensures.1 in
    rw (p.1, p.2) (λ other. member_refused g.N.Notes.with l.notes c.args.notes.now _ c.as_slice-member-items.result.now c.args.members.now l.member-index c.member-item.result c.args.at.now c.member-here.result c.as_str.result.now c.equals.result
    c.as_slice-member-items.ensures c.loop-member-test.true c.member-item.is c.equals.ensures.value c.if-equals.false c.member-here.ensures c.as_str.ensures (c.in_err-walk.ensures other) l.invariant)

pub walk_members-loop-member-preserved : goal.walk_members-loop-member-preserved
walk_members-loop-member-preserved g t c =
    let l = c.loop-member in
    member_noted g.N.Notes.with l.notes c.walk.new.notes c.as_slice-member-items.result.now l.member-index c.member-item.result c.args.at.now c.member-here.result c.as_str.result.now c.equals.result
    (noted g.N.Notes.with c.args.notes.now (in_members (map walk_member c.as_slice-member-items.result.now) c.args.at.now))
    c.loop-member-test.true c.member-item.is c.equals.ensures.value c.if-equals.false c.member-here.ensures c.as_str.ensures c.in_ok-walk.ensures l.invariant
