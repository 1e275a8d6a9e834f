use Rattle.std.proofs.Common.{Some, refl, sym, ap, ◌∙◌}
use Rattle.cd_gate.specs.Passes.{view}
use Rattle.cd_hall.proofs.Cached.{ends_then, runs_then, duties_then}
use Rattle.cd_hall.proofs.Requested.{finish_due, finish_settled}
use Rattle.cd_hall.proofs.hall.Hall.fetch.Goals as goal

pub returns-in-Ok-clause-ticket : goal.returns-in-Ok-clause-ticket
returns-in-Ok-clause-ticket g c =
    let t = c.in-Ok.ensures.ticket in
    (t.0, record { own = ap (λ z. z.ticket) c.ticket_at.ensures.same ∙ (c.requires.hold ∙ ap (λ n. Some n) (sym t.0)); has = t.1 })

pub returns-in-Ok-clause-same_duties : goal.returns-in-Ok-clause-same_duties
returns-in-Ok-clause-same_duties g c = ap (λ z. z.duties) c.ticket_at.ensures.same

pub end_at-duty-requires-clause-ticket : goal.end_at-duty-requires-clause-ticket
end_at-duty-requires-clause-ticket g c κs within = ap (λ z. z.ticket) c.ticket_at.ensures.same ∙ c.requires.hold

pub returns-in-Err-clause-finishes : goal.returns-in-Err-clause-finishes
returns-in-Err-clause-finishes g c =
    let v = view c.args.pass.now in
    let w = view c.ticket_at.new.pass in
    let x = view c.end_at-duty.new.pass in
    let m = c.ticket_at.ensures.makes in
    let t = c.end_at-duty.ensures.finishes in
    let same = c.ticket_at.ensures.same in
    (t.0, ends_then v w x m.0 t.0 m.1 same t.1, runs_then v w x m.0 t.0 m.1 same c.args.hold.serial t.2)

pub returns-in-Err-clause-due : goal.returns-in-Err-clause-due
returns-in-Err-clause-due g c found u =
    let v = view c.args.pass.now in
    let w = view c.ticket_at.new.pass in
    let x = view c.end_at-duty.new.pass in
    let m = c.ticket_at.ensures.makes in
    let t = c.end_at-duty.ensures.finishes in
    finish_due v x t.0 found c.args.hold.serial _ _ (ends_then v w x m.0 t.0 m.1 c.ticket_at.ensures.same t.1) (c.end_at-duty.ensures.due t.0 t.1) refl u

pub returns-in-Err-clause-settled : goal.returns-in-Err-clause-settled
returns-in-Err-clause-settled g c =
    let v = view c.args.pass.now in
    let w = view c.ticket_at.new.pass in
    let x = view c.end_at-duty.new.pass in
    let m = c.ticket_at.ensures.makes in
    let t = c.end_at-duty.ensures.finishes in
    let e = c.end_at-duty.ensures.settled in
    (e.0, λ found u. finish_settled v x t.0 found c.args.hold.serial e.0 _ _ (ends_then v w x m.0 t.0 m.1 c.ticket_at.ensures.same t.1) (e.1 t.0 t.1) refl u)

pub returns-in-Err-clause-duties : goal.returns-in-Err-clause-duties
returns-in-Err-clause-duties g c =
    let m = c.ticket_at.ensures.makes in
    duties_then (view c.args.pass.now) (view c.ticket_at.new.pass) (view c.end_at-duty.new.pass) m.0 c.end_at-duty.ensures.finishes.0 m.1 c.ticket_at.ensures.same _ c.end_at-duty.ensures.duties
