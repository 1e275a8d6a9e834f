use Rattle.std.proofs.Common.{◌≡◌, ◌≤◌, ℕ, ◌+◌, true, false, List, [], ◌∷◌, ◌++◌, Some, sym, ap, subst, ◌∙◌}
use Rattle.cd_legal.specs.declared.entry.Entry.{Entry}
use Rattle.cd_legal.specs.declared.entry.Entry.TheVariants.{Halt}
use Rattle.cd_legal.specs.declared.entry.Signed.{Signed}
use Rattle.cd_legal.specs.declared.limits.TheConstants.{LAST_SERIAL}
use Rattle.cd_legal.specs.Laws.{core_at}
use Rattle.cd_legal.specs.Legal.{state_at}
use Rattle.cd_legal.specs.Runs.{stopped_of}
use Rattle.cd_gate.specs.Passes.{view}
use Rattle.cd_hall.specs.Calls.{duties_in}
use Rattle.cd_hall.specs.Dues.{DueLater}
use Rattle.cd_hall.specs.GoesOn.{IsHalt}
use Rattle.cd_hall.specs.Spread.{Spread}
use Rattle.cd_hall.specs.Turned.{Makes}
use Rattle.cd_hall.proofs.Bare.{serial_core, halted_core, serial_alike, halted_alike}
use Rattle.cd_hall.proofs.Goes.{ends_settled, leaves, none_made}
use Rattle.cd_hall.proofs.Requested.{quiet_in, pass_after, seen_after, duties_after, same_duties_after}
use Rattle.cd_hall.proofs.Settled.{halt_found}
use Rattle.cd_hall.proofs.Told.{if_ok, on_err}
use Rattle.cd_hall.proofs.hall.Hall.halt.Goals as goal

pub halt_once-halted-requires-clause-settled : goal.halt_once-halted-requires-clause-settled
halt_once-halted-requires-clause-settled g c κs within = quiet_in (view c.args.pass.now) (view c.take_turn-turn.new.pass) c.take_turn-turn.ensures.same c.requires.pass.idle.3

pub halt_once-halted-requires-clause-room : goal.halt_once-halted-requires-clause-room
halt_once-halted-requires-clause-room g c κs within on =
    subst (λ (n : ℕ). n ≤ LAST_SERIAL) (sym (serial_core (view c.take_turn-turn.new.pass).seen)) (c.take_turn-turn.ensures.room (sym (halted_core (view c.take_turn-turn.new.pass).seen) ∙ on))

pub returns-clause-pass : goal.returns-clause-pass
returns-clause-pass g c =
    pass_after c.args.self.now c.leave_turn.new.pass (view c.halt_once-halted.new.pass) c.leave_turn.ensures.pass c.leave_turn.ensures.seen
    (c.halt_once-halted.ensures.checked ∙ (ap (λ z. z.checked) c.take_turn-turn.ensures.same ∙ c.requires.pass.unchecked)) c.halt_once-halted.ensures.history

pub returns-clause-spreads : goal.returns-clause-spreads
returns-clause-spreads g c =
    let v = (view c.args.pass.now) in
    let w = (view c.take_turn-turn.new.pass) in
    let x = (view c.halt_once-halted.new.pass) in
    let y = (view c.leave_turn.new.pass) in
    let same = c.take_turn-turn.ensures.same in
    if_ok (λ duty. IsHalt w x (duties_in duty))
    (λ duty. (found : List Signed) × Spread v y found (Halt ((state_at found).serial + 1) ∷ stopped_of (state_at found) (state_at found).serial) × ((state_at found).halted ≡ false) × DueLater y.seen (state_at found).serial (duties_in duty)
    × (y.duties ≡ duties_in duty ++ v.duties)) c.halt_once-halted.result
    (λ duty has.
    let s = has.settles in
    let l = leaves v w s.unsettled x y same c.take_turn-turn.ensures.since c.requires.pass.idle.1 (ends_settled v s.unsettled x y c.requires.pass.idle.0.5 c.halt_once-halted.ensures.turn.0.5 c.requires.pass.idle.3 s.settled c.leave_turn.ensures.seen) _ s.goes in
    let serial = serial_alike l.found w.seen l.found_core in (
      l.found,
      subst (λ (es : List Entry). Spread v y l.found es) (halt_found l.found w.seen l.found_core) l.spread,
      halted_alike l.found w.seen l.found_core ∙ has.running,
      subst (λ (z : List Signed × ℕ). DueLater z.0 z.1 (duties_in duty)) (λ i. (sym (seen_after x y c.leave_turn.ensures.seen) i, sym serial i)) has.due,
      duties_after v w x y (duties_in duty) same s.more c.leave_turn.ensures.seen,
    )) c.halt_once-halted.ensures.halts

pub returns-clause-lent : goal.returns-clause-lent
returns-clause-lent g c =
    let v = (view c.args.pass.now) in
    let w = (view c.take_turn-turn.new.pass) in
    let x = (view c.halt_once-halted.new.pass) in
    let y = (view c.leave_turn.new.pass) in
    let same = c.take_turn-turn.ensures.same in
    if_ok (λ duty. IsHalt w x (duties_in duty))
    (λ duty. (found : List Signed) × Spread v y found (Halt ((state_at found).serial + 1) ∷ stopped_of (state_at found) (state_at found).serial) × (v.ticket ≡ Some (state_at found).serial → duties_in duty ≡ [])) c.halt_once-halted.result
    (λ duty has.
    let s = has.settles in
    let l = leaves v w s.unsettled x y same c.take_turn-turn.ensures.since c.requires.pass.idle.1 (ends_settled v s.unsettled x y c.requires.pass.idle.0.5 c.halt_once-halted.ensures.turn.0.5 c.requires.pass.idle.3 s.settled c.leave_turn.ensures.seen) _ s.goes in (
      l.found,
      subst (λ (es : List Entry). Spread v y l.found es) (halt_found l.found w.seen l.found_core) l.spread,
      λ own. has.lent (ap (λ z. z.ticket) same ∙ (own ∙ ap (λ (m : ℕ). Some m) (serial_alike l.found w.seen l.found_core))),
    )) c.halt_once-halted.ensures.halts

pub returns-clause-err : goal.returns-clause-err
returns-clause-err g c =
    let v = (view c.args.pass.now) in
    let w = (view c.take_turn-turn.new.pass) in
    let x = (view c.halt_once-halted.new.pass) in
    let y = (view c.leave_turn.new.pass) in
    on_err ((x ≡ w) × ((state_at (core_at w.seen)).halted ≡ true)) (Makes v y (λ s. []) × ((state_at y.seen).halted ≡ true) × (y.duties ≡ v.duties)) c.halt_once-halted.result
    (λ has. (
      (w.seen, none_made v w x y c.take_turn-turn.ensures.since c.take_turn-turn.ensures.same has.0 c.requires.pass.idle.1 c.requires.pass.idle.0.5 c.halt_once-halted.ensures.turn.0.5 c.leave_turn.ensures.seen),
      ap (λ (l : List Signed). (state_at l).halted) (seen_after x y c.leave_turn.ensures.seen) ∙ (ap (λ z. (state_at z.seen).halted) has.0 ∙ (sym (halted_core w.seen) ∙ has.1)),
      same_duties_after v w x y c.take_turn-turn.ensures.same (ap (λ z. z.duties) has.0) c.leave_turn.ensures.seen,
    )) c.halt_once-halted.ensures.err
