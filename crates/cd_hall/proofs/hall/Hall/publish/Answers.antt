use Rattle.std.proofs.Common.{◌≡◌, ◌≤◌, ℕ, ◌+◌, List, [], ◌∷◌, Some, None, sym, ap, subst, ◌∙◌}
use Rattle.cd_legal.specs.declared.entry.Entry.{Entry}
use Rattle.cd_legal.specs.declared.entry.Entry.TheVariants.{Publish}
use Rattle.cd_legal.specs.declared.entry.Signed.{Signed}
use Rattle.cd_legal.specs.declared.limits.TheConstants.{LAST_SERIAL}
use Rattle.cd_legal.specs.Laws.{core_at}
use Rattle.cd_legal.specs.Legal.{state_at}
use Rattle.cd_legal.specs.Runs.{stopped_of}
use Rattle.cd_legal.specs.State.{Conf}
use Rattle.cd_gate.specs.Passes.{view}
use Rattle.cd_life.specs.Fits.{Suits}
use Rattle.cd_life.specs.Origins.{change_of}
use Rattle.cd_hall.specs.Drafts.{IsDraftOf, held}
use Rattle.cd_hall.specs.GoesOn.{Settles}
use Rattle.cd_hall.specs.Publishing.{refusal, refusal_in, draft_in}
use Rattle.cd_hall.specs.Spread.{Spread}
use Rattle.cd_hall.specs.Turned.{Makes}
use Rattle.cd_hall.proofs.Bare.{serial_core, halted_core, stops_core, stops_alike, refusal_core, refusal_alike}
use Rattle.cd_hall.proofs.Drafted.{draft_kept, draft_in as draft_taken}
use Rattle.cd_hall.proofs.Goes.{ends_settled, leaves, none_made}
use Rattle.cd_hall.proofs.Requested.{quiet_in, pass_after, seen_after, same_duties_after, same_unsettled, ticket_taken}
use Rattle.cd_hall.proofs.Told.{if_ok, if_err}
use Rattle.cd_hall.proofs.hall.Hall.publish.Goals as goal

pub publish_in_turn-published-requires-clause-settled : goal.publish_in_turn-published-requires-clause-settled
publish_in_turn-published-requires-clause-settled g c κs within = quiet_in (view c.args.pass.now) (view c.take_turn-turn.new.pass) c.take_turn-turn.ensures.same c.requires.pass.idle.3

pub publish_in_turn-published-requires-clause-draft : goal.publish_in_turn-published-requires-clause-draft
publish_in_turn-published-requires-clause-draft g c κs within = draft_taken (view c.args.pass.now) (view c.take_turn-turn.new.pass) c.args.draft c.take_turn-turn.ensures.same c.take_turn-turn.ensures.draft c.requires.draft

pub publish_in_turn-published-requires-clause-ticket : goal.publish_in_turn-published-requires-clause-ticket
publish_in_turn-published-requires-clause-ticket g c κs within = (ticket_taken (view c.args.pass.now) (view c.take_turn-turn.new.pass) c.args.ticket.now c.take_turn-turn.ensures.same c.take_turn-turn.ensures.since c.take_turn-turn.ensures.turn.knows c.requires.ticket).own

pub publish_in_turn-published-requires-clause-there : goal.publish_in_turn-published-requires-clause-there
publish_in_turn-published-requires-clause-there g c κs within = subst (λ (n : ℕ). c.args.ticket.now.serial ≤ n) (sym (serial_core (view c.take_turn-turn.new.pass).seen)) (ticket_taken (view c.args.pass.now) (view c.take_turn-turn.new.pass) c.args.ticket.now c.take_turn-turn.ensures.same c.take_turn-turn.ensures.since c.take_turn-turn.ensures.turn.knows c.requires.ticket).has.there

pub publish_in_turn-published-requires-clause-change : goal.publish_in_turn-published-requires-clause-change
publish_in_turn-published-requires-clause-change g c κs within =
    subst (λ (z : Conf). Suits g.M.ModuleSet.change z (change_of c.args.origin) (held c.args.draft).tree) (ticket_taken (view c.args.pass.now) (view c.take_turn-turn.new.pass) c.args.ticket.now c.take_turn-turn.ensures.same c.take_turn-turn.ensures.since c.take_turn-turn.ensures.turn.knows c.requires.ticket).has.conf c.requires.change

pub publish_in_turn-published-requires-clause-room : goal.publish_in_turn-published-requires-clause-room
publish_in_turn-published-requires-clause-room g c κs within on =
    subst (λ (n : ℕ). n ≤ LAST_SERIAL) (sym (serial_core (view c.take_turn-turn.new.pass).seen)) (c.take_turn-turn.ensures.room (sym (halted_core (view c.take_turn-turn.new.pass).seen) ∙ on))

pub leave_turn-requires-clause-settled : goal.leave_turn-requires-clause-settled
leave_turn-requires-clause-settled g c = same_unsettled (view c.args.pass.now) (view c.take_turn-turn.new.pass) (view c.publish_in_turn-published.new.pass) c.take_turn-turn.ensures.same c.publish_in_turn-published.ensures.calm.unsettled ∙ c.requires.pass.idle.3

pub leave_turn-requires-clause-left : goal.leave_turn-requires-clause-left
leave_turn-requires-clause-left g c = c.publish_in_turn-published.ensures.calm.left

pub returns-clause-pass : goal.returns-clause-pass
returns-clause-pass g c =
    pass_after c.args.self.now c.leave_turn.new.pass (view c.publish_in_turn-published.new.pass) c.leave_turn.ensures.pass c.leave_turn.ensures.seen
    (c.publish_in_turn-published.ensures.checked ∙ (ap (λ z. z.checked) c.take_turn-turn.ensures.same ∙ c.requires.pass.unchecked)) c.publish_in_turn-published.ensures.history

pub returns-clause-spreads : goal.returns-clause-spreads
returns-clause-spreads g c =
    let v = (view c.args.pass.now) in
    let w = (view c.take_turn-turn.new.pass) in
    let x = (view c.publish_in_turn-published.new.pass) in
    let y = (view c.leave_turn.new.pass) in
    let n = c.args.ticket.now.serial in
    let d = c.args.draft.left.number in
    let way = change_of c.args.origin in
    if_ok (λ _. Settles w x (Publish d (n + 1) n way ∷ stopped_of (state_at (core_at w.seen)) n) [] × (refusal (state_at (core_at w.seen)) n ≡ None))
    (λ _. (found : List Signed) × Spread v y found (Publish (held c.args.draft).number (n + 1) n way ∷ stopped_of (state_at found) n) × (refusal (state_at found) n ≡ None)) c.publish_in_turn-published.result
    (λ _ has.
    let s = has.0 in
    let l = leaves v w s.unsettled x y c.take_turn-turn.ensures.same c.take_turn-turn.ensures.since c.requires.pass.idle.1 (ends_settled v s.unsettled x y c.requires.pass.idle.0.5 c.publish_in_turn-published.ensures.turn.0.5 c.requires.pass.idle.3 s.settled c.leave_turn.ensures.seen) _ s.goes in (
      l.found,
      subst (λ (es : List Entry). Spread v y l.found (Publish d (n + 1) n way ∷ es)) (stops_core w.seen n ∙ sym (stops_alike l.found w.seen l.found_core n)) l.spread,
      refusal_alike l.found w.seen l.found_core n ∙ (sym (refusal_core w.seen n) ∙ has.1),
    )) c.publish_in_turn-published.ensures.publishes

pub returns-clause-kept : goal.returns-clause-kept
returns-clause-kept g c =
    let v = (view c.args.pass.now) in
    let w = (view c.take_turn-turn.new.pass) in
    let x = (view c.publish_in_turn-published.new.pass) in
    let y = (view c.leave_turn.new.pass) in
    let n = c.args.ticket.now.serial in
    if_err (λ kept. (x ≡ w) × (draft_in kept ≡ c.args.draft) × (Some (refusal_in kept) ≡ refusal (state_at (core_at w.seen)) n))
    (λ kept. Makes v y (λ s. []) × (draft_in kept ≡ c.args.draft) × IsDraftOf y (draft_in kept) × (Some (refusal_in kept) ≡ refusal (state_at y.seen) n)) c.publish_in_turn-published.result
    (λ kept has. (
      (w.seen, none_made v w x y c.take_turn-turn.ensures.since c.take_turn-turn.ensures.same has.0 c.requires.pass.idle.1 c.requires.pass.idle.0.5 c.publish_in_turn-published.ensures.turn.0.5 c.leave_turn.ensures.seen),
      has.1,
      draft_kept v w x y c.args.draft (draft_in kept) c.take_turn-turn.ensures.same c.take_turn-turn.ensures.draft has.0 c.leave_turn.ensures.seen has.1 c.requires.draft,
      has.2 ∙ (refusal_core w.seen n ∙ ap (λ (l : List Signed). refusal (state_at l) n) (sym (seen_after x y c.leave_turn.ensures.seen ∙ ap (λ z. z.seen) has.0))),
    )) c.publish_in_turn-published.ensures.kept

pub returns-clause-duties : goal.returns-clause-duties
returns-clause-duties g c = same_duties_after (view c.args.pass.now) (view c.take_turn-turn.new.pass) (view c.publish_in_turn-published.new.pass) (view c.leave_turn.new.pass) c.take_turn-turn.ensures.same c.publish_in_turn-published.ensures.calm.duties c.leave_turn.ensures.seen
