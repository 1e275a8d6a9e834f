use Rattle.std.proofs.Common.{◌∙◌, ℕ, ◌<◌, sym, subst}
use Rattle.cd_legal.specs.declared.limits.TheConstants.{LAST_SERIAL}
use Rattle.cd_legal.specs.Laws.{core_at}
use Rattle.cd_legal.specs.Legal.{state_at}
use Rattle.cd_life.specs.Origins.{change_of}
use Rattle.cd_gate.specs.Passes.{view, opening_of}
use Rattle.cd_hall.specs.Drafts.{held}
use Rattle.cd_hall.proofs.Bare.{serial_core, halted_core, retired_core}
use Rattle.cd_hall.proofs.InHand.{is_current, has_room, still_runs, by_none}
use Rattle.cd_hall.proofs.Settled.{oldest_retired}
use Rattle.cd_hall.proofs.publishing.publish_in_turn.Goals as goal

pub publish_next-requires-clause-follows : goal.publish_next-requires-clause-follows
publish_next-requires-clause-follows g c κs within =
    let v = view c.args.pass.now in
    let l = core_at v.seen in
    let told = c.serial-current.ensures.state (opening_of c.args.gate.now) l c.requires.turn.board in
    let here = is_current c.args.serial c.serial-current.result (state_at l).serial told c.requires.there c.if-serial-current.false in
    let current = here ∙ serial_core v.seen in
    let runs = still_runs g.M.ModuleSet.change v c.args.serial (change_of c.args.origin) (held c.args.draft).tree c.requires.turn.knows current c.requires.change in
    record {
      settled = c.requires.settled;
      draft = c.requires.draft;
      whole = c.requires.whole;
      ticket = c.requires.ticket;
      current = current;
      running = runs;
      change = c.requires.change;
      room = subst (λ (n : ℕ). n < LAST_SERIAL) (sym here) (has_room c.serial-current.result (state_at l).serial told (c.requires.room (halted_core v.seen ∙ runs)) c.if-current-eq-LAST_SERIAL.false);
      retired = λ k last. sym (retired_core v.seen k) ∙ oldest_retired (state_at l) c.args.serial c.serial-current.result k (here ∙ sym told) (sym c.in_default.is ∙ c.unretired_before.ensures (opening_of c.args.gate.now) l c.requires.turn.board) last;
    }

pub returns-clause-publishes : goal.returns-clause-publishes
returns-clause-publishes g c = (
  c.publish_next.ensures.settles,
  by_none (state_at (core_at (view c.args.pass.now).seen)) c.args.serial c.serial-current.result (c.serial-current.ensures.state (opening_of c.args.gate.now) (core_at (view c.args.pass.now).seen) c.requires.turn.board) c.if-serial-current.false (sym c.in_default.is ∙ c.unretired_before.ensures (opening_of c.args.gate.now) (core_at (view c.args.pass.now).seen) c.requires.turn.board) c.if-current-eq-LAST_SERIAL.false,
)
