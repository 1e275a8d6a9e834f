use Rattle.std.proofs.Common.{sym, ap, subst, ◌∙◌}
use Rattle.cd_gate.specs.Passes.{view}
use Rattle.cd_desk.specs.declared.closing.Closing.{Closing}
use Rattle.cd_desk.specs.Closings.{MayClean}
use Rattle.cd_hall.proofs.Requested.{kept_turn}
use Rattle.cd_hall.proofs.GivenUp.{gave_up, number_is, abandoned_calm}
use Rattle.cd_hall.proofs.abandoning.abandon_in_turn.Goals as goal

pub stop_all-requires-clause-closing : goal.stop_all-requires-clause-closing
stop_all-requires-clause-closing g c κs within = record { turn = c.note_abandon-removed.ensures.turn; at = c.note_abandon-removed.ensures.at }

pub clean_all-requires-clause-closing : goal.clean_all-requires-clause-closing
clean_all-requires-clause-closing g c κs within = record { turn = c.stop_all.ensures.turn; at = c.stop_all.ensures.at }

pub clean_all-requires-clause-stopped : goal.clean_all-requires-clause-stopped
clean_all-requires-clause-stopped g c κs within = ap (λ (z : Closing). z.apps) c.stop_all.ensures.closing

pub clean_all-requires-clause-may : goal.clean_all-requires-clause-may
clean_all-requires-clause-may g c κs within more =
    let l = c.args.draft.left in
    let number = number_is l.number l.made l.started c.note_abandon-removed.result.closing c.note_abandon-removed.ensures.closing in
    subst (λ z. MayClean c.stop_all.new.turn.value.desk.books z) (sym (ap (λ (z : Closing). z.number) c.stop_all.ensures.closing))
    (c.stop_all.ensures.clean (subst (λ z. MayClean c.note_abandon-removed.new.turn.value.desk.books z) (sym number) c.note_abandon-removed.ensures.clean))

pub closed-requires-clause-apps : goal.closed-requires-clause-apps
closed-requires-clause-apps g c κs within = ap (λ (z : Closing). z.apps) c.clean_all.ensures.closing ∙ ap (λ (z : Closing). z.apps) c.stop_all.ensures.closing

pub closed-requires-clause-instances : goal.closed-requires-clause-instances
closed-requires-clause-instances g c κs within = ap (λ (z : Closing). z.instances) c.clean_all.ensures.closing

pub returns-clause-turn : goal.returns-clause-turn
returns-clause-turn g c = kept_turn g.F.Fixtures.calls g.F.Fixtures.faults g.M.ModuleSet.plan g.M.ModuleSet.change c.args.gate.now c.clean_all.new.turn c.clean_all.new.pass c.clean_all.ensures.turn _ c.closed.ensures.keeps

pub returns-clause-goes : goal.returns-clause-goes
returns-clause-goes g c =
    let l = c.args.draft.left in
    gave_up (view c.args.pass.now) (view c.note_abandon-removed.new.pass) (view c.stop_all.new.pass) (view c.clean_all.new.pass) l.number l.made l.started c.note_abandon-removed.result.closing c.stop_all.new.closing
    c.note_abandon-removed.ensures.goes c.note_abandon-removed.ensures.closing c.stop_all.ensures.goes c.stop_all.ensures.closing c.clean_all.ensures.goes

pub returns-clause-calm : goal.returns-clause-calm
returns-clause-calm g c =
    let l = c.args.draft.left in
    abandoned_calm (view c.args.pass.now) (view c.clean_all.new.pass) c.args.draft c.requires.draft c.requires.turn.knows
    (gave_up (view c.args.pass.now) (view c.note_abandon-removed.new.pass) (view c.stop_all.new.pass) (view c.clean_all.new.pass) l.number l.made l.started c.note_abandon-removed.result.closing c.stop_all.new.closing
    c.note_abandon-removed.ensures.goes c.note_abandon-removed.ensures.closing c.stop_all.ensures.goes c.stop_all.ensures.closing c.clean_all.ensures.goes)
    (c.clean_all.ensures.unsettled ∙ (c.stop_all.ensures.unsettled ∙ c.note_abandon-removed.ensures.unsettled)) c.requires.left
