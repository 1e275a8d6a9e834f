use Rattle.std.proofs.Common.{rules, ◌≡◌, ◌∷◌, [], Some, None, true, false, subst, ap, sym, ◌∙◌}
use Rattle.atomic_table.specs.Table.{rest}
use Rattle.cd_gate.specs.declared.table.TheConstants.{BOARD_SLOT}
use Rattle.cd_legal.specs.Laws.{core_at}
use Rattle.cd_legal.specs.Legal.{state_at}
use Rattle.cd_legal.specs.Whole.{nothing_left}
use Rattle.cd_gate.proofs.TurnSteps.{gives_back}
use Rattle.cd_gate.proofs.gate.Gate.leave.Goals as goal

pub store-requires : goal.store-requires
store-requires g c =
    let now = c.exchange-emptied.ensures.3 in
    let carried : c.exchange-emptied.new.seat.me.1 ≡ (BOARD_SLOT, Some c.args.turn.value) ∷ [] = ap (λ m. m.1) now ∙ ap (λ cs. (BOARD_SLOT, Some c.args.turn.value) ∷ rest cs) c.requires.pass.2 in
    let live : c.exchange-emptied.new.seat.me.0.live ≡ true = ap (λ m. m.0.live) now ∙ c.requires.pass.0.1 in
    let has : c.exchange-emptied.new.seat.me.0.turn ≡ true = ap (λ m. m.0.turn) now ∙ c.requires.pass.1 in
    let quiet : c.exchange-emptied.new.seat.me.0.unsettled ≡ None = ap (λ m. m.0.unsettled) now ∙ c.requires.settled in
    let unready : c.exchange-emptied.new.seat.me.0.ready ≡ false = ap (λ m. m.0.ready) now ∙ c.requires.pass.0.5 in (
      search rules,
      search rules,
      gives_back g.T.Stands.stands c.args.self.now.table.shared.key.value _ _ c.exchange-emptied.new.seat.me _ c.args.turn.value live has quiet unready carried (ap (λ m. m.0.opening) now ∙ c.requires.pass.0.3)
          (subst (λ v. g.T.Stands.stands c.args.self.now.table.shared.key.value c.args.turn.value (core_at v.seen)) (sym (ap (λ m. m.0) now)) c.requires.board)
          (ap (λ m. nothing_left (state_at m.0.seen)) now ∙ c.requires.left),
    )
