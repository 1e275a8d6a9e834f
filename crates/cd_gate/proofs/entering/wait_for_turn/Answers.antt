use Rattle.std.proofs.Common.{rules, ap, sym, ◌∙◌, ◌≡◌, ◌+◌, true}
use Rattle.cd_gate.proofs.TurnSteps.{takes_the_turn}
use Rattle.cd_gate.proofs.entering.wait_for_turn.Goals as goal

pub compare_exchange-holder-requires : goal.compare_exchange-holder-requires
compare_exchange-holder-requires g c =
    let same = c.loop.invariant.1 in
    let live : c.loop.seat.me.0.live ≡ true = ap (λ m. m.0.live) same ∙ c.requires.idle.1 in
    (search rules, search rules, takes_the_turn g.T.Stands.stands c.args.top.now.key.value _ _ c.args.turn c.loop.seat.me live (c.requires.turn ∙ ap (λ m. m.0.number + 1) (sym same)))
