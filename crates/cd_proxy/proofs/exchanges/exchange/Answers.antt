use Rattle.std.proofs.Common.{Bool, List, Option, subst, sym, ◌∙◌}
use Rattle.cd_peers.specs.declared.dialled.Dialled.{Dialled}
use Rattle.cd_proxy.specs.Exchanges.{Conversed, Exchanged}
use Rattle.cd_proxy.proofs.ExchangeLemmas.{exchanged}
use Rattle.cd_proxy.proofs.exchanges.exchange.Goals as goal

pub returns-clause-exchanged : goal.returns-clause-exchanged
returns-clause-exchanged g c =
    let old : Option (List Dialled) = g.P.Peers.past c.args.peers.now in
    let after : Option (List Dialled) = g.P.Peers.past c.converse-outcome.new.peers in
    subst (λ (now : Option (List Dialled)). Exchanged c.args.request.now c.args.to.now c.converse-outcome.result old now) (sym c.end.ensures.past)
    (exchanged c.args.request.now c.args.to.now c.as_slice.result.now c.converse-outcome.result old after (c.as_slice.ensures ∙ c.in-Ok.ensures)
    (subst (λ (h : Bool). Conversed h c.as_slice.result.now c.args.to.now old after c.converse-outcome.result) c.is_head.ensures
    (c.converse-outcome.ensures.conversed old c.args.to.now c.in-Ready.ensures.past)))
