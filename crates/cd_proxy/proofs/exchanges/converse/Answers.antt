use Rattle.std.proofs.Common.{ℕ, List, subst}
use Rattle.cd_peers.specs.Peers.{unused}
use Rattle.cd_proxy.specs.Exchanges.{Tells}
use Rattle.cd_proxy.proofs.Telling.{tells_put}
use Rattle.cd_proxy.proofs.ExchangeLemmas.{conversed, cut_short}
use Rattle.cd_proxy.proofs.exchanges.converse.Goals as goal

pub returns-in-All-clause-conversed : goal.returns-in-All-clause-conversed
returns-in-All-clause-conversed g c = λ first to told.
    let p = c.in-All.ensures.past in
    conversed c.args.bytes.now c.args.head to first (g.P.Peers.past c.receive.new.peers) c.receive.result
    (c.receive.ensures.received first (record (unused to) { put = c.args.bytes.now })
    (subst (λ (b : List ℕ). Tells (record (unused to) { put = b }) first (g.P.Peers.past c.put.new.peers)) p.1
    (tells_put p.0 (unused to) first (g.P.Peers.past c.args.peers.now) (g.P.Peers.past c.put.new.peers) told p.2)))

pub returns-in-Failed-clause-conversed : goal.returns-in-Failed-clause-conversed
returns-in-Failed-clause-conversed g c = λ first to told.
    let p = c.in-Failed.ensures.past in
    cut_short c.args.bytes.now p.0 c.args.head to first (g.P.Peers.past c.args.peers.now) (g.P.Peers.past c.put.new.peers) told p.1 p.2
