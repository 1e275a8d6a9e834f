use Rattle.std.proofs.Common.{false, refl, ap}
use Rattle.cd_proxy.specs.Intake.{ResponseInput}
use Rattle.cd_proxy.proofs.ExchangeLemmas.{goes_kept, goes_lacking, goes_ended, goes_asked, more_asked}
use Rattle.cd_proxy.proofs.exchanges.read_once.Goals as goal

pub returns-in-Ok-clause-more : goal.returns-in-Ok-clause-more
returns-in-Ok-clause-more g c =
    more_asked c.keep.new.intake c.settled.new.intake c.args.intake.now.to_head false c.settled.result
    (ap (λ (i : ResponseInput). i.to_head) c.in-Ok.ensures.ok) c.settled.ensures.more c.settled.ensures.settles

pub returns-in-Ok-clause-goes : goal.returns-in-Ok-clause-goes
returns-in-Ok-clause-goes g c = λ first d told more.
    goes_kept c.args.intake.now c.keep.new.intake c.settled.new.intake c.read.new.into c.in-Bytes.count d first
    (g.P.Peers.past c.args.peers.now) (g.P.Peers.past c.read.new.self) c.settled.result told c.in-Bytes.ensures.past
    c.in-Ok.ensures.ok c.settled.ensures.settles c.settled.ensures.more

pub returns-in-Err-clause-goes : goal.returns-in-Err-clause-goes
returns-in-Err-clause-goes g c = λ first d told more.
    goes_lacking c.args.intake.now.bytes c.read.new.into c.keep.new.intake.bytes c.in-Bytes.count c.args.intake.now.to_head d first
    (g.P.Peers.past c.args.peers.now) (g.P.Peers.past c.read.new.self) told c.in-Bytes.ensures.past

pub returns-in-End-clause-goes : goal.returns-in-End-clause-goes
returns-in-End-clause-goes g c = λ first d told more.
    goes_asked c.args.intake.now c.settled-in-End.new.intake c.args.intake.now.to_head d first (g.P.Peers.past c.read.new.self)
    c.settled-in-End.result refl c.settled-in-End.ensures.more
    (goes_ended c.args.intake.now.bytes c.read.new.into c.args.intake.now.to_head d first (g.P.Peers.past c.args.peers.now)
    (g.P.Peers.past c.read.new.self) c.settled-in-End.result told c.in-End.ensures.past c.settled-in-End.ensures.settles)
