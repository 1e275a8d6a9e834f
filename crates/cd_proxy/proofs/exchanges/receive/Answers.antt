use Rattle.std.proofs.Common.{ℕ, List, Bool, ◌∙◌, arith, false, ap, subst, sym}
use Rattle.cd_proxy.specs.declared.reading.Reading.TheVariants as reading
use Rattle.cd_proxy.specs.Exchanges.{Tells, Received, with_read}
use Rattle.cd_proxy.specs.Intake.{ResponseInput}
use Rattle.cd_proxy.specs.Responses.{IsReading}
use Rattle.cd_proxy.proofs.EmptyLemmas.{nothing_read}
use Rattle.cd_proxy.proofs.exchanges.receive.Goals as goal

pub loop-init : goal.loop-init
loop-init g c =
    let none = ap (λ (i : ResponseInput). i.bytes) c.new-intake.ensures in
    record {
      turns = (tt, tt);
      busy = c.requires;
      later = omega arith;
      head = ap (λ (i : ResponseInput). i.to_head) c.new-intake.ensures;
      told = λ first d told. subst (λ (t : List ℕ). Tells (with_read t false d) first (g.P.Peers.past c.args.peers.now)) (sym none) told;
      more = nothing_read c.new-intake.result.bytes c.args.head none;
    }

pub read_once-requires-clause-busy : goal.read_once-requires-clause-busy
read_once-requires-clause-busy g c = c.loop.invariant.busy

pub loop-preserved : goal.loop-preserved
loop-preserved g c =
    let head = c.loop.invariant.head in
    let more = subst (λ (h : Bool). IsReading c.loop.intake.bytes false h reading.More) (sym head) c.loop.invariant.more in
    record {
      turns = (tt, tt);
      busy = c.read_once.ensures.busy;
      later = omega (arith, c.loop.invariant.later, c.read_once.ensures.later);
      head = c.in-None-read_once.ensures.head ∙ head;
      told = λ first d told. (c.in-None-read_once.ensures.goes first d (c.loop.invariant.told first d told) more).0;
      more = subst (λ (h : Bool). IsReading c.read_once.new.intake.bytes false h reading.More) head c.in-None-read_once.ensures.more;
    }

-- it is settled what came
pub returns-in-Some-read_once-clause-received : goal.returns-in-Some-read_once-clause-received
returns-in-Some-read_once-clause-received g c = λ first d told.
    let head = c.loop.invariant.head in
    let more = subst (λ (h : Bool). IsReading c.loop.intake.bytes false h reading.More) (sym head) c.loop.invariant.more in
    subst (λ (h : Bool). Received h d first (g.P.Peers.past c.read_once.new.peers) c.in-Some-read_once.outcome) head
    (c.in-Some-read_once.ensures.goes first d (c.loop.invariant.told first d told) more)
