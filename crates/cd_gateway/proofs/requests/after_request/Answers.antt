use Rattle.std.proofs.Common.{◌≡◌, ◌+◌, Bool, true, false, min, subst, arith}
use Rattle.cd_outside.specs.Counts.{count_end}
use Rattle.cd_session.specs.declared.cause.Cause.TheVariants as cause
use Rattle.cd_proxy.specs.declared.answering.How.{How}
use Rattle.cd_proxy.specs.declared.answering.How.TheVariants as how
use Rattle.cd_gateway.specs.Stepping.{RelayedBetween}
use Rattle.cd_gateway.proofs.Connecting.{goes-answered, over-closed, over-broken, over-lacking, ends-as}
use Rattle.cd_gateway.proofs.requests.after_request.Goals as goal

pub returns-then-close-clause-steps : goal.returns-then-close-clause-steps
returns-then-close-clause-steps c upstreams q left first old now going begins s =
    let session = c.args.session.now in
    let r : RelayedBetween upstreams q (how.Answered c.in-Answered.close) old now = subst (λ (h : How). RelayedBetween upstreams q h old now) c.in-Answered.is s in
    let closed : RelayedBetween upstreams q (how.Answered true) old now = subst (λ (b : Bool). RelayedBetween upstreams q (how.Answered b) old now) c.if-close.true r in
    let more : c.saturating_add-session.result ≡ min (session.answered + 1) count_end = omega (arith, c.saturating_add-session.ensures) in
    ends-as upstreams cause.Whole c.saturating_add-session.result first now c.end.result c.end.ensures
    (over-closed upstreams left session.ended session.answered first old going q session.intake now begins c.saturating_add-session.result closed more)

pub returns-else-close-clause-steps : goal.returns-else-close-clause-steps
returns-else-close-clause-steps c upstreams q left first old now going begins s =
    let session = c.args.session.now in
    let r : RelayedBetween upstreams q (how.Answered c.in-Answered.close) old now = subst (λ (h : How). RelayedBetween upstreams q h old now) c.in-Answered.is s in
    let open' : RelayedBetween upstreams q (how.Answered false) old now = subst (λ (b : Bool). RelayedBetween upstreams q (how.Answered b) old now) c.if-close.false r in
    let more : c.saturating_add-session.result ≡ min (session.answered + 1) count_end = omega (arith, c.saturating_add-session.ensures) in
    goes-answered upstreams left session.ended session.answered first old going q session.intake now begins c.saturating_add-session.result open' more

pub returns-in-Failed-clause-steps : goal.returns-in-Failed-clause-steps
returns-in-Failed-clause-steps c upstreams q left first old now going begins s =
    let session = c.args.session.now in
    let r : RelayedBetween upstreams q how.Failed old now = subst (λ (h : How). RelayedBetween upstreams q h old now) c.in-Failed.is s in
    ends-as upstreams cause.Failed session.answered first now c.end-in-Failed.result c.end-in-Failed.ensures
    (over-broken upstreams left session.ended session.answered first old going q session.intake now begins r)

pub returns-in-NoMemory-clause-steps : goal.returns-in-NoMemory-clause-steps
returns-in-NoMemory-clause-steps c upstreams q left first old now going begins s =
    let session = c.args.session.now in
    let r : RelayedBetween upstreams q how.NoMemory old now = subst (λ (h : How). RelayedBetween upstreams q h old now) c.in-NoMemory.is s in
    ends-as upstreams cause.Lacking session.answered first now c.end-in-NoMemory.result c.end-in-NoMemory.ensures
    (over-lacking upstreams left session.ended session.answered first old going q session.intake now begins r)
