use Rattle.std.proofs.Common.{◌≡◌, ◌∙◌, ◌+◌, List, ℕ, Bool, true, false, min, subst, arith}
use Rattle.cd_outside.specs.Counts.{count_end}
use Rattle.cd_session.specs.declared.cause.Cause.TheVariants as cause
use Rattle.cd_serve.specs.declared.how.How.{How}
use Rattle.cd_serve.specs.declared.how.How.TheVariants as how
use Rattle.cd_serve.specs.Meanings.{IsProperPrefix}
use Rattle.cd_serve.specs.Episodes.{Outcome}
use Rattle.cd_serve.specs.Serving.{Replied}
use Rattle.cd_serve.specs.Requests.{RequestServed}
use Rattle.cd_serve.proofs.Stepping.{goes-answered, over-closed, over-unlogged, over-broken, over-lacking, over-dropped, over-halted, over-worn, over-wearing, ends-as}
use Rattle.cd_serve.proofs.session.after_request.Goals as goal

pub returns-then-close-clause-steps : goal.returns-then-close-clause-steps
returns-then-close-clause-steps g c m at q v w x first old left going begins s full =
    let session = c.args.session.now in
    let past = g.L.Lane.past c.args.lane.now in
    let now : RequestServed m at q (how.Answered c.in-Answered.close) w x old past = subst (λ (h : How). RequestServed m at q h w x old past) c.in-Answered.is s in
    let r : Replied m w.number at q (Outcome.answered true) now.own old past = subst (λ (b : Bool). Replied m w.number at q (Outcome.answered b) now.own old past) c.if-close.true now.served in
    let more : c.saturating_add-session.result ≡ min (session.answered + 1) count_end = omega (arith, c.saturating_add-session.ensures) in
    ends-as m at cause.Whole c.saturating_add-session.result v x first past c.end.result c.end.ensures
    (over-closed m at left session.ended session.answered v w first old going q session.intake x now.own past begins now.places c.saturating_add-session.result r more)

pub returns-else-close-clause-steps : goal.returns-else-close-clause-steps
returns-else-close-clause-steps g c m at q v w x first old left going begins s full =
    let session = c.args.session.now in
    let past = g.L.Lane.past c.args.lane.now in
    let now : RequestServed m at q (how.Answered c.in-Answered.close) w x old past = subst (λ (h : How). RequestServed m at q h w x old past) c.in-Answered.is s in
    let r : Replied m w.number at q (Outcome.answered false) now.own old past = subst (λ (b : Bool). Replied m w.number at q (Outcome.answered b) now.own old past) c.if-close.false now.served in
    let more : c.saturating_add-session.result ≡ min (session.answered + 1) count_end = omega (arith, c.saturating_add-session.ensures) in
    goes-answered m at left session.ended session.answered v w first old going q session.intake x now.own past begins now.places c.saturating_add-session.result r more

pub returns-in-Unlogged-clause-steps : goal.returns-in-Unlogged-clause-steps
returns-in-Unlogged-clause-steps g c m at q v w x first old left going begins s full =
    let session = c.args.session.now in
    let past = g.L.Lane.past c.args.lane.now in
    let now : RequestServed m at q how.Unlogged w x old past = subst (λ (h : How). RequestServed m at q h w x old past) c.in-Unlogged.is s in
    let more : c.saturating_add-session-in-Unlogged.result ≡ min (session.answered + 1) count_end = omega (arith, c.saturating_add-session-in-Unlogged.ensures) in
    ends-as m at cause.Failed c.saturating_add-session-in-Unlogged.result v x first past c.end-in-Unlogged.result c.end-in-Unlogged.ensures
    (over-unlogged m at left session.ended session.answered v w first old going q session.intake x now.own past begins now.places c.saturating_add-session-in-Unlogged.result now.served more)

pub returns-in-Failed-clause-steps : goal.returns-in-Failed-clause-steps
returns-in-Failed-clause-steps g c m at q v w x first old left going begins s full =
    let session = c.args.session.now in
    let past = g.L.Lane.past c.args.lane.now in
    let now : RequestServed m at q how.Failed w x old past = subst (λ (h : How). RequestServed m at q h w x old past) c.in-Failed.is s in
    ends-as m at cause.Failed session.answered v x first past c.end-in-Failed.result c.end-in-Failed.ensures
    (over-broken m at left session.ended session.answered v w first old going q session.intake x now.own past begins now.places now.served)

pub returns-in-NoMemory-clause-steps : goal.returns-in-NoMemory-clause-steps
returns-in-NoMemory-clause-steps g c m at q v w x first old left going begins s full =
    let session = c.args.session.now in
    let past = g.L.Lane.past c.args.lane.now in
    let now : RequestServed m at q how.NoMemory w x old past = subst (λ (h : How). RequestServed m at q h w x old past) c.in-NoMemory.is s in
    ends-as m at cause.Lacking session.answered v x first past c.end-in-NoMemory.result c.end-in-NoMemory.ensures
    (over-lacking m at left session.ended session.answered v w first old going q session.intake x now.own past begins now.places now.served)

pub returns-in-Dropped-clause-steps : goal.returns-in-Dropped-clause-steps
returns-in-Dropped-clause-steps g c m at q v w x first old left going begins s full =
    let session = c.args.session.now in
    let past = g.L.Lane.past c.args.lane.now in
    let now : RequestServed m at q how.Dropped w x old past = subst (λ (h : How). RequestServed m at q h w x old past) c.in-Dropped.is s in
    ends-as m at cause.Whole session.answered v x first past c.end-in-Dropped.result c.end-in-Dropped.ensures
    (over-dropped m at left session.ended session.answered v w first old going q session.intake x now.own past begins now.places now.served)

pub returns-in-Halted-clause-steps : goal.returns-in-Halted-clause-steps
returns-in-Halted-clause-steps g c m at q v w x first old left going begins s full =
    let session = c.args.session.now in
    let past = g.L.Lane.past c.args.lane.now in
    let now : RequestServed m at q how.Halted w x old past = subst (λ (h : How). RequestServed m at q h w x old past) c.in-Halted.is s in
    over-halted m at left session.ended session.answered v w first old going q session.intake x now.own past begins now.places now.served

pub returns-in-All-clause-steps : goal.returns-in-All-clause-steps
returns-in-All-clause-steps g c m at q v w x first old left going begins s full =
    let session = c.args.session.now in
    let past = g.L.Lane.past c.args.lane.now in
    let now : RequestServed m at q how.Worn w x old past = subst (λ (h : How). RequestServed m at q h w x old past) c.in-Worn.is s in
    let puts = c.in-All.ensures.past in
    ends-as m at cause.Whole session.answered v x first (g.L.Lane.past c.put.new.lane) c.end-in-All.result c.end-in-All.ensures
    (over-worn m at left session.ended session.answered v w first old going q session.intake x now.own past begins now.places now.served puts.0 (g.L.Lane.past c.put.new.lane) (full c.in-Worn.is) (puts.1 ∙ c.refusal.ensures) puts.2)

pub returns-in-Failed-put-clause-steps : goal.returns-in-Failed-put-clause-steps
returns-in-Failed-put-clause-steps g c m at q v w x first old left going begins s full =
    let session = c.args.session.now in
    let past = g.L.Lane.past c.args.lane.now in
    let now : RequestServed m at q how.Worn w x old past = subst (λ (h : How). RequestServed m at q h w x old past) c.in-Worn.is s in
    let puts = c.in-Failed-put.ensures.past in
    ends-as m at cause.Failed session.answered v x first (g.L.Lane.past c.put.new.lane) c.end-in-Failed-put.result c.end-in-Failed-put.ensures
    (over-wearing m at left session.ended session.answered v w first old going q session.intake x now.own past begins now.places now.served puts.0 (g.L.Lane.past c.put.new.lane) (full c.in-Worn.is)
    (subst (λ (z : List ℕ). IsProperPrefix puts.0 z) c.refusal.ensures puts.1) puts.2)
