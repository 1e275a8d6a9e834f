use Rattle.std.proofs.Common.{◌∷◌, ◌∙◌, [], ℕ, inl, inr, refl, sym, subst}
use Rattle.cd_legal.specs.declared.entry.Entry.TheVariants.{Begin}
use Rattle.cd_gate.specs.Passes.{view}
use Rattle.cd_hall.specs.Requests.{BegunNow}
use Rattle.cd_hall.proofs.Placing.{turned_places}
use Rattle.cd_serve.specs.declared.how.How.TheVariants as how
use Rattle.cd_serve.proofs.Begun.{served-lacking, unbegun}
use Rattle.cd_serve.proofs.Guarded.{lacking-given, unbegun-kept}
use Rattle.cd_serve.proofs.LetGo.{nothing-concluded, nothing-placed}
use Rattle.cd_serve.proofs.beginning.begin.Goals as goal

pub returns-in-Ready-clause-begun : goal.returns-in-Ready-clause-begun
returns-in-Ready-clause-begun g c =
    let b = c.in-Ready.ensures.ready in
    c.requests_begin_under_their_tickets.ensures.at_once (view c.args.pass.now) (view c.begin_now.new.pass) b.0 b.1 c.requires.pass.unchecked b.4

pub returns-in-Ok-clause-begun : goal.returns-in-Ok-clause-begun
returns-in-Ok-clause-begun g c =
    let v = view c.args.pass.now in
    let w = view c.begin_now.new.pass in
    let b = c.in-Stale.ensures.stale in
    let f = c.in-Ok.ensures.makes in
    c.requests_begin_under_their_tickets-in-Ok.ensures.later v w (view c.fetch.new.pass) b.0 f.0 (subst (λ (n : ℕ). BegunNow v w n b.0) (sym c.in-Ok.ensures.ticket.0) b.1) c.requires.pass.unchecked f.1 c.in-Ok.ensures.ticket.1

pub returns-in-Err-clause-served : goal.returns-in-Err-clause-served
returns-in-Err-clause-served g c m at q past =
    let v = view c.args.pass.now in
    let w = view c.begin_now.new.pass in
    let b = c.in-Stale.ensures.stale in
    let t = c.the_beginning_of_a_request_is_one_entry.ensures.turned v w c.in-Stale.hold.serial b.0 b.1 c.requires.pass.unchecked in
    let f = c.in-Err.ensures.finishes in
    served-lacking m at q c.in-Stale.hold.serial v w (view c.retire_due.new.pass) b.0 past t.0 t.1
    (c.retire_due.ensures.concluded w c.in-Stale.hold.serial f.0 f.1 f.2 (c.in-Err.ensures.due f.0 f.1))

pub returns-in-Worn-clause-served : goal.returns-in-Worn-clause-served
returns-in-Worn-clause-served g c m at q past =
    let v = view c.args.pass.now in
    let w = view c.begin_now.new.pass in
    let f = c.in-Worn.ensures.worn in
    unbegun m at q how.Worn v w past refl (turned_places v w f.0 [] (c.the_beginning_of_a_request_is_one_entry.ensures.worn v w f.0 f.1 f.3))

pub returns-in-Err-clause-nothing : goal.returns-in-Err-clause-nothing
returns-in-Err-clause-nothing g c =
    let v = view c.args.pass.now in
    let w = view c.begin_now.new.pass in
    let b = c.in-Stale.ensures.stale in
    let t = c.the_beginning_of_a_request_is_one_entry.ensures.turned v w c.in-Stale.hold.serial b.0 b.1 c.requires.pass.unchecked in
    let f = c.in-Err.ensures.finishes in
    nothing-concluded w (view c.retire_due.new.pass) (c.retire_due.ensures.concluded w c.in-Stale.hold.serial f.0 f.1 f.2 (c.in-Err.ensures.due f.0 f.1))
    ∙ nothing-placed v w _ (turned_places v w b.0 (Begin v.number c.in-Stale.hold.serial ∷ []) t.0) refl

pub returns-in-Worn-clause-nothing : goal.returns-in-Worn-clause-nothing
returns-in-Worn-clause-nothing g c =
    let v = view c.args.pass.now in
    let w = view c.begin_now.new.pass in
    let f = c.in-Worn.ensures.worn in
    nothing-placed v w [] (turned_places v w f.0 [] (c.the_beginning_of_a_request_is_one_entry.ensures.worn v w f.0 f.1 f.3)) refl

pub returns-in-Err-clause-keeps_up : goal.returns-in-Err-clause-keeps_up
returns-in-Err-clause-keeps_up g c since past =
    let v = view c.args.pass.now in
    let w = view c.begin_now.new.pass in
    let b = c.in-Stale.ensures.stale in
    let t = c.the_beginning_of_a_request_is_one_entry.ensures.turned v w c.in-Stale.hold.serial b.0 b.1 c.requires.pass.unchecked in
    let f = c.in-Err.ensures.finishes in
    inr (refl, lacking-given c.in-Stale.hold.serial v w (view c.retire_due.new.pass) b.0 past t.0 t.1 (c.retire_due.ensures.concluded w c.in-Stale.hold.serial f.0 f.1 f.2 (c.in-Err.ensures.due f.0 f.1)))

pub returns-in-Worn-clause-keeps_up : goal.returns-in-Worn-clause-keeps_up
returns-in-Worn-clause-keeps_up g c since past =
    let v = view c.args.pass.now in
    let w = view c.begin_now.new.pass in
    let f = c.in-Worn.ensures.worn in
    inl (unbegun-kept since v w (turned_places v w f.0 [] (c.the_beginning_of_a_request_is_one_entry.ensures.worn v w f.0 f.1 f.3)))
