use Rattle.std.proofs.Common.{◌≡◌, ℕ, ◌+◌, true, Some, [], ◌∷◌, ◌++◌, refl, sym, ap, subst, ◌∙◌}
use Rattle.std.specs.Arc.{arc_value}
use Rattle.cd_legal.specs.declared.entry.Change.{Change}
use Rattle.cd_legal.specs.declared.entry.Entry.TheVariants.{Publish}
use Rattle.cd_legal.specs.Entry.{signed}
use Rattle.cd_legal.specs.Laws.{core_at}
use Rattle.cd_legal.specs.Legal.{allowed, state_at}
use Rattle.cd_legal.specs.Signing.{may_sign}
use Rattle.cd_gate.specs.Passes.{view, opening_of}
use Rattle.cd_gate.specs.Words.{owed}
use Rattle.cd_life.specs.Origins.{change_of}
use Rattle.cd_life.specs.Standing.{Stood}
use Rattle.cd_hall.specs.Drafts.{held}
use Rattle.cd_hall.specs.GoesOn.{GoesOn}
use Rattle.cd_hall.proofs.Drafted.{left_here}
use Rattle.cd_hall.proofs.GivenUp.{same_turn}
use Rattle.cd_hall.proofs.Goes.{goes_superseded}
use Rattle.cd_hall.proofs.InHand.{serial_here, running_here, suits_here, below_last, may_be_published}
use Rattle.cd_hall.proofs.Noted.{owns}
use Rattle.cd_hall.proofs.Requested.{stands_on}
use Rattle.cd_hall.proofs.Turning.{superseded_turn}
use Rattle.cd_hall.proofs.publishing.note_publish.Goals as goal

-- what is said of equals
said : (P : ℕ → Change → Type 0) (d e : ℕ) (way other : Change) → e ≡ d → other ≡ way → P d way → P e other
said P d e way other one two is = subst (λ (z : ℕ). P z other) (sym one) (subst (λ (z : Change). P d z) (sym two) is)

pub publish_step-begins-requires-clause-settled : goal.publish_step-begins-requires-clause-settled
publish_step-begins-requires-clause-settled g c = c.requires.follows.settled

pub publish_step-begins-requires-clause-runs : goal.publish_step-begins-requires-clause-runs
publish_step-begins-requires-clause-runs g c = c.requires.follows.running

pub publish_step-begins-requires-clause-retired : goal.publish_step-begins-requires-clause-retired
publish_step-begins-requires-clause-retired g c = c.requires.follows.retired

pub publish_step-begins-requires-clause-ticket : goal.publish_step-begins-requires-clause-ticket
publish_step-begins-requires-clause-ticket g c = c.requires.follows.ticket

pub publish_step-begins-requires-clause-current : goal.publish_step-begins-requires-clause-current
publish_step-begins-requires-clause-current g c = (c.requires.follows.current, c.requires.follows.room)

pub publish_step-begins-requires-clause-entry : goal.publish_step-begins-requires-clause-entry
publish_step-begins-requires-clause-entry g c = (c.number-drafted.result, c.args.successor.serial + 1, change_of c.of-asked.result.value, refl)

pub publish_step-begins-requires-clause-may : goal.publish_step-begins-requires-clause-may
publish_step-begins-requires-clause-may g c =
    let v = view c.args.pass.now in (
      said (λ d way. allowed (state_at v.seen) (Publish d (c.args.successor.serial + 1) c.args.successor.serial way) ≡ true) c.args.successor.draft.left.number c.number-drafted.result (change_of c.args.successor.origin) (change_of c.of-asked.result.value) c.number-drafted.ensures (ap change_of c.of-asked.ensures)
          (may_be_published (state_at v.seen) (held c.args.successor.draft) c.args.successor.serial (change_of c.args.successor.origin) c.requires.follows.draft.live c.requires.follows.whole c.requires.follows.running c.requires.follows.current),
      said (λ d way. may_sign v.number (owed v) (Publish d (c.args.successor.serial + 1) c.args.successor.serial way) ≡ true) c.args.successor.draft.left.number c.number-drafted.result (change_of c.args.successor.origin) (change_of c.of-asked.result.value) c.number-drafted.ensures (ap change_of c.of-asked.ensures) (owns v c.args.successor.draft.left.number c.requires.follows.draft.own),
    )

pub publish-requires-clause-draft : goal.publish-requires-clause-draft
publish-requires-clause-draft g c κs within = left_here g.F.Fixtures.calls g.F.Fixtures.faults g.M.ModuleSet.plan g.M.ModuleSet.change c.args.gate.now c.publish_step-begins.new.turn c.args.pass.now (same_turn (Stood g.F.Fixtures.calls g.F.Fixtures.faults g.M.ModuleSet.plan g.M.ModuleSet.change) c.args.gate.now c.args.turn.now c.publish_step-begins.new.turn c.args.pass.now c.requires.turn (ap (λ z. z.value) c.publish_step-begins.ensures.same)) c.args.successor.draft c.requires.follows.draft

pub publish-requires-clause-made : goal.publish-requires-clause-made
publish-requires-clause-made g c κs within = c.requires.follows.whole.made ∙ sym c.requires.follows.draft.modules

pub publish-requires-clause-started : goal.publish-requires-clause-started
publish-requires-clause-started g c κs within = c.requires.follows.whole.started ∙ sym c.requires.follows.draft.apps

pub publish-requires-clause-unfailed : goal.publish-requires-clause-unfailed
publish-requires-clause-unfailed g c κs within = c.requires.follows.whole.unfailed

pub publish-requires-clause-running : goal.publish-requires-clause-running
publish-requires-clause-running g c κs within = running_here g.F.Fixtures.calls g.F.Fixtures.faults g.M.ModuleSet.plan g.M.ModuleSet.change c.args.gate.now c.publish_step-begins.new.turn c.args.pass.now (same_turn (Stood g.F.Fixtures.calls g.F.Fixtures.faults g.M.ModuleSet.plan g.M.ModuleSet.change) c.args.gate.now c.args.turn.now c.publish_step-begins.new.turn c.args.pass.now c.requires.turn (ap (λ z. z.value) c.publish_step-begins.ensures.same)) c.requires.follows.running

pub publish-requires-clause-current : goal.publish-requires-clause-current
publish-requires-clause-current g c κs within = serial_here g.F.Fixtures.calls g.F.Fixtures.faults g.M.ModuleSet.plan g.M.ModuleSet.change c.args.gate.now c.publish_step-begins.new.turn c.args.pass.now (same_turn (Stood g.F.Fixtures.calls g.F.Fixtures.faults g.M.ModuleSet.plan g.M.ModuleSet.change) c.args.gate.now c.args.turn.now c.publish_step-begins.new.turn c.args.pass.now c.requires.turn (ap (λ z. z.value) c.publish_step-begins.ensures.same)) c.args.successor.serial c.requires.follows.current

pub publish-requires-clause-bound : goal.publish-requires-clause-bound
publish-requires-clause-bound g c κs within = below_last c.args.successor.serial c.requires.follows.room

pub publish-requires-clause-change : goal.publish-requires-clause-change
publish-requires-clause-change g c κs within = suits_here g.F.Fixtures.calls g.F.Fixtures.faults g.M.ModuleSet.plan g.M.ModuleSet.change c.args.gate.now c.publish_step-begins.new.turn c.args.pass.now (same_turn (Stood g.F.Fixtures.calls g.F.Fixtures.faults g.M.ModuleSet.plan g.M.ModuleSet.change) c.args.gate.now c.args.turn.now c.publish_step-begins.new.turn c.args.pass.now c.requires.turn (ap (λ z. z.value) c.publish_step-begins.ensures.same)) c.args.successor.serial (change_of c.args.successor.origin) (arc_value c.args.successor.draft.loaded).tree c.requires.follows.current c.requires.follows.change

pub returns-clause-turn : goal.returns-clause-turn
returns-clause-turn g c =
    let t = c.publish_step-begins.ensures.publishes in
    let v = view c.args.pass.now in
    superseded_turn (Stood g.F.Fixtures.calls g.F.Fixtures.faults g.M.ModuleSet.plan g.M.ModuleSet.change) c.args.gate.now _ c.args.pass.now c.publish_step-begins.new.pass t.0 (Publish c.number-drafted.result (c.args.successor.serial + 1) c.args.successor.serial (change_of c.of-asked.result.value)) c.args.successor.serial _ c.requires.turn.knows t.1 t.4 refl c.publish_step-begins.ensures.pass t.3
    (said (λ d way. Stood g.F.Fixtures.calls g.F.Fixtures.faults g.M.ModuleSet.plan g.M.ModuleSet.change (opening_of c.args.gate.now) c.publish.new.self (core_at v.seen ++ signed v.number (Publish d (c.args.successor.serial + 1) c.args.successor.serial way) ∷ []))
    c.args.successor.draft.left.number c.number-drafted.result (change_of c.args.successor.origin) (change_of c.of-asked.result.value) c.number-drafted.ensures (ap change_of c.of-asked.ensures)
    (stands_on g.F.Fixtures.calls g.F.Fixtures.faults g.M.ModuleSet.plan g.M.ModuleSet.change c.args.gate.now c.publish_step-begins.new.turn c.args.pass.now (same_turn (Stood g.F.Fixtures.calls g.F.Fixtures.faults g.M.ModuleSet.plan g.M.ModuleSet.change) c.args.gate.now c.args.turn.now c.publish_step-begins.new.turn c.args.pass.now c.requires.turn (ap (λ z. z.value) c.publish_step-begins.ensures.same)) c.publish.new.self (Publish c.args.successor.draft.left.number (c.args.successor.serial + 1) c.args.successor.serial (change_of c.args.successor.origin)) c.publish.ensures.entry))

pub returns-clause-goes : goal.returns-clause-goes
returns-clause-goes g c =
    let t = c.publish_step-begins.ensures.publishes in
    said (λ d way. GoesOn (view c.args.pass.now) (view c.publish_step-begins.new.pass) (Publish d (c.args.successor.serial + 1) c.args.successor.serial way ∷ [])) c.number-drafted.result c.args.successor.draft.left.number (change_of c.of-asked.result.value) (change_of c.args.successor.origin) (sym c.number-drafted.ensures) (sym (ap change_of c.of-asked.ensures))
    (goes_superseded (view c.args.pass.now) (view c.publish_step-begins.new.pass) t.0 (Publish c.number-drafted.result (c.args.successor.serial + 1) c.args.successor.serial (change_of c.of-asked.result.value)) c.args.successor.serial _ c.requires.turn.knows t.1 t.4 refl t.3)

pub returns-clause-ticket : goal.returns-clause-ticket
returns-clause-ticket g c = ap (λ z. z.ticket) c.publish_step-begins.ensures.publishes.3 ∙ c.requires.follows.ticket

pub returns-clause-unsettled : goal.returns-clause-unsettled
returns-clause-unsettled g c =
    let t = c.publish_step-begins.ensures.publishes in
    ap (λ z. z.unsettled) t.3 ∙ ap (λ (m : ℕ). Some (record { serial = c.args.successor.serial; begins = m })) (sym t.2)
