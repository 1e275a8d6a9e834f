use Rattle.std.proofs.Common.{◌∙◌, ℕ, List, ap, subst}
use Rattle.cd_legal.specs.Legal.{state_at}
use Rattle.cd_gate.proofs.Longer.{prefix_self}
use Rattle.cd_gate.specs.Passes.{view}
use Rattle.cd_hall.specs.Calls.{duties_in}
use Rattle.cd_hall.specs.Dues.{DueThen}
use Rattle.cd_serve.proofs.Conclusions.{concluded_none, concluded_duty, retired_ticket, retired_draft, only_duty, none_left}
use Rattle.cd_serve.proofs.concluding.retire_due.Goals as goal

pub retire-requires-clause-duty : goal.retire-requires-clause-duty
retire-requires-clause-duty g c κs within = only_duty (view c.args.pass.now).duties c.in-Some.duty.serial (c.requires.duties ∙ ap duties_in c.in-Some.is)

pub returns-in-Some-clause-seen : goal.returns-in-Some-clause-seen
returns-in-Some-clause-seen g c = c.retire.ensures.spreads.1.grows.seen

pub returns-in-Some-clause-concluded : goal.returns-in-Some-clause-concluded
returns-in-Some-clause-concluded g c v serial found t has due =
    let w = view c.args.pass.now in
    let u = c.retire.ensures.spreads in
    concluded_duty v w serial found (view c.retire.new.pass) c.in-Some.duty.serial u.0 t has (c.turns_place_their_entries.ensures.places v w found _ t)
    (subst (λ (ds : List ℕ). DueThen (state_at found) serial ds) (ap duties_in c.in-Some.is) due) u.1

pub returns-in-Some-clause-ticket : goal.returns-in-Some-clause-ticket
returns-in-Some-clause-ticket g c =
    let u = c.retire.ensures.spreads in
    retired_ticket (view c.args.pass.now) (view c.retire.new.pass) (state_at u.0) c.in-Some.duty.serial u.1.grows.owes

pub returns-in-Some-clause-draft : goal.returns-in-Some-clause-draft
returns-in-Some-clause-draft g c =
    let u = c.retire.ensures.spreads in
    retired_draft (view c.args.pass.now) (view c.retire.new.pass) (state_at u.0) c.in-Some.duty.serial u.1.grows.owes

pub returns-in-Some-clause-duties : goal.returns-in-Some-clause-duties
returns-in-Some-clause-duties g c = c.retire.ensures.duties ∙ none_left (view c.args.pass.now).duties c.in-Some.duty.serial (c.requires.duties ∙ ap duties_in c.in-Some.is)

pub returns-in-None-clause-seen : goal.returns-in-None-clause-seen
returns-in-None-clause-seen g c = prefix_self (view c.args.pass.now).seen

pub returns-in-None-clause-concluded : goal.returns-in-None-clause-concluded
returns-in-None-clause-concluded g c v serial found t has due =
    concluded_none v (view c.args.pass.now) serial found t has (c.turns_place_their_entries.ensures.places v (view c.args.pass.now) found _ t)
    (subst (λ (ds : List ℕ). DueThen (state_at found) serial ds) (ap duties_in c.in-None.is) due)
