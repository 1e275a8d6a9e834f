use Rattle.std.proofs.Common.{◌∙◌, ap, ℕ, List, ◌∷◌}
use Rattle.cd_legal.specs.Legal.{state_at}
use Rattle.cd_gate.specs.Duties.{without_number}
use Rattle.cd_gate.specs.Passes.{view}
use Rattle.cd_host.proofs.Drafting.{finished-owes, retired-owes, only-duty, none-left}
use Rattle.cd_host.proofs.Started.{finished-only, finished-and-retired}
use Rattle.cd_host.proofs.starting.finish_first.Goals as goal

pub retire-requires-clause-duty : goal.retire-requires-clause-duty
retire-requires-clause-duty g c κs within = only-duty (view c.finish.new.pass).duties c.in-Some.duty.serial (c.in-Some.ensures.duties ∙ ap (λ (l : List ℕ). c.in-Some.duty.serial ∷ l) c.requires.none)

pub returns-in-Some-clause-finished : goal.returns-in-Some-clause-finished
returns-in-Some-clause-finished g c =
    let f = c.in-Some.ensures.finishes in
    let u = c.retire.ensures.spreads in
    finished-and-retired c.args.ticket.serial (view c.args.pass.now) (view c.finish.new.pass) f.0 f.1 c.in-Some.duty.serial (view c.retire.new.pass) u.0 (c.in-Some.ensures.due f.0 f.1) u.1

pub returns-in-Some-clause-free : goal.returns-in-Some-clause-free
returns-in-Some-clause-free g c =
    let f = c.in-Some.ensures.finishes in
    let u = c.retire.ensures.spreads in
    let one = finished-owes (view c.args.pass.now) (view c.finish.new.pass) f.0 _ f.1 in
    let two = retired-owes (view c.finish.new.pass) (view c.retire.new.pass) u.0 (state_at u.0) c.in-Some.duty.serial u.1 in (
      two.0 ∙ one.0,
      two.1 ∙ one.1,
      c.retire.ensures.duties ∙ ap (without_number c.in-Some.duty.serial) (c.in-Some.ensures.duties ∙ ap (λ (l : List ℕ). c.in-Some.duty.serial ∷ l) c.requires.none) ∙ none-left c.in-Some.duty.serial,
    )

pub returns-in-None-clause-finished : goal.returns-in-None-clause-finished
returns-in-None-clause-finished g c =
    let f = c.in-None.ensures.finishes in
    finished-only c.args.ticket.serial (view c.args.pass.now) (view c.finish.new.pass) f.0 f.1 (c.in-None.ensures.due f.0 f.1)

pub returns-in-None-clause-free : goal.returns-in-None-clause-free
returns-in-None-clause-free g c =
    let f = c.in-None.ensures.finishes in
    let one = finished-owes (view c.args.pass.now) (view c.finish.new.pass) f.0 _ f.1 in (
      one.0,
      one.1,
      c.in-None.ensures.duties ∙ c.requires.none,
    )
