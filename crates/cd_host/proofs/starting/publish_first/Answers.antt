use Rattle.std.proofs.Common.{◌∙◌, sym, subst}
use Rattle.cd_legal.specs.Legal.{state_at}
use Rattle.cd_gate.specs.Passes.{view}
use Rattle.cd_hall.specs.Drafts.{IsDraftOf}
use Rattle.cd_hall.specs.Publishing.{refusal_in}
use Rattle.cd_host.proofs.Drafting.{published-owes, abandoned-owes, nothing-owes, first-suits}
use Rattle.cd_host.proofs.Started.{tried-published, tried-in-vain}
use Rattle.cd_host.proofs.starting.publish_first.Goals as goal

pub publish-requires-clause-change : goal.publish-requires-clause-change
publish-requires-clause-change g c κs within = first-suits _ (view c.args.pass.now) c.args.ticket.now _ c.requires.ticket c.requires.serial

pub abandon-requires-clause-draft : goal.abandon-requires-clause-draft
abandon-requires-clause-draft g c κs within = subst (λ d. IsDraftOf (view c.publish.new.pass) d) (sym c.handed_back.ensures) c.in-Err.ensures.kept.2

pub returns-in-Ok-clause-tried : goal.returns-in-Ok-clause-tried
returns-in-Ok-clause-tried g c = let f = c.in-Ok.ensures.spreads in tried-published _ c.args.ticket.now.serial (view c.args.pass.now) (view c.publish.new.pass) f.0 c.requires.serial f.1

pub returns-in-Ok-clause-ticket : goal.returns-in-Ok-clause-ticket
returns-in-Ok-clause-ticket g c = let f = c.in-Ok.ensures.spreads in (published-owes (view c.args.pass.now) (view c.publish.new.pass) f.0 _ _ _ c.args.ticket.now.serial _ (state_at f.0) f.1).0

pub returns-in-Ok-clause-none : goal.returns-in-Ok-clause-none
returns-in-Ok-clause-none g c = let f = c.in-Ok.ensures.spreads in (published-owes (view c.args.pass.now) (view c.publish.new.pass) f.0 _ _ _ c.args.ticket.now.serial _ (state_at f.0) f.1).1

pub returns-in-Err-clause-tried : goal.returns-in-Err-clause-tried
returns-in-Err-clause-tried g c =
    let k = c.in-Err.ensures.kept in
    let a = c.abandon.ensures.spreads in
    tried-in-vain _ c.args.ticket.now.serial (refusal_in c.in-Err.kept) (view c.args.pass.now) (view c.publish.new.pass) (view c.abandon.new.pass) k.0.0 a.0 _ c.requires.serial k.0.1 k.3 a.1

pub returns-in-Err-clause-ticket : goal.returns-in-Err-clause-ticket
returns-in-Err-clause-ticket g c =
    let k = c.in-Err.ensures.kept in
    let a = c.abandon.ensures.spreads in
    (abandoned-owes (view c.publish.new.pass) (view c.abandon.new.pass) a.0 _ _ _ a.1).0 ∙ (nothing-owes (view c.args.pass.now) (view c.publish.new.pass) k.0.0 k.0.1).0

pub returns-in-Err-clause-none : goal.returns-in-Err-clause-none
returns-in-Err-clause-none g c = let a = c.abandon.ensures.spreads in (abandoned-owes (view c.publish.new.pass) (view c.abandon.new.pass) a.0 _ _ _ a.1).1
