use Rattle.std.proofs.Common.{◌∷◌, [], List, Err, refl, sym, ap, subst}
use Rattle.cd_tree.specs.declared.tree.Tree.{Tree}
use Rattle.cd_legal.specs.declared.entry.Entry.TheVariants.{Draft}
use Rattle.cd_legal.specs.Legal.{state_at}
use Rattle.cd_legal.specs.Placed.{Placed}
use Rattle.cd_gate.specs.Passes.{view}
use Rattle.cd_hall.specs.Drafts.{Held, held}
use Rattle.cd_serve.specs.declared.attempting.Attempt.{Attempt}
use Rattle.cd_serve.specs.Attempts.{Works, Attempted}
use Rattle.cd_serve.specs.Meanings.{Meaning}
use Rattle.cd_serve.proofs.Tries.{goes-turned, ticket-goes, drafted-as, undrafted-as, planned-as}
use Rattle.cd_serve.proofs.attempting.attempt_change.Goals as goal

pub open_and_publish-requires-clause-ticket : goal.open_and_publish-requires-clause-ticket
open_and_publish-requires-clause-ticket g c κs within =
    let t = c.in-Ok.ensures.made in
    let v = view c.args.pass.now in
    let w = view c.draft.new.pass in
    ticket-goes v w c.args.ticket.now c.requires.ticket (goes-turned v w t.0 (Draft c.in-Ok.draft.left.number c.args.loaded.tree c.args.loaded.plan ∷ []) t.1 refl)

pub returns-in-Ok-clause-attempted : goal.returns-in-Ok-clause-attempted
returns-in-Ok-clause-attempted g c =
    let t = c.in-Ok.ensures.made in
    let v = view c.args.pass.now in
    let w = view c.draft.new.pass in
    let z = view c.open_and_publish.new.pass in
    let h = held c.in-Ok.draft in
    let l = c.args.loaded in
    let m : Meaning = record { acts = g.M.ModuleSet.acts; plan = g.M.ModuleSet.plan } in
    subst (λ (tree : Tree). (work : List Placed) × Works v z work × Attempted m tree c.args.request.now v.number c.args.ticket.now.serial (state_at z.seen) work c.open_and_publish.result)
    (ap (λ (x : Held). x.tree) c.in-Ok.ensures.new)
    (c.open_and_publish.ensures.attempted v t.0 (drafted-as v w t.0 h c.in-Ok.draft.left.number l.tree l.plan c.in-Ok.ensures.new t.1 c.in-Ok.ensures.duties) (planned-as g.M.ModuleSet.plan h c.in-Ok.draft.left.number l.tree l.plan c.in-Ok.ensures.new l.planned))

pub returns-in-Err-clause-ticket : goal.returns-in-Err-clause-ticket
returns-in-Err-clause-ticket g c =
    let t = c.in-Err.ensures.err in
    let v = view c.args.pass.now in
    let w = view c.draft.new.pass in
    ticket-goes v w c.args.ticket.now c.requires.ticket (goes-turned v w t.0 [] t.1 refl)

pub returns-in-Err-clause-attempted : goal.returns-in-Err-clause-attempted
returns-in-Err-clause-attempted g c =
    let t = c.in-Err.ensures.err in
    let v = view c.args.pass.now in
    let w = view c.draft.new.pass in
    let m : Meaning = record { acts = g.M.ModuleSet.acts; plan = g.M.ModuleSet.plan } in
    subst (λ (a : Attempt). (work : List Placed) × Works v w work × Attempted m c.args.loaded.tree c.args.request.now v.number c.args.ticket.now.serial (state_at w.seen) work a)
    (sym c.undrafted.ensures)
    (undrafted-as m c.args.loaded.tree c.args.request.now c.args.ticket.now.serial v w t.0 c.in-Err.fault t.1 c.in-Err.ensures.duties (λ e. c.in-Err.ensures.spent (ap (λ x. Err x) e)))
