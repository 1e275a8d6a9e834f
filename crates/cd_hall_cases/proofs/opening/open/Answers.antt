use Rattle.std.proofs.Common.{rules, ◌≡◌, ℕ, List, Some, refl, sym, ap, subst, arith}
use Rattle.std.proofs.lemmas.Grind.{common_steps}
use Rattle.cd_legal.specs.declared.entry.Entry.{Entry}
use Rattle.cd_gate.specs.declared.pass.Pass.{Pass}
use Rattle.cd_gate.specs.Growing.{owes_after, Grows}
use Rattle.cd_gate.specs.Passes.{view}
use Rattle.cd_life.specs.declared.board.Board.{Board}
use Rattle.cd_life.specs.declared.board.Draft.{Draft}
use Rattle.cd_hall.specs.declared.hall.Hall.{Hall}
use Rattle.cd_hall.specs.declared.hall.Ticket.{Ticket}
use Rattle.cd_hall.specs.Calls.{IsPassOf}
use Rattle.cd_hall.specs.Drafts.{Held, IsDraftOf}
use Rattle.cd_pair.specs.Passes.{Runs, HasDraft}
use Rattle.cd_pair.proofs.Goes.{owes, runs-on}
use Rattle.cd_hall_cases.proofs.opening.open.Goals as goal

-- the draft is still that of the pass, with the same number
draft-on : {A F B : Type 0} {g : _} (h : Hall A F B g) (p q : Pass (Board A F B g)) (k : ℕ) (t : Ticket A B g) (d e : Draft A B g) (es : List Entry)
    → HasDraft h p k t d → IsPassOf h q → Grows (view p) (view q) es → owes_after (owes (Some t.serial) (Some d.left.number)) es ≡ owes (Some t.serial) (Some d.left.number) → (view q).duties ≡ (view p).duties
    → e.left.number ≡ d.left.number → IsDraftOf (view q) e → HasDraft h q k t e
draft-on h p q k t d e es was pass grows leaves same number is = record {
  runs = subst (λ (n : ℕ). Runs h q k t (Some n)) (sym number) (runs-on h p q k t (Some d.left.number) (Some d.left.number) es was.runs pass grows leaves same);
  draft = is;
}

pub returns-in-Err-clause-draft : goal.returns-in-Err-clause-draft
returns-in-Err-clause-draft g c =
    let e = c.provision.ensures in
    draft-on c.args.on.now.hall.now c.making.pass c.provision.new.pass c.args.number c.args.ticket.now c.making.draft c.provision.new.draft _ c.making.invariant.draft e.pass e.made.1.grows refl e.duties (ap (λ (h : Held). h.number) e.held) e.draft

pub making-preserved : goal.making-preserved
making-preserved g c =
    let e = c.provision.ensures in
    record {
      same = (refl, refl, refl);
      draft = draft-on c.args.on.now.hall.now c.making.pass c.provision.new.pass c.args.number c.args.ticket.now c.making.draft c.provision.new.draft _ c.making.invariant.draft e.pass e.made.1.grows refl e.duties (ap (λ (h : Held). h.number) e.held) e.draft;
      changes = search rules;
      so_far = grind (arith, common_steps);
      unfailed = search rules;
    }

pub returns-in-Err-start-clause-draft : goal.returns-in-Err-start-clause-draft
returns-in-Err-start-clause-draft g c =
    let e = c.start.ensures in
    draft-on c.args.on.now.hall.now c.starting.pass c.start.new.pass c.args.number c.args.ticket.now c.starting.draft c.start.new.draft _ c.starting.invariant.draft e.pass e.started.1.grows refl e.duties (ap (λ (h : Held). h.number) e.held) e.draft

pub starting-preserved : goal.starting-preserved
starting-preserved g c =
    let e = c.start.ensures in
    record {
      same = (refl, refl, refl);
      draft = draft-on c.args.on.now.hall.now c.starting.pass c.start.new.pass c.args.number c.args.ticket.now c.starting.draft c.start.new.draft _ c.starting.invariant.draft e.pass e.started.1.grows refl e.duties (ap (λ (h : Held). h.number) e.held) e.draft;
      tree = search rules;
      made = search rules;
      so_far = grind (arith, common_steps);
      unfailed = search rules;
    }
