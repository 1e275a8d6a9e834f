use Rattle.std.proofs.Common.{arith, rules, refl, length, set, ◌≡◌, ◌∙◌, sym, subst, ℕ, ◌-◌, ◌<◌}
use Rattle.cd_outside.specs.declared.holder.Holder.{Holder}
use Rattle.cd_desk.specs.Instances.{Gives}
use Rattle.cd_desk.specs.Waiting.{Spent}
use Rattle.std.proofs.lemmas.List.{length-set}
use Rattle.std.proofs.lemmas.Option.{slice_get_read}
use Rattle.cd_desk.proofs.Lists.{still_wait, spent_more}
use Rattle.cd_desk.proofs.Wholes.{ended_within}
use Rattle.cd_desk.proofs.line.Line.end_last.Goals as goal

pub returns-clause-ends : goal.returns-clause-ends
returns-clause-ends g c =
    let l = c.args.self.now in
    let i : ℕ = l.opened - l.ended - 1 in
    let left : l.ended < l.opened = c.requires.left in
    let within = (ended_within l left).1 in
    record {
      was = c.index_mut.result.now;
      is = c.give_all.new.self;
      there = slice_get_read l.parts.items _ i c.index_mut.result.now refl (omega arith) (search rules);
      parts = search rules;
      gives = subst (λ (h : Holder). Gives h c.args.pool.now.held c.give_all.new.pool.held (g.F.Fixtures.calls c.args.fixtures.now) (g.F.Fixtures.calls c.give_all.new.fixtures)) c.holder_of-holder.ensures c.give_all.ensures.gives;
      empty = c.give_all.ensures.empty;
      waiting = c.give_all.ensures.waiting;
      spare = c.give_all.ensures.spare;
      opened = refl;
      ended = refl;
      part = refl;
      plan = refl;
    }

pub invariant_of-self : goal.invariant_of-self
invariant_of-self g c =
    let l = c.args.self.now in
    let i : ℕ = l.opened - l.ended - 1 in
    let left : l.ended < l.opened = c.requires.left in
    let all = ended_within l left in
    let within = all.1 in
    let same : length (set l.parts.items i c.give_all.new.self) ≡ length l.parts.items = length-set l.parts.items i c.give_all.new.self in
    record {
      over = omega arith;
      all = λ some. all.0 ∙ sym same;
      within = λ left. omega (arith, within, same);
      bound = (let b = l.bound in omega arith);
      wait = still_wait l.opened i l.parts.items _ c.give_all.new.self _ (omega arith) (search rules) l.wait;
      spent = subst (λ (z : ℕ). Spent z (set l.parts.items i c.give_all.new.self)) (omega arith) (spent_more i (l.opened - l.ended) l.parts.items _ c.give_all.new.self (omega arith) (omega (arith, within)) refl c.give_all.ensures.empty l.spent);
    }
