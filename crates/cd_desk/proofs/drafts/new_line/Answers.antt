use Rattle.std.proofs.Common.{◌≡◌, ◌∙◌, sym, ap, subst, refl, arith, length}
use Rattle.cd_legal.specs.State.{part_keys}
use Rattle.cd_desk.specs.Waiting.{AllWait}
use Rattle.cd_desk.proofs.Lists.{spent_on}
use Rattle.cd_desk.proofs.Planned.{wait_length, all_wait}
use Rattle.cd_desk.proofs.drafts.new_line.Goals as goal

pub invariant_of-result : goal.invariant_of-result
invariant_of-result c =
    let same = c.of-plan.ensures in
    let all : length c.args.parts.items ≡ length (part_keys c.args.part c.args.plan.now) = wait_length c.args.parts.items (part_keys c.args.part c.args.plan.now) c.requires.wait in
    record {
      over = omega arith;
      all = λ some. ap (λ z. length (part_keys c.args.part z)) same ∙ sym all;
      within = λ left. omega arith;
      bound = c.requires.bound;
      wait = all_wait c.args.parts.items _ (subst (λ z. AllWait c.args.parts.items (part_keys c.args.part z)) (sym same) c.requires.wait);
      spent = spent_on 0 _ c.args.parts.items _ (omega arith) (all_wait c.args.parts.items _ c.requires.wait);
    }

pub returns : goal.returns
returns c =
    let same = c.of-plan.ensures in
    record {
      part = refl;
      plan = same;
      parts = refl;
      opened = refl;
      ended = refl;
      whole = ap (λ z. length (part_keys c.args.part z)) same ∙ sym (wait_length c.args.parts.items (part_keys c.args.part c.args.plan.now) c.requires.wait);
    }
