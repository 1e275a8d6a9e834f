use Rattle.std.proofs.Common.{ℕ, ◌≡◌, ◌-◌, ◌+◌, true, false, List, drop, subst, sym, ◌∙◌, arith}
use Rattle.std.proofs.lemmas.Grind.{common_steps}
use Rattle.cd_proxy.specs.declared.head.HeadRead.{HeadRead}
use Rattle.cd_proxy.specs.declared.finals.FinalRead.{FinalRead}
use Rattle.cd_proxy.specs.declared.finals.FinalRead.TheVariants as final
use Rattle.cd_proxy.specs.Heads.{is_informational}
use Rattle.cd_proxy.specs.Reading.{IsHeadRead, IsFinalRead}
use Rattle.cd_proxy.proofs.FinalLemmas.{never_final_at, final_here, partial_here, whole_after, partial_after, hopeless_after, never_head_never_final, different}
use Rattle.cd_proxy.proofs.finals.+read_final.Goals as goal

-- a final head
pub returns-then-is_final : goal.returns-then-is_final
returns-then-is_final t c =
    let here = subst (λ (r : HeadRead). IsHeadRead c.args.input.now r) c.in-Whole.is c.in_ok-read.ensures in
    final_here c.args.most c.args.input.now c.in-Whole.head c.in-Whole.len here.0 here.1 (sym c.is_final.ensures ∙ c.if-is_final.true)

-- neither a final head nor an informational one
pub returns-then-not-is_informational : goal.returns-then-not-is_informational
returns-then-not-is_informational t c =
    let here = subst (λ (r : HeadRead). IsHeadRead c.args.input.now r) c.in-Whole.is c.in_ok-read.ensures in
    let other : is_informational c.in-Whole.head.status ≡ false = grind (arith, common_steps, c.is_informational.ensures, c.if-not-is_informational.true) in
    never_final_at c.args.most c.args.input.now c.in-Whole.head (drop c.in-Whole.len c.args.input.now) here.1
    (sym c.is_final.ensures ∙ c.if-is_final.false) (λ is. absurd (different (is_informational c.in-Whole.head.status) is other))

-- one too many
pub returns-then-most-eq0 : goal.returns-then-most-eq0
returns-then-most-eq0 t c =
    let here = subst (λ (r : HeadRead). IsHeadRead c.args.input.now r) c.in-Whole.is c.in_ok-read.ensures in
    never_final_at c.args.most c.args.input.now c.in-Whole.head (drop c.in-Whole.len c.args.input.now) here.1
    (sym c.is_final.ensures ∙ c.if-is_final.false) (λ is. c.if-most-eq0.true)

pub returns-in-Whole-after : goal.returns-in-Whole-after
returns-in-Whole-after t c =
    let here = subst (λ (r : HeadRead). IsHeadRead c.args.input.now r) c.in-Whole.is c.in_ok-read.ensures in
    let inside : is_informational c.in-Whole.head.status ≡ true = grind (arith, common_steps, c.is_informational.ensures, c.if-not-is_informational.false) in
    let less : c.args.most ≡ (c.args.most - 1) + 1 = omega (arith, c.if-most-eq0.false) in
    whole_after c.args.most (c.args.most - 1) c.args.input.now c.in-Whole.head c.in-Whole-after.last c.in-Whole.len c.in-Whole-after.at less here.0 here.1 inside
    (subst (λ (x : List ℕ). IsFinalRead (c.args.most - 1) x (final.Whole c.in-Whole-after.last c.in-Whole-after.at)) c.rest_from.ensures
    (subst (λ (r : FinalRead). IsFinalRead (c.args.most - 1) c.rest_from.result.now r) c.in-Whole-after.is c.in_ok-after-in-Whole.ensures))

pub returns-in-Partial-after : goal.returns-in-Partial-after
returns-in-Partial-after t c =
    let here = subst (λ (r : HeadRead). IsHeadRead c.args.input.now r) c.in-Whole.is c.in_ok-read.ensures in
    let inside : is_informational c.in-Whole.head.status ≡ true = grind (arith, common_steps, c.is_informational.ensures, c.if-not-is_informational.false) in
    let less : c.args.most ≡ (c.args.most - 1) + 1 = omega (arith, c.if-most-eq0.false) in
    partial_after c.args.most (c.args.most - 1) c.in-Partial-after.left c.args.input.now c.in-Whole.head c.in-Whole.len c.in-Partial-after.at less here.0 here.1 inside
    (subst (λ (x : List ℕ). IsFinalRead (c.args.most - 1) x (final.Partial c.in-Partial-after.at c.in-Partial-after.left)) c.rest_from.ensures
    (subst (λ (r : FinalRead). IsFinalRead (c.args.most - 1) c.rest_from.result.now r) c.in-Partial-after.is c.in_ok-after-in-Whole.ensures))

pub returns-in-Whole : goal.returns-in-Whole
returns-in-Whole t c =
    let here = subst (λ (r : HeadRead). IsHeadRead c.args.input.now r) c.in-Whole.is c.in_ok-read.ensures in
    let inside : is_informational c.in-Whole.head.status ≡ true = grind (arith, common_steps, c.is_informational.ensures, c.if-not-is_informational.false) in
    let less : c.args.most ≡ (c.args.most - 1) + 1 = omega (arith, c.if-most-eq0.false) in
    hopeless_after c.args.most (c.args.most - 1) c.args.input.now c.in-Whole.head (drop c.in-Whole.len c.args.input.now) less here.1 inside
    (subst (λ (x : List ℕ). IsFinalRead (c.args.most - 1) x final.Hopeless) c.rest_from.ensures
    (subst (λ (r : FinalRead). IsFinalRead (c.args.most - 1) c.rest_from.result.now r) c.in-Hopeless-after.is c.in_ok-after-in-Whole.ensures))

pub returns-in-Partial : goal.returns-in-Partial
returns-in-Partial t c =
    partial_here c.args.most c.args.input.now
    (subst (λ (r : HeadRead). IsHeadRead c.args.input.now r) c.in-Partial.is c.in_ok-read.ensures)

pub returns : goal.returns
returns t c =
    never_head_never_final c.args.most c.args.input.now
    (subst (λ (r : HeadRead). IsHeadRead c.args.input.now r) c.in-Hopeless.is c.in_ok-read.ensures)
