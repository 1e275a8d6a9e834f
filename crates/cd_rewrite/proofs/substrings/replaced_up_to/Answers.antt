use Rattle.std.proofs.Common.{◌++◌, ap, sym, ◌∙◌}
use Rattle.cd_rewrite.proofs.Occurrences.{rest_stays, enough_replaced, made_longer, too_long}
use Rattle.cd_rewrite.proofs.substrings.replaced_up_to.Goals as goal

pub returns-then-is_too_long : goal.returns-then-is_too_long
returns-then-is_too_long c =
    let longer = c.in_ok-append-in-Some-2.ensures.ok ∙ ap (λ made. made ++ c.args.replace.now) c.in_ok-append-in-Some.ensures.ok in
    let whole = made_longer c.args.most c.loop.counter c.args.find.now c.args.replace.now _ _ _ _ _ _ c.loop-test.true c.in-Some.ensures longer c.loop.invariant in
    λ _. too_long _ _ _ whole (sym c.is_too_long.ensures ∙ c.if-is_too_long.true)

pub loop-preserved : goal.loop-preserved
loop-preserved c =
    let longer = c.in_ok-append-in-Some-2.ensures.ok ∙ ap (λ made. made ++ c.args.replace.now) c.in_ok-append-in-Some.ensures.ok in
    made_longer c.args.most c.loop.counter c.args.find.now c.args.replace.now _ _ _ _ _ _ c.loop-test.true c.in-Some.ensures longer c.loop.invariant

pub returns-in-None : goal.returns-in-None
returns-in-None c =
    rw (rest_stays _ c.args.find.now c.args.replace.now _ _ _ c.in-None.ensures c.loop.invariant) c.ended.ensures

pub returns : goal.returns
returns c =
    rw (enough_replaced _ _ c.args.find.now c.args.replace.now _ _ _ c.loop-test.false c.loop.invariant) c.ended-2.ensures
