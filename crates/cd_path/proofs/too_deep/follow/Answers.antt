use Rattle.std.proofs.Common.{ap, ◌∙◌, subst, rules}
use Rattle.cd_path.specs.Looking.{ends_in_ellipsis}
use Rattle.cd_path.specs.TooDeep.{PutsTooDeep}
use Rattle.cd_path.proofs.Deeper.{from_empty, following}
use Rattle.cd_path.proofs.too_deep.follow.Goals as goal

pub returns-then-is_empty_object : goal.returns-then-is_empty_object
returns-then-is_empty_object c =
    let l = c.loop-left in
    λ _. l.invariant.whole (from_empty l.left.now l.here.now (search rules) l.invariant.plain (search rules))

pub loop-left-preserved : goal.loop-left-preserved
loop-left-preserved c =
    let l = c.loop-left in
    let next = following l.left.now c.index-left-0.result l.here.now c.in-Some.value.now (search rules) (search rules) l.invariant.plain (search rules) in
    let is = c.after_first-left.ensures in
    record {
      plain = ap ends_in_ellipsis is ∙ next.plain;
      whole = λ d. l.invariant.whole (next.deeper (subst (λ parts. PutsTooDeep parts c.in-Some.value.now) is d));
    }
