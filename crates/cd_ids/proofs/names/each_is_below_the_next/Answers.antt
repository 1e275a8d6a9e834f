use Rattle.std.proofs.Common.{rules}
use Rattle.std.specs.Cmp.Lexicographic.{slice_cmp}
use Rattle.std.specs.Ordering.{is_lt, nat_cmp}
use Rattle.std.proofs.lemmas.Fn.{always_returns_same}
use Rattle.cd_ids.proofs.Distinct.{distinct_where_rising}
use Rattle.cd_ids.proofs.names.each_is_below_the_next.Goals as goal

pub returns : goal.returns
returns c is =
    let each = c.is_sorted_by.ensures.cases (λ one other. is_lt (slice_cmp nat_cmp one other)) (always_returns_same _ _ _ (λ a r f k. search rules)) in
    distinct_where_rising c.args.names.now c.is_sorted_by.result each is
