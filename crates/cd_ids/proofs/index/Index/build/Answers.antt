use Rattle.std.proofs.Common.{◌∙◌}
use Rattle.std.proofs.lemmas.Result.{err_from_is_err_and}
use Rattle.cd_ids.proofs.Noted.{index_started}
use Rattle.cd_ids.proofs.index.Index.build.Goals as goal

pub returns-in_err-walk : goal.returns-in_err-walk
returns-in_err-walk c =
    let p = err_from_is_err_and c.from_residual.result c.from_residual.ensures.1 in
    rw (p.1, p.2) (λ other. index_started c.args.tree.now _ _ c.new-index.ensures c.top-at.ensures ∙ c.in_err-walk.ensures other)

pub returns : goal.returns
returns c = index_started c.args.tree.now _ _ c.new-index.ensures c.top-at.ensures ∙ c.in_ok-walk.ensures
