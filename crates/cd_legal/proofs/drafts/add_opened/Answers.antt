use Rattle.std.proofs.Common.{◌∙◌, ◌<◌, sym, length, subst}
use Rattle.cd_legal.specs.State.{one_opened}
use Rattle.cd_legal.proofs.Places.{put_back, holds_within}
use Rattle.cd_legal.proofs.drafts.add_opened.Goals as goal

pub returns : goal.returns
returns c =
    let out = c.into_vec-all.ensures ∙ c.replace.ensures.value in
    let within = subst (λ xs. c.args.at < length xs) (sym out) (holds_within _ c.args.drafts.now c.args.at c.requires) in
    put_back (one_opened c.args.part c.args.failed) c.args.drafts.now _ _ c.args.at c.index_mut-drafted.result.now _ out within c.index_mut-drafted.ensures.value c.open_one.ensures c.from_vec.ensures
