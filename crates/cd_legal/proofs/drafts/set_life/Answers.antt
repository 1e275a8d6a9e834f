use Rattle.std.proofs.Common.{◌∙◌, refl, ap, length, arith}
use Rattle.std.proofs.lemmas.Grind.{common_steps}
use Rattle.cd_legal.proofs.Places.{put_back}
use Rattle.cd_legal.proofs.drafts.set_life.Goals as goal

pub returns : goal.returns
returns c =
    let out = c.into_vec-all.ensures ∙ c.replace.ensures.value in
    put_back _ c.args.drafts.now _ _ c.args.at c.index_mut-drafted.result.now _ out (grind (arith, common_steps, ap length out)) c.index_mut-drafted.ensures.value refl c.from_vec.ensures
