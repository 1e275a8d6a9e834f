use Rattle.std.proofs.Common.{rules, ◌∙◌, ap}
use Rattle.std.proofs.lemmas.Fn.{filter_same}
use Rattle.std.specs.Prelude.{filter}
use Rattle.cd_handlers.specs.Changes.{stays}
use Rattle.cd_handlers.proofs.changes.staying.Goals as goal

pub returns : goal.returns
returns c =
    let side = c.args.side in
    c.from_vec.ensures
    ∙ filter_same _ (stays side) _ (λ x b f' k. search rules) _ _ c.retain.ensures.filtered
    ∙ ap (filter (stays side)) c.into_vec-kept.ensures
