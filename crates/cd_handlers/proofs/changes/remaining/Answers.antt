use Rattle.std.proofs.Common.{rules, ◌∙◌, ◌||◌, ap, not}
use Rattle.std.proofs.lemmas.Fn.{filter_same}
use Rattle.std.specs.List.{list_any}
use Rattle.cd_wire.specs.declared.fields.Field.{Field}
use Rattle.cd_handlers.specs.Changes.{stays, deletes, remaining}
use Rattle.cd_handlers.proofs.changes.remaining.Goals as goal

pub returns : goal.returns
returns c =
    let side = c.args.side in
    let patterns = c.args.patterns.now in
    c.from_vec.ensures
    ∙ filter_same _ (λ (field : Field). stays side field || not (list_any (deletes field) patterns)) _ (λ x b f' k. search rules) _ _ c.retain.ensures.filtered
    ∙ ap (remaining side patterns) c.into_vec-kept.ensures
