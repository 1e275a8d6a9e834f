use Rattle.std.proofs.Common.{rules, ◌∙◌, ap, not}
use Rattle.std.proofs.lemmas.Fn.{filter_same}
use Rattle.cd_wire.specs.Fields.{is_named}
use Rattle.cd_wire.specs.declared.fields.Field.{Field}
use Rattle.cd_handlers.specs.Fields.{without}
use Rattle.cd_handlers.proofs.fields.without.Goals as goal

pub returns : goal.returns
returns c =
    let name = c.args.name.now in
    c.from_vec.ensures
    ∙ filter_same _ (λ (field : Field). not (is_named name field)) _ (λ x b f' k. search rules) _ _ c.retain.ensures.filtered
    ∙ ap (without name) c.into_vec-kept.ensures
