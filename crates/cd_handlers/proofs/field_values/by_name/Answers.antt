use Rattle.std.proofs.Common.{rules, ap, ◌∙◌}
use Rattle.cd_text.proofs.ByKeyLemmas.{by_key-from_sort_by}
use Rattle.cd_handlers.specs.FieldValues.{by_name}
use Rattle.cd_handlers.specs.declared.field_values.FieldValues.{FieldValues}
use Rattle.cd_handlers.proofs.field_values.by_name.Goals as goal

pub returns : goal.returns
returns c =
    c.from_vec.ensures
    ∙ by_key-from_sort_by (λ (field : FieldValues). field.name) _ _
    c.in_ok-sort_by.ensures.sorted c.sort_by.ensures.stable (λ a r f' k. search rules)
    ∙ ap by_name c.into_vec-sorted.ensures
