use Rattle.std.proofs.Common.{rules, ap, ◌∙◌}
use Rattle.cd_text.proofs.ByKeyLemmas.{by_key-from_sort_by}
use Rattle.cd_text.specs.ByKey.{by_key}
use Rattle.cd_parts.specs.declared.measured.Part.{Part}
use Rattle.cd_adapt.proofs.serving.parts_by_key.Goals as goal

pub returns : goal.returns
returns c =
    c.from_vec.ensures
    ∙ by_key-from_sort_by (λ (p : Part). p.key) _ _
    c.in_ok-sort_by.ensures.sorted c.sort_by.ensures.stable (λ a r f' k. search rules)
    ∙ ap (by_key (λ (p : Part). p.key)) c.into_vec-sorted.ensures
