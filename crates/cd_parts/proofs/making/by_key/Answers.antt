use Rattle.std.proofs.Common.{rules, ap, ◌∙◌}
use Rattle.cd_text.proofs.ByKeyLemmas.{by_key-from_sort_by}
use Rattle.cd_text.specs.ByKey.{by_key}
use Rattle.cd_caddyfile.specs.declared.entry.Entry.{Entry}
use Rattle.cd_parts.proofs.making.by_key.Goals as goal

pub returns : goal.returns
returns c =
    c.from_vec.ensures
    ∙ by_key-from_sort_by (λ (e : Entry). e.key) _ _
    c.in_ok-sort_by.ensures.sorted c.sort_by.ensures.stable (λ a r f' k. search rules)
    ∙ ap (by_key (λ (e : Entry). e.key)) c.into_vec-sorted.ensures
