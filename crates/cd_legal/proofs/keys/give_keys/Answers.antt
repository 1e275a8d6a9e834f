use Rattle.std.proofs.Common.{rules, ◌∙◌, ap, not}
use Rattle.std.proofs.lemmas.Fn.{filter_same}
use Rattle.cd_outside.specs.declared.holder.Pair.{Pair}
use Rattle.cd_outside.specs.Keys.{holder_eq, without_holder}
use Rattle.cd_outside.proofs.KeyLemmas.{filter-without}
use Rattle.cd_legal.proofs.keys.give_keys.Goals as goal

pub returns : goal.returns
returns c =
    let h = c.args.holder in
    c.from_vec.ensures ∙ filter_same _ (λ (p : Pair). not (holder_eq h p.holder)) _ (λ x b f' k. search rules) _ _ c.retain.ensures.filtered
    ∙ filter-without h _ ∙ ap (without_holder h) (c.into_vec-kept.ensures ∙ c.replace.ensures.value)
