use Rattle.std.proofs.Common.{rules, ◌∙◌, ap, not, filter}
use Rattle.std.proofs.lemmas.Fn.{filter_same}
use Rattle.cd_wire.specs.declared.fields.Field.{Field}
use Rattle.cd_proxy.specs.Forward.{is_own}
use Rattle.cd_proxy.proofs.forwarding.without_own.Goals as goal

pub returns : goal.returns
returns c =
    let test = λ (field : Field). not (is_own field) in
    c.from_vec.ensures
    ∙ filter_same _ test _ (λ x b f' k. search rules) _ _ c.retain.ensures.filtered
    ∙ ap (filter test) c.into_vec-left.ensures
