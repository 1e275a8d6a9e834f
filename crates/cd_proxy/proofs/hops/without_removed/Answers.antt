use Rattle.std.proofs.Common.{rules, ◌∙◌, ap, not, filter}
use Rattle.std.proofs.lemmas.Fn.{filter_same}
use Rattle.cd_wire.specs.declared.fields.Field.{Field}
use Rattle.cd_proxy.specs.Removed.{is_removed}
use Rattle.cd_proxy.proofs.hops.without_removed.Goals as goal

pub returns : goal.returns
returns c =
    let test = λ (field : Field). not (is_removed c.args.connections.now field) in
    c.from_vec.ensures
    ∙ filter_same _ test _ (λ x b f' k. search rules) _ _ c.retain.ensures.filtered
    ∙ ap (filter test) c.into_vec-kept.ensures
