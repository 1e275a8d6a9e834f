use Rattle.std.proofs.Common.{rules, ◌∙◌, ap, not}
use Rattle.std.proofs.lemmas.Fn.{filter_same}
use Rattle.std.specs.Prelude.{codes}
use Rattle.std.specs.Str.{bytes_eq}
use Rattle.cd_handlers.specs.Vars.{variables}
use Rattle.cd_handlers.specs.declared.vars.Setting.{Setting}
use Rattle.cd_handlers.proofs.vars.variables.Goals as goal

pub returns : goal.returns
returns c =
    c.from_vec.ensures
    ∙ filter_same _ (λ (one : Setting). not (bytes_eq one.name (codes "handler"))) _ (λ x b f' k. search rules) _ _ c.retain.ensures.filtered
    ∙ ap variables c.into_vec-kept.ensures
