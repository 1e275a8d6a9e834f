use Rattle.std.proofs.Common.{rules, tests}
use Rattle.std.proofs.lemmas.Iterator.Search.{any_from_yields_List}
use Rattle.std.proofs.lemmas.Iterator.Splits.{YieldsList-from_slice_split}
use Rattle.cd_admin.specs.Fields.{is_comma, is_must_revalidate}
use Rattle.cd_admin.proofs.fields.has_must_revalidate.Goals as goal

pub returns : goal.returns
returns c =
    any_from_yields_List is_must_revalidate _ _ c.any.result c.any.ensures.ran
    (YieldsList-from_slice_split _ is_comma c.args.value.now c.split.ensures.rest c.split.ensures.done c.split.ensures.closure (λ x b q k. search (rules, tests)))
    (λ x b q k. search (rules, tests))
