use Rattle.std.proofs.Common.{◌∙◌, ap, filter, codes}
use Rattle.cd_wire.specs.Fields.{is_named}
use Rattle.cd_proxy.proofs.FieldLemmas.{passed_by}
use Rattle.cd_proxy.proofs.hops.passed_own.Goals as goal

pub returns : goal.returns
returns c =
    c.without_removed.ensures
    ∙ passed_by c.args.fields c.as_slice-3.result.now
    (c.as_slice-3.ensures ∙ c.in_ok-lent.ensures ∙ c.as_slice-2.ensures ∙ c.in_ok-connections.ensures ∙ ap (filter (is_named (codes "connection"))) c.as_slice.ensures)
