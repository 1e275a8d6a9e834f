use Rattle.std.proofs.Common.{string_bytes, sym, ap, ap₂, ◌∙◌}
use Rattle.cd_ids.specs.Ids.{path_of}
use Rattle.cd_ids.specs.Noting.{note}
use Rattle.cd_ids.proofs.Entries.{seen, noted_new}
use Rattle.cd_ids.proofs.index.Index.add.Goals as goal

pub returns : goal.returns
returns c =
    let key = c.into_string.result in
    let old = c.self.inside.paths in
    let absent = ap₂ path_of c.into_string.ensures c.self.view_is ∙ sym c.in_default.ensures in
    let done = noted_new old c.insert.new.self key c.in_ok-at.at absent c.in_ok-insert.ensures.entries in
    sym (ap₂ (λ known name. note known name c.args.at.now) c.self.view_is c.into_string.ensures)
    ∙ ap (note (seen old.entries) (string_bytes key)) (sym c.in_ok-at.ensures) ∙ done
