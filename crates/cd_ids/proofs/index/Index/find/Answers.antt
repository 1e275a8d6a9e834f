use Rattle.std.proofs.Common.{sym, ap₂, ◌∙◌}
use Rattle.cd_ids.specs.Ids.{path_of}
use Rattle.cd_ids.proofs.Entries.{path_of-seen}
use Rattle.cd_ids.proofs.index.Index.find.Goals as goal

pub returns : goal.returns
returns c =
    c.get.ensures.value ∙ sym (path_of-seen c.as_str.result.now c.self.inside.paths.entries) ∙ ap₂ path_of c.as_str.ensures c.self.view_is
