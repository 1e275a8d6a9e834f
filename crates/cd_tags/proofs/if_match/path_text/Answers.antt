use Rattle.cd_tags.proofs.Ascii.{path_utf8}
use Rattle.cd_tags.proofs.if_match.path_text.Goals as goal

pub unreachable-requires : goal.unreachable-requires
unreachable-requires c = c.in-Err.ensures.cases.0 (path_utf8 c.args.path.now c.requires)
