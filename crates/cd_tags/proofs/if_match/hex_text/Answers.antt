use Rattle.cd_tags.proofs.Ascii.{digits_utf8}
use Rattle.cd_tags.proofs.if_match.hex_text.Goals as goal

pub unreachable-requires : goal.unreachable-requires
unreachable-requires c = c.in-Err.ensures.cases.0 (digits_utf8 c.args.digits.now c.requires)
