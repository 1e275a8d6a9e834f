use Rattle.std.proofs.Common.{refl}
use Rattle.std.proofs.lemmas.Str.Ascii.{trim_ascii_is}
use Rattle.cd_admin.specs.Fields.{without_first_spaces}
use Rattle.cd_admin.proofs.fields.trimmed.Goals as goal

pub returns : goal.returns
returns c =
    trim_ascii_is c.args.bytes.now c.trim_ascii.result.now (without_first_spaces c.args.bytes.now) refl c.trim_ascii.ensures.value
