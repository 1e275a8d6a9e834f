use Rattle.std.proofs.Common.{◌≡◌, rules, arith, get_or}
use Rattle.cd_parts.proofs.TextTests.{after_sign}
use Rattle.cd_parts.proofs.handlers.change.Goals as goal

pub as_text-requires : goal.as_text-requires
as_text-requires c =
    let sign : get_or c.args.field.now 0 0 ≡ 43 = search rules in
    after_sign c.args.field.now 43 sign (omega arith) c.in-43.len_at_least c.requires
