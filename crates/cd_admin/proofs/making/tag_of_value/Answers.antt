use Rattle.std.proofs.Common.{◌≡◌, Result, Err, ap}
use Rattle.cd_tags.specs.declared.fault.IfMatchFault.{IfMatchFault}
use Rattle.cd_tags.specs.declared.fault.IfMatchFault.TheVariants.{Malformed}
use Rattle.cd_tags.specs.declared.if_match.Tag.{Tag}
use Rattle.cd_admin.proofs.Tags.{some_tag, no_tag}
use Rattle.cd_admin.proofs.making.tag_of_value.Goals as goal

pub returns-in-Ok : goal.returns-in-Ok
returns-in-Ok c = some_tag c.args.value.now c.in-Ok.tag c.in-Ok.ensures.tag

pub returns-in-Err-Malformed : goal.returns-in-Err-Malformed
returns-in-Err-Malformed c =
    let is : ◌≡◌ {A = Result Tag IfMatchFault} (Err c.in-Err-Malformed.field-0) (Err Malformed) = ap (λ fault. Err fault) c.in-Err-Malformed.field-0-is in
    no_tag c.args.value.now (c.in-Err-Malformed.ensures.malformed is)
