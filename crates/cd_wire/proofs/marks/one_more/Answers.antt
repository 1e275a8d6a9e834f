use Rattle.std.proofs.Common.{subst}
use Rattle.cd_wire.specs.declared.marks.Found.{Found}
use Rattle.cd_wire.specs.Fields.{IsFound}
use Rattle.cd_wire.proofs.FieldLemmas.{one_more_after_one, one_more_after_several}
use Rattle.cd_wire.proofs.marks.one_more.Goals as goal

pub returns-in-One : goal.returns-in-One
returns-in-One c before h =
    one_more_after_one c.in-One.field-0.now c.args.value.now before
    (subst (λ (f : Found). IsFound f before) c.in-One.is h)

pub returns-in-Several : goal.returns-in-Several
returns-in-Several c before h =
    one_more_after_several c.args.value.now before (subst (λ (f : Found). IsFound f before) c.in-Several.is h)
