use Rattle.std.proofs.Common.{◌∙◌, refl, sym, ap, List, ℕ, [], ◌∷◌, subst, codes}
use Rattle.cd_wire.specs.declared.marks.Found.{Found}
use Rattle.cd_wire.specs.Fields.{values, IsFound}
use Rattle.cd_wire.specs.Framing.{framing_by}
use Rattle.cd_wire.proofs.judging.framing_by_marks.Goals as goal

-- one coding
pub returns-in-One : goal.returns-in-One
returns-in-One c fields marks =
    let found = subst (λ (f : Found). IsFound f (values (codes "transfer-encoding") fields)) c.in-One.is marks.coding in
    c.framing_if_alone.ensures c.in-One.coding.now [] _ c.framing_by_coding.ensures marks.length
    ∙ ap (λ (codings : List (List ℕ)). framing_by c.args.minor codings (values (codes "content-length") fields)) (sym found)

-- two codings or more
pub returns-in-Several : goal.returns-in-Several
returns-in-Several c fields marks =
    let found = subst (λ (f : Found). IsFound f (values (codes "transfer-encoding") fields)) c.in-Several.is marks.coding in
    c.framing_if_alone-in-Several.ensures found.0 (found.1 ∷ found.2) _ refl marks.length
    ∙ ap (λ (codings : List (List ℕ)). framing_by c.args.minor codings (values (codes "content-length") fields)) (sym found.3)
