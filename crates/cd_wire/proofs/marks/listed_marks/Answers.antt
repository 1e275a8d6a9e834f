use Rattle.std.proofs.Common.{◌≡◌, ◌+◌, ℕ, List, [], ◌∷◌, ◌++◌, take, subst, sym, ap, ◌∙◌}
use Rattle.std.proofs.lemmas.List.{take_more}
use Rattle.cd_wire.specs.declared.fields.Field.{Field}
use Rattle.cd_wire.specs.Marks.{IsMarked, AreMarks}
use Rattle.cd_wire.proofs.PlaceLemmas.{marked_more}
use Rattle.cd_wire.proofs.marks.listed_marks.Goals as goal

pub loop-field-preserved : goal.loop-field-preserved
loop-field-preserved c =
    let fields = c.args.fields.now in
    let i = c.loop-field.field-index in
    let field = c.field-item.result in
    let old = c.loop-field.marks in
    let new = c.marked-marks.result in
    let value = c.as_slice-in-loop-field in
    let marked : IsMarked old field.name field.value new =
    subst (λ (v : List ℕ). IsMarked old field.name v new) value.ensures
    (subst (λ (n : List ℕ). IsMarked old n value.result.now new) c.as_slice.ensures c.marked-marks.ensures) in
    let more : take (i + 1) fields ≡ take i fields ++ field ∷ [] =
    take_more fields i field c.loop-field-test.true ∙ ap (λ (f : Field). take i fields ++ f ∷ []) (sym c.field-item.is) in
    subst (λ (t : List Field). AreMarks t new) (sym more) (marked_more (take i fields) field old new c.loop-field.invariant marked)
