-- Where there is nothing to change, the fields stay.
use Rattle.std.proofs.Common.{◌≡◌, ◌||◌, true, false, Bool, List, [], ◌∷◌, refl, ap}
use Rattle.cd_wire.specs.declared.fields.Field.{Field}
use Rattle.cd_module.specs.declared.pattern.Pattern.{Pattern}
use Rattle.cd_handlers.specs.declared.changes.FilledValues.{FilledValues}
use Rattle.cd_handlers.specs.declared.changes.Side.{Side}
use Rattle.cd_handlers.specs.Changes.{stays, remaining, changed_by}
use Rattle.cd_handlers.specs.Fields.{added, replaced}

pub or_true : (b : Bool) → (b || true) ≡ true
or_true true = refl
or_true false = refl

pub all_remain : (side : Side) (fields : List Field) → remaining side [] fields ≡ fields
all_remain side [] = refl
all_remain side (field ∷ fields) = rw (or_true (stays side field)) (ap (λ others. field ∷ others) (all_remain side fields))

pub nothing_changes : (side : Side) (values : FilledValues) (delete : List Pattern) (fields : List Field) →
    values.add ≡ [] → values.set ≡ [] → delete ≡ [] → changed_by side values delete fields ≡ fields
unfolding changed_by added replaced
nothing_changes side values delete fields no_add no_set no_delete = rw (no_add, no_set, no_delete) (all_remain side fields)
