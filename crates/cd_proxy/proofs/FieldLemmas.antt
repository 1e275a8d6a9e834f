-- Which fields are passed on.
use Rattle.std.proofs.Common.{◌≡◌, ℕ, Bool, true, false, ◌&&◌, ◌||◌, not, List, filter, codes, refl, ap, ◌∙◌}
use Rattle.std.proofs.lemmas.List.Elements.{filter_agree}
use Rattle.std.proofs.lemmas.Map.Views.{any-filter_same}
use Rattle.std.specs.List.{list_any, slice_split}
use Rattle.cd_wire.specs.declared.fields.Field.{Field}
use Rattle.cd_wire.specs.Fields.{is_named}
use Rattle.cd_wire.specs.Framing.{is_comma}
use Rattle.cd_proxy.specs.Removed.{is_member, lists, is_listed, is_of_one_hop, is_removed, passed_on}

is_first : (a b : Bool) → (a && b) ≡ true → a ≡ true
is_first true b e = refl
is_first false b e = e

listed_by : (fields : List Field) (name : List ℕ) → is_listed (filter (is_named (codes "connection")) fields) name ≡ is_listed fields name
listed_by fields name =
    any-filter_same (lists name) (is_named (codes "connection")) true
    (λ f is. is_first (is_named (codes "connection") f) (list_any (is_member name) (slice_split is_comma f.value)) is) fields

-- by the Connection fields alone
pub passed_by : (fields connections : List Field) → connections ≡ filter (is_named (codes "connection")) fields
    → filter (λ field. not (is_removed connections field)) fields ≡ passed_on fields
passed_by fields connections is =
    filter_agree (λ field. not (is_removed connections field)) (λ field. not (is_removed fields field))
    (λ f. ap (λ (b : Bool). not (is_of_one_hop f || b)) (ap (λ (cs : List Field). is_listed cs f.name) is ∙ listed_by fields f.name))
    fields
