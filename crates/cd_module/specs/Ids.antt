-- The names of modules.
use Rattle.std.specs.Prelude.{ℕ, ◌==◌, ◌-◌, ◌&&◌, ◌||◌, not, nat_le, Bool, if◌then◌else◌, List, length, take, slice_get, Option, Result, Ok, Err}
use Rattle.std.specs.List.{list_all, slice_split, join_with_byte}
use Rattle.cd_module.specs.declared.id.ModuleId.{ModuleId}
use Rattle.cd_module.specs.declared.id.IdFormFault.{IdFormFault}
use Rattle.cd_module.specs.declared.id.IdFormFault.TheVariants.{BadForm}

-- a to z, 0 to 9, or an underscore
abbrev pub is_label_byte : ℕ → Bool
is_label_byte b = (nat_le 97 b && nat_le b 122) || (nat_le 48 b && nat_le b 57) || (b == 95)

-- one such byte or more
abbrev pub is_label : List ℕ → Bool
is_label part = not (length part == 0) && list_all is_label_byte part

-- what stands between the dots
abbrev pub labels_in : List ℕ → List (List ℕ)
labels_in text = slice_split (λ byte. byte == 46) text

-- the id whose labels stand between the dots
abbrev pub id_of : List ℕ → Result ModuleId IdFormFault
id_of text = if list_all is_label (labels_in text) then Ok (record { labels = labels_in text }) else Err BadForm

-- one label or more
abbrev pub is_id : ModuleId → Bool
is_id id = not (length id.labels == 0) && list_all is_label id.labels

-- the labels, joined by dots
abbrev pub dotted : ModuleId → List ℕ
dotted id = join_with_byte 46 id.labels

-- the last label
abbrev pub name_in : List (List ℕ) → Option (List ℕ)
name_in labels = slice_get labels (length labels - 1)

-- the labels before the last one
abbrev pub namespace_in : List (List ℕ) → List (List ℕ)
namespace_in labels = take (length labels - 1) labels
