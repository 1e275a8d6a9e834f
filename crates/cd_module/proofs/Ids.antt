-- Labels joined by dots, and read back.
use Rattle.std.proofs.Common.{◌≡◌, ℕ, List, [], ◌∷◌, ◌++◌, Bool, true, false, Result, Ok, Err, ap, ◌∙◌, refl, arith, append_assoc, rules}
use Rattle.std.specs.Prelude.{not, length, ◌==◌, if◌then◌else◌}
use Rattle.std.specs.List.{All, list_all, join_with_byte}
use Rattle.std.proofs.lemmas.Bool.{and_parts, and_from, ne_eqb}
use Rattle.std.proofs.lemmas.Bool.Decides.{nat_tests, eqb_tells}
use Rattle.std.proofs.lemmas.List.Elements.{All-from_get_or}
use Rattle.std.proofs.lemmas.List.Splits.{slice_split_none, slice_split_at, length-slice_split, join_with_byte-slice_split}
use Rattle.std.proofs.lemmas.List.Sums.{AllPass-from_list_all}
use Rattle.cd_module.specs.Ids.{is_label_byte, is_label, labels_in, id_of, is_id, dotted}
use Rattle.cd_module.specs.declared.id.ModuleId.{ModuleId}
use Rattle.cd_module.specs.declared.id.IdFormFault.{IdFormFault}
use Rattle.cd_module.specs.declared.id.IdFormFault.TheVariants.{BadForm}

-- one label more behind the text
pub join_step : (text label : List ℕ) (labels : List (List ℕ)) → join_with_byte 46 (text ∷ label ∷ labels) ≡ join_with_byte 46 ((text ++ 46 ∷ label) ∷ labels)
join_step text label labels = search (rules, append_assoc)

-- a label has no dot
no_dot : (b : ℕ) → is_label_byte b ≡ true → (b == 46) ≡ false
no_dot b h = grind (arith, nat_tests, eqb_tells)

no_dots : (label : List ℕ) → is_label label ≡ true → All (λ b. (b == 46) ≡ false) label
no_dots label h = search (rules, AllPass-from_list_all, and_parts, All-from_get_or, no_dot)

-- labels that are joined are split again
split_joined : (label : List ℕ) (labels : List (List ℕ)) → list_all is_label (label ∷ labels) ≡ true → labels_in (join_with_byte 46 (label ∷ labels)) ≡ label ∷ labels
split_joined label [] h = slice_split_none (λ b. b == 46) label (no_dots label (and_parts _ _ h).0)
split_joined label (next ∷ labels) h =
    slice_split_at (λ b. b == 46) label 46 (join_with_byte 46 (next ∷ labels)) (no_dots label (and_parts _ _ h).0) refl
    ∙ ap (λ rest. label ∷ rest) (split_joined next labels (and_parts _ _ h).1)

id_again : (labels read : List (List ℕ)) → read ≡ labels → list_all is_label labels ≡ true → ◌≡◌ {A = Result ModuleId IdFormFault} (if list_all is_label read then Ok (record { labels = read }) else Err BadForm) (Ok (record { labels = labels }))
id_again labels read same h = rw (same, h) refl

-- the text of an id reads as the id
pub id_reads_back : (labels : List (List ℕ)) → is_id (record { labels = labels }) ≡ true → id_of (join_with_byte 46 labels) ≡ Ok (record { labels = labels })
id_reads_back [] h = cc
id_reads_back (label ∷ labels) h =
    id_again (label ∷ labels) (labels_in (join_with_byte 46 (label ∷ labels))) (split_joined label labels (and_parts _ _ h).1) (and_parts _ _ h).1

read_text : (text : List ℕ) (b : Bool) (found : ModuleId) → (if b then Ok (record { labels = labels_in text }) else Err BadForm) ≡ Ok found → found.labels ≡ labels_in text
read_text text b found h = search rules

-- what reads as an id is its text
pub text_is_dotted : (text : List ℕ) (found : ModuleId) → id_of text ≡ Ok found → dotted found ≡ text
text_is_dotted text found h = ap (join_with_byte 46) (read_text text (list_all is_label (labels_in text)) found h) ∙ join_with_byte-slice_split 46 text

-- a text has one part at least
some_part : (text : List ℕ) → not (length (labels_in text) == 0) ≡ true
some_part text = ap not (ne_eqb (length (labels_in text)) 0 (λ none. omega (arith, none, length-slice_split (λ b. b == 46) text)))

read_by : (text : List ℕ) (b : Bool) (found : ModuleId) → list_all is_label (labels_in text) ≡ b → (if b then Ok (record { labels = labels_in text }) else Err BadForm) ≡ Ok found → is_id found ≡ true
read_by text b found e h = search (rules, and_from, some_part)

-- what is read is one label or more
pub read_is_id : (text : List ℕ) (found : ModuleId) → id_of text ≡ Ok found → is_id found ≡ true
read_is_id text found h = read_by text (list_all is_label (labels_in text)) found refl h
