-- What is left to note after an object's own id, and before and after one element or member.
use Rattle.std.proofs.Common.{◌≡◌, ℕ, ◌+◌, ◌<◌, List, [], ◌∷◌, ◌++◌, Bool, false, Result, Ok, Err, length, map, get_or, drop, sym, ap, ap₂, ◌∙◌, add-one}
use Rattle.std.specs.Prelude.{decimal, if◌then◌else◌}
use Rattle.std.proofs.lemmas.List.{drop_more}
use Rattle.cd_tree.specs.Path.{◌▸◌}
use Rattle.cd_tree.specs.declared.path.Path.{Path}
use Rattle.cd_tree.specs.declared.tree.Member.{Member, out-Member}
use Rattle.cd_tree.specs.declared.tree.Tree.{Tree, Object}
use Rattle.cd_ids.specs.Walk.{Mark, walk, walk_member, in_elements, in_members, own, is_id_key}
use Rattle.cd_ids.specs.Noting.{noted}
use Rattle.cd_ids.specs.declared.fault.IdFault.{IdFault}
use Rattle.cd_ids.proofs.Noted.{first_noted, first_refused}
use Rattle.cd_ids.proofs.Walks.{walk-Object}

-- the list from a place on is its element and the rest
from_here : {A : Type 0} (xs : List A) (i : ℕ) (x : A) → i < length xs → x ≡ get_or xs i x → drop i xs ≡ x ∷ drop (i + 1) xs
from_here xs i x within is = drop_more xs i x within ∙ ap (λ y. y ∷ drop (i + 1) xs) (sym is)

-- ---- an object

module _ {K : Type 0} (step : K → List ℕ → Path → Result K IdFault) where
  pub object_noted : (known more : K) (t : Tree) (members : List Member) (at : Path) → t ≡ Object members
      → noted step known (own (map walk_member members) at) ≡ Ok more → noted step known ((walk t).inside at) ≡ noted step more (in_members (map walk_member members) at)
  object_noted known more t members at is e = ap (λ u. noted step known ((walk u).inside at)) is ∙ ap (noted step known) (walk-Object members at) ∙ first_noted step known more _ _ e

  pub object_refused : (known : K) (fault : IdFault) (t : Tree) (members : List Member) (at : Path) → t ≡ Object members
      → noted step known (own (map walk_member members) at) ≡ Err fault → noted step known ((walk t).inside at) ≡ Err fault
  object_refused known fault t members at is e = ap (λ u. noted step known ((walk u).inside at)) is ∙ ap (noted step known) (walk-Object members at) ∙ first_refused step known fault _ _ e

-- ---- elements

abbrev pub elements_left : List Tree → ℕ → Path → List Mark
elements_left items i at = in_elements i (map walk (drop i items)) at

split_elements : (items : List Tree) (i : ℕ) (t : Tree) (at here : Path) → i < length items → t ≡ get_or items i t → here ≡ at ▸ decimal i
    → elements_left items i at ≡ (walk t).inside here ++ elements_left items (i + 1) at
split_elements items i t at here within is place =
    ap (λ ts. in_elements i (map walk ts) at) (from_here items i t within is)
    ∙ ap₂ (λ path n. (walk t).inside path ++ in_elements n (map walk (drop (i + 1) items)) at) (sym place) (sym (add-one i))

module _ {K : Type 0} (step : K → List ℕ → Path → Result K IdFault) where
  -- `whole` is what all elements come to
  pub element_noted : (known more : K) (items : List Tree) (i : ℕ) (t : Tree) (at here : Path) (whole : Result K IdFault) → i < length items → t ≡ get_or items i t → here ≡ at ▸ decimal i
      → noted step known ((walk t).inside here) ≡ Ok more → noted step known (elements_left items i at) ≡ whole → noted step more (elements_left items (i + 1) at) ≡ whole
  element_noted known more items i t at here whole within is place e left =
      sym (ap (noted step known) (split_elements items i t at here within is place) ∙ first_noted step known more _ _ e) ∙ left

  pub element_refused : (known first : K) (fault : IdFault) (items given : List Tree) (i : ℕ) (t : Tree) (at here : Path) → items ≡ given → i < length items → t ≡ get_or items i t → here ≡ at ▸ decimal i
      → noted step known ((walk t).inside here) ≡ Err fault → noted step known (elements_left items i at) ≡ noted step first (elements_left items 0 at)
      → noted step first (in_elements 0 (map walk given) at) ≡ Err fault
  element_refused known first fault items given i t at here same within is place e left =
      ap (λ ts. noted step first (in_elements 0 (map walk ts) at)) (sym same) ∙ sym left
      ∙ ap (noted step known) (split_elements items i t at here within is place) ∙ first_refused step known fault _ _ e

-- ---- members

abbrev pub members_left : List Member → ℕ → Path → List Mark
members_left members i at = in_members (map walk_member (drop i members)) at

split_members : (members : List Member) (i : ℕ) (m : Member) (at : Path) → i < length members → m ≡ get_or members i m
    → members_left members i at ≡ (if is_id_key (out-Member m).key then [] else (walk (out-Member m).value).inside (at ▸ (out-Member m).key)) ++ members_left members (i + 1) at
split_members members i m at within is = ap (λ ms. in_members (map walk_member ms) at) (from_here members i m within is)

-- a member that is no `@id`
split_other : (members : List Member) (i : ℕ) (m : Member) (at here : Path) (part : List ℕ) (is_id : Bool) → i < length members → m ≡ get_or members i m
    → is_id ≡ is_id_key (out-Member m).key → is_id ≡ false → here ≡ at ▸ part → part ≡ (out-Member m).key
    → members_left members i at ≡ (walk (out-Member m).value).inside here ++ members_left members (i + 1) at
split_other members i m at here part is_id within is tested other place key =
    split_members members i m at within is
    ∙ ap₂ (λ b path. (if b then [] else (walk (out-Member m).value).inside path) ++ members_left members (i + 1) at) (sym tested ∙ other) (sym (place ∙ ap (λ name. at ▸ name) key))

module _ {K : Type 0} (step : K → List ℕ → Path → Result K IdFault) where
  -- `whole` is what all members come to
  pub member_noted : (known more : K) (members : List Member) (i : ℕ) (m : Member) (at here : Path) (part : List ℕ) (is_id : Bool) (whole : Result K IdFault) → i < length members → m ≡ get_or members i m
      → is_id ≡ is_id_key (out-Member m).key → is_id ≡ false → here ≡ at ▸ part → part ≡ (out-Member m).key → noted step known ((walk (out-Member m).value).inside here) ≡ Ok more
      → noted step known (members_left members i at) ≡ whole → noted step more (members_left members (i + 1) at) ≡ whole
  member_noted known more members i m at here part is_id whole within is tested other place key e left =
      sym (ap (noted step known) (split_other members i m at here part is_id within is tested other place key) ∙ first_noted step known more _ _ e) ∙ left

  pub member_refused : (known first : K) (fault : IdFault) (members given : List Member) (i : ℕ) (m : Member) (at here : Path) (part : List ℕ) (is_id : Bool) → members ≡ given → i < length members → m ≡ get_or members i m
      → is_id ≡ is_id_key (out-Member m).key → is_id ≡ false → here ≡ at ▸ part → part ≡ (out-Member m).key → noted step known ((walk (out-Member m).value).inside here) ≡ Err fault
      → noted step known (members_left members i at) ≡ noted step first (members_left members 0 at) → noted step first (in_members (map walk_member given) at) ≡ Err fault
  member_refused known first fault members given i m at here part is_id same within is tested other place key e left =
      ap (λ ms. noted step first (in_members (map walk_member ms) at)) (sym same) ∙ sym left
      ∙ ap (noted step known) (split_other members i m at here part is_id within is tested other place key) ∙ first_refused step known fault _ _ e
