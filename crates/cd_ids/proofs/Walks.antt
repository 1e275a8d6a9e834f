-- What the walk meets in a value of each kind, and in an object's own `@id`.
use Rattle.std.proofs.Common.{◌≡◌, List, [], ◌∷◌, ◌++◌, Bool, true, false, Option, Some, None, map, refl, sym, ap, ◌∙◌, rules}
use Rattle.std.specs.Prelude.{if◌then◌else◌}
use Rattle.cd_tree.specs.Fields.{get, is_null, unless_null, null_layer}
use Rattle.cd_tree.specs.Tree.{number_text}
use Rattle.cd_tree.specs.declared.path.Path.{Path}
use Rattle.cd_tree.specs.declared.tree.Member.{Member, out-Member}
use Rattle.cd_tree.specs.declared.tree.Tree.{Tree, Items, Object, out-Tree, roll-Tree, roll-out-Tree, the_lemmas}
use Rattle.cd_tree.specs.declared.tree.Tree.TheOpen.{Tree-F}
use Rattle.cd_ids.specs.Walk.{Claim, id, nothing, unfit, Mark, walk, walk_member, in_elements, in_members, own, claimed, id_key, is_id_key}

pub walk-Items : (items : List Tree) (at : Path) → (walk (Items items)).inside at ≡ in_elements 0 (map walk items) at
walk-Items items at = search (rules, the_lemmas)

pub walk-Object : (members : List Member) (at : Path) → (walk (Object members)).inside at ≡ own (map walk_member members) at ++ in_members (map walk_member members) at
walk-Object members at = search (rules, the_lemmas)

-- ---- what a value says as an `@id`

abbrev claim_layer : Tree-F Tree Member → Claim
claim_layer Tree-F.Null = nothing
claim_layer (Tree-F.Bool b) = unfit
claim_layer (Tree-F.Num n) = id (number_text n)
claim_layer (Tree-F.Text t) = id t
claim_layer (Tree-F.Items items) = unfit
claim_layer (Tree-F.Object members) = unfit

claim-roll : (x : Tree-F Tree Member) → (walk (roll-Tree x)).claim ≡ claim_layer x
claim-roll Tree-F.Null = search (rules, the_lemmas)
claim-roll (Tree-F.Bool b) = search (rules, the_lemmas)
claim-roll (Tree-F.Num n) = search (rules, the_lemmas)
claim-roll (Tree-F.Text t) = search (rules, the_lemmas)
claim-roll (Tree-F.Items items) = search (rules, the_lemmas)
claim-roll (Tree-F.Object members) = search (rules, the_lemmas)

claim-out : (t : Tree) → (walk t).claim ≡ claim_layer (out-Tree t)
claim-out t = ap (λ u. (walk u).claim) (sym (roll-out-Tree t)) ∙ claim-roll (out-Tree t)

null_claims : (x : Tree-F Tree Member) → null_layer x ≡ true → claim_layer x ≡ nothing
null_claims Tree-F.Null e = refl
null_claims (Tree-F.Bool b) e = cc
null_claims (Tree-F.Num n) e = cc
null_claims (Tree-F.Text t) e = cc
null_claims (Tree-F.Items items) e = cc
null_claims (Tree-F.Object members) e = cc

-- ---- the `@id` of an object

-- what the walk meets at an object with this `@id`
abbrev pub own_found : Option Tree → Path → List Mark
own_found None at = []
own_found (Some t) at = claimed (walk t).claim at

present : (null : Bool) (t : Tree) (at : Path) → is_null t ≡ null → claimed (walk t).claim at ≡ own_found (if null then None else Some t) at
present true t at e = ap (λ c. claimed c at) (claim-out t ∙ null_claims (out-Tree t) e)
present false t at e = refl

here_or_later : (here : Bool) (m : Member) (ms : List Member) (at : Path) → own (map walk_member ms) at ≡ own_found (get id_key ms) at
    → (if here then claimed (walk (out-Member m).value).claim at else own (map walk_member ms) at) ≡ own_found (if here then unless_null (out-Member m).value else get id_key ms) at
here_or_later true m ms at later = present (is_null (out-Member m).value) (out-Member m).value at refl
here_or_later false m ms at later = later

pub own_is : (members : List Member) (at : Path) → own (map walk_member members) at ≡ own_found (get id_key members) at
own_is [] at = refl
own_is (m ∷ ms) at = here_or_later (is_id_key (out-Member m).key) m ms at (own_is ms at)
