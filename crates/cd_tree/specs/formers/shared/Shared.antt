-- A tree has shared lists of trees, so a `Shared` may hold values of the type that holds it. The checker asks what such a
-- container is made of, and that how it lies and is coded goes by its elements. Contracts see a list, and a list is what is
-- said of it here; the fields are an `Arc` (specs/Counted.antt) with a vector in it.
use mathlib.Core.Path.{◌≡◌, refl, sym}
use mathlib.Core.List.{List, []}
use mathlib.Core.Former.{Former, this, list, via, children}
use base.Stored.{code_map}
use denote.RattleType.{RattleType}
use denote.HoleLaws.{Alike}
use denote.HolePlaces.{Recodes, struct_places, laid}
use denote.Hole.Carrier.{listed, list-listed}
use denote.Hole.Fix.{over}
use denote.Model.Placed.{view_places}
use denote.Param.Weighed.{Weighed, w_list}
use Rattle.std.specs.declared.alloc.Global.{Global}
use Rattle.std.specs.contracts.alloc.Global as global
use Rattle.std.specs.contracts.impls.GlobalAllocator.TheImpl.{ghosts}
use Rattle.std.specs.contracts.vec.Vec as vec
use Rattle.std.specs.formers.vec.Vec as vector
use Rattle.cd_tree.specs.Counted.{owning, counted, arcs_alike}
use Rattle.cd_tree.specs.contracts.shared.Shared as shared
use Rattle.cd_tree.specs.contracts.shared.Shared.TheInside as fields
use Rattle.cd_tree.specs.declared.shared.Shared.TheInside.{Inside}
use Rattle.cd_tree.specs.declared.shared.Shared.TheView.{view, invariant}

-- ---- as a list

-- its elements, each made as they are
abbrev pub the_former : Former {0} → Former {0}
the_former element = list element

-- its weight is that of the heaviest element
abbrev pub the_weighed : {element : Former {0}} → Weighed element → Weighed (the_former element)
the_weighed weighed = w_list weighed

-- one without elements
pub the_empty : List ⊥
the_empty = []

abbrev pub the_items : (X : Type 0) → List X → List X
the_items X list_of = list_of

-- what it holds is its elements, in their order
pub the_items_listed : (X : Type 0) (list_of : List X) → listed _ (children (the_former this) X list_of) ≡ the_items X list_of
the_items_listed X list_of = list-listed X list_of

-- ---- as fields

-- the field: a vector, behind a count
abbrev elements : Former {0}
elements = via (counted (vector.the_former this Global)) Inside (λ X inside. inside.elements) (λ X owner. record { elements = owner }) (λ X inside. refl) (λ X owner. refl)

module _ (From To : RattleType) (change : From.Denot → To.Denot) where
  abbrev vec_of : RattleType → RattleType
  vec_of R = vec.the_row R global.the_row ghosts

  -- the fields lie alike, through the vector and the count
  fields_alike : Alike From To change → Alike (fields.the_row From) (fields.the_row To) (elements.map From.Denot To.Denot change)
  fields_alike alike =
      let vectors = vector.the_places global.the_row ghosts From To change alike in
      let owners = arcs_alike (vec_of From) (vec_of To) (vector.mapped change) vectors in
      struct_places (fields.the_type From) (fields.the_type To) ((λ owner. owning (vector.mapped change owner.value) owner), tt) _ (λ inside. refl) refl (laid _ _ _ owners, tt)

  -- and so do the lists that they show
  pub the_places : Alike From To change → Alike (shared.the_row From) (shared.the_row To) ((the_former this).map From.Denot To.Denot change)
  the_places alike =
      view_places elements (list this) view (λ X Y put inside. refl) (λ X inside. refl) From.Denot To.Denot change (shared.the_row From).coded (shared.the_row To).coded
      (invariant From.Denot) (invariant To.Denot) (λ inside one two. refl) (λ inside one two. refl) (λ inside holds. tt) (λ inside holds. tt)
      (over (fields.the_row From)) (over (fields.the_row To)) (fields_alike alike)

  pub the_codes_placed : Recodes From To change → Recodes (shared.the_row From) (shared.the_row To) ((the_former this).map From.Denot To.Denot change)
  the_codes_placed same list_of = sym (code_map From.coded.code To.coded.code change (λ element. sym (same element)) list_of)
