-- A `List` may hold values of the very type that holds the `List`: a tree has a list of trees. What the checker asks to know
-- of such a container, said of a list: how its elements stand in it, how a measure of them gives a measure of it, and that
-- what it owns and how it is coded follow its elements one by one.
use mathlib.Core.Path.{◌≡◌, refl, sym}
use mathlib.Core.List.{List, []}
use mathlib.Core.Former.{Former, this, list, via, children}
use base.Stored.{code_map}
use denote.RattleType.{RattleType}
use denote.HoleLaws.{Alike}
use denote.HolePlaces.{Recodes, struct_places, laid}
use denote.Hole.Carrier.{listed, list-listed}
use denote.Hole.Fix.{over}
use denote.Param.Weighed.{Weighed, w_list}
use denote.Model.Placed.{view_places}
use Rattle.std.specs.formers.vec.Vec as vector
use Rattle.std.specs.declared.alloc.Global.{Global}
use Rattle.std.specs.contracts.alloc.Global as global
use Rattle.std.specs.contracts.impls.GlobalAllocator.TheImpl.{ghosts}
use Rattle.cd_text.specs.declared.list.List.TheInside.{Inside}
use Rattle.cd_text.specs.declared.list.List.TheView.{view, invariant}
use Rattle.cd_text.specs.contracts.list.List as contract
use Rattle.cd_text.specs.contracts.list.List.TheInside as within

-- a list of what the elements are made of
abbrev pub the_former : Former {0} → Former {0}
the_former elements = list elements

-- a list weighs as its heaviest element does
abbrev pub the_weighed : {elements : Former {0}} → Weighed elements → Weighed (the_former elements)
the_weighed weights = w_list weights

-- a list without elements needs none
pub the_empty : List ⊥
the_empty = []

-- the elements of a list are the list
abbrev pub the_items : (T : Type 0) → List T → List T
the_items T elements = elements

pub the_items_listed : (T : Type 0) (elements : List T) → listed _ (children (the_former this) T elements) ≡ the_items T elements
the_items_listed T elements = list-listed T elements

-- the one field, a vector, whose items the view shows
abbrev one_vector : Former {0}
one_vector = via (vector.the_former this Global) Inside (λ T inside. inside.elements) (λ T elements. record { elements = elements }) (λ T inside. refl) (λ T elements. refl)

module _ (From To : RattleType) (change : From.Denot → To.Denot) where
  -- where two kinds of elements lie alike, so do the lists of them
  pub the_places : Alike From To change → Alike (contract.the_row From) (contract.the_row To) ((the_former this).map From.Denot To.Denot change)
  the_places alike =
      let vectors = vector.the_places global.the_row ghosts From To change alike in
      view_places one_vector (list this) view (λ T U put inside. refl) (λ T inside. refl) From.Denot To.Denot change (contract.the_row From).coded (contract.the_row To).coded
      (invariant From.Denot) (invariant To.Denot) (λ inside p q. refl) (λ inside p q. refl) (λ inside holds. tt) (λ inside holds. tt)
      (over (within.the_row From)) (over (within.the_row To))
      (struct_places (within.the_type From) (within.the_type To) (vector.mapped change, tt) _ (λ elements. refl) refl (laid _ _ _ vectors, tt))

  -- and where their codes agree, the lists' codes do
  pub the_codes_placed : Recodes From To change → Recodes (contract.the_row From) (contract.the_row To) ((the_former this).map From.Denot To.Denot change)
  the_codes_placed same elements = sym (code_map From.coded.code To.coded.code change (λ element. sym (same element)) elements)
