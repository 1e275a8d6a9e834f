-- An `Arc` of a value lies as the value does: where two types lie alike, the `Arc`s of them do. For the former of `Shared`.
use mathlib.Core.Path.{◌≡◌, refl, ap}
use mathlib.Core.List.{List}
use mathlib.Core.Former.{Former, const, pair, via}
use Prim.Native.Nat.{ℕ}
use mir.Syntax.{Ty}
use mir.Val.{Val}
use base.Fml.{Fml, Lft, ftrue}
use base.Stored.{gnil}
use denote.HoleLaws.{Alike}
use denote.HolePlaces.{one_value}
use denote.Memory.{part_of}
use denote.RattleType.{RattleType}
use denote.RawPtr.{Ptr}
use denote.Sharing.{nothing}
use Rattle.std.specs.declared.alloc.Global.{Global}
use Rattle.std.specs.declared.sync.Arc.{Arc}
use Rattle.std.specs.contracts.alloc.Global as global
use Rattle.std.specs.contracts.impls.GlobalAllocator.TheImpl.{ghosts}
use Rattle.std.specs.contracts.sync.Arc as arc

-- ---- values

-- the same owner with another value
abbrev pub owning : {X Y : Type 0} → Y → Arc X Global → Arc Y Global
owning value owner = record { ptr = owner.ptr; value = value }

-- an owner is where its value lies, and what the value is made of
abbrev pub counted : Former {0} → Former {0}
counted value = via (pair (const Ptr) value) (λ X. Arc (value.Of X) Global) (λ X owner. (owner.ptr, owner.value)) (λ X parts. record { ptr = parts.0; value = parts.1 }) (λ X owner. refl) (λ X parts. refl)

-- ---- types

-- the owners of values of a type
abbrev pub arc_of : RattleType → RattleType
arc_of R = arc.the_row R global.the_row ghosts

-- what an owner sees of its value: how it is laid out, what it owns, and what it lends
abbrev Seen : Type 1
Seen = List Ty × ((List Val → Fml) × (ℕ → ℕ → Lft → Fml))

-- the type of that value alone
abbrev alone : RattleType → Seen → RattleType
alone R seen = one_value R seen.0 seen.1.0 seen.1.1 gnil

module _ (From To : RattleType) (change : From.Denot → To.Denot) (alike : Alike From To change) where
  -- a value is seen as what it is changed to
  seen_alike : (x : From.Denot) → ◌≡◌ {A = Seen} (To.mir, (To.own_val (change x), To.shr_at (change x))) (From.mir, (From.own_val x, From.shr_at x))
  seen_alike x = λ i. (alike.mir_same i, (alike.own_same x i, alike.shr_same x i))

  pub arcs_alike : Alike (arc_of From) (arc_of To) (λ owner. owning (change owner.value) owner)
  unfolding part_of
  arcs_alike = record {
    mir_same = ap (λ (layout : List Ty). (arc_of (alone From (layout, ((λ _. ftrue), (λ _ _. nothing))))).mir) alike.mir_same;
    own_same = λ owner. ap (λ (seen : Seen). (arc_of (alone From seen)).own_val (owning tt owner)) (seen_alike owner.value);
    shr_same = λ owner. ap (λ (seen : Seen). (arc_of (alone From seen)).shr_at (owning tt owner)) (seen_alike owner.value);
  }
