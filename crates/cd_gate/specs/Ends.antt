-- How passes begin and end.
use Rattle.std.specs.Prelude.{◌≡◌, ℕ, ◌<◌, ◌≤◌, true, false, List, [], ◌∷◌, ◌++◌, length, drop}
use mathlib.Core.Option.{some}
use mathlib.Core.List.{IsPrefix}
use lib.ListN.{get_elem?}
use Rattle.atomic_table.specs.Seated.{TableId}
use Rattle.cd_legal.specs.declared.entry.Signed.{Signed}
use Rattle.cd_legal.specs.Entry.{mine}
use Rattle.cd_legal.specs.Laws.{core_at}
use Rattle.cd_legal.specs.Legal.{state_at, may_retire}
use Rattle.cd_legal.specs.Owing.{owes_of, owes_nothing}
use Rattle.cd_legal.specs.Signing.{IsHistory}
use Rattle.cd_legal.specs.Whole.{nothing_left}
use Rattle.cd_gate.specs.declared.view.Gone.{Gone}
use Rattle.cd_gate.specs.declared.gate.Gate.{Gate}
use Rattle.cd_gate.specs.declared.pass.Pass.{Pass}
use Rattle.cd_gate.specs.Words.{owed}
use Rattle.cd_gate.specs.Steps.{gone_of}
use Rattle.cd_gate.specs.Passes.{view, IsIdle}

module _ {T : Type 0} where
  -- all passes that a gate made are here: the pass at place i is idle and has the number i, and that of number 0 has made as many numbers
  pub record IsRow (z : TableId) (o : T) (passes : List (Pass T)) : Type 0 where
    pub some_pass : 0 < length passes
    pub each : (i : ℕ) (p : Pass T) → get_elem? passes i ≡ some p → IsIdle z o p × ((view p).number ≡ i)
    pub root : (p : Pass T) → get_elem? passes 0 ≡ some p → ((view p).made ≡ length passes) × ((view p).joined ≡ [])

  -- all passes of this gate are here
  abbrev pub IsRowOf : Gate T → List (Pass T) → Type 0
  IsRowOf g passes = IsRow g.table.shared.table_id g.table.shared.key.value passes

  -- a pass that has no ticket, no draft and no duty
  abbrev pub IsFree : Pass T → Type 0
  IsFree p = (owed (view p) ≡ owes_nothing) × ((view p).duties ≡ [])

  -- none of the passes has any of these
  pub record AreFree (passes : List (Pass T)) : Type 0 where
    pub each : (i : ℕ) (p : Pass T) → get_elem? passes i ≡ some p → IsFree p

  -- the passes have seen nothing and made nothing, and none of them has looked for room for a request
  pub record AreNew (passes : List (Pass T)) : Type 0 where
    pub each : (i : ℕ) (p : Pass T) → get_elem? passes i ≡ some p → ((view p).seen ≡ []) × ((view p).mine ≡ []) × IsFree p
    pub unchecked : (i : ℕ) (p : Pass T) → get_elem? passes i ≡ some p → (view p).checked ≡ false

  -- what is known of a board when its passes have come together
  pub record Closes (stands : T → T → List Signed → Type 0) (o : T) (passes : List (Pass T)) (b : T) : Type 0 where
    pub log : List Signed
    pub history : IsHistory log
    -- the board stands for the history without Begin and Finish
    pub board : stands o b (core_at log)
    -- which begins with what each pass has seen, and has its entries
    pub each : (i : ℕ) (p : Pass T) → get_elem? passes i ≡ some p → IsPrefix (view p).seen log × (mine i log ≡ (view p).mine)
    -- and those of no others
    pub others : (k : ℕ) → length passes ≤ k → mine k log ≡ []
    -- nobody owes anything
    pub owes : (k : ℕ) → owes_of k log ≡ owes_nothing
    -- no serial is left to be retired, and nothing to be stopped or cleaned
    pub due : (n : ℕ) → may_retire (state_at log) n ≡ false
    pub left : nothing_left (state_at log) ≡ true

  -- what each of these passes knew was joined
  abbrev pub AllIn : List Gone → List (Pass T) → Type 0
  AllIn joined [] = Unit {0}
  AllIn joined (p ∷ ps) = ((i : ℕ) × (get_elem? joined i ≡ some (gone_of (view p)))) × AllIn joined ps

  -- the pass q of number 0 has taken in all but these
  pub record Gathers (z : TableId) (o : T) (all : List (Pass T)) (q : Pass T) (left : List (Pass T)) : Type 0 where
    pub first : Pass T
    pub at : get_elem? all 0 ≡ some first
    pub idle : IsIdle z o q
    pub same : view q ≡ record (view first) { seen = (view q).seen; joined = (view q).joined }
    pub seen : IsPrefix (view first).seen (view q).seen
    pub done : List (Pass T)
    pub rest : drop 1 all ≡ left ++ done
    pub joined : AllIn (view q).joined done
