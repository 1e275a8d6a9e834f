-- Each definition on written histories, computed: whole ones, and near misses.
use Rattle.std.proofs.Common.{◌≡◌, true, false, List, [], ◌∷◌, ◌++◌, refl, Some, None}
use Rattle.std.specs.Prelude.{codes}
use Rattle.cd_outside.specs.declared.key.Key.{Key}
use Rattle.cd_outside.specs.declared.key.Key.TheVariants.{Writer}
use Rattle.cd_tree.specs.declared.tree.Tree.{Tree}
use Rattle.cd_legal.specs.declared.plan.Plan.{Plan}
use Rattle.cd_legal.specs.declared.entry.Change.TheVariants as change
use Rattle.cd_legal.specs.declared.entry.Entry.TheVariants.{Draft, Made, Started, Publish, Abandon, Stopped, Begin, Finish, Retire, Cleaned, Halt}
use Rattle.cd_legal.specs.declared.entry.Signed.{Signed}
use Rattle.cd_legal.specs.Calls.{failures}
use Rattle.cd_legal.specs.Entry.{signed, entries}
use Rattle.cd_legal.specs.Legal.{legal, state_of}
use Rattle.cd_legal.specs.Runs.{Failure}
use Rattle.cd_gate.specs.Growing.{all_signed}
use Rattle.cd_host.specs.Firsts.{BeginsWith}
use Rattle.cd_host.specs.Parts.{HasParts, IsAlone, end_entries}
use Rattle.cd_host.specs.Program.{Start, start_entries, halt_entries}
use Rattle.cd_host.proofs.NotAlone.{halts-not-alone}

abbrev x_key : Key
x_key = Writer (codes "x")

abbrev y_key : Key
y_key = Writer (codes "y")

-- a module and an app with a key each
abbrev small : Plan
small = record { modules = record { name = codes "m"; at = record { parts = [] }; keys = x_key ∷ [] } ∷ []; apps = record { name = codes "a"; keys = y_key ∷ [] } ∷ [] }

module _ (t : Tree) where
  -- ---- the start

  starts : start_entries t small Start.published ≡ Begin 0 0 ∷ Draft 0 t small ∷ Made 0 0 1 None ∷ Started 0 0 1 None ∷ Publish 0 1 0 change.First ∷ Finish 0 ∷ Retire 0 ∷ []
  starts = refl

  refused_in_a_module : start_entries t small (Start.refused (Failure.InModule 0 0) x_key) ≡ Begin 0 0 ∷ Draft 0 t small ∷ Made 0 0 0 (Some x_key) ∷ Abandon 0 ∷ Cleaned 0 0 ∷ Finish 0 ∷ []
  refused_in_a_module = refl

  refused_in_an_app : start_entries t small (Start.refused (Failure.InApp 0 0) y_key) ≡ Begin 0 0 ∷ Draft 0 t small ∷ Made 0 0 1 None ∷ Started 0 0 0 (Some y_key) ∷ Abandon 0 ∷ Stopped 0 0 ∷ Cleaned 0 0 ∷ Finish 0 ∷ []
  refused_in_an_app = refl

  lacking : (start_entries t small Start.undrafted ≡ Begin 0 0 ∷ Finish 0 ∷ []) × (start_entries t small Start.unbegun ≡ [])
  lacking = (refl, refl)

  -- each of them is legal, and fails as many keys as it says
  legal_starts : (legal (start_entries t small Start.published) ≡ true) × (legal (start_entries t small (Start.refused (Failure.InModule 0 0) x_key)) ≡ true) × (legal (start_entries t small (Start.refused (Failure.InApp 0 0) y_key)) ≡ true)
  legal_starts = (refl, refl, refl)

  failed_keys : (failures (start_entries t small Start.published) ≡ 0) × (failures (start_entries t small (Start.refused (Failure.InApp 0 0) y_key)) ≡ 1)
  failed_keys = (refl, refl)

  -- ---- the end

  abbrev started : List Signed
  started = all_signed 0 (start_entries t small Start.published)

  -- a request of the first lane
  abbrev served : List Signed
  served = signed 1 (Begin 1 1) ∷ signed 1 (Finish 1) ∷ []

  -- the first lane halts
  abbrev halting : List Signed
  halting = signed 1 (Begin 1 1) ∷ signed 1 (Halt 2) ∷ signed 1 (Stopped 0 0) ∷ signed 1 (Finish 1) ∷ signed 1 (Retire 1) ∷ signed 1 (Cleaned 0 0) ∷ []

  halts : end_entries (started ++ served) ≡ Halt 2 ∷ Stopped 0 0 ∷ Retire 1 ∷ Cleaned 0 0 ∷ []
  halts = refl

  a_lane_halts : end_entries (started ++ halting) ≡ []
  a_lane_halts = refl

  -- where nothing was published serial 0 is retired
  halts_at_once : halt_entries (state_of (start_entries t small Start.undrafted)) ≡ Halt 1 ∷ Retire 0 ∷ []
  halts_at_once = refl

  -- ---- the whole

  abbrev whole : List Signed
  whole = (started ++ served) ++ all_signed 0 (end_entries (started ++ served))

  whole_is_legal : (legal (entries whole) ≡ true) × (legal (entries (started ++ halting)) ≡ true)
  whole_is_legal = (refl, refl)

  parts : HasParts t small Start.published whole
  parts = record { lanes = served; others = refl; whole = refl }

  parts_of_a_lane_that_halts : HasParts t small Start.published (started ++ halting)
  parts_of_a_lane_that_halts = record { lanes = halting; others = refl; whole = refl }

  -- the lane has signed; and the host is halted once, so that neither another lane nor the program signs a second Halt
  not_alone : IsAlone halting → ⊥
  not_alone = halts-not-alone halting refl

  halted_once : (legal (entries ((started ++ halting) ++ signed 2 (Begin 2 2) ∷ (signed 2 (Halt 3) ∷ []))) ≡ false)
      × (legal (entries ((started ++ halting) ++ all_signed 0 (halt_entries (state_of (entries (started ++ halting)))))) ≡ false)
  halted_once = (refl, refl)

  begins : BeginsWith t (entries whole)
  begins = (tt, (tt, (tt, (tt, (refl, (tt, (tt, (tt, (tt, (tt, (tt, (tt, (tt, tt)))))))))))))

  -- a lane that begins before serial 0 has a successor, or an end without stopping the apps, is not legal
  near_misses : (legal (start_entries t small Start.published ++ Begin 1 0 ∷ Finish 1 ∷ []) ≡ false) × (legal (start_entries t small Start.published ++ Halt 2 ∷ Retire 1 ∷ []) ≡ false)
  near_misses = (refl, refl)
