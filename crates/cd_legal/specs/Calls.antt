-- Part of the main theorem.
-- The pairs of a key, and the fixtures' calls of a history.
use Rattle.std.specs.Prelude.{ℕ, suc, Bool, ◌&&◌, not, cond, List, [], ◌∷◌, ◌++◌, take, slice_get, reverse, map, Option, Some, None}
use Rattle.cd_outside.specs.declared.key.Key.{Key}
use Rattle.cd_outside.specs.declared.holder.Holder.{Holder}
use Rattle.cd_outside.specs.declared.holder.Pair.{Pair}
use Rattle.cd_outside.specs.declared.fixtures.FixtureCall.{FixtureCall}
use Rattle.cd_outside.specs.declared.fixtures.FixtureCall.TheVariants.{Opened, NotOpened, Closed, Shut}
use Rattle.cd_legal.specs.declared.part.Part.TheVariants.{Instance, App}
use Rattle.cd_legal.specs.declared.entry.Entry.{Entry}
use Rattle.cd_legal.specs.declared.entry.Entry.TheVariants.{Draft, Made, Started, Publish, Abandon, Stopped, Begin, Finish, Retire, Cleaned, Halt}
use Rattle.cd_legal.specs.declared.state.State.{State}
use Rattle.cd_outside.specs.Keys.{keys_in, keys_of, without_holder, fresh_keys, key_count}
use Rattle.cd_legal.specs.State.{opening_state, keys_for, part_of, all_stopped, of_draft}
use Rattle.cd_legal.specs.Legal.{after, state_of}

-- how many pairs have the key after the history
abbrev pub count : List Entry → Key → ℕ
count log key = key_count key (state_of log).pairs

-- taking keys in order opens those that had no pair
abbrev pub takings : List Pair → List Key → List FixtureCall
takings pairs keys = map (λ k. Opened k) (fresh_keys (keys_in pairs) keys)

-- giving a holder's pairs back in reverse closes a key where its last pair goes
abbrev pub givings : Holder → List Pair → List FixtureCall
givings h pairs = map (λ k. Closed k) (reverse (fresh_keys (keys_in (without_holder h pairs)) (keys_of h pairs)))

-- the opening that failed, where one did
abbrev pub failing : Option Key → List FixtureCall
failing None = []
failing (Some key) = NotOpened key ∷ []

-- the openings and closings of one entry
abbrev pub key_calls : State → Entry → List FixtureCall
key_calls s (Draft d tree plan) = []
key_calls s (Made d i taken failed) = takings s.pairs (take taken (keys_for Instance i (slice_get s.drafts d))) ++ failing failed
key_calls s (Started d a taken failed) = takings s.pairs (take taken (keys_for App a (slice_get s.drafts d))) ++ failing failed
key_calls s (Publish d n from change) = []
key_calls s (Abandon d) = []
key_calls s (Stopped d a) = givings (part_of App d a) s.pairs
key_calls s (Begin k n) = []
key_calls s (Finish k) = []
key_calls s (Retire n) = []
key_calls s (Cleaned d i) = givings (part_of Instance d i) s.pairs
key_calls s (Halt n) = []

-- the last, where there is one
abbrev pub last_of : {A : Type 0} → List A → Option A
last_of [] = None
last_of (x ∷ []) = Some x
last_of (x ∷ y ∷ xs) = last_of (y ∷ xs)

-- the host is halted, and each app of the last published serial, if there is one, is stopped
abbrev pub is_shut : State → Bool
is_shut s = s.halted && of_draft all_stopped s.drafts (last_of s.published)

-- one `shut` follows the entry by which that comes to be
abbrev pub shutting : Bool → Bool → List FixtureCall
shutting before now = cond (not before && now) (Shut ∷ []) []

-- the calls of one entry
abbrev pub entry_calls : State → Entry → List FixtureCall
entry_calls s e = key_calls s e ++ shutting (is_shut s) (is_shut (after s e))

-- the calls of the entries that follow a state
abbrev pub calls_from : State → List Entry → List FixtureCall
calls_from s [] = []
calls_from s (e ∷ es) = entry_calls s e ++ calls_from (after s e) es

-- the calls of a history
abbrev pub fixture_calls : List Entry → List FixtureCall
fixture_calls log = calls_from opening_state log

-- how often the fixtures are shut
abbrev pub shuts : List FixtureCall → ℕ
shuts [] = 0
shuts (Opened key ∷ calls) = shuts calls
shuts (NotOpened key ∷ calls) = shuts calls
shuts (Closed key ∷ calls) = shuts calls
shuts (Shut ∷ calls) = suc (shuts calls)

-- how many openings fail
abbrev pub not_opened : List FixtureCall → ℕ
not_opened [] = 0
not_opened (Opened key ∷ calls) = not_opened calls
not_opened (NotOpened key ∷ calls) = suc (not_opened calls)
not_opened (Closed key ∷ calls) = not_opened calls
not_opened (Shut ∷ calls) = not_opened calls

-- how many entries have a failed key
abbrev pub failures : List Entry → ℕ
failures [] = 0
failures (Made d i taken (Some key) ∷ es) = suc (failures es)
failures (Started d a taken (Some key) ∷ es) = suc (failures es)
failures (e ∷ es) = failures es
