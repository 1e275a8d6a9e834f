-- Part of the main theorem.
-- What a history has when all is ended.
use Rattle.std.specs.Prelude.{◌≡◌, ℕ, zero, suc, ◌≤◌, Bool, true, ◌&&◌, ◌||◌, not, cond, List, [], ◌∷◌, slice_get}
use Rattle.std.specs.List.{list_all}
use Rattle.cd_outside.specs.declared.key.Key.{Key}
use Rattle.cd_outside.specs.declared.holder.Holder.{Holder}
use Rattle.cd_legal.specs.declared.part.Part.TheVariants.{Instance, App}
use Rattle.cd_legal.specs.declared.entry.Entry.{Entry}
use Rattle.cd_legal.specs.declared.entry.Entry.TheVariants.{Made, Started, Stopped, Cleaned}
use Rattle.cd_legal.specs.declared.state.State.{State}
use Rattle.cd_legal.specs.declared.state.Drafted.{Drafted}
use Rattle.cd_outside.specs.Keys.{holder_eq}
use Rattle.cd_legal.specs.State.{holds, has_number, is_live, may_clean_instances, all_stopped, all_cleaned, apps_stopped, part_of}
use Rattle.cd_legal.specs.Calls.{count}

-- how often the history makes the instance, or starts the app, that the holder names
abbrev pub begun : Holder → List Entry → ℕ
begun h [] = 0
begun h (Made d i taken failed ∷ es) = cond (holder_eq h (part_of Instance d i)) (suc (begun h es)) (begun h es)
begun h (Started d a taken failed ∷ es) = cond (holder_eq h (part_of App d a)) (suc (begun h es)) (begun h es)
begun h (e ∷ es) = begun h es

-- how often it cleans, or stops, it
abbrev pub ended : Holder → List Entry → ℕ
ended h [] = 0
ended h (Stopped d a ∷ es) = cond (holder_eq h (part_of App d a)) (suc (ended h es)) (ended h es)
ended h (Cleaned d i ∷ es) = cond (holder_eq h (part_of Instance d i)) (suc (ended h es)) (ended h es)
ended h (e ∷ es) = ended h es

-- what was made is cleaned and what was started is stopped, each once, and no key has a pair
pub record IsWhole (log : List Entry) : Type 0 where
  pub once : (h : Holder) → begun h log ≤ 1
  pub ended : (h : Holder) → ended h log ≡ begun h log
  pub free : (key : Key) → count log key ≡ 0

-- nothing of it is left to be stopped or cleaned, where it is abandoned or of a retired serial
abbrev pub nothing_left_of : List ℕ → Drafted → Bool
nothing_left_of retired x = not (may_clean_instances retired x.life) || (all_stopped x && all_cleaned x)

-- all of it that was made is ended, and may be: nothing more happens to it
abbrev pub is_closed : List ℕ → Drafted → Bool
is_closed retired x = may_clean_instances retired x.life && (all_stopped x && all_cleaned x)

-- the draft is there, and is closed
abbrev pub is_closed_in : State → ℕ → Bool
is_closed_in s d = holds (is_closed s.retired) (slice_get s.drafts d)

-- the apps of each serial below this one are stopped
abbrev pub all_apps_stopped : State → ℕ → Bool
all_apps_stopped s zero = true
all_apps_stopped s (suc n) = apps_stopped s n && all_apps_stopped s n

-- nothing is left to be stopped or cleaned: not of a superseded serial's apps, and not of a draft that is abandoned or of a
-- retired serial
abbrev pub nothing_left : State → Bool
nothing_left s = all_apps_stopped s s.serial && list_all (nothing_left_of s.retired) s.drafts

-- each serial below this one is retired
abbrev pub all_retired : ℕ → List ℕ → Bool
all_retired zero retired = true
all_retired (suc n) retired = has_number n retired && all_retired n retired

-- halted, no live draft, each superseded serial retired, nothing to be stopped or cleaned
pub record IsOver (s : State) : Type 0 where
  pub halted : s.halted ≡ true
  pub drafts : list_all (λ x. not (is_live x.life)) s.drafts ≡ true
  pub retired : all_retired s.serial s.retired ≡ true
  pub finished : list_all (nothing_left_of s.retired) s.drafts ≡ true
