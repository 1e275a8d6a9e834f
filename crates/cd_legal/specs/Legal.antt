-- Part of the main theorem.
-- The table of entries: which may follow, and what they leave.
use Rattle.std.specs.Prelude.{ℕ, suc, ◌+◌, ◌==◌, Bool, true, ◌&&◌, not, cond, nat_lt, List, [], ◌∷◌, ◌++◌, length, take, slice_get, Option, Some, None, is_none, IsTrue, Result, Ok, Err}
use Rattle.cd_outside.specs.declared.key.Key.{Key}
use Rattle.cd_outside.specs.declared.holder.Pair.{Pair}
use Rattle.cd_legal.specs.declared.limits.TheConstants.{MAX_DRAFTS}
use Rattle.cd_legal.specs.declared.fault.ReplayFault.{ReplayFault}
use Rattle.cd_legal.specs.declared.fault.ReplayFault.TheVariants.{NotAllowed}
use Rattle.cd_legal.specs.declared.entry.Entry.{Entry}
use Rattle.cd_legal.specs.declared.entry.Entry.TheVariants.{Draft, Made, Started, Publish, Abandon, Stopped, Begin, Finish, Retire, Cleaned, Halt}
use Rattle.cd_legal.specs.declared.entry.Signed.{Signed}
use Rattle.cd_legal.specs.declared.state.State.{State}
use Rattle.cd_legal.specs.declared.state.Drafted.{Drafted}
use Rattle.cd_legal.specs.declared.state.Life.TheVariants.{Published, Abandoned}
use Rattle.cd_legal.specs.declared.part.Part.{Part}
use Rattle.cd_legal.specs.declared.part.Part.TheVariants.{Instance, App}
use Rattle.cd_outside.specs.Keys.{key_eq, has_key, keys_in, without_holder, pairs_for}
use Rattle.cd_legal.specs.Entry.{entries}
use Rattle.cd_legal.specs.State.{opening_state, holds, has_number, change_at, part_keys, part_of, new_draft, opened_in, instances_ready, one_opened, one_ended, is_live, may_stop_apps, may_clean_instances, all_stopped, keys_for, apps_stopped, has_ticket, is_ticketed, without_ticket}

-- ---- which entries are allowed

-- all keys are taken; or the first `taken`, and the next one, which nobody has, could not be opened
abbrev pub keys_fit : List Key → List Key → ℕ → Option Key → Bool
keys_fit had keys taken None = taken == length keys
keys_fit had keys taken (Some key) = holds (key_eq key) (slice_get keys taken) && not (has_key key (had ++ take taken keys))

-- live and without a failed key
abbrev pub is_open : Drafted → Bool
is_open x = is_live x.life && is_none x.failed

-- the draft is live and without a failed key, place i is the next of this kind, after the instances that it waits for, and
-- the plan has it, with keys that fit
abbrev pub may_open : Part → ℕ → ℕ → Option Key → List Pair → Drafted → Bool
may_open part i taken failed pairs x =
    is_open x && (instances_ready part x && ((i == opened_in part x)
    && holds (λ keys. keys_fit (keys_in pairs) keys taken failed) (slice_get (part_keys part x.plan) i)))

-- live, without a failed key, all made and all started
abbrev pub is_complete : Drafted → Bool
is_complete x = is_open x && ((x.made == length x.plan.modules) && (x.started == length x.plan.apps))

-- app a is the last one that is started and not stopped
abbrev pub may_stop : ℕ → ℕ → Drafted → Bool
may_stop a serial x = may_stop_apps serial x.life && (a + 1 + x.stopped == x.started)

-- all apps are stopped, and instance i is the last one that is made and not cleaned
abbrev pub may_clean : ℕ → List ℕ → Drafted → Bool
may_clean i retired x = may_clean_instances retired x.life && (all_stopped x && (i + 1 + x.cleaned == x.made))

-- superseded, not retired, all apps stopped, and no open ticket
abbrev pub may_retire : State → ℕ → Bool
may_retire s n =
    nat_lt n s.serial && (not (has_number n s.retired) && (apps_stopped s n && not (is_ticketed n s.tickets)))

-- the table, first half: which entries may follow
abbrev pub allowed : State → Entry → Bool
allowed s (Draft d tree plan) = (d == length s.drafts) && nat_lt d MAX_DRAFTS
allowed s (Made d i taken failed) = holds (may_open Instance i taken failed s.pairs) (slice_get s.drafts d)
allowed s (Started d a taken failed) = holds (may_open App a taken failed s.pairs) (slice_get s.drafts d)
allowed s (Publish d n from change) =
    not s.halted && (holds is_complete (slice_get s.drafts d) && ((from == s.serial) && (n == from + 1)))
allowed s (Abandon d) = holds (λ x. is_live x.life) (slice_get s.drafts d)
allowed s (Stopped d a) = holds (may_stop a s.serial) (slice_get s.drafts d)
allowed s (Begin k n) = (n == s.serial) && not (has_ticket k s.tickets)
allowed s (Finish k) = has_ticket k s.tickets
allowed s (Retire n) = may_retire s n
allowed s (Cleaned d i) = holds (may_clean i s.retired) (slice_get s.drafts d)
allowed s (Halt n) = not s.halted && (n == s.serial + 1)

-- ---- what an entry leaves

-- place i is opened: it counts, and has its first keys
abbrev pub part_opened : Part → ℕ → ℕ → ℕ → Option Key → State → State
part_opened part d i taken failed s = record s {
  drafts = change_at (one_opened part failed) d s.drafts;
  pairs = s.pairs ++ pairs_for (part_of part d i) (take taken (keys_for part i (slice_get s.drafts d)));
}

-- it is ended: it counts, and gives its keys back
abbrev pub part_ended : Part → ℕ → ℕ → State → State
part_ended part d i s = record s {
  drafts = change_at (one_ended part) d s.drafts;
  pairs = without_holder (part_of part d i) s.pairs;
}

-- the table, second half: what an entry changes
abbrev pub after : State → Entry → State
after s (Draft d tree plan) = record s { drafts = s.drafts ++ new_draft tree plan ∷ [] }
after s (Made d i taken failed) = part_opened Instance d i taken failed s
after s (Started d a taken failed) = part_opened App d a taken failed s
after s (Publish d n from change) = record s {
  serial = n;
  published = s.published ++ d ∷ [];
  drafts = change_at (λ x. record x { life = Published n }) d s.drafts;
}
after s (Abandon d) = record s { drafts = change_at (λ x. record x { life = Abandoned }) d s.drafts }
after s (Stopped d a) = part_ended App d a s
after s (Begin k n) = record s { tickets = s.tickets ++ record { caller = k; serial = n } ∷ [] }
after s (Finish k) = record s { tickets = without_ticket k s.tickets }
after s (Retire n) = record s { retired = s.retired ++ n ∷ [] }
after s (Cleaned d i) = part_ended Instance d i s
after s (Halt n) = record s { serial = n; halted = true }

-- ---- histories

-- each entry is allowed in the state that the entries before it leave
abbrev pub legal_from : State → List Entry → Bool
legal_from s [] = true
legal_from s (e ∷ es) = allowed s e && legal_from (after s e) es

-- what the entries leave of a state
abbrev pub state_from : State → List Entry → State
state_from s [] = s
state_from s (e ∷ es) = state_from (after s e) es

-- each entry is allowed, from the opening state on
abbrev pub legal : List Entry → Bool
legal log = legal_from opening_state log

-- what the entries leave of the opening state
abbrev pub state_of : List Entry → State
state_of log = state_from opening_state log

-- what a history leaves, whoever has signed its entries
abbrev pub state_at : List Signed → State
state_at log = state_of (entries log)

-- a history whose entries are legal
abbrev pub IsLegal : List Signed → Type 0
IsLegal log = IsTrue (legal (entries log))

-- the first place that is not allowed, where the first entry stands at `place`
abbrev pub refused_from : State → ℕ → List Entry → Option ℕ
refused_from s place [] = None
refused_from s place (e ∷ es) = cond (allowed s e) (refused_from (after s e) (suc place) es) (Some place)

-- the first place that is not allowed
abbrev pub refused_at : List Entry → Option ℕ
refused_at log = refused_from opening_state 0 log

-- the state, unless a place is refused
abbrev pub unless : Option ℕ → State → Result State ReplayFault
unless None s = Ok s
unless (Some place) s = Err (NotAllowed place)

-- what a replay gives: the state that the entries leave, or the first place that is not allowed
abbrev pub replayed : List Entry → Result State ReplayFault
replayed log = unless (refused_at log) (state_of log)
