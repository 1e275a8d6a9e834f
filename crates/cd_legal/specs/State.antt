-- Part of the main theorem.
-- What a history leaves: the parts of a state, what is asked of them, and how one of them changes.
use Rattle.std.specs.Prelude.{ℕ, zero, suc, ◌+◌, ◌==◌, Bool, true, false, ◌&&◌, ◌||◌, cond, nat_lt, List, [], ◌∷◌, length, slice_get, Option, Some, None, map}
use Rattle.cd_outside.specs.declared.key.Key.{Key}
use Rattle.cd_outside.specs.declared.holder.Holder.{Holder}
use Rattle.cd_tree.specs.declared.tree.Tree.{Tree}
use Rattle.cd_legal.specs.declared.plan.Plan.{Plan}
use Rattle.cd_legal.specs.declared.part.Part.{Part}
use Rattle.cd_legal.specs.declared.part.Part.TheVariants.{Instance, App}
use Rattle.cd_legal.specs.declared.state.State.{State}
use Rattle.cd_legal.specs.declared.state.Drafted.{Drafted}
use Rattle.cd_legal.specs.declared.state.Life.{Life}
use Rattle.cd_legal.specs.declared.state.Life.TheVariants.{Live, Published, Abandoned}
use Rattle.cd_legal.specs.declared.state.OpenTicket.{OpenTicket}

-- serial 0, and nothing made
abbrev pub opening_state : State
opening_state = record { serial = 0; halted = false; published = []; drafts = []; tickets = []; retired = []; pairs = [] }

-- ---- lists and options

-- what holds of an element, where it is there
abbrev pub holds : {A : Type 0} → (A → Bool) → Option A → Bool
holds test None = false
holds test (Some x) = test x

-- what holds of it unless it is absent
abbrev pub holds_if_there : {A : Type 0} → (A → Bool) → Option A → Bool
holds_if_there test None = true
holds_if_there test (Some x) = test x

-- the number is among these
abbrev pub has_number : ℕ → List ℕ → Bool
has_number n [] = false
has_number n (m ∷ ms) = (n == m) || has_number n ms

-- the list whose element at a place is f of what it was
abbrev pub change_at : {A : Type 0} → (A → A) → ℕ → List A → List A
change_at f n [] = []
change_at f zero (x ∷ xs) = f x ∷ xs
change_at f (suc n) (x ∷ xs) = x ∷ change_at f n xs

-- ---- plans and holders

-- the keys at a place, none past the end
abbrev pub keys_at : List (List Key) → ℕ → List Key
keys_at [] i = []
keys_at (keys ∷ rest) zero = keys
keys_at (keys ∷ rest) (suc i) = keys_at rest i

-- the keys of each module of the plan, or of each app
abbrev pub part_keys : Part → Plan → List (List Key)
part_keys Instance plan = map (λ m. m.keys) plan.modules
part_keys App plan = map (λ a. a.keys) plan.apps

-- whether it is an app
abbrev pub is_app : Part → Bool
is_app Instance = false
is_app App = true

-- instance i of draft d, or app i
abbrev pub part_of : Part → ℕ → ℕ → Holder
part_of part d i = record { draft = d; app = is_app part; place = i }

-- ---- drafts

-- a draft that is live, of which nothing is made
abbrev pub new_draft : Tree → Plan → Drafted
new_draft tree plan = record { tree = tree; plan = plan; made = 0; started = 0; failed = None; life = Live; stopped = 0; cleaned = 0 }

-- how many are opened: instances that are made, or apps that are started
abbrev pub opened_in : Part → Drafted → ℕ
opened_in Instance x = x.made
opened_in App x = x.started

-- how many are ended: instances that are cleaned, or apps that are stopped
abbrev pub ended_in : Part → Drafted → ℕ
ended_in Instance x = x.cleaned
ended_in App x = x.stopped

-- one more is opened, with the key that could not be, where there is one
abbrev pub one_opened : Part → Option Key → Drafted → Drafted
one_opened Instance failed = λ x. record x { made = x.made + 1; failed = failed }
one_opened App failed = λ x. record x { started = x.started + 1; failed = failed }

-- one more is ended
abbrev pub one_ended : Part → Drafted → Drafted
one_ended Instance = λ x. record x { cleaned = x.cleaned + 1 }
one_ended App = λ x. record x { stopped = x.stopped + 1 }

-- the instances that it waits for are made: an app waits for all of them
abbrev pub instances_ready : Part → Drafted → Bool
instances_ready Instance x = true
instances_ready App x = x.made == length x.plan.modules

-- neither published nor abandoned
abbrev pub is_live : Life → Bool
is_live Live = true
is_live (Published s) = false
is_live Abandoned = false

-- its apps may be stopped: it is abandoned, or of a serial below the current one
abbrev pub may_stop_apps : ℕ → Life → Bool
may_stop_apps serial Live = false
may_stop_apps serial (Published s) = nat_lt s serial
may_stop_apps serial Abandoned = true

-- its instances may be cleaned: it is abandoned, or of a retired serial
abbrev pub may_clean_instances : List ℕ → Life → Bool
may_clean_instances retired Live = false
may_clean_instances retired (Published s) = has_number s retired
may_clean_instances retired Abandoned = true

-- each app that was started is stopped
abbrev pub all_stopped : Drafted → Bool
all_stopped x = x.stopped == x.started

-- each instance that was made is cleaned
abbrev pub all_cleaned : Drafted → Bool
all_cleaned x = x.cleaned == x.made

-- the keys that an entry for place i may take of a draft
abbrev pub keys_for : Part → ℕ → Option Drafted → List Key
keys_for part i None = []
keys_for part i (Some x) = keys_at (part_keys part x.plan) i

-- ---- serials

-- the draft that was published with this serial: none for the opening and the halted configuration
abbrev pub draft_of : ℕ → List ℕ → Option ℕ
draft_of zero published = None
draft_of (suc n) published = slice_get published n

-- what holds of a draft, where one is named
abbrev pub of_draft : (Drafted → Bool) → List Drafted → Option ℕ → Bool
of_draft test drafts None = true
of_draft test drafts (Some d) = holds_if_there test (slice_get drafts d)

-- each app of the configuration with this serial is stopped
abbrev pub apps_stopped : State → ℕ → Bool
apps_stopped s serial = of_draft all_stopped s.drafts (draft_of serial s.published)

-- what runs under a serial: nothing yet, nothing any more, or a tree
pub data Conf : Type 0 where
  Opening : Conf
  Halted : Conf
  Of : Tree → Conf

-- the tree of a draft, nothing where there is no draft
abbrev pub conf_in : Option Drafted → Conf
conf_in None = Conf.Opening
conf_in (Some x) = Conf.Of x.tree

-- the tree of a draft by its number; where none is named nothing any more if this is the serial of the halt, and else nothing yet
abbrev pub conf_at : Bool → List Drafted → Option ℕ → Conf
conf_at halt drafts None = cond halt Conf.Halted Conf.Opening
conf_at halt drafts (Some d) = conf_in (slice_get drafts d)

-- the configuration with the serial: the tree that was published with it, the halted one for the serial of the halt, and the
-- opening one for serial 0 and for those that are not there yet
abbrev pub conf_of : State → ℕ → Conf
conf_of s zero = Conf.Opening
conf_of s (suc n) = conf_at (s.halted && (suc n == s.serial)) s.drafts (slice_get s.published n)

-- ---- tickets

-- the caller has an open ticket
abbrev pub has_ticket : ℕ → List OpenTicket → Bool
has_ticket caller [] = false
has_ticket caller (t ∷ ts) = (t.caller == caller) || has_ticket caller ts

-- a ticket is open at the serial
abbrev pub is_ticketed : ℕ → List OpenTicket → Bool
is_ticketed serial [] = false
is_ticketed serial (t ∷ ts) = (t.serial == serial) || is_ticketed serial ts

-- the tickets of all other callers
abbrev pub without_ticket : ℕ → List OpenTicket → List OpenTicket
without_ticket caller [] = []
without_ticket caller (t ∷ ts) = cond (t.caller == caller) (without_ticket caller ts) (t ∷ without_ticket caller ts)

-- the serial of the caller's open ticket
abbrev pub ticket_of : ℕ → List OpenTicket → Option ℕ
ticket_of caller [] = None
ticket_of caller (t ∷ ts) = cond (t.caller == caller) (Some t.serial) (ticket_of caller ts)

-- how many tickets the caller has
abbrev pub open_by : ℕ → List OpenTicket → ℕ
open_by caller [] = 0
open_by caller (t ∷ ts) = cond (t.caller == caller) (suc (open_by caller ts)) (open_by caller ts)

-- how many tickets are open at the serial
abbrev pub open_at : ℕ → List OpenTicket → ℕ
open_at serial [] = 0
open_at serial (t ∷ ts) = cond (t.serial == serial) (suc (open_at serial ts)) (open_at serial ts)
