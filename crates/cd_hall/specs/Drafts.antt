-- A draft as its holder knows it.
use Rattle.std.specs.Prelude.{◌≡◌, ℕ, suc, ◌+◌, Bool, false, cond, List, [], ◌∷◌, ◌++◌, length, slice_get, Option, Some, None, is_some, Result, Ok, Err}
use Rattle.cd_outside.specs.declared.key.Key.{Key}
use Rattle.std.specs.Arc.{arc_value}
use Rattle.cd_outside.specs.Counts.{Rose}
use Rattle.cd_outside.specs.Keys.{key_eq}
use Rattle.cd_tree.specs.declared.tree.Tree.{Tree}
use Rattle.cd_legal.specs.declared.plan.Plan.{Plan}
use Rattle.cd_legal.specs.declared.part.Part.TheVariants.{Instance, App}
use Rattle.cd_legal.specs.declared.entry.Entry.{Entry}
use Rattle.cd_legal.specs.declared.entry.Entry.TheVariants.{Draft, Made, Started}
use Rattle.cd_legal.specs.declared.entry.Signed.{Signed}
use Rattle.cd_legal.specs.declared.state.State.{State}
use Rattle.cd_legal.specs.declared.state.Drafted.{Drafted}
use Rattle.cd_legal.specs.declared.state.Life.TheVariants.{Live}
use Rattle.cd_legal.specs.Laws.{core_at}
use Rattle.cd_legal.specs.State.{keys_at, part_keys}
use Rattle.cd_legal.specs.Legal.{state_at}
use Rattle.cd_gate.specs.declared.view.View.{View}
use Rattle.cd_life.specs.declared.board.Draft.{Draft as HeldDraft}
use Rattle.cd_hall.specs.declared.faults.KeyFailed.{KeyFailed}

-- its number, its tree and plan, how many instances are made and apps are started, and whether a key could not be opened
pub record Held : Type 0 where
  pub number : ℕ
  pub tree : Tree
  pub plan : Plan
  pub made : ℕ
  pub started : ℕ
  pub failed : Bool

-- of a new draft nothing is made
abbrev pub new_held : ℕ → Tree → Plan → Held
new_held number tree plan = record { number = number; tree = tree; plan = plan; made = 0; started = 0; failed = false }

-- one instance more is made, or one app more is started
abbrev pub one_made : Held → Bool → Held
one_made h failed = record h { made = h.made + 1; failed = failed }

abbrev pub one_started : Held → Bool → Held
one_started h failed = record h { started = h.started + 1; failed = failed }

-- it is live in the state, and has come so far
pub record IsLiveAs (s : State) (h : Held) : Type 0 where
  pub drafted : Drafted
  pub there : slice_get s.drafts h.number ≡ Some drafted
  pub live : drafted.life ≡ Live
  pub tree : drafted.tree ≡ h.tree
  pub plan : drafted.plan ≡ h.plan
  pub made : drafted.made ≡ h.made
  pub started : drafted.started ≡ h.started
  pub failed : is_some drafted.failed ≡ h.failed

-- how far a draft has come
abbrev pub held : {A B : Type 0} {g : _} → HeldDraft A B g → Held
held d = record { number = d.left.number; tree = (arc_value d.loaded).tree; plan = (arc_value d.loaded).plan; made = d.left.made; started = d.left.started; failed = d.left.failed }

-- it is the draft of the pass, has come as far as the pass has seen, and counts what its plan says
pub record IsDraftOf {T A B : Type 0} {g : _} (v : View T) (d : HeldDraft A B g) : Type 0 where
  pub own : v.draft ≡ Some d.left.number
  pub live : IsLiveAs (state_at v.seen) (held d)
  pub modules : d.left.modules ≡ length (held d).plan.modules
  pub apps : d.left.apps ≡ length (held d).plan.apps

-- all of it is there
pub record IsWholeDraft (h : Held) : Type 0 where
  pub made : h.made ≡ length h.plan.modules
  pub started : h.started ≡ length h.plan.apps
  pub unfailed : h.failed ≡ false

-- the place of the key among these
abbrev pub place_of : Key → List Key → ℕ
place_of key [] = 0
place_of key (k ∷ ks) = cond (key_eq key k) 0 (suc (place_of key ks))

-- how many of these keys were taken: all, or those before the one that could not be opened
abbrev pub taken_of : List Key → Option Key → ℕ
taken_of keys None = length keys
taken_of keys (Some key) = place_of key keys

-- the key that could not be opened, where one could not
abbrev pub key_in : {A : Type 0} → Result A KeyFailed → Option Key
key_in (Ok a) = None
key_in (Err failed) = Some failed.key

-- the entries of a draft that is made, of its next instance, and of its next app
abbrev pub draft_entry : Held → Entry
draft_entry h = Draft h.number h.tree h.plan

abbrev pub made_entry : Held → Option Key → Entry
made_entry h failed = Made h.number h.made (taken_of (keys_at (part_keys Instance h.plan) h.made) failed) failed

abbrev pub started_entry : Held → Option Key → Entry
started_entry h failed = Started h.number h.started (taken_of (keys_at (part_keys App h.plan) h.started) failed) failed

-- the last entry was made between a board that stood for the history before it and one that stands for it, both without Begin and
-- Finish, and from the one to the other the faults of the fixtures rose
pub record FaultRose {T : Type 0} (stands : T → T → List Signed → Type 0) (faults : T → ℕ) (opening : T) (seen : List Signed) (last : Signed) : Type 0 where
  pub found : List Signed
  pub before : T
  pub now : T
  pub made : seen ≡ found ++ last ∷ []
  pub was : stands opening before (core_at found)
  pub is : stands opening now (core_at seen)
  pub rose : Rose (faults before) (faults now)
