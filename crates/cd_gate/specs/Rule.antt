-- The rule: how the words, the board and the views agree with one history.
use Rattle.std.specs.Prelude.{◌≡◌, ◌≢◌, ◌⊎◌, ℕ, ◌+◌, ◌%◌, ◌^◌, ◌<◌, ◌≤◌, ◌==◌, ◌||◌, not, Bool, true, false, List, [], Option, Some, None, option_map}
use Rattle.std.specs.List.{list_all}
use mathlib.Core.Option.{some}
use mathlib.Core.List.{IsPrefix}
use lib.ListN.{get_elem?}
use Rattle.cd_legal.specs.declared.entry.Signed.{Signed}
use Rattle.cd_legal.specs.declared.limits.TheConstants.{MAX_PASSES}
use Rattle.cd_legal.specs.declared.state.State.{State}
use Rattle.cd_legal.specs.Abandoned.{is_entry_of}
use Rattle.cd_legal.specs.Entry.{entries, mine}
use Rattle.cd_legal.specs.State.{has_number, is_ticketed}
use Rattle.cd_legal.specs.Laws.{core_at}
use Rattle.cd_legal.specs.Legal.{state_at}
use Rattle.cd_legal.specs.Owing.{owes_of, owes_nothing}
use Rattle.cd_legal.specs.Signing.{IsHistory}
use Rattle.cd_legal.specs.Whole.{nothing_left}
use Rattle.cd_gate.specs.declared.view.View.{View}
use Rattle.cd_gate.specs.declared.view.Gone.{Gone}
use Rattle.cd_gate.specs.declared.view.Unsettled.{Unsettled}
use Rattle.cd_gate.specs.Counts.{Counts, Ordered, Crowd, is_ready, noted_in, begins_in}
use Rattle.cd_gate.specs.Duties.{is_settled, is_due}
use Rattle.cd_gate.specs.Words.{Slot, Moment, owed}

-- the serial that a view has superseded and not settled
abbrev pub unsettled_in : {T : Type 0} → View T → Option ℕ
unsettled_in v = option_map (λ (u : Unsettled). u.serial) v.unsettled

-- what is said of one view, beside the word of the turn, the history, the serial that is not settled, and the last one whose
-- balance was made ready
pub record Fits {T : Type 0} (opening : T) (turn : ℕ) (log : List Signed) (unsettled : Option ℕ) (edge : ℕ) (v : View T) : Type 0 where
  -- it knows the value that the gate began with
  pub opened : v.live ≡ true → v.opening ≡ Some opening
  -- what it has seen begins the history
  pub seen : IsPrefix v.seen log
  -- each of its older lists begins what it has seen
  pub older : (i : ℕ) (l : List Signed) → get_elem? v.older i ≡ some l → IsPrefix l v.seen
  -- it knows the entries of its number
  pub own : v.live ≡ true → mine v.number log ≡ v.mine
  -- and has seen them all
  pub own_seen : v.live ≡ true → mine v.number v.seen ≡ v.mine
  -- its ticket and its draft are those that its number owes
  pub owes : v.live ≡ true → owes_of v.number log ≡ owed v
  -- where it has the turn it is live, the word names it, it has seen the whole history but for what begins and ends requests, and
  -- it knows which serial is not settled, and whether the balance of the coming one is ready
  pub holds : v.turn ≡ true → (v.live ≡ true) × (turn ≡ v.number + 1) × (core_at v.seen ≡ core_at log) × (unsettled_in v ≡ unsettled) × (v.ready ≡ is_ready (state_at log) edge)
  -- where it has not, it has left no serial unsettled, and made no balance ready
  pub waits : v.turn ≡ false → (v.unsettled ≡ None) × (v.ready ≡ false)
  -- it knows how many requests began under the serial that it has not settled
  pub begun : (u : Unsettled) → v.unsettled ≡ Some u → u.begins ≡ begins_in log u.serial
  -- where a Publish has superseded that serial, its own request runs under it
  pub lends : (u : Unsettled) → v.unsettled ≡ Some u → (state_at log).halted ≡ false → v.ticket ≡ Some u.serial
  -- a live pass alone has found room for a request more
  pub checks : v.checked ≡ true → v.live ≡ true

-- what is said of a pass that was joined
pub record HasLeft {T : Type 0} (log : List Signed) (views : List (View T)) (g : Gone) : Type 0 where
  -- no live view has its number
  pub absent : (seat : ℕ) (v : View T) → get_elem? views seat ≡ some v → v.live ≡ true → v.number ≢ g.number
  -- what it had seen begins the history
  pub seen : IsPrefix g.seen log
  -- its entries are those that are kept of it
  pub own : mine g.number log ≡ g.mine
  -- it owes nothing
  pub owes : owes_of g.number log ≡ owes_nothing

-- what is said of the numbers
pub record Numbered {T : Type 0} (log : List Signed) (views : List (View T)) : Type 0 where
  -- the first seat has number 0 for good, and its view says how many numbers were made
  pub root : View T
  pub root_at : get_elem? views 0 ≡ some root
  pub root_is : (root.live ≡ true) × (root.number ≡ 0)
  -- they are not too many
  pub few : root.made ≤ MAX_PASSES
  -- two live views have two numbers
  pub apart : (i j : ℕ) (v w : View T) → get_elem? views i ≡ some v → get_elem? views j ≡ some w → v.live ≡ true → w.live ≡ true → v.number ≡ w.number → i ≡ j
  -- the number of each live view was made
  pub below : (seat : ℕ) (v : View T) → get_elem? views seat ≡ some v → v.live ≡ true → v.number < root.made
  -- so was that of each joined pass, which has left
  pub gone : (i : ℕ) (g : Gone) → get_elem? root.joined i ≡ some g → HasLeft log views g × (g.number < root.made)
  -- each number that was made is that of a live view or of a joined pass
  pub known : (k : ℕ) → k < root.made
      → ((seat : ℕ) × (v : View T) × (get_elem? views seat ≡ some v) × (v.live ≡ true) × (v.number ≡ k)) ⊎ ((i : ℕ) × (g : Gone) × (get_elem? root.joined i ≡ some g) × (g.number ≡ k))
  -- a number that was not made has no entry
  pub unmade : (k : ℕ) → root.made ≤ k → mine k log ≡ []

-- the serials that are due are the duties of the live views, each of one
pub record Dutiful {T : Type 0} (due : ℕ → Bool) (views : List (View T)) : Type 0 where
  -- each duty is due
  pub sound : (seat : ℕ) (v : View T) (n : ℕ) → get_elem? views seat ≡ some v → v.live ≡ true → has_number n v.duties ≡ true → due n ≡ true
  -- it is the duty of one view alone
  pub one : (i j : ℕ) (v w : View T) (n : ℕ) → get_elem? views i ≡ some v → get_elem? views j ≡ some w → v.live ≡ true → w.live ≡ true → has_number n v.duties ≡ true → has_number n w.duties ≡ true → i ≡ j
  -- each serial that is due is a duty
  pub whole : (n : ℕ) → due n ≡ true → (seat : ℕ) × (v : View T) × (get_elem? views seat ≡ some v) × (v.live ≡ true) × (has_number n v.duties ≡ true)

-- the rule, where a board stands for a history without Begin and Finish by `stands`, which is told the value that the gate began with
pub record IsKept {T : Type 0} (stands : T → T → List Signed → Type 0) (opening : T) (log : List Signed) (m : Moment T) : Type 0 where
  -- the superseded serial that is not settled, and the last serial whose balance was made ready
  pub unsettled : Option ℕ
  pub edge : ℕ
  -- the entries are legal, and signed by those who may sign them
  pub history : IsHistory log
  -- the word of the history counts the noted ones
  pub counted : m.counted ≡ noted_in (entries log) % 2 ^ 64
  -- the serials follow one another
  pub order : Ordered (state_at log) unsettled edge
  -- the word of the serial and the balances count the requests
  pub counts : Counts m.packed m.balances (state_at log) unsettled edge (begins_in log)
  -- which are not too many
  pub crowd : Crowd (begins_in log (state_at log).serial) m.views
  -- each view fits the history, and the word of the turn
  pub each : (seat : ℕ) (v : View T) → get_elem? m.views seat ≡ some v → Fits opening m.turn log unsettled edge v
  -- the numbers of the views are those of its signatures
  pub numbers : Numbered log m.views
  -- the views have as duties what is due
  pub duties : Dutiful (is_due (state_at log) unsettled) m.views
  -- while the turn is free the board is at home and stands for the history without Begin and Finish, nothing is left to be
  -- stopped or cleaned, each superseded serial is settled, and the coming one is not ready
  pub free : m.turn ≡ 0 → ((b : T) × (m.board ≡ Slot.Home b) × stands opening b (core_at log)) × (nothing_left (state_at log) ≡ true) × (unsettled ≡ None) × (is_ready (state_at log) edge ≡ false)
  -- while it is not a view has it, and the slot of the board is held
  pub taken : 0 < m.turn → ((seat : ℕ) × (v : View T) × (get_elem? m.views seat ≡ some v) × (v.turn ≡ true)) × ((x : Option T) × (m.board ≡ Slot.Held x))

-- each entry of the draft is signed by the pass
abbrev pub signs_all : ℕ → ℕ → List Signed → Bool
signs_all k draft log = list_all (λ x. not (is_entry_of draft x.entry) || (x.by == k)) log

-- what has become of a superseded serial
pub data Fate {T : Type 0} (s : State) (unsettled : Option ℕ) (views : List (View T)) (n : ℕ) : Type 0 where
  -- the holder of the turn has still to settle it, and it is not retired
  Pending : unsettled ≡ Some n → has_number n s.retired ≡ false → Fate s unsettled views n
  -- it is settled, and requests run under it
  Running : is_settled s unsettled n ≡ true → has_number n s.retired ≡ false → is_ticketed n s.tickets ≡ true → Fate s unsettled views n
  -- it is due, which is the duty of a live view
  Due : is_due s unsettled n ≡ true → (seat : ℕ) × (v : View T) × (get_elem? views seat ≡ some v) × (v.live ≡ true) × (has_number n v.duties ≡ true) → Fate s unsettled views n
  -- it is settled and retired
  Retired : is_settled s unsettled n ≡ true → has_number n s.retired ≡ true → Fate s unsettled views n
