-- What the program's start has made, as its calls tell it. What they made is known where nobody else has signed what they found.
use Rattle.std.specs.Prelude.{◌≡◌, ◌⊎◌, ℕ, Bool, true, false, cond, List, [], ◌∷◌, ◌++◌}
use Rattle.cd_tree.specs.declared.tree.Tree.{Tree}
use Rattle.cd_legal.specs.declared.plan.Plan.{Plan}
use Rattle.cd_legal.specs.declared.entry.Change.TheVariants as change
use Rattle.cd_legal.specs.declared.entry.Entry.{Entry}
use Rattle.cd_legal.specs.declared.entry.Entry.TheVariants.{Draft, Publish, Abandon, Begin, Finish, Retire}
use Rattle.cd_legal.specs.Legal.{state_at}
use Rattle.cd_legal.specs.Runs.{Failure, opened, opened_until, undone_after}
use Rattle.cd_gate.specs.declared.view.View.{View}
use Rattle.cd_gate.specs.Growing.{all_signed}
use Rattle.cd_hall.specs.Dues.{is_last_at}
use Rattle.cd_host.specs.declared.start_how.StartHow.{StartHow}
use Rattle.cd_host.specs.declared.start_how.StartHow.TheVariants as how
use Rattle.cd_host.specs.OwnPass.{HasSigned}
use Rattle.cd_host.specs.Parts.{IsAlone}
use Rattle.cd_host.specs.Program.{Start, start_entries}

-- how a start that has begun went
abbrev pub IsDrafted : StartHow → Start → Type 0
IsDrafted how.Published start = start ≡ Start.published
IsDrafted (how.FirstRefused key) start = (failure : Failure) × (start ≡ Start.refused failure key)
IsDrafted how.Unpublished start = start ≡ Start.undrafted

-- how a start went
abbrev pub IsHow : StartHow → Start → Type 0
IsHow how.Published start = start ≡ Start.published
IsHow (how.FirstRefused key) start = (failure : Failure) × (start ≡ Start.refused failure key)
IsHow how.Unpublished start = (start ≡ Start.undrafted) ⊎ (start ≡ Start.unbegun)

-- the entries of a start between its Begin and its Finish
abbrev pub first_entries : Tree → Plan → Start → List Entry
first_entries first plan Start.published = Draft 0 first plan ∷ (opened 0 plan ++ Publish 0 1 0 change.First ∷ [])
first_entries first plan (Start.refused failure key) = Draft 0 first plan ∷ (opened_until 0 plan failure key ++ Abandon 0 ∷ undone_after 0 plan failure)
first_entries first plan Start.undrafted = []
first_entries first plan Start.unbegun = []

module _ {T : Type 0} where
  -- a complete draft of this number was published from serial 0, or was given up
  pub record IsTried (number : ℕ) (published : Bool) (v w : View T) : Type 0 where
    pub made : List Entry
    pub signed : HasSigned v w made
    pub alone : v.number ≡ 0 → IsAlone w.seen → (state_at v.seen).serial ≡ 0 → (published ≡ true) × (made ≡ Publish number 1 0 change.First ∷ [])

  -- under its request, which began under this serial, the program has made and published its first configuration, or has not
  pub record HasDrafted (first : Tree) (plan : Plan) (how : StartHow) (serial : ℕ) (v w : View T) : Type 0 where
    pub made : List Entry
    pub signed : HasSigned v w made
    pub start : Start
    pub is : IsDrafted how start
    pub alone : v.number ≡ 0 → IsAlone w.seen → serial ≡ 0 → v.seen ≡ all_signed 0 (Begin 0 0 ∷ []) → made ≡ first_entries first plan start

  -- the request at serial 0 ended, and serial 0 was retired where that was due
  pub record HasFinished (serial : ℕ) (v w : View T) : Type 0 where
    pub made : List Entry
    pub signed : HasSigned v w made
    pub alone : v.number ≡ 0 → IsAlone w.seen → serial ≡ 0 → (state_at v.seen).halted ≡ false → made ≡ Finish 0 ∷ cond (is_last_at (state_at v.seen) 0) (Retire 0 ∷ []) []

  -- the program, whose pass had made nothing, has started
  pub record HasStarted (first : Tree) (plan : Plan) (how : StartHow) (v w : View T) : Type 0 where
    pub made : List Entry
    pub signed : HasSigned v w made
    pub start : Start
    pub is : IsHow how start
    pub alone : v.number ≡ 0 → IsAlone w.seen → v.seen ≡ [] → made ≡ start_entries first plan start
