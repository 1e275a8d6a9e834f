-- The entries of one draft, and what those of an abandoned one leave as it was.
use Rattle.std.specs.Prelude.{◌≡◌, ◌≢◌, ℕ, ◌==◌, Bool, true, false, ◌||◌, not, cond, List, [], ◌∷◌, slice_get}
use Rattle.cd_outside.specs.declared.holder.Holder.{Holder}
use Rattle.cd_outside.specs.declared.holder.Pair.{Pair}
use Rattle.cd_outside.specs.Keys.{keys_of}
use Rattle.cd_legal.specs.declared.entry.Entry.{Entry}
use Rattle.cd_legal.specs.declared.entry.Entry.TheVariants.{Draft, Made, Started, Publish, Abandon, Stopped, Begin, Finish, Retire, Cleaned, Halt}
use Rattle.cd_legal.specs.declared.state.State.{State}
use Rattle.cd_legal.specs.declared.state.Life.{Life}
use Rattle.cd_legal.specs.declared.state.Life.TheVariants.{Live, Published, Abandoned}
use Rattle.cd_legal.specs.State.{holds, conf_of}

-- the entry is one of the draft
abbrev pub is_entry_of : ℕ → Entry → Bool
is_entry_of d (Draft draft tree plan) = draft == d
is_entry_of d (Made draft i taken failed) = draft == d
is_entry_of d (Started draft a taken failed) = draft == d
is_entry_of d (Publish draft n from change) = draft == d
is_entry_of d (Abandon draft) = draft == d
is_entry_of d (Stopped draft a) = draft == d
is_entry_of d (Begin k n) = false
is_entry_of d (Finish k) = false
is_entry_of d (Retire n) = false
is_entry_of d (Cleaned draft i) = draft == d
is_entry_of d (Halt n) = false

-- the entry makes a draft
abbrev pub is_draft : Entry → Bool
is_draft (Draft d tree plan) = true
is_draft (Made d i taken failed) = false
is_draft (Started d a taken failed) = false
is_draft (Publish d n from change) = false
is_draft (Abandon d) = false
is_draft (Stopped d a) = false
is_draft (Begin k n) = false
is_draft (Finish k) = false
is_draft (Retire n) = false
is_draft (Cleaned d i) = false
is_draft (Halt n) = false

-- the history without the entries of the draft; the one that makes it stays, since drafts are numbered by their places
abbrev pub without_draft : ℕ → List Entry → List Entry
without_draft d [] = []
without_draft d (e ∷ es) = cond (not (is_entry_of d e) || is_draft e) (e ∷ without_draft d es) (without_draft d es)

-- given up
abbrev pub is_abandoned : Life → Bool
is_abandoned Live = false
is_abandoned (Published n) = false
is_abandoned Abandoned = true

-- the draft is there, and given up
abbrev pub is_abandoned_in : State → ℕ → Bool
is_abandoned_in s d = holds (λ x. is_abandoned x.life) (slice_get s.drafts d)

-- the pairs whose holders are of other drafts, in their order
abbrev pub pairs_of_others : ℕ → List Pair → List Pair
pairs_of_others d [] = []
pairs_of_others d (p ∷ ps) = cond (p.holder.draft == d) (pairs_of_others d ps) (p ∷ pairs_of_others d ps)

-- all that is not of the draft is the same in both states: the serial and whether the host has halted, what was published and
-- retired, each serial's configuration, the tickets, the other drafts, and the pairs of their holders
pub record Leaves (d : ℕ) (s t : State) : Type 0 where
  pub serial : t.serial ≡ s.serial
  pub halted : t.halted ≡ s.halted
  pub published : t.published ≡ s.published
  pub retired : t.retired ≡ s.retired
  pub trees : (n : ℕ) → conf_of t n ≡ conf_of s n
  pub tickets : t.tickets ≡ s.tickets
  pub drafts : (j : ℕ) → j ≢ d → slice_get t.drafts j ≡ slice_get s.drafts j
  pub keys : (h : Holder) → h.draft ≢ d → keys_of h t.pairs ≡ keys_of h s.pairs
  pub pairs : pairs_of_others d t.pairs ≡ pairs_of_others d s.pairs
