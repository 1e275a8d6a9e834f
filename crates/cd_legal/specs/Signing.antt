-- Part of the main theorem.
-- Who may sign an entry, and the histories that passes make.
use Rattle.std.specs.Prelude.{ℕ, ◌==◌, Bool, true, ◌&&◌, List, [], ◌∷◌, ◌++◌, slice_get, is_none, IsTrue}
use Rattle.cd_legal.specs.declared.entry.Entry.{Entry}
use Rattle.cd_legal.specs.declared.entry.Entry.TheVariants.{Draft, Made, Started, Publish, Abandon, Begin, Finish}
use Rattle.cd_legal.specs.declared.entry.Signed.{Signed}
use Rattle.cd_legal.specs.declared.state.State.{State}
use Rattle.cd_legal.specs.State.{holds, is_live}
use Rattle.cd_legal.specs.Legal.{IsLegal}
use Rattle.cd_legal.specs.Owing.{Owes, owes_of}

-- the draft is the one that is owed
abbrev pub owes_draft : ℕ → Owes → Bool
owes_draft d o = holds (λ own. own == d) o.draft

-- the draft is there, and live
abbrev pub is_live_in : State → ℕ → Bool
is_live_in s d = holds (λ x. is_live x.life) (slice_get s.drafts d)

-- pass k, which owes this, may sign the entry: its own request it begins and ends itself, it makes a draft while it has none,
-- and what is done to a draft, until it is published or abandoned, is done by the pass that made it
abbrev pub may_sign : ℕ → Owes → Entry → Bool
may_sign k o (Draft d tree plan) = is_none o.draft
may_sign k o (Made d i taken failed) = owes_draft d o
may_sign k o (Started d a taken failed) = owes_draft d o
may_sign k o (Publish d n from change) = owes_draft d o
may_sign k o (Abandon d) = owes_draft d o
may_sign k o (Begin caller n) = caller == k
may_sign k o (Finish caller) = caller == k
may_sign k o other = true

-- each of the entries that follow `before` is signed by a pass that may sign it there
abbrev pub are_signed_from : List Signed → List Signed → Bool
are_signed_from before [] = true
are_signed_from before (x ∷ xs) = may_sign x.by (owes_of x.by before) x.entry && are_signed_from (before ++ x ∷ []) xs

-- each entry is signed by a pass that may sign it where it stands
abbrev pub are_signed : List Signed → Bool
are_signed log = are_signed_from [] log

-- what passes make together: a legal list whose entries are so signed
pub record IsHistory (log : List Signed) : Type 0 where
  pub is_legal : IsLegal log
  pub is_signed : IsTrue (are_signed log)
