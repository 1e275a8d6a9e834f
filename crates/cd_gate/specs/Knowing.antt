-- What a pass in its turn knows, and which of its entries leave nothing to be stopped or cleaned.
use Rattle.std.specs.Prelude.{◌≡◌, ℕ, Bool, true, false}
use Rattle.cd_legal.specs.declared.entry.Entry.{Entry}
use Rattle.cd_legal.specs.declared.entry.Entry.TheVariants.{Draft, Made, Started}
use Rattle.cd_legal.specs.Entry.{mine}
use Rattle.cd_legal.specs.State.{has_number}
use Rattle.cd_legal.specs.Legal.{state_at, may_retire}
use Rattle.cd_legal.specs.Owing.{owes_of}
use Rattle.cd_legal.specs.Signing.{IsHistory}
use Rattle.cd_gate.specs.declared.view.View.{View}
use Rattle.cd_gate.specs.Words.{owed}

-- the pass has seen a history, and all of its entries in it; it owes what its view says, and its duties may be done
pub record Knows {T : Type 0} (v : View T) : Type 0 where
  pub history : IsHistory v.seen
  pub own : mine v.number v.seen ≡ v.mine
  pub owes : owes_of v.number v.seen ≡ owed v
  pub duties : (n : ℕ) → has_number n v.duties ≡ true → may_retire (state_at v.seen) n ≡ true

-- it makes or starts something
abbrev pub is_calm : Entry → Bool
is_calm (Draft d tree plan) = true
is_calm (Made d i taken failed) = true
is_calm (Started d a taken failed) = true
is_calm e = false
