-- What follows a Finish, by the duty that came with it.
use Rattle.std.proofs.Common.{◌≡◌, ◌<◌, inl, inr, ℕ, ◌==◌, Bool, true, false, nat_lt, if◌then◌else◌, List, [], ◌∷◌, Option, Some, refl, sym, subst}
use Rattle.cd_legal.specs.declared.state.State.{State}
use Rattle.cd_legal.specs.State.{ticket_of, open_at}
use Rattle.cd_legal.specs.Placed.{Placed, placed_entries}
use Rattle.cd_legal.specs.Runs.{block_of}
use Rattle.cd_legal.proofs.Histories.{first}
use Rattle.cd_legal.proofs.Facts.{is-less}
use Rattle.cd_hall.specs.Dues.{is_last_at, is_before_halt, DueBy, DueThen}
use Rattle.cd_serve.specs.Retirements.{Retirement, due, due_at, IsRetirement}

by_duties : (s : State) (n : ℕ) (block : List Placed) (last halt : Bool) (duties : List ℕ) → DueBy last halt n duties → (duties ≡ [] → block ≡ []) → (duties ≡ n ∷ [] → placed_entries block ≡ block_of s n)
    → IsRetirement s (if last then (if halt then Retirement.here_or_elsewhere n else Retirement.here n) else Retirement.none) block
by_duties s n block false halt duties d none one = none d
by_duties s n block true false duties d none one = one d
by_duties s n block true true duties (inl d) none one = inl (none d)
by_duties s n block true true duties (inr d) none one = inr (one d)

-- the block follows where its duty came
pub due-then : (s : State) (k n : ℕ) (block : List Placed) (duties : List ℕ) → ticket_of k s.tickets ≡ Some n → DueThen s n duties → (duties ≡ [] → block ≡ []) → (duties ≡ n ∷ [] → placed_entries block ≡ block_of s n) → IsRetirement s (due s k) block
due-then s k n block duties has due none one =
    subst (λ (o : Option ℕ). IsRetirement s (due_at s o) block) (sym has) (by_duties s n block (is_last_at s n) (is_before_halt s n) duties due none one)

-- a duty comes of a superseded serial alone
last-of : (last halt : Bool) (n duty : ℕ) → DueBy last halt n (duty ∷ []) → last ≡ true
last-of true halt n duty due = refl
last-of false halt n duty due = absurd (let h : duty ∷ [] ≡ [] = due in cc)

pub due-less : (s : State) (n duty : ℕ) → DueThen s n (duty ∷ []) → n < s.serial
due-less s n duty due = is-less n s.serial (first (nat_lt n s.serial) (open_at n s.tickets == 1) (last-of (is_last_at s n) (is_before_halt s n) n duty due))
