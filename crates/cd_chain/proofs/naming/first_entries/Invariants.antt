use Rattle.std.proofs.Common.{◌≡◌, ℕ, length, get_or}
use Rattle.cd_chain.proofs.naming.first_entries.Given as goal

abbrev pub invariant-loop-step : goal.invariant-loop-step
invariant-loop-step l = (length l.entries.items ≡ l._step) × ((n : ℕ) → get_or l.entries.items n 1 ≡ 1)
