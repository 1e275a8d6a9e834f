-- What a table by status says of the exit status.
use Rattle.std.proofs.Common.{◌≡◌, ◌≤◌, ◌↔◌, ◌∙◌, ℕ, refl, sym, subst, arith}
use Rattle.cd_program.specs.declared.command.Command.{Command}
use Rattle.cd_program.specs.declared.command.Command.TheVariants.{Unknown}
use Rattle.cd_program.specs.declared.status.Status.{Status}
use Rattle.cd_program.specs.declared.status.Status.TheVariants as status
use Rattle.cd_program.specs.Top.{code_of, ExitsWith}

at_most : (st : Status) → code_of st ≤ 5
at_most status.Done = omega arith
at_most status.Refused = omega arith
at_most status.Unopened = omega arith
at_most status.Usage = omega arith
at_most status.ReadFault = omega arith
at_most status.WriteFault = omega arith
at_most status.NoMemory = omega arith

is_2 : (st : Status) → code_of st ≡ 2 → st ≡ status.Usage
is_2 status.Done e = absurd (omega (arith, e))
is_2 status.Refused e = absurd (omega (arith, e))
is_2 status.Unopened e = absurd (omega (arith, e))
is_2 status.Usage e = refl
is_2 status.ReadFault e = absurd (omega (arith, e))
is_2 status.WriteFault e = absurd (omega (arith, e))
is_2 status.NoMemory e = absurd (omega (arith, e))

module _ (code : ℕ) (IsSo : Status → Type 0) (e : ExitsWith code IsSo) where
  pub known : code ≤ 5
  known = omega (arith, at_most e.status, e.is)

  -- where the table has no row for it, the status is not 2
  pub not_usage : (IsSo status.Usage → ⊥) → code ≡ 2 → ⊥
  not_usage none two = none (subst IsSo (is_2 e.status (sym e.is ∙ two)) e.so)

-- so it is not where the words ask for something that is known
pub never_2 : (code : ℕ) (IsSo : Status → Type 0) → ExitsWith code IsSo → (IsSo status.Usage → ⊥) → (command : Command) → (command ≡ Unknown → ⊥) → (code ≡ 2) ↔ (command ≡ Unknown)
never_2 code IsSo e none command known = (λ two. absurd (not_usage code IsSo e none two), λ is. absurd (known is))
