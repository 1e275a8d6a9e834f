-- How `adapt` ends.
use Rattle.std.proofs.Common.{◌≡◌, ◌∙◌, ◌<◌, inl, inr, ℕ, List, length, Option, Some, Result, Ok, Err, refl, sym, subst}
use Rattle.cd_tree.specs.declared.limits.TheConstants.{MAX_TEXT_BYTES}
use Rattle.cd_tree.specs.declared.tree.Tree.{Tree}
use Rattle.cd_caddyfile.specs.Adapting.{adapted}
use Rattle.cd_caddyfile.specs.Faults.{fault_at}
use Rattle.cd_caddyfile.specs.declared.fault.CaddyfileFault.{CaddyfileFault}
use Rattle.cd_caddyfile.specs.declared.fault.CaddyfileKind.TheVariants.{TooLong}
use Rattle.cd_outside.specs.Devices.{Device, IsUnfailed}
use Rattle.cd_program.specs.declared.status.Status.{Status}
use Rattle.cd_program.specs.declared.status.Status.TheVariants as status
use Rattle.cd_program.specs.Adapting.{Adapts, ComesTo}
use Rattle.cd_program.specs.Complete.{IsStatusOf}
use Rattle.cd_program.specs.Config.{Gave}
use Rattle.cd_program.specs.Endings.{IsAdapted}
use Rattle.cd_program.specs.Top.{ExitsWith, code_of}
use Rattle.cd_program.proofs.Loading.{all_so, is_lt}

-- ---- the bytes

-- more bytes than a configuration may have are refused
too_long : (bytes : List ℕ) → MAX_TEXT_BYTES < length bytes → adapted bytes ≡ Err (fault_at 0 TooLong)
unfolding adapted
too_long bytes long = rw (is_lt MAX_TEXT_BYTES (length bytes) long) refl

pub all_adapted : (bytes : List ℕ) (left : Option (List ℕ)) (found : Result Tree CaddyfileFault) → ComesTo (Some bytes) left found → adapted bytes ≡ found
all_adapted bytes left found comes = all_so adapted (Err (fault_at 0 TooLong)) too_long comes.bytes bytes left comes.gave ∙ comes.is

-- ---- the table

module _ (source output : Device (List ℕ)) where
  -- all bytes were read
  pub has_read : (bytes : List ℕ) → Gave bytes source.told_before source.told_now → (st : Status) → IsAdapted (adapted bytes) output st → Adapts source output st
  has_read bytes gave status.Done so = record { tree = so.0; comes = record { bytes = bytes; gave = gave; is = so.1 }; wrote = so.2 }
  has_read bytes gave status.Refused so = record { fault = so.0; comes = record { bytes = bytes; gave = gave; is = so.1 }; says = so.2 }
  has_read bytes gave status.Unopened so = so
  has_read bytes gave status.Usage so = so
  has_read bytes gave status.ReadFault so = absurd so
  has_read bytes gave status.WriteFault so = (record { tree = so.0; comes = record { bytes = bytes; gave = gave; is = so.1 }; wrote = so.3 }, so.2)
  has_read bytes gave status.NoMemory so = so

  -- ---- completeness

  module _ (read : IsUnfailed source) (bytes : List ℕ) (told : source.told_before ≡ Some bytes) where
    comes_so : (found : Result Tree CaddyfileFault) → ComesTo source.told_before source.told_now found → found ≡ adapted bytes
    comes_so found comes = sym (all_adapted bytes source.told_now found (subst (λ (old : Option (List ℕ)). ComesTo old source.told_now found) told comes))

    lacking : (found : Result Tree CaddyfileFault) → IsStatusOf found output 5
    lacking (Ok tree) = λ wrote. inr refl
    lacking (Err fault) = inr refl

    by_status : (st : Status) → Adapts source output st → IsStatusOf (adapted bytes) output (code_of st)
    by_status status.Done so = subst (λ (found : Result Tree CaddyfileFault). IsStatusOf found output 0) (comes_so (Ok so.tree) so.comes) (λ wrote. inl refl)
    by_status status.Refused so = subst (λ (found : Result Tree CaddyfileFault). IsStatusOf found output 1) (comes_so (Err so.fault) so.comes) (inl refl)
    by_status status.Unopened so = absurd so
    by_status status.Usage so = absurd so
    by_status status.ReadFault so = absurd (read so.0)
    by_status status.WriteFault so = subst (λ (found : Result Tree CaddyfileFault). IsStatusOf found output 4) (comes_so (Ok so.0.tree) so.0.comes) (λ wrote. absurd (wrote so.1))
    by_status status.NoMemory so = lacking (adapted bytes)

    pub adapts_all : (code : ℕ) → ExitsWith code (Adapts source output) → IsStatusOf (adapted bytes) output code
    adapts_all code e = subst (λ (n : ℕ). IsStatusOf (adapted bytes) output n) (sym e.is) (by_status e.status e.so)
