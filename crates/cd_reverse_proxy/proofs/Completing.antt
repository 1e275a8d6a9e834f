-- What a call comes to where nothing failed.
use Rattle.std.proofs.Common.{◌≡◌, ◌⊎◌, inl, inr, ℕ, Ok, subst, arith}
use Rattle.cd_outside.specs.Counts.{Covers}
use Rattle.cd_reverse_proxy.specs.declared.settings.ProxySettings.{ProxySettings}
use Rattle.cd_reverse_proxy.specs.declared.status.Status.{Status}
use Rattle.cd_reverse_proxy.specs.declared.status.Status.TheVariants as status
use Rattle.cd_reverse_proxy.specs.Seen.{Seen}
use Rattle.cd_reverse_proxy.specs.Top.{CompletesAs, EndsAs, HasCompleted, NothingFailed, Proxies, code_of}
use Rattle.cd_reverse_proxy.specs.Workers.{AllOfThose, interruptions}
use Rattle.cd_reverse_proxy.proofs.Together.{none-interrupted}

module _ {F L P : Type 0} (s : Seen F L P) (code : ℕ) (p : ProxySettings) where
  completed : (st : Status) → code ≡ code_of st → Proxies p s st → NothingFailed p s → ((code ≡ 0) ⊎ (code ≡ 5)) × (code ≡ 0 → s.cut ≡ 0 → HasCompleted p s)
  completed status.Done same so none = (
    inl same,
    λ zero uncut. record {
      served = so.0;
      uninterrupted = none-interrupted s.workers so.0.told.reports
          (subst (λ (c : ℕ). AllOfThose (λ w t. Covers (interruptions t) w.lane.failed_before w.lane.failed_now c) s.workers so.0.told.reports) uncut so.0.told.covered) none.lanes;
    },
  )
  completed status.Unopened same so none = absurd (none.calls so.cause)
  completed status.Usage same so none = absurd so
  completed status.WriteFault same so none = absurd (none.output so.0)
  completed status.NoMemory same so none = (inr same, λ zero. absurd (omega (arith, same, zero)))

  pub completes : EndsAs s code (Ok p) → CompletesAs s code (Ok p)
  completes e = completed e.status e.is e.so
