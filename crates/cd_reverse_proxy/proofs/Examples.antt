-- Each definition where it holds, and near misses.
use Rattle.std.proofs.Common.{◌≡◌, ℕ, true, false, List, [], ◌∷◌, Some, None, Ok, Err, refl, arith}
use Rattle.std.specs.Prelude.{codes}
use Rattle.cd_outside.specs.declared.address.Address.{Address}
use Rattle.cd_outside.specs.declared.fixtures.FixtureCall.TheVariants as call
use Rattle.cd_outside.specs.declared.key.Key.TheVariants as key
use Rattle.cd_outside.specs.declared.past.Past.{Past}
use Rattle.cd_outside.specs.FixtureCall.{CallsGrow}
use Rattle.cd_peers.specs.declared.policy.Policy.TheVariants as policy
use Rattle.cd_reverse_proxy.specs.declared.settings.ProxySettings.{ProxySettings}
use Rattle.cd_reverse_proxy.specs.declared.settings.WordsFault.TheVariants as words
use Rattle.cd_reverse_proxy.specs.declared.status.Status.TheVariants as status
use Rattle.cd_reverse_proxy.specs.Seen.{Seen}
use Rattle.cd_reverse_proxy.specs.Settings.{are_distinct, only_one, policy_of, settings, to_each, upstreams}
use Rattle.cd_reverse_proxy.specs.Top.{Declines, ExitsWith, Proxies, code_of, run_calls}
use Rattle.cd_reverse_proxy.specs.Workers.{AllCovered, AreReports, NoneInterrupted, Report, Worker, WorkersTold}

-- ---- words

first : policy_of (codes "first") ≡ Ok policy.First
first = refl

-- words are told apart by their letters
another_first : policy_of (codes "First") ≡ Err words.Unknown
another_first = refl

no_pair : upstreams [] ≡ Err words.Unknown
no_pair = refl

half_a_pair : to_each (codes "--to" ∷ []) ≡ Err words.Unknown
half_a_pair = refl

another_option : (text : List ℕ) → to_each (codes "--from" ∷ text ∷ []) ≡ Err words.Unknown
another_option text = refl

abbrev at : ℕ → Address
at port = record { host = codes "a"; port = port }

two_upstreams : are_distinct (at 1 ∷ at 2 ∷ []) ≡ true
two_upstreams = refl

one_twice : are_distinct (at 1 ∷ at 2 ∷ at 1 ∷ []) ≡ false
one_twice = refl

-- a range of ports writes more than one address
a_range : only_one (Ok (at 1 ∷ at 2 ∷ [])) ≡ Err words.Unknown
a_range = refl

command_alone : settings (codes "reverse-proxy" ∷ []) ≡ Err words.Unknown
command_alone = refl

-- ---- calls of the fixtures

opened_and_closed : CallsGrow (Some []) (run_calls (at 1)) (Some (call.Opened (key.Listen (at 1)) ∷ call.Closed (key.Listen (at 1)) ∷ call.Shut ∷ []))
opened_and_closed = refl

-- it stays open
left_open : CallsGrow (Some []) (run_calls (at 1)) (Some (call.Opened (key.Listen (at 1)) ∷ call.Shut ∷ [])) → ⊥
left_open grows = absurd cc

-- ---- workers

abbrev untouched : Past
untouched = record { connections = []; accept_faults = 0; last = None }

-- of which nothing is told
abbrev silent : Worker
silent = record {
  lane = record { told_before = None; told_now = None; failed_before = 0; failed_now = 0 };
  peers = record { told_before = None; told_now = None; failed_before = 0; failed_now = 0 };
}

of_silent : (upstreams : List Address) → AreReports upstreams (silent ∷ []) (None ∷ [])
of_silent upstreams = ((refl, refl), tt)

-- a lane that tells has a report
of_telling : (upstreams : List Address) → AreReports upstreams (record silent { lane = record { told_before = Some untouched; told_now = Some untouched; failed_before = 0; failed_now = 0 } } ∷ []) (None ∷ []) → ⊥
of_telling upstreams all = let h : Some untouched ≡ None = all.0.0 in cc

abbrev failed_once : Report
failed_once = record { connections = []; endings = []; failed = 1 }

-- an accept failed, and no fault rose
of_no_fault : AllCovered (silent ∷ []) (Some failed_once ∷ []) 0 → ⊥
of_no_fault covered = let h = covered (omega arith, tt) (omega arith) in omega (arith, h)

not_whole : NoneInterrupted (silent ∷ []) (Some failed_once ∷ []) → ⊥
not_whole none = omega (arith, none.0.1)

-- a request was counted that nobody tells of
of_count : (upstreams : List Address) → (told : WorkersTold upstreams [] 1 0) → told.reports ≡ [] → ⊥
of_count upstreams told none = let answered = told.answers (rw none tt) in omega (arith, answered)

-- ---- tables by status

module _ {F L P : Type 0} (s : Seen F L P) where
  -- other words end with 2, and 0 is no status of theirs
  not_done : ExitsWith 0 (Declines s) → ⊥
  not_done e = here e.status e.is e.so
    where
      here : (st : _) → 0 ≡ code_of st → Declines s st → ⊥
      here status.Done is so = so
      here status.Unopened is so = so
      here status.Usage is so = omega (arith, is)
      here status.WriteFault is so = so
      here status.NoMemory is so = omega (arith, is)

  -- words of the command never end with 2
  not_usage : (p : ProxySettings) → Proxies p s status.Usage → ⊥
  not_usage p so = so
