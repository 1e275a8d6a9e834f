-- How a run ends, from what its calls say.
use Rattle.std.proofs.Common.{◌≡◌, ◌≤◌, ◌∙◌, ◌++◌, inl, inr, ℕ, List, Option, Some, None, option_map, ⊎_elim, refl, ap, sym, subst, arith}
use Rattle.std.proofs.lemmas.List.{append_assoc}
use Rattle.cd_outside.specs.declared.address.Address.{Address}
use Rattle.cd_outside.specs.declared.fixtures.FixtureCall.{FixtureCall}
use Rattle.cd_outside.specs.Counts.{Rose}
use Rattle.cd_outside.specs.FixtureCall.{CallsGrow}
use Rattle.cd_outside.specs.Devices.{Device}
use Rattle.cd_session.specs.declared.counting.Counts.{Counts}
use Rattle.cd_reverse_proxy.specs.declared.settings.ProxySettings.{ProxySettings}
use Rattle.cd_reverse_proxy.specs.declared.status.Status.{Status}
use Rattle.cd_reverse_proxy.specs.declared.status.Status.TheVariants as status
use Rattle.cd_reverse_proxy.specs.Running.{Concludes, HasBegun, HasRun, RunsTo, answered_of, cut_of}
use Rattle.cd_reverse_proxy.specs.Seen.{Seen}
use Rattle.cd_reverse_proxy.specs.Top.{ExitsWith, Proxies, run_calls}
use Rattle.cd_reverse_proxy.specs.Workers.{Worker}
use Rattle.cd_reverse_proxy.proofs.Together.{told-together}

-- ---- calls of the fixtures

joined : (a b : Option (List FixtureCall)) (cs xs ys : List FixtureCall) → CallsGrow a xs b → option_map (λ z. z ++ ys) b ≡ Some cs → option_map (λ z. z ++ (xs ++ ys)) a ≡ Some cs
joined a None cs xs ys p q = cc
joined None (Some bs) cs xs ys p q = cc
joined (Some first) (Some bs) cs xs ys p q = let e : first ++ xs ≡ bs = cc in let f : bs ++ ys ≡ cs = cc in ap (λ z. Some z) (sym (append_assoc first xs ys) ∙ (ap (λ z. z ++ ys) e ∙ f))

pub calls-join : (a b c : Option (List FixtureCall)) (xs ys : List FixtureCall) → CallsGrow a xs b → CallsGrow b ys c → CallsGrow a (xs ++ ys) c
calls-join a b None xs ys p q = tt
calls-join a b (Some cs) xs ys p q = joined a b cs xs ys p q

-- ---- two writes, one after another

both-given : (a b : List ℕ) (old then now : Option (List ℕ)) → then ≡ option_map (λ held. held ++ a) old → now ≡ option_map (λ held. held ++ b) then → now ≡ option_map (λ held. held ++ (a ++ b)) old
both-given a b None then now one two = two ∙ ap (option_map (λ held. held ++ b)) one
both-given a b (Some held) then now one two = two ∙ ap (option_map (λ held. held ++ b)) one ∙ ap Some (append_assoc held a b)

rose-then : (before middle now : ℕ) → before ≤ middle → Rose middle now → Rose before now
rose-then before middle now low rose = omega (arith, low, rose)

-- ---- a run

-- between the first line and the last one the output told `then`, and had failed so often
module _ (upstreams : List Address) (ws : List Worker) (Left : Type 0) (output : Device (List ℕ)) (then : Option (List ℕ)) (failed_then : ℕ) where
  abbrev pub first : Device (List ℕ)
  first = record { told_before = output.told_before; told_now = then; failed_before = output.failed_before; failed_now = failed_then }

  abbrev pub last : Device (List ℕ)
  last = record { told_before = then; told_now = output.told_now; failed_before = failed_then; failed_now = output.failed_now }

  pub has-run : (counts : Option Counts) → output.failed_before ≤ failed_then → HasBegun upstreams ws Left first counts → (st : Status) → Concludes counts last st
      → HasRun upstreams ws Left (answered_of counts) (cut_of counts) output st
  has-run None low begun status.WriteFault said = (
    let same = said.failed in let rose = begun.1 in omega (arith, same, rose),
    inl (begun.0, refl, refl, (begun.2.0, begun.2.1, said.told ∙ begun.2.2)),
  )
  has-run None low begun status.Done said = absurd said
  has-run None low begun status.NoMemory said = absurd said
  has-run None low begun status.Unopened said = absurd said
  has-run None low begun status.Usage said = absurd said
  has-run (Some counts) low begun status.Done said = (
    told-together upstreams ws counts.answered counts.cut begun.0,
    both-given _ _ output.told_before then output.told_now begun.1 said,
  )
  has-run (Some counts) low begun status.WriteFault said = (
    rose-then output.failed_before failed_then output.failed_now low said.0,
    inr (told-together upstreams ws counts.answered counts.cut begun.0, (said.1.0, said.1.1, both-given _ _ output.told_before then output.told_now begun.1 said.1.2)),
  )
  has-run (Some counts) low begun status.NoMemory said = (told-together upstreams ws counts.answered counts.cut begun.0, said.told ∙ begun.1)
  has-run (Some counts) low begun status.Unopened said = absurd said
  has-run (Some counts) low begun status.Usage said = absurd said

-- ---- from outside

module _ (p : ProxySettings) {F L P : Type 0} (s : Seen F L P) (calls : CallsGrow s.calls.told_before (run_calls p.from) s.calls.told_now) where
  abbrev Left : Type 0
  Left = (s.lanes_now ≡ s.lanes_before) × (s.peers_now ≡ s.peers_before)

  proxies-so : (st : Status) → HasRun p.upstreams s.workers Left s.answered s.cut s.output st → Proxies p s st
  proxies-so status.Done so = (record { calls = calls; told = so.0 }, so.1)
  proxies-so status.WriteFault so = (
    so.0,
    ⊎_elim
        (λ left. inl (record { calls = calls; unserved = record { lanes = left.0.0; peers = left.0.1; unanswered = left.1; uncut = left.2 } }, left.3))
        (λ served. inr (record { calls = calls; told = served.0 }, served.1))
        so.1,
  )
  proxies-so status.NoMemory so = inr (record { calls = calls; told = so.0 }, so.1)
  proxies-so status.Unopened so = absurd so
  proxies-so status.Usage so = absurd so

  pub proxies-of : (upstreams : List Address) (code : ℕ) → upstreams ≡ p.upstreams → RunsTo upstreams s.workers Left s.answered s.cut s.output code → ExitsWith code (Proxies p s)
  proxies-of upstreams code are r =
      record { status = r.status; is = r.is; so = proxies-so r.status (subst (λ (u : List Address). HasRun u s.workers Left s.answered s.cut s.output r.status) are r.so) }
