-- Workers that were served tell together what was relayed.
use Rattle.std.proofs.Common.{◌≡◌, ◌≤◌, ◌<◌, ◌∙◌, inl, inr, ℕ, ◌+◌, ◌-◌, min, List, [], ◌∷◌, sum_by, Option, Some, None, refl, ap, arith}
use Rattle.std.proofs.Math.Nat.{lt_of_not-le}
use Rattle.std.proofs.lemmas.List.Sums.{sum_by-cons}
use Rattle.cd_outside.specs.declared.address.Address.{Address}
use Rattle.cd_outside.specs.declared.past.Past.{Past}
use Rattle.cd_outside.specs.Counts.{count_end, Covers}
use Rattle.cd_outside.specs.Telling.{TellsOn}
use Rattle.cd_session.specs.declared.lane_end.LaneEnd.{LaneEnd}
use Rattle.cd_session.specs.declared.lane_end.LaneHow.{LaneHow}
use Rattle.cd_session.specs.declared.lane_end.LaneHow.TheVariants as how
use Rattle.cd_session.specs.Ends.{IsLaneEnd}
use Rattle.cd_gateway.specs.Lanes.{IsRelayed, answered_in, counted, interrupted_in}
use Rattle.cd_reverse_proxy.specs.Workers.{AllOfThose, AllTell, AreRelayed, AreReports, EndsAccepting, NoneInterrupted, NoneRose, RelayedEach, Report, ReportOf, Worker, WorkersTold, faults, interruptions, over_all}
use Rattle.cd_outside.specs.Devices.{IsUnfailed}

module _ (upstreams : List Address) where
  abbrev Told : Worker → LaneEnd → Past → Past → Type 0
  Told w e p q = IsRelayed upstreams (counted w.lane.failed_before w.peers.failed_before) (counted w.lane.failed_now w.peers.failed_now) e w.peers.told_before w.peers.told_now p q

  abbrev report_of : (w : Worker) (e : LaneEnd) (p q : Past) → Told w e p q → Report
  report_of w e p q r = record { connections = r.relayed.connections; endings = r.relayed.endings; failed = q.accept_faults - p.accept_faults }

  abbrev report : (w : Worker) (e : LaneEnd) (old new : Option Past) → TellsOn (Told w e) old new → Option Report
  report w e None None told = None
  report w e (Some p) (Some q) told = Some (report_of w e p q told)
  report w e (Some p) None told = absurd told
  report w e None (Some q) told = absurd told

  abbrev reports : (ws : List Worker) (es : List LaneEnd) → RelayedEach upstreams ws es → List (Option Report)
  reports [] [] all = []
  reports (w ∷ ws) (e ∷ es) all = report w e w.lane.told_before w.lane.told_now all.0.relayed ∷ reports ws es all.1
  reports [] (e ∷ es) all = absurd all
  reports (w ∷ ws) [] all = absurd all

  -- ---- each report

  ends : (h : LaneHow) (w : Worker) (p q : Past) → ¬ (h ≡ how.Halted) → IsLaneEnd h w.lane.failed_before w.lane.failed_now p q → EndsAccepting w.lane q
  ends how.Ended w p q running is = inl is.0
  ends how.AcceptFault w p q running is = inr (is.0, is.2)
  ends how.Halted w p q running is = absurd (running refl)

  report-is : (w : Worker) (e : LaneEnd) (old new : Option Past) (told : TellsOn (Told w e) old new) → w.lane.told_before ≡ old → w.lane.told_now ≡ new → ¬ (e.how ≡ how.Halted) → ReportOf upstreams w (report w e old new told)
  report-is w e None None told before now running = (before, now)
  report-is w e (Some p) (Some q) told before now running = (
    p,
    q,
    before,
    now,
    record {
      added = told.relayed.added;
      each = told.relayed.each;
      exchanges = told.relayed.exchanges;
      failures = told.relayed.failures;
      failed = refl;
      over = ends e.how w p q running told.over;
    },
  )
  report-is w e (Some p) None told before now running = absurd told
  report-is w e None (Some q) told before now running = absurd told

  reports-are : (ws : List Worker) (es : List LaneEnd) (all : RelayedEach upstreams ws es) → AreReports upstreams ws (reports ws es all)
  reports-are [] [] all = tt
  reports-are (w ∷ ws) (e ∷ es) all = (report-is w e w.lane.told_before w.lane.told_now all.0.relayed refl refl all.0.running, reports-are ws es all.1)
  reports-are [] (e ∷ es) all = absurd all
  reports-are (w ∷ ws) [] all = absurd all

  -- what holds of the report of the first, and of those of the others
  of-one : (P : Worker → Report → Type 0) (w : Worker) (e : LaneEnd) (old new : Option Past) (told : TellsOn (Told w e) old new) (ws : List Worker) (ts : List (Option Report))
      → ((p q : Past) (r : Told w e p q) → P w (report_of w e p q r)) → AllOfThose P ws ts → AllOfThose P (w ∷ ws) (report w e old new told ∷ ts)
  of-one P w e None None told ws ts is rest = rest
  of-one P w e (Some p) (Some q) told ws ts is rest = (is p q told, rest)
  of-one P w e (Some p) None told ws ts is rest = absurd told
  of-one P w e None (Some q) told ws ts is rest = absurd told

  fewer : (one rest all cut : ℕ) → all ≡ one + rest → (cut < count_end → all ≤ cut) → cut < count_end → one ≤ cut
  fewer one rest all cut is few low = let h = few low in omega (arith, h, is)

  covers-more : (mishaps before now one cut : ℕ) → Covers mishaps before now one → (cut < count_end → one ≤ cut) → Covers mishaps before now cut
  covers-more mishaps before now one cut covers few = λ below low. let h = few low in let c = covers below (omega (arith, h, low)) in omega (arith, h, c)

  each-covered : (ws : List Worker) (es : List LaneEnd) (all : RelayedEach upstreams ws es) (cut : ℕ) → (cut < count_end → sum_by (λ e. e.cut) es ≤ cut)
      → AllOfThose (λ w t. Covers (interruptions t) w.lane.failed_before w.lane.failed_now cut) ws (reports ws es all)
  each-covered [] [] all cut few = tt
  each-covered (w ∷ ws) (e ∷ es) all cut few =
      let sum = sum_by-cons (λ (x : LaneEnd). x.cut) e es in
      of-one (λ w t. Covers (interruptions t) w.lane.failed_before w.lane.failed_now cut) w e w.lane.told_before w.lane.told_now all.0.relayed ws (reports ws es all.1)
      (λ p q r. covers-more (interruptions (report_of w e p q r)) w.lane.failed_before w.lane.failed_now e.cut cut r.relayed.covered (λ low. let h = few low in omega (arith, h, sum)))
      (each-covered ws es all.1 cut (λ low. let h = few low in omega (arith, h, sum)))
  each-covered [] (e ∷ es) all cut few = absurd all
  each-covered (w ∷ ws) [] all cut few = absurd all

  each-faulted : (ws : List Worker) (es : List LaneEnd) (all : RelayedEach upstreams ws es)
      → AllOfThose (λ w t. Covers (faults t) w.lane.failed_before w.lane.failed_now 0) ws (reports ws es all)
  each-faulted [] [] all = tt
  each-faulted (w ∷ ws) (e ∷ es) all =
      of-one (λ w t. Covers (faults t) w.lane.failed_before w.lane.failed_now 0) w e w.lane.told_before w.lane.told_now all.0.relayed ws (reports ws es all.1)
      (λ p q r. r.relayed.faulted) (each-faulted ws es all.1)
  each-faulted [] (e ∷ es) all = absurd all
  each-faulted (w ∷ ws) [] all = absurd all

  -- ---- sums

  abbrev mishaps : List Worker → List (Option Report) → ℕ
  mishaps ws ts = over_all (λ w t. interruptions t) ws ts

  abbrev before : List Worker → List (Option Report) → ℕ
  before ws ts = over_all (λ w t. w.lane.failed_before) ws ts

  abbrev after : List Worker → List (Option Report) → ℕ
  after ws ts = over_all (λ w t. w.lane.failed_now) ws ts

  abbrev Below : List Worker → List (Option Report) → Type 0
  Below ws ts = AllOfThose (λ w t. w.lane.failed_now < count_end) ws ts

  covered-one : (w : Worker) (e : LaneEnd) (old new : Option Past) (told : TellsOn (Told w e) old new) (ws : List Worker) (ts : List (Option Report)) (rest : ℕ)
      → e.cut < count_end → Below (w ∷ ws) (report w e old new told ∷ ts) → (Below ws ts → mishaps ws ts + before ws ts ≤ after ws ts + rest)
      → mishaps (w ∷ ws) (report w e old new told ∷ ts) + before (w ∷ ws) (report w e old new told ∷ ts) ≤ after (w ∷ ws) (report w e old new told ∷ ts) + (e.cut + rest)
  covered-one w e None None told ws ts rest low below others = let h = others below in omega (arith, h)
  covered-one w e (Some p) (Some q) told ws ts rest low below others =
      let h = others below.1 in
      let one = told.relayed.covered below.0 low in
      omega (arith, h, one)
  covered-one w e (Some p) None told ws ts rest low below others = absurd told
  covered-one w e None (Some q) told ws ts rest low below others = absurd told

  all-covered : (ws : List Worker) (es : List LaneEnd) (all : RelayedEach upstreams ws es) → sum_by (λ e. e.cut) es < count_end → Below ws (reports ws es all)
      → mishaps ws (reports ws es all) + before ws (reports ws es all) ≤ after ws (reports ws es all) + sum_by (λ e. e.cut) es
  all-covered [] [] all low below = omega arith
  all-covered (w ∷ ws) (e ∷ es) all low below =
      let sum = sum_by-cons (λ (x : LaneEnd). x.cut) e es in
      let one = covered-one w e w.lane.told_before w.lane.told_now all.0.relayed ws (reports ws es all.1) (sum_by (λ e. e.cut) es) (omega (arith, low, sum)) below
      (λ others. all-covered ws es all.1 (omega (arith, low, sum)) others) in
      omega (arith, one, sum)
  all-covered [] (e ∷ es) all low below = absurd all
  all-covered (w ∷ ws) [] all low below = absurd all

  abbrev interrupted : List Worker → List (Option Report) → ℕ
  interrupted ws ts = over_all (λ w t. interrupted_in t.endings) ws ts

  cut-one : (w : Worker) (e : LaneEnd) (old new : Option Past) (told : TellsOn (Told w e) old new) (ws : List Worker) (ts : List (Option Report)) (rest : ℕ)
      → AllTell (report w e old new told ∷ ts) → (AllTell ts → rest ≤ interrupted ws ts) → e.cut + rest ≤ interrupted (w ∷ ws) (report w e old new told ∷ ts)
  cut-one w e None None told ws ts rest tell others = absurd tell
  cut-one w e (Some p) (Some q) told ws ts rest tell others =
      let h = others tell in
      let one = told.relayed.cut_interrupted in
      omega (arith, h, one)
  cut-one w e (Some p) None told ws ts rest tell others = absurd told
  cut-one w e None (Some q) told ws ts rest tell others = absurd told

  all-cut : (ws : List Worker) (es : List LaneEnd) (all : RelayedEach upstreams ws es) → AllTell (reports ws es all) → sum_by (λ e. e.cut) es ≤ interrupted ws (reports ws es all)
  all-cut [] [] all tell = omega arith
  all-cut (w ∷ ws) (e ∷ es) all tell =
      let sum = sum_by-cons (λ (x : LaneEnd). x.cut) e es in
      let one = cut-one w e w.lane.told_before w.lane.told_now all.0.relayed ws (reports ws es all.1) (sum_by (λ e. e.cut) es) tell (λ others. all-cut ws es all.1 others) in
      omega (arith, one, sum)
  all-cut [] (e ∷ es) all tell = absurd all
  all-cut (w ∷ ws) [] all tell = absurd all

  min-more : (a x s t c : ℕ) → a ≡ min x c → min s c ≡ min t c → min (a + s) c ≡ min (x + t) c
  min-more a x s t c one more = omega (arith, one, more)

  abbrev answered : List Worker → List (Option Report) → ℕ
  answered ws ts = over_all (λ w t. answered_in t.endings) ws ts

  answered-one : (w : Worker) (e : LaneEnd) (old new : Option Past) (told : TellsOn (Told w e) old new) (ws : List Worker) (ts : List (Option Report)) (rest : ℕ)
      → AllTell (report w e old new told ∷ ts) → (AllTell ts → min rest count_end ≡ min (answered ws ts) count_end)
      → min (e.answered + rest) count_end ≡ min (answered (w ∷ ws) (report w e old new told ∷ ts)) count_end
  answered-one w e None None told ws ts rest tell others = absurd tell
  answered-one w e (Some p) (Some q) told ws ts rest tell others =
      min-more e.answered (answered_in told.relayed.endings) rest (answered ws ts) count_end told.relayed.answers (others tell)
  answered-one w e (Some p) None told ws ts rest tell others = absurd told
  answered-one w e None (Some q) told ws ts rest tell others = absurd told

  all-answered : (ws : List Worker) (es : List LaneEnd) (all : RelayedEach upstreams ws es) → AllTell (reports ws es all)
      → min (sum_by (λ e. e.answered) es) count_end ≡ min (answered ws (reports ws es all)) count_end
  all-answered [] [] all tell = refl
  all-answered (w ∷ ws) (e ∷ es) all tell =
      let sum = sum_by-cons (λ (x : LaneEnd). x.answered) e es in
      ap (λ (n : ℕ). min n count_end) sum
      ∙ answered-one w e w.lane.told_before w.lane.told_now all.0.relayed ws (reports ws es all.1) (sum_by (λ e. e.answered) es) tell (λ others. all-answered ws es all.1 others)
  all-answered [] (e ∷ es) all tell = absurd all
  all-answered (w ∷ ws) [] all tell = absurd all

  -- ---- all of it

  pub told-together : (ws : List Worker) (count cut : ℕ) → AreRelayed upstreams ws count cut → WorkersTold upstreams ws count cut
  told-together ws count cut r = record {
    reports = reports ws r.ends r.each;
    told = reports-are ws r.ends r.each;
    covered = each-covered ws r.ends r.each cut (λ low. omega (arith, low, r.cuts));
    faulted = each-faulted ws r.ends r.each;
    all_covered = λ below low.
        let sum : sum_by (λ e. e.cut) r.ends ≡ cut = omega (arith, low, r.cuts) in
        let all = all-covered ws r.ends r.each (omega (arith, low, sum)) below in
        omega (arith, all, sum);
    cut_interrupted = λ tell. let all = all-cut ws r.ends r.each tell in omega (arith, all, r.cuts);
    answers = λ tell. r.answers ∙ all-answered ws r.ends r.each tell;
  }

-- ---- lanes of which no fault rose

none-one : (w : Worker) (t : Report) → Covers (interruptions t) w.lane.failed_before w.lane.failed_now 0 → IsUnfailed w.lane → (interrupted_in t.endings ≡ 0) × (t.failed ≡ 0)
none-one w t covers unfailed =
    let low : w.lane.failed_now < min (w.lane.failed_before + 1) count_end = lt_of_not-le unfailed in
    let below : w.lane.failed_now < count_end = omega (arith, low) in
    let none : 0 < count_end = omega arith in
    let all : (interrupted_in t.endings + t.failed) + w.lane.failed_before ≤ w.lane.failed_now + 0 = covers below none in
    (omega (arith, low, all), omega (arith, low, all))

pub none-interrupted : (ws : List Worker) (ts : List (Option Report)) → AllOfThose (λ w t. Covers (interruptions t) w.lane.failed_before w.lane.failed_now 0) ws ts → NoneRose ws → NoneInterrupted ws ts
none-interrupted [] ts covered none = tt
none-interrupted (w ∷ ws) [] covered none = tt
none-interrupted (w ∷ ws) (None ∷ ts) covered none = none-interrupted ws ts covered none.1
none-interrupted (w ∷ ws) (Some t ∷ ts) covered none = (none-one w t covered.0 none.0, none-interrupted ws ts covered.1 none.1)
