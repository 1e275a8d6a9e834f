-- What each entry asks, fact by fact: these follow from `allowed`, and `allowed` from these.
use Rattle.std.proofs.Common.{◌≡◌, ◌<◌, ℕ, ◌+◌, ◌==◌, Bool, true, false, not, nat_lt, List, length, slice_get, Option, Some, None, refl, ap, ◌∙◌, arith, eq-eqb}
use Rattle.std.specs.Prelude.{is_none}
use Rattle.std.proofs.lemmas.Bool.{eqb-true}
use Rattle.std.proofs.lemmas.Bool.Decides.{nat_tests}
use Rattle.cd_outside.specs.declared.key.Key.{Key}
use Rattle.cd_outside.specs.declared.holder.Pair.{Pair}
use Rattle.cd_outside.specs.Keys.{keys_in}
use Rattle.cd_legal.specs.declared.part.Part.{Part}
use Rattle.cd_legal.specs.declared.part.Part.TheVariants.{Instance, App}
use Rattle.cd_legal.specs.declared.limits.TheConstants.{MAX_DRAFTS}
use Rattle.cd_legal.specs.declared.entry.Entry.{Entry}
use Rattle.cd_legal.specs.declared.entry.Entry.TheVariants.{Draft, Made, Started, Publish, Abandon, Stopped, Begin, Finish, Retire, Cleaned, Halt}
use Rattle.cd_legal.specs.declared.state.State.{State}
use Rattle.cd_legal.specs.declared.state.Drafted.{Drafted}
use Rattle.cd_legal.specs.declared.state.Life.{Life}
use Rattle.cd_legal.specs.declared.state.Life.TheVariants.{Live, Published, Abandoned}
use Rattle.cd_legal.specs.State.{holds, has_number, part_keys, opened_in, instances_ready, is_live, may_stop_apps, may_clean_instances, all_stopped, apps_stopped, has_ticket, is_ticketed}
use Rattle.cd_legal.specs.Legal.{keys_fit, is_open, may_open, is_complete, may_stop, may_clean, allowed}
use Rattle.cd_legal.proofs.Histories.{both, first, second}

-- ---- tests

pub is-false : (b : Bool) → not b ≡ true → b ≡ false
is-false true e = cc
is-false false e = refl

pub not-false : (b : Bool) → b ≡ false → not b ≡ true
not-false true e = cc
not-false false e = refl

pub is-less : (a b : ℕ) → nat_lt a b ≡ true → a < b
is-less a b e = grind (arith, nat_tests)

pub less-is : (a b : ℕ) → a < b → nat_lt a b ≡ true
less-is a b e = grind (arith, nat_tests)

live-is : (l : Life) → is_live l ≡ true → l ≡ Live
live-is Live e = refl
live-is (Published n) e = cc
live-is Abandoned e = cc

none-is : (o : Option Key) → is_none o ≡ true → o ≡ None
none-is None e = refl
none-is (Some key) e = cc

-- ---- a draft

-- it is there, and passes the test
pub record There (test : Drafted → Bool) (xs : List Drafted) (d : ℕ) : Type 0 where
  pub draft : Drafted
  pub is : slice_get xs d ≡ Some draft
  pub passes : test draft ≡ true

-- live and without a failed key
pub record IsOpen (x : Drafted) : Type 0 where
  pub live : x.life ≡ Live
  pub unfailed : x.failed ≡ None

-- place i is opened: an instance is made, or an app is started
pub record Opens (part : Part) (i taken : ℕ) (failed : Option Key) (pairs : List Pair) (x : Drafted) : Type 0 where
  pub opened : IsOpen x
  pub ready : instances_ready part x ≡ true
  pub next : i ≡ opened_in part x
  pub fit : holds (λ keys. keys_fit (keys_in pairs) keys taken failed) (slice_get (part_keys part x.plan) i) ≡ true

-- all is made and started
pub record Completes (x : Drafted) : Type 0 where
  pub opened : IsOpen x
  pub made : x.made ≡ length x.plan.modules
  pub started : x.started ≡ length x.plan.apps

-- app a is stopped
pub record Stops (a serial : ℕ) (x : Drafted) : Type 0 where
  pub over : may_stop_apps serial x.life ≡ true
  pub next : a + 1 + x.stopped ≡ x.started

-- instance i is cleaned
pub record Cleans (i : ℕ) (retired : List ℕ) (x : Drafted) : Type 0 where
  pub done : may_clean_instances retired x.life ≡ true
  pub stopped : x.stopped ≡ x.started
  pub next : i + 1 + x.cleaned ≡ x.made

there_in : (test : Drafted → Bool) (xs : List Drafted) (d : ℕ) (o : Option Drafted) → slice_get xs d ≡ o → holds test o ≡ true → There test xs d
there_in test xs d None is m = absurd (let e : false ≡ true = m in cc)
there_in test xs d (Some x) is m = record { draft = x; is = is; passes = m }

pub there : (test : Drafted → Bool) (xs : List Drafted) (d : ℕ) → holds test (slice_get xs d) ≡ true → There test xs d
there test xs d m = there_in test xs d (slice_get xs d) refl m

pub holds-there : (test : Drafted → Bool) (xs : List Drafted) (d : ℕ) → There test xs d → holds test (slice_get xs d) ≡ true
holds-there test xs d t = ap (holds test) t.is ∙ t.passes

pub live_open : (x : Drafted) → is_open x ≡ true → IsOpen x
live_open x m = record { live = live-is x.life (first (is_live x.life) _ m); unfailed = none-is x.failed (second (is_live x.life) _ m) }

pub is_open-by : (x : Drafted) → IsOpen x → is_open x ≡ true
is_open-by x f = both (is_live x.life) _ (ap is_live f.live) (ap is_none f.unfailed)

pub opens : (part : Part) (i taken : ℕ) (failed : Option Key) (ps : List Pair) (x : Drafted) → may_open part i taken failed ps x ≡ true → Opens part i taken failed ps x
opens part i taken failed ps x m =
    let a = second (is_open x) _ m in
    let b = second (instances_ready part x) _ a in record {
      opened = live_open x (first (is_open x) _ m);
      ready = first (instances_ready part x) _ a;
      next = eqb-true i (opened_in part x) (first (i == opened_in part x) _ b);
      fit = second (i == opened_in part x) _ b;
    }

pub opens-by : (part : Part) (i taken : ℕ) (failed : Option Key) (ps : List Pair) (x : Drafted) → Opens part i taken failed ps x → may_open part i taken failed ps x ≡ true
opens-by part i taken failed ps x f =
    both (is_open x) _ (is_open-by x f.opened) (both (instances_ready part x) _ f.ready (both (i == opened_in part x) _ (eq-eqb i (opened_in part x) f.next) f.fit))

pub completes : (x : Drafted) → is_complete x ≡ true → Completes x
completes x m =
    let a = second (is_open x) _ m in record {
      opened = live_open x (first (is_open x) _ m);
      made = eqb-true x.made (length x.plan.modules) (first (x.made == length x.plan.modules) _ a);
      started = eqb-true x.started (length x.plan.apps) (second (x.made == length x.plan.modules) _ a);
    }

pub is_complete-by : (x : Drafted) → Completes x → is_complete x ≡ true
is_complete-by x f =
    both (is_open x) _ (is_open-by x f.opened) (both (x.made == length x.plan.modules) _ (eq-eqb x.made (length x.plan.modules) f.made) (eq-eqb x.started (length x.plan.apps) f.started))

pub stops : (a serial : ℕ) (x : Drafted) → may_stop a serial x ≡ true → Stops a serial x
stops a serial x m = record { over = first (may_stop_apps serial x.life) _ m; next = eqb-true (a + 1 + x.stopped) x.started (second (may_stop_apps serial x.life) _ m) }

pub may_stop-by : (a serial : ℕ) (x : Drafted) → Stops a serial x → may_stop a serial x ≡ true
may_stop-by a serial x f = both (may_stop_apps serial x.life) _ f.over (eq-eqb (a + 1 + x.stopped) x.started f.next)

pub cleans : (i : ℕ) (retired : List ℕ) (x : Drafted) → may_clean i retired x ≡ true → Cleans i retired x
cleans i retired x m =
    let a = second (may_clean_instances retired x.life) _ m in record {
      done = first (may_clean_instances retired x.life) _ m;
      stopped = eqb-true x.stopped x.started (first (all_stopped x) _ a);
      next = eqb-true (i + 1 + x.cleaned) x.made (second (all_stopped x) _ a);
    }

pub may_clean-by : (i : ℕ) (retired : List ℕ) (x : Drafted) → Cleans i retired x → may_clean i retired x ≡ true
may_clean-by i retired x f = both (may_clean_instances retired x.life) _ f.done (both (all_stopped x) _ (eq-eqb x.stopped x.started f.stopped) (eq-eqb (i + 1 + x.cleaned) x.made f.next))

-- ---- an entry

pub record Drafts (s : State) (d : ℕ) : Type 0 where
  pub next : d ≡ length s.drafts
  pub below : d < MAX_DRAFTS

pub record Publishes (s : State) (d n from : ℕ) : Type 0 where
  pub running : s.halted ≡ false
  pub complete : holds is_complete (slice_get s.drafts d) ≡ true
  pub current : from ≡ s.serial
  pub next : n ≡ from + 1

pub record Begins (s : State) (k n : ℕ) : Type 0 where
  pub current : n ≡ s.serial
  pub free : has_ticket k s.tickets ≡ false

pub record Retires (s : State) (n : ℕ) : Type 0 where
  pub superseded : n < s.serial
  pub unretired : has_number n s.retired ≡ false
  pub stopped : apps_stopped s n ≡ true
  pub unticketed : is_ticketed n s.tickets ≡ false

pub record Halts (s : State) (n : ℕ) : Type 0 where
  pub running : s.halted ≡ false
  pub next : n ≡ s.serial + 1

-- by its kind
abbrev pub Can : State → Entry → Type 0
Can s (Draft d tree plan) = Drafts s d
Can s (Made d i taken failed) = There (may_open Instance i taken failed s.pairs) s.drafts d
Can s (Started d a taken failed) = There (may_open App a taken failed s.pairs) s.drafts d
Can s (Publish d n from change) = Publishes s d n from
Can s (Abandon d) = There (λ x. is_live x.life) s.drafts d
Can s (Stopped d a) = There (may_stop a s.serial) s.drafts d
Can s (Begin k n) = Begins s k n
Can s (Finish k) = has_ticket k s.tickets ≡ true
Can s (Retire n) = Retires s n
Can s (Cleaned d i) = There (may_clean i s.retired) s.drafts d
Can s (Halt n) = Halts s n

-- what is allowed can be
pub can : (s : State) (e : Entry) → allowed s e ≡ true → Can s e
can s (Draft d tree plan) m = record { next = eqb-true d (length s.drafts) (first (d == length s.drafts) _ m); below = is-less d MAX_DRAFTS (second (d == length s.drafts) _ m) }
can s (Made d i taken failed) m = there (may_open Instance i taken failed s.pairs) s.drafts d m
can s (Started d a taken failed) m = there (may_open App a taken failed s.pairs) s.drafts d m
can s (Publish d n from change) m =
    let a = second (not s.halted) _ m in
    let b = second (holds is_complete (slice_get s.drafts d)) _ a in record {
      running = is-false s.halted (first (not s.halted) _ m);
      complete = first (holds is_complete (slice_get s.drafts d)) _ a;
      current = eqb-true from s.serial (first (from == s.serial) _ b);
      next = eqb-true n (from + 1) (second (from == s.serial) _ b);
    }
can s (Abandon d) m = there (λ x. is_live x.life) s.drafts d m
can s (Stopped d a) m = there (may_stop a s.serial) s.drafts d m
can s (Begin k n) m = record { current = eqb-true n s.serial (first (n == s.serial) _ m); free = is-false (has_ticket k s.tickets) (second (n == s.serial) _ m) }
can s (Finish k) m = m
can s (Retire n) m =
    let a = second (nat_lt n s.serial) _ m in
    let b = second (not (has_number n s.retired)) _ a in record {
      superseded = is-less n s.serial (first (nat_lt n s.serial) _ m);
      unretired = is-false (has_number n s.retired) (first (not (has_number n s.retired)) _ a);
      stopped = first (apps_stopped s n) _ b;
      unticketed = is-false (is_ticketed n s.tickets) (second (apps_stopped s n) _ b);
    }
can s (Cleaned d i) m = there (may_clean i s.retired) s.drafts d m
can s (Halt n) m = record { running = is-false s.halted (first (not s.halted) _ m); next = eqb-true n (s.serial + 1) (second (not s.halted) _ m) }

-- what can be is allowed
pub allowed-by : (s : State) (e : Entry) → Can s e → allowed s e ≡ true
allowed-by s (Draft d tree plan) f = both (d == length s.drafts) _ (eq-eqb d (length s.drafts) f.next) (less-is d MAX_DRAFTS f.below)
allowed-by s (Made d i taken failed) f = holds-there (may_open Instance i taken failed s.pairs) s.drafts d f
allowed-by s (Started d a taken failed) f = holds-there (may_open App a taken failed s.pairs) s.drafts d f
allowed-by s (Publish d n from change) f =
    both (not s.halted) _ (not-false s.halted f.running)
    (both (holds is_complete (slice_get s.drafts d)) _ f.complete (both (from == s.serial) _ (eq-eqb from s.serial f.current) (eq-eqb n (from + 1) f.next)))
allowed-by s (Abandon d) f = holds-there (λ x. is_live x.life) s.drafts d f
allowed-by s (Stopped d a) f = holds-there (may_stop a s.serial) s.drafts d f
allowed-by s (Begin k n) f = both (n == s.serial) _ (eq-eqb n s.serial f.current) (not-false (has_ticket k s.tickets) f.free)
allowed-by s (Finish k) f = f
allowed-by s (Retire n) f =
    both (nat_lt n s.serial) _ (less-is n s.serial f.superseded)
    (both (not (has_number n s.retired)) _ (not-false (has_number n s.retired) f.unretired) (both (apps_stopped s n) _ f.stopped (not-false (is_ticketed n s.tickets) f.unticketed)))
allowed-by s (Cleaned d i) f = holds-there (may_clean i s.retired) s.drafts d f
allowed-by s (Halt n) f = both (not s.halted) _ (not-false s.halted f.running) (eq-eqb n (s.serial + 1) f.next)
