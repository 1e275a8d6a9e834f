-- The fixtures are shut once.
use Rattle.std.proofs.Common.{◌≡◌, ℕ, zero, suc, ◌+◌, ◌==◌, Bool, true, false, ◌&&◌, cond, List, [], ◌∷◌, ◌++◌, map, slice_get, Option, Some, None, refl, sym, ap, ◌∙◌, arith}
use Rattle.std.specs.Prelude.{reverse, take}
use Rattle.std.proofs.lemmas.Bool.{eqb-true}
use Rattle.cd_outside.specs.declared.key.Key.{Key}
use Rattle.cd_outside.specs.declared.fixtures.FixtureCall.{FixtureCall}
use Rattle.cd_outside.specs.declared.fixtures.FixtureCall.TheVariants.{Opened, NotOpened, Closed, Shut}
use Rattle.cd_outside.specs.Keys.{keys_in, keys_of, without_holder, fresh_keys}
use Rattle.cd_legal.specs.declared.part.Part.TheVariants.{Instance, App}
use Rattle.cd_legal.specs.declared.entry.Entry.{Entry}
use Rattle.cd_legal.specs.declared.entry.Entry.TheVariants.{Draft, Made, Started, Publish, Abandon, Stopped, Cleaned, Halt}
use Rattle.cd_legal.specs.declared.state.State.{State}
use Rattle.cd_legal.specs.declared.state.Drafted.{Drafted}
use Rattle.cd_legal.specs.State.{opening_state, holds, holds_if_there, change_at, is_live, all_stopped, of_draft, draft_of, new_draft, keys_for, part_of}
use Rattle.cd_legal.specs.Legal.{allowed, after, legal, legal_from, state_from, state_of, may_open, may_stop, may_clean}
use Rattle.cd_legal.specs.Calls.{failing, key_calls, last_of, is_shut, shutting, entry_calls, calls_from, fixture_calls, shuts, not_opened, failures}
use Rattle.cd_legal.specs.Serials.{has_serial, has_serial_in}
use Rattle.cd_legal.proofs.Histories.{both, first, second}
use Rattle.cd_legal.proofs.Facts.{opens, can}
use Rattle.cd_legal.proofs.Serials.{Agree, agree, opening_agrees, live_none}

-- ---- the draft that was published last

-- it is there
last_there : (xs : List ℕ) (d : ℕ) → last_of xs ≡ Some d → (n : ℕ) × (draft_of n xs ≡ Some d)
last_there [] d is = absurd (let h : None ≡ Some d = is in cc)
last_there (x ∷ []) d is = (1, is)
last_there (x ∷ y ∷ xs) d is = next d (last_there (y ∷ xs) d is)
  where
    next : (d : ℕ) → ((n : ℕ) × (draft_of n (y ∷ xs) ≡ Some d)) → (n : ℕ) × (draft_of n (x ∷ y ∷ xs) ≡ Some d)
    next d (zero, here) = absurd (let h : None ≡ Some d = here in cc)
    next d (suc n, here) = (suc (suc n), here)

-- so it has a serial
last_serial : (s : State) (d : ℕ) → Agree s → last_of s.published ≡ Some d → (n : ℕ) × (has_serial_in s n d ≡ true)
last_serial s d a is = let there = last_there s.published d is in (there.0, a.lives there.0 d there.1)

-- what is asked of it is the same in other drafts, if it is so where it is a draft with a serial
of_last : (s : State) (ys : List Drafted) → Agree s → ((n d : ℕ) → has_serial_in s n d ≡ true → holds_if_there all_stopped (slice_get ys d) ≡ holds_if_there all_stopped (slice_get s.drafts d))
    → (o : Option ℕ) → last_of s.published ≡ o → of_draft all_stopped ys o ≡ of_draft all_stopped s.drafts o
of_last s ys a same None is = refl
of_last s ys a same (Some d) is = let last = last_serial s d a is in same last.0 d last.1

-- a change of a draft that may be changed, seen at one that passes a test: both may be the same
apart : (may ran : Drafted → Bool) (f : Drafted → Drafted) → ((x : Drafted) → may x ≡ true → ran x ≡ true → all_stopped (f x) ≡ all_stopped x) → (xs : List Drafted) (d j : ℕ) → holds may (slice_get xs d) ≡ true → holds ran (slice_get xs j) ≡ true
    → holds_if_there all_stopped (slice_get (change_at f d xs) j) ≡ holds_if_there all_stopped (slice_get xs j)
apart may ran f same [] d j m r = refl
apart may ran f same (x ∷ xs) zero zero m r = same x m r
apart may ran f same (x ∷ xs) zero (suc j) m r = refl
apart may ran f same (x ∷ xs) (suc d) zero m r = refl
apart may ran f same (x ∷ xs) (suc d) (suc j) m r = apart may ran f same xs d j m r

-- a new draft, seen at one that is there
pushed : (ran : Drafted → Bool) (x : Drafted) (xs : List Drafted) (j : ℕ) → holds ran (slice_get xs j) ≡ true → holds_if_there all_stopped (slice_get (xs ++ x ∷ []) j) ≡ holds_if_there all_stopped (slice_get xs j)
pushed ran x [] j r = cc
pushed ran x (y ∷ xs) zero r = refl
pushed ran x (y ∷ xs) (suc j) r = pushed ran x xs j r

-- ---- entries that don't shut

abbrev pub may_shut : Entry → Bool
may_shut (Stopped d a) = true
may_shut (Halt n) = true
may_shut e = false

not_both : (b c : Bool) → b ≡ true → b ≡ false → c ≡ true
not_both true c is none = cc
not_both false c is none = cc

-- other drafts, of which the last published one asks the same
still : (s : State) (ys : List Drafted) → of_draft all_stopped ys (last_of s.published) ≡ of_draft all_stopped s.drafts (last_of s.published) → is_shut (record s { drafts = ys }) ≡ is_shut s
still s ys same = ap (λ (b : Bool). s.halted && b) same

changed : (s : State) (d : ℕ) (may : Drafted → Bool) (f : Drafted → Drafted) → Agree s → holds may (slice_get s.drafts d) ≡ true → ((n : ℕ) (x : Drafted) → may x ≡ true → has_serial n x.life ≡ true → all_stopped (f x) ≡ all_stopped x)
    → is_shut (record s { drafts = change_at f d s.drafts }) ≡ is_shut s
changed s d may f a m same = still s (change_at f d s.drafts) (of_last s (change_at f d s.drafts) a (λ n j r. apart may (λ x. has_serial n x.life) f (same n) s.drafts d j m r) (last_of s.published) refl)

-- no draft is live and has a serial
differ : (x : Drafted) (n : ℕ) (c : Bool) → is_live x.life ≡ true → has_serial n x.life ≡ true → c ≡ true
differ x n c live has = not_both (has_serial n x.life) c has (live_none x.life n live)

equal : (b c : Bool) → ((z : Bool) → z ≡ true) → b ≡ c
equal b c all = all b ∙ sym (all c)

before_halt : (b c d : Bool) → b ≡ false → (b && c) ≡ (b && d)
before_halt true c d free = cc
before_halt false c d free = refl

-- only a Stopped and a Halt change whether the host is shut
pub shut_kept : (s : State) (e : Entry) → allowed s e ≡ true → Agree s → may_shut e ≡ false → is_shut (after s e) ≡ is_shut s
shut_kept s (Draft d tree plan) may a is = still s (s.drafts ++ new_draft tree plan ∷ []) (of_last s (s.drafts ++ new_draft tree plan ∷ []) a (λ n j r. pushed (λ x. has_serial n x.life) (new_draft tree plan) s.drafts j r) (last_of s.published) refl)
shut_kept s (Made d i taken failed) may a is = changed s d (may_open Instance i taken failed s.pairs) _ a may (λ n x m r. refl)
shut_kept s (Started d i taken failed) may a is =
    changed s d (may_open App i taken failed s.pairs) _ a may (λ n x m r. equal _ _ (λ z. differ x n z (ap is_live (opens App i taken failed s.pairs x m).opened.live) r))
shut_kept s (Publish d n from c) may a is = before_halt s.halted _ _ (can s (Publish d n from c) may).running
shut_kept s (Abandon d) may a is = changed s d (λ x. is_live x.life) _ a may (λ n x m r. refl)
shut_kept s (Stopped d i) may a is = cc
shut_kept s (Cleaned d i) may a is = changed s d (may_clean i s.retired) _ a may (λ n x m r. refl)
shut_kept s (Halt n) may a is = cc
shut_kept s e may a is = refl

-- ---- once

-- of a draft whose apps are all stopped none is stopped
none_left : (a st n : ℕ) → a + 1 + st ≡ n → st ≡ n → false ≡ true
none_left a st n m is = absurd (omega arith)

-- the last published draft, all of whose apps are stopped, keeps that
stop_keeps : (s : State) (d a : ℕ) (o : Option ℕ) → holds (may_stop a s.serial) (slice_get s.drafts d) ≡ true → of_draft all_stopped s.drafts o ≡ true → of_draft all_stopped (change_at (λ x. record x { stopped = x.stopped + 1 }) d s.drafts) o ≡ true
stop_keeps s d a None m all = refl
stop_keeps s d a (Some j) m all = go s.drafts d j m all
  where
    clash : (b : Bool) (x : Drafted) → (b && (a + 1 + x.stopped == x.started)) ≡ true → all_stopped x ≡ true → all_stopped (record x { stopped = x.stopped + 1 }) ≡ true
    clash b x m all = absurd (let e : false ≡ true = none_left a x.stopped x.started (eqb-true (a + 1 + x.stopped) x.started (second b _ m)) (eqb-true x.stopped x.started all) in cc)

    go : (xs : List Drafted) (d j : ℕ) → holds (may_stop a s.serial) (slice_get xs d) ≡ true → holds_if_there all_stopped (slice_get xs j) ≡ true → holds_if_there all_stopped (slice_get (change_at (λ x. record x { stopped = x.stopped + 1 }) d xs) j) ≡ true
    go [] d j m all = refl
    go (x ∷ xs) zero zero m all = clash _ x m all
    go (x ∷ xs) zero (suc j) m all = all
    go (x ∷ xs) (suc d) zero m all = all
    go (x ∷ xs) (suc d) (suc j) m all = go xs d j m all

halt_again : (b c : Bool) → b ≡ false → (b && c) ≡ true → false ≡ true
halt_again true c free is = cc
halt_again false c free is = is

-- what is shut stays so
shut_stays : (s : State) (e : Entry) → allowed s e ≡ true → Agree s → is_shut s ≡ true → is_shut (after s e) ≡ true
shut_stays s (Stopped d i) may a shut = both s.halted _ (first s.halted _ shut) (stop_keeps s d i (last_of s.published) may (second s.halted _ shut))
shut_stays s (Halt n) may a shut = absurd (let e : false ≡ true = halt_again s.halted _ (can s (Halt n) may).running shut in cc)
shut_stays s e may a shut = shut_kept s e may a refl ∙ shut

-- ---- the calls

shuts-append : (xs ys : List FixtureCall) → shuts (xs ++ ys) ≡ shuts xs + shuts ys
shuts-append [] ys = omega arith
shuts-append (Opened key ∷ xs) ys = shuts-append xs ys
shuts-append (NotOpened key ∷ xs) ys = shuts-append xs ys
shuts-append (Closed key ∷ xs) ys = shuts-append xs ys
shuts-append (Shut ∷ xs) ys = let rest = shuts-append xs ys in omega arith

none_opened : (keys : List Key) → shuts (map (λ k. Opened k) keys) ≡ 0
none_opened [] = refl
none_opened (k ∷ ks) = none_opened ks

none_closed : (keys : List Key) → shuts (map (λ k. Closed k) keys) ≡ 0
none_closed [] = refl
none_closed (k ∷ ks) = none_closed ks

none_failing : (failed : Option Key) → shuts (failing failed) ≡ 0
none_failing None = refl
none_failing (Some key) = refl

taken : (ks : List Key) (failed : Option Key) → shuts (map (λ k. Opened k) ks ++ failing failed) ≡ 0
taken ks failed = let parts = shuts-append (map (λ k. Opened k) ks) (failing failed) in let a = none_opened ks in let b = none_failing failed in omega arith

-- keys are opened and closed without it
none_by_keys : (s : State) (e : Entry) → shuts (key_calls s e) ≡ 0
none_by_keys s (Made d i n failed) = taken (fresh_keys (keys_in s.pairs) (take n (keys_for Instance i (slice_get s.drafts d)))) failed
none_by_keys s (Started d a n failed) = taken (fresh_keys (keys_in s.pairs) (take n (keys_for App a (slice_get s.drafts d)))) failed
none_by_keys s (Stopped d a) = none_closed (reverse (fresh_keys (keys_in (without_holder (part_of App d a) s.pairs)) (keys_of (part_of App d a) s.pairs)))
none_by_keys s (Cleaned d i) = none_closed (reverse (fresh_keys (keys_in (without_holder (part_of Instance d i) s.pairs)) (keys_of (part_of Instance d i) s.pairs)))
none_by_keys s e = refl

by_change : (b c : Bool) → (b ≡ true → c ≡ true) → cond {A = ℕ} b 1 0 + shuts (shutting b c) ≡ cond c 1 0
by_change true true stays = omega arith
by_change true false stays = absurd (let e : false ≡ true = stays refl in cc)
by_change false true stays = omega arith
by_change false false stays = omega arith

-- by one entry
entry_shuts : (s : State) (e : Entry) → allowed s e ≡ true → Agree s → cond {A = ℕ} (is_shut s) 1 0 + shuts (entry_calls s e) ≡ cond (is_shut (after s e)) 1 0
entry_shuts s e may a =
    let parts = shuts-append (key_calls s e) (shutting (is_shut s) (is_shut (after s e))) in
    let keys = none_by_keys s e in
    let change = by_change (is_shut s) (is_shut (after s e)) (λ shut. shut_stays s e may a shut) in
    omega arith

shuts_from : (s : State) (log : List Entry) → legal_from s log ≡ true → Agree s → cond {A = ℕ} (is_shut s) 1 0 + shuts (calls_from s log) ≡ cond (is_shut (state_from s log)) 1 0
shuts_from s [] legal a = omega arith
shuts_from s (e ∷ es) legal a =
    let may = first (allowed s e) _ legal in
    let parts = shuts-append (entry_calls s e) (calls_from (after s e) es) in
    let here = entry_shuts s e may a in
    let rest = shuts_from (after s e) es (second (allowed s e) _ legal) (agree s e may a) in
    omega arith

-- one where the host is halted and the last published apps are stopped, and none before that
pub shut-once : (log : List Entry) → legal log ≡ true → shuts (fixture_calls log) ≡ cond (is_shut (state_of log)) 1 0
shut-once log legal = let all = shuts_from opening_state log legal opening_agrees in omega arith

-- ---- failed openings

not_opened-append : (xs ys : List FixtureCall) → not_opened (xs ++ ys) ≡ not_opened xs + not_opened ys
not_opened-append [] ys = omega arith
not_opened-append (Opened key ∷ xs) ys = not_opened-append xs ys
not_opened-append (NotOpened key ∷ xs) ys = let rest = not_opened-append xs ys in omega arith
not_opened-append (Closed key ∷ xs) ys = not_opened-append xs ys
not_opened-append (Shut ∷ xs) ys = not_opened-append xs ys

all_opened : (keys : List Key) → not_opened (map (λ k. Opened k) keys) ≡ 0
all_opened [] = refl
all_opened (k ∷ ks) = all_opened ks

all_closed : (keys : List Key) → not_opened (map (λ k. Closed k) keys) ≡ 0
all_closed [] = refl
all_closed (k ∷ ks) = all_closed ks

only_shut : (b c : Bool) → not_opened (shutting b c) ≡ 0
only_shut true c = refl
only_shut false true = refl
only_shut false false = refl

failed_after : (ks : List Key) (failed : Option Key) → not_opened (map (λ k. Opened k) ks ++ failing failed) ≡ not_opened (failing failed)
failed_after ks failed = let parts = not_opened-append (map (λ k. Opened k) ks) (failing failed) in let a = all_opened ks in omega arith

-- by one entry
fails_by : (s : State) (e : Entry) → not_opened (key_calls s e) ≡ failures (e ∷ [])
fails_by s (Made d i n None) = failed_after (fresh_keys (keys_in s.pairs) (take n (keys_for Instance i (slice_get s.drafts d)))) None
fails_by s (Made d i n (Some key)) = failed_after (fresh_keys (keys_in s.pairs) (take n (keys_for Instance i (slice_get s.drafts d)))) (Some key)
fails_by s (Started d a n None) = failed_after (fresh_keys (keys_in s.pairs) (take n (keys_for App a (slice_get s.drafts d)))) None
fails_by s (Started d a n (Some key)) = failed_after (fresh_keys (keys_in s.pairs) (take n (keys_for App a (slice_get s.drafts d)))) (Some key)
fails_by s (Stopped d a) = all_closed (reverse (fresh_keys (keys_in (without_holder (part_of App d a) s.pairs)) (keys_of (part_of App d a) s.pairs)))
fails_by s (Cleaned d i) = all_closed (reverse (fresh_keys (keys_in (without_holder (part_of Instance d i) s.pairs)) (keys_of (part_of Instance d i) s.pairs)))
fails_by s e = refl

failures-cons : (e : Entry) (es : List Entry) → failures (e ∷ es) ≡ failures (e ∷ []) + failures es
failures-cons (Made d i n None) es = omega arith
failures-cons (Made d i n (Some key)) es = omega arith
failures-cons (Started d a n None) es = omega arith
failures-cons (Started d a n (Some key)) es = omega arith
failures-cons e es = omega arith

fails_from : (s : State) (log : List Entry) → not_opened (calls_from s log) ≡ failures log
fails_from s [] = refl
fails_from s (e ∷ es) =
    let whole = not_opened-append (entry_calls s e) (calls_from (after s e) es) in
    let parts = not_opened-append (key_calls s e) (shutting (is_shut s) (is_shut (after s e))) in
    let here = fails_by s e in
    let shut = only_shut (is_shut s) (is_shut (after s e)) in
    let rest = fails_from (after s e) es in
    let more = failures-cons e es in
    omega arith

-- an opening fails for each entry with a failed key
pub failures-count : (log : List Entry) → not_opened (fixture_calls log) ≡ failures log
failures-count log = fails_from opening_state log
