-- The serials of a legal history: who has them, and that they are retired once.
use Rattle.std.proofs.Common.{◌≡◌, ◌≤◌, ◌<◌, ◌⊎◌, inl, inr, ℕ, zero, suc, ◌+◌, ◌==◌, Bool, true, false, cond, List, [], ◌∷◌, ◌++◌, length, slice_get, Option, Some, None, option_map, refl, sym, ap, subst, ◌∙◌, ⊎_elim, arith, length-append, eq-eqb}
use Rattle.std.specs.Prelude.{◌||◌}
use Rattle.std.proofs.lemmas.Bool.{eqb-true}
use Rattle.std.proofs.lemmas.Bool.Decides.{eqb_tells}
use mathlib.Core.List.{IsPrefix}
use Rattle.cd_legal.specs.declared.part.Part.TheVariants.{Instance, App}
use Rattle.cd_legal.specs.declared.entry.Change.{Change}
use Rattle.cd_legal.specs.declared.entry.Entry.{Entry}
use Rattle.cd_legal.specs.declared.entry.Entry.TheVariants.{Draft, Made, Started, Publish, Abandon, Stopped, Retire, Cleaned, Halt}
use Rattle.cd_legal.specs.declared.entry.Signed.{Signed}
use Rattle.cd_legal.specs.declared.state.State.{State}
use Rattle.cd_legal.specs.declared.state.Drafted.{Drafted}
use Rattle.cd_legal.specs.declared.state.Life.{Life}
use Rattle.cd_legal.specs.declared.state.Life.TheVariants.{Live, Published, Abandoned}
use Rattle.cd_legal.specs.Entry.{entries}
use Rattle.cd_legal.specs.State.{opening_state, holds, has_number, change_at, is_live, draft_of}
use Rattle.cd_legal.specs.Legal.{allowed, after, legal, legal_from, state_from, state_of, state_at, IsLegal, may_open, may_stop, may_clean, is_complete}
use Rattle.cd_legal.specs.Serials.{has_serial, has_serial_in, times, publishings}
use Rattle.cd_legal.proofs.Histories.{first, second, along}
use Rattle.cd_legal.proofs.Logs.{state-append, legal-back}
use Rattle.cd_legal.proofs.Places.{get_change_same, get_change_other, holds_made}
use Rattle.cd_legal.proofs.Lives.{complete}
use Rattle.cd_legal.proofs.Facts.{Publishes, Retires, Halts, completes, can}
use Rattle.cd_legal.proofs.Fresh.{serial_rises}

-- ---- the serial

-- the serials of the published drafts, and that of the halt
abbrev pub IsCounted : State → Type 0
IsCounted s = length s.published + cond s.halted 1 0 ≡ s.serial

none_halted : (b : Bool) → b ≡ false → cond {A = ℕ} b 1 0 ≡ 0
none_halted true is = cc
none_halted false is = refl

-- before the halt the serial is the number of published drafts
pub count_running : (s : State) → s.halted ≡ false → IsCounted s → length s.published ≡ s.serial
count_running s free is = let none = none_halted s.halted free in omega arith

counted : (s : State) (e : Entry) → allowed s e ≡ true → IsCounted s → IsCounted (after s e)
counted s (Publish d n from c) may is =
    let f : Publishes s d n from = can s (Publish d n from c) may in
    let none = none_halted s.halted f.running in
    let more = length-append s.published (d ∷ []) in
    omega (arith, f.current, f.next)
counted s (Halt n) may is =
    let f : Halts s n = can s (Halt n) may in
    let none = none_halted s.halted f.running in
    omega (arith, f.next)
counted s e may is = is

-- the serial of a legal history is the number of its published drafts, and one more once it has halted
pub published-count : (log : List Entry) → legal log ≡ true → IsCounted (state_of log)
published-count log legal = along IsCounted counted opening_state log legal refl

rises_from : (s : State) (log : List Entry) → legal_from s log ≡ true → s.serial ≤ (state_from s log).serial
rises_from s [] legal = omega arith
rises_from s (e ∷ es) legal =
    let here = serial_rises s e (first (allowed s e) _ legal) in
    let rest = rises_from (after s e) es (second (allowed s e) _ legal) in
    omega arith

-- it never falls
pub serial-rises : (front log : List Signed) → IsPrefix front log → IsLegal log → (state_at front).serial ≤ (state_at log).serial
serial-rises front log p is =
    let whole : IsLegal (front ++ p.0) = subst (λ (z : List Signed). IsLegal z) (sym p.1) is in
    let rest = rises_from (state_at front) (entries p.0) (legal-back front p.0 whole) in
    let end = ap (λ (s : State). s.serial) (state-append front p.0) in
    let same = ap (λ (z : List Signed). (state_at z).serial) p.1 in
    omega arith

-- ---- lists

-- an element of a list with one more at its end
pub get_push : {A : Type 0} (xs : List A) (y d : A) (n : ℕ) → slice_get (xs ++ y ∷ []) n ≡ Some d → (slice_get xs n ≡ Some d) ⊎ ((n ≡ length xs) × (y ≡ d))
get_push [] y d zero is = inr (refl, cc)
get_push [] y d (suc n) is = inl is
get_push (x ∷ xs) y d zero is = inl is
get_push (x ∷ xs) y d (suc n) is = ⊎_elim (λ q. inl q) (λ q. inr (ap suc q.0, q.1)) (get_push xs y d n is)

-- the last one
pub get_last : {A : Type 0} (xs : List A) (y : A) → slice_get (xs ++ y ∷ []) (length xs) ≡ Some y
get_last [] y = refl
get_last (x ∷ xs) y = get_last xs y

-- those before it
pub get_stays : {A : Type 0} (xs ys : List A) (d : A) (n : ℕ) → slice_get xs n ≡ Some d → slice_get (xs ++ ys) n ≡ Some d
get_stays [] ys d n is = cc
get_stays (x ∷ xs) ys d zero is = is
get_stays (x ∷ xs) ys d (suc n) is = get_stays xs ys d n is

draft_stays : (xs ys : List ℕ) (d n : ℕ) → draft_of n xs ≡ Some d → draft_of n (xs ++ ys) ≡ Some d
draft_stays xs ys d zero is = cc
draft_stays xs ys d (suc n) is = get_stays xs ys d n is

-- ---- drafts and their serials

-- a change at one place that the test doesn't see
pub holds_same : {A : Type 0} (test may : A → Bool) (f : A → A) → ((x : A) → may x ≡ true → test (f x) ≡ test x) → (xs : List A) (j d : ℕ) → holds may (slice_get xs j) ≡ true → holds test (slice_get (change_at f j xs) d) ≡ holds test (slice_get xs d)
holds_same test may f same [] j d m = refl
holds_same test may f same (x ∷ xs) zero zero m = same x m
holds_same test may f same (x ∷ xs) zero (suc d) m = refl
holds_same test may f same (x ∷ xs) (suc j) zero m = refl
holds_same test may f same (x ∷ xs) (suc j) (suc d) m = holds_same test may f same xs j d m

-- a new last element that doesn't pass it
pub holds_push_none : {A : Type 0} (test : A → Bool) (y : A) → test y ≡ false → (xs : List A) (d : ℕ) → holds test (slice_get (xs ++ y ∷ []) d) ≡ holds test (slice_get xs d)
holds_push_none test y none [] zero = none
holds_push_none test y none [] (suc d) = refl
holds_push_none test y none (x ∷ xs) zero = refl
holds_push_none test y none (x ∷ xs) (suc d) = holds_push_none test y none xs d

-- a live draft has no serial
pub live_none : (l : Life) (n : ℕ) → is_live l ≡ true → has_serial n l ≡ false
live_none Live n live = refl
live_none (Published m) n live = cc
live_none Abandoned n live = cc

abbrev pub is_publish : Entry → Bool
is_publish (Publish d n from c) = true
is_publish e = false

-- only a Publish gives a draft a serial
pub same_serial : (s : State) (e : Entry) (n d : ℕ) → allowed s e ≡ true → is_publish e ≡ false → has_serial_in (after s e) n d ≡ has_serial_in s n d
same_serial s (Draft j tree plan) n d may is = holds_push_none (λ x. has_serial n x.life) _ refl s.drafts d
same_serial s (Made j i taken failed) n d may is = holds_same (λ x. has_serial n x.life) (may_open Instance i taken failed s.pairs) _ (λ x m. refl) s.drafts j d may
same_serial s (Started j a taken failed) n d may is = holds_same (λ x. has_serial n x.life) (may_open App a taken failed s.pairs) _ (λ x m. refl) s.drafts j d may
same_serial s (Publish j m from c) n d may is = cc
same_serial s (Abandon j) n d may is = holds_same (λ x. has_serial n x.life) (λ x. is_live x.life) _ (λ x m. sym (live_none x.life n m)) s.drafts j d may
same_serial s (Stopped j a) n d may is = holds_same (λ x. has_serial n x.life) (may_stop a s.serial) _ (λ x m. refl) s.drafts j d may
same_serial s (Cleaned j i) n d may is = holds_same (λ x. has_serial n x.life) (may_clean i s.retired) _ (λ x m. refl) s.drafts j d may
same_serial s e n d may is = refl

-- the drafts by their serials, and the serials of the drafts, are the same
pub record Agree (s : State) : Type 0 where
  pub count : IsCounted s
  pub lives : (n d : ℕ) → draft_of n s.published ≡ Some d → has_serial_in s n d ≡ true
  pub published : (n d : ℕ) → has_serial_in s n d ≡ true → draft_of n s.published ≡ Some d

-- a published draft has its serial, after another Publish too
module _ (s : State) (j m from : ℕ) (c : Change) (may : allowed s (Publish j m from c) ≡ true) (a : Agree s) where
  next : m ≡ suc (length s.published)
  next =
      let f : Publishes s j m from = can s (Publish j m from c) may in
      let was = count_running s f.running a.count in
      omega (arith, f.current, f.next)

  old_kept : (n d : ℕ) → has_serial_in s n d ≡ true → has_serial_in (after s (Publish j m from c)) n d ≡ true
  old_kept n d had = ⊎_elim
      (λ q. absurd (let none : has_serial_in s n d ≡ false = ap (λ (z : ℕ). has_serial_in s n z) q.1 ∙ live_here n in let e : true ≡ false = sym had ∙ none in cc))
      (λ q. ap (holds (λ x. has_serial n x.life)) (get_change_other (λ x. record x { life = Published m }) s.drafts j d q.1) ∙ had) (eqb_tells d j)
    where
      of_live : (n : ℕ) (o : Option Drafted) → holds is_complete o ≡ true → holds (λ x. has_serial n x.life) o ≡ false
      of_live n None m = cc
      of_live n (Some x) m = live_none x.life n (ap is_live (completes x m).opened.live)

      live_here : (n : ℕ) → has_serial_in s n j ≡ false
      live_here n = of_live n (slice_get s.drafts j) (complete s j m from c may)

  new_lives : (n d : ℕ) → draft_of n (s.published ++ j ∷ []) ≡ Some d → has_serial_in (after s (Publish j m from c)) n d ≡ true
  new_lives zero d is = cc
  new_lives (suc n) d is = ⊎_elim
      (λ q. old_kept (suc n) d (a.lives (suc n) d q))
      (λ q. ap (λ (z : ℕ). has_serial_in (after s (Publish j m from c)) (suc n) z) (sym q.1)
      ∙ holds_made (λ x. has_serial (suc n) x.life) is_complete (λ x. record x { life = Published m }) (λ x w. eq-eqb m (suc n) (next ∙ ap suc (sym q.0))) s.drafts j (complete s j m from c may))
      (get_push s.published j d n is)

  there : (n : ℕ) (o : Option Drafted) → holds is_complete o ≡ true → holds (λ x. has_serial n x.life) (option_map {T = Drafted} {U = Drafted} (λ x. record x { life = Published m }) o) ≡ (m == n)
  there n None w = cc
  there n (Some x) w = refl

  new_published : (n d : ℕ) → has_serial_in (after s (Publish j m from c)) n d ≡ true → draft_of n (s.published ++ j ∷ []) ≡ Some d
  new_published n d is = ⊎_elim
      (λ q. let here : has_serial_in (after s (Publish j m from c)) n j ≡ true = ap (λ (z : ℕ). has_serial_in (after s (Publish j m from c)) n z) (sym q.1) ∙ is in
      let same : m ≡ n = eqb-true m n (sym (there n (slice_get s.drafts j) (complete s j m from c may)) ∙ (ap (holds (λ x. has_serial n x.life)) (sym (get_change_same (λ x. record x { life = Published m }) s.drafts j)) ∙ here)) in
      ap (λ (z : ℕ). draft_of z (s.published ++ j ∷ [])) (sym same ∙ next) ∙ (get_last s.published j ∙ ap (λ (z : ℕ). Some z) (sym q.1)))
      (λ q. draft_stays s.published (j ∷ []) d n (a.published n d (ap (holds (λ x. has_serial n x.life)) (sym (get_change_other (λ x. record x { life = Published m }) s.drafts j d q.1)) ∙ is))) (eqb_tells d j)

pub agree : (s : State) (e : Entry) → allowed s e ≡ true → Agree s → Agree (after s e)
agree s (Publish j m from c) may a = record {
  count = counted s (Publish j m from c) may a.count;
  lives = new_lives s j m from c may a;
  published = new_published s j m from c may a;
}
agree s e may a = record {
  count = counted s e may a.count;
  lives = λ n d is. same_serial s e n d may refl ∙ a.lives n d is;
  published = λ n d is. a.published n d (sym (same_serial s e n d may refl) ∙ is);
}

no_draft : (n d : ℕ) → draft_of n [] ≡ Some d → false ≡ true
no_draft zero d is = cc
no_draft (suc n) d is = cc

pub opening_agrees : Agree opening_state
opening_agrees = record {
  count = refl;
  lives = λ n d is. no_draft n d is;
  published = λ n d is. cc;
}

-- so in each legal history
pub legal-agree : (log : List Entry) → legal log ≡ true → Agree (state_of log)
legal-agree log legal = along Agree agree opening_state log legal opening_agrees

-- ---- retired serials

times_one : (b : Bool) → cond {A = ℕ} b (suc 0) 0 ≡ cond b 1 0 + 0
times_one true = omega arith
times_one false = omega arith

times_more : (a b : Bool) (x y : ℕ) → x ≡ cond b 1 0 + y → cond a (suc x) x ≡ cond b 1 0 + cond a (suc y) y
times_more true b x y is = omega arith
times_more false b x y is = is

times-push : (n : ℕ) (ms : List ℕ) (m : ℕ) → times n (ms ++ m ∷ []) ≡ cond (n == m) 1 0 + times n ms
times-push n [] m = times_one (n == m)
times-push n (l ∷ ms) m = times_more (n == l) (n == m) (times n (ms ++ m ∷ [])) (times n ms) (times-push n ms m)

times_if : (b : Bool) (n : ℕ) (has : Bool) → (has ≡ false → n ≡ 0) → (b || has) ≡ false → cond b (suc n) n ≡ 0
times_if true n has none is = cc
times_if false n has none is = none is

-- a number that is not among them
pub times-none : (n : ℕ) (ms : List ℕ) → has_number n ms ≡ false → times n ms ≡ 0
times-none n [] is = refl
times-none n (m ∷ ms) is = times_if (n == m) (times n ms) (has_number n ms) (times-none n ms) is

-- each serial is retired once
abbrev IsRetiredOnce : State → Type 0
IsRetiredOnce s = (n : ℕ) → times n s.retired ≤ 1

new_one : (b : Bool) (z : ℕ) → (b ≡ true → z ≡ 0) → z ≤ 1 → cond b 1 0 + z ≤ 1
new_one true z none le = let e = none refl in omega arith
new_one false z none le = omega arith

once : (s : State) (e : Entry) → allowed s e ≡ true → IsRetiredOnce s → IsRetiredOnce (after s e)
once s (Retire m) may le = λ n.
    let free = (can s (Retire m) may).unretired in
    subst (λ (z : ℕ). z ≤ 1) (sym (times-push n s.retired m))
    (new_one (n == m) (times n s.retired) (λ is. times-none n s.retired (ap (λ (z : ℕ). has_number z s.retired) (eqb-true n m is) ∙ free)) (le n))
once s e may le = le

pub retired-once : (log : List Entry) (n : ℕ) → legal log ≡ true → times n (state_of log).retired ≤ 1
retired-once log n legal = along IsRetiredOnce once opening_state log legal (λ m. omega arith) n

-- and it is superseded
abbrev IsRetiredBelow : State → Type 0
IsRetiredBelow s = (n : ℕ) → has_number n s.retired ≡ true → n < s.serial

either : (b c : Bool) → (b || c) ≡ true → (b ≡ true) ⊎ (c ≡ true)
either true c is = inl refl
either false c is = inr is

has-push : (n : ℕ) (ms : List ℕ) (m : ℕ) → has_number n (ms ++ m ∷ []) ≡ true → (has_number n ms ≡ true) ⊎ (n ≡ m)
has-push n [] m is = ⊎_elim (λ q. inr (eqb-true n m q)) (λ q. inl q) (either (n == m) false is)
has-push n (l ∷ ms) m is = ⊎_elim
    (λ q. inl (ap (λ (b : Bool). b || has_number n ms) q))
    (λ q. ⊎_elim (λ r. inl (or_else (n == l) (has_number n ms) r)) (λ r. inr r) (has-push n ms m q)) (either (n == l) (has_number n (ms ++ m ∷ [])) is)
  where
    or_else : (b c : Bool) → c ≡ true → (b || c) ≡ true
    or_else true c is = refl
    or_else false c is = is

below : (s : State) (e : Entry) → allowed s e ≡ true → IsRetiredBelow s → IsRetiredBelow (after s e)
below s (Retire m) may low = λ n is. ⊎_elim (λ q. low n q) (λ q. let f : Retires s m = can s (Retire m) may in omega (arith, q, f.superseded)) (has-push n s.retired m is)
below s e may low = λ n is. let up = serial_rises s e may in let had = low n is in omega arith

pub retired-below : (log : List Entry) (n : ℕ) → legal log ≡ true → has_number n (state_of log).retired ≡ true → n < (state_of log).serial
retired-below log n legal is = along IsRetiredBelow below opening_state log legal (λ m e. absurd (let h : false ≡ true = e in cc)) n is

-- ---- how often the entries publish

publishes_from : (s : State) (log : List Entry) → length (state_from s log).published ≡ length s.published + publishings log
publishes_from s [] = omega arith
publishes_from s (Publish d n from c ∷ es) = let rest = publishes_from (after s (Publish d n from c)) es in let more = length-append s.published (d ∷ []) in omega arith
publishes_from s (e ∷ es) = publishes_from (after s e) es

-- as many drafts are published
pub publishes-count : (log : List Entry) → length (state_of log).published ≡ publishings log
publishes-count log = let all = publishes_from opening_state log in omega arith
