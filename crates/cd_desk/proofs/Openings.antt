-- What a desk stands for after an instance is made, or an app is started.
use Rattle.std.proofs.Common.{◌≡◌, ℕ, zero, suc, ◌+◌, ◌<◌, true, false, List, [], ◌∷◌, ◌++◌, length, take, map, refl, sym, ap, ◌∙◌, arith, Some, None, Ok, Err, Option, Result, slice_get, subst, eq-eqb, is_some, is_err, reverse, min}
use Rattle.std.proofs.lemmas.List.{append-nil}
use Rattle.std.proofs.Math.Seq.{take-append_seam}
use Rattle.cd_outside.specs.declared.key.Key.{Key}
use Rattle.cd_outside.specs.declared.fixtures.FixtureCall.{FixtureCall}
use Rattle.cd_outside.specs.FixtureCall.{CallsGrow}
use Rattle.cd_outside.specs.Counts.{count_end}
use Rattle.cd_outside.specs.Keys.{keys_in, pairs_for}
use Rattle.cd_outside.proofs.KeyLemmas.{key_eq-same}
use Rattle.cd_pool.specs.declared.lease.Leased.{Leased}
use Rattle.cd_pool.specs.Pairs.{pairs}
use Rattle.cd_legal.specs.declared.part.Part.{Part}
use Rattle.cd_legal.specs.declared.part.Part.TheVariants.{Instance, App}
use Rattle.cd_legal.specs.declared.entry.Entry.{Entry}
use Rattle.cd_legal.specs.declared.entry.Entry.TheVariants.{Made, Started}
use Rattle.cd_legal.specs.declared.plan.Plan.{Plan}
use Rattle.cd_legal.specs.declared.state.State.{State}
use Rattle.cd_legal.specs.declared.state.Drafted.{Drafted}
use Rattle.cd_legal.specs.State.{holds, change_at, keys_at, part_keys, keys_for, part_of, opened_in, instances_ready, one_opened}
use Rattle.cd_legal.specs.Legal.{allowed, after, keys_fit, part_opened, may_open}
use Rattle.cd_legal.specs.Calls.{entry_calls, takings, failing}
use Rattle.cd_legal.specs.Begins.{begins_by}
use Rattle.cd_legal.specs.Whole.{is_closed_in}
use Rattle.cd_legal.proofs.Places.{length_change}
use Rattle.cd_legal.proofs.Facts.{opens-by}
use Rattle.cd_desk.specs.declared.row.Row.{Row}
use Rattle.cd_desk.specs.declared.books.Books.{Books}
use Rattle.cd_desk.specs.declared.desk.Desk.{Desk}
use Rattle.cd_desk.specs.Instances.{Ends, failed_of}
use Rattle.cd_desk.specs.Rows.{Shows, ShowsAt, line_at, row_with}
use Rattle.cd_desk.specs.Books.{HasRowAt, CanOpen, Opens, other}
use Rattle.cd_desk.specs.Desks.{Agrees}
use Rattle.cd_desk.specs.Opening.{CanOpenOf, OpensEntry, IsReady, opening_entry}
use Rattle.cd_legal.specs.declared.state.Life.TheVariants.{Live}
use Rattle.cd_desk.proofs.Wholes.{live_whole}
use Rattle.cd_desk.proofs.Keeping.{calls_join}
use Rattle.cd_desk.proofs.Lists.{same_at}
use Rattle.cd_desk.proofs.Numbers.{at_place, number_of, none_before}
use Rattle.cd_desk.proofs.Parts.{line_part, line_plan}
use Rattle.cd_desk.proofs.Standing.{Known, Steps, Shown, shown_at, adds, rows_after, closed_stays, plain_calls}

slice_get-seam : {A : Type 0} (xs ys : List A) (y : A) → slice_get (xs ++ y ∷ ys) (length xs) ≡ Some y
slice_get-seam [] ys y = refl
slice_get-seam (x ∷ xs) ys y = slice_get-seam xs ys y

-- what was taken fits the plan
fit : (had keys done : List Key) (result : Result (Unit {0}) Key) (old : List Leased) → had ≡ keys_in (pairs old) → Ends keys done old result → keys_fit had keys (length done) (failed_of result) ≡ true
fit had keys done (Ok u) old e ends = eq-eqb (length done) (length keys) (ap length (sym ends))
fit had keys done (Err key) old e ends =
    let at : slice_get keys (length done) ≡ Some key = ap (λ z. slice_get z (length done)) ends.1 ∙ slice_get-seam done ends.0 key in
    let front : take (length done) keys ≡ done = ap (take (length done)) ends.1 ∙ take-append_seam done (key ∷ ends.0) in
    rw (at, key_eq-same key, front, e, ends.2) refl

taken_keys : (keys done : List Key) (result : Result (Unit {0}) Key) (old : List Leased) → Ends keys done old result → take (length done) keys ≡ done
taken_keys keys done (Ok u) old ends = ap (take (length done)) ends ∙ (ap (take (length done)) (sym (append-nil done)) ∙ take-append_seam done [])
taken_keys keys done (Err key) old ends = ap (take (length done)) ends.1 ∙ take-append_seam done (key ∷ ends.0)

pub none_is : (o : Option Key) → is_some o ≡ false → o ≡ None
none_is None e = refl
none_is (Some k) e = cc

failed_is : (result : Result (Unit {0}) Key) → is_some (failed_of result) ≡ is_err result
failed_is (Ok u) = refl
failed_is (Err k) = refl

-- the keys at a place that is there
keys_there : (keys : List (List Key)) (i : ℕ) → i < length keys → slice_get keys i ≡ Some (keys_at keys i)
keys_there [] i lt = absurd (omega arith)
keys_there (k ∷ keys) zero lt = refl
keys_there (k ∷ keys) (suc i) lt = keys_there keys i (omega arith)

shows_count : (p : Part) (retired : List ℕ) (r : Row) (x : Drafted) → Shows retired r x → opened_in p x ≡ (line_at p r).opened
shows_count Instance retired r x sh = sh.made
shows_count App retired r x sh = sh.started

pub length_map : {A B : Type 0} (f : A → B) (xs : List A) → length (map f xs) ≡ length xs
length_map f [] = refl
length_map f (x ∷ xs) = ap suc (length_map f xs)

ready_is : (p : Part) (retired : List ℕ) (r : Row) (x : Drafted) → r.life ≡ Live → Shows retired r x → IsReady p r → instances_ready p x ≡ true
ready_is Instance retired r x live sh ready = refl
ready_is App retired r x live sh ready =
    eq-eqb x.made (length x.plan.modules)
    (sh.made ∙ (ready ∙ (sym (live_whole Instance r live) ∙ (ap (λ z. length (part_keys z r.modules.plan.value)) r.instances ∙ (ap (λ (z : Plan). length (part_keys Instance z)) (r.modules_plan ∙ sym sh.plan) ∙ length_map (λ m. m.keys) x.plan.modules)))))

-- the row of an opening shows the draft
shows_opened : (p : Part) (retired : List ℕ) (r t : Row) (x : Drafted) (result : Result (Unit {0}) Key) → Shows retired r x → t.tree ≡ r.tree → t.plan ≡ r.plan → (line_at p t).opened ≡ (line_at p r).opened + 1 → (line_at p t).ended ≡ (line_at p r).ended → line_at (other p) t ≡ line_at (other p) r
    → t.failed ≡ is_err result → t.life ≡ r.life → t.retired ≡ r.retired → Shows retired t (one_opened p (failed_of result) x)
shows_opened Instance retired r t x result sh tree plan opened ended others failed life over = record {
  tree = sh.tree ∙ ap (λ z. z.value) (sym tree);
  plan = sh.plan ∙ ap (λ z. z.value) (sym plan);
  made = ap (λ (z : ℕ). z + 1) sh.made ∙ sym opened;
  started = sh.started ∙ ap (λ z. z.opened) (sym others);
  failed = failed_is result ∙ sym failed;
  life = sh.life ∙ sym life;
  stopped = sh.stopped ∙ ap (λ z. z.ended) (sym others);
  cleaned = sh.cleaned ∙ sym ended;
  over = sh.over ∙ sym over;
}
shows_opened App retired r t x result sh tree plan opened ended others failed life over = record {
  tree = sh.tree ∙ ap (λ z. z.value) (sym tree);
  plan = sh.plan ∙ ap (λ z. z.value) (sym plan);
  made = sh.made ∙ ap (λ z. z.opened) (sym others);
  started = ap (λ (z : ℕ). z + 1) sh.started ∙ sym opened;
  failed = failed_is result ∙ sym failed;
  life = sh.life ∙ sym life;
  stopped = sh.stopped ∙ sym ended;
  cleaned = sh.cleaned ∙ ap (λ z. z.ended) (sym others);
  over = sh.over ∙ sym over;
}

-- what an entry for this part is, asks, leaves and calls
entry_may : (p : Part) (s : State) (d i taken : ℕ) (failed : Option Key) → allowed s (opening_entry p d i taken failed) ≡ holds (may_open p i taken failed s.pairs) (slice_get s.drafts d)
entry_may Instance s d i taken failed = refl
entry_may App s d i taken failed = refl

entry_after : (p : Part) (s : State) (d i taken : ℕ) (failed : Option Key) → after s (opening_entry p d i taken failed) ≡ part_opened p d i taken failed s
entry_after Instance s d i taken failed = refl
entry_after App s d i taken failed = refl

entry_told : (p : Part) (s : State) (d i taken : ℕ) (failed : Option Key) → allowed s (opening_entry p d i taken failed) ≡ true → Known s → entry_calls s (opening_entry p d i taken failed) ≡ takings s.pairs (take taken (keys_for p i (slice_get s.drafts d))) ++ failing failed
entry_told Instance s d i taken failed may known = plain_calls s (Made d i taken failed) may known.steady refl
entry_told App s d i taken failed may known = plain_calls s (Started d i taken failed) may known.steady refl

entry_begun : (p : Part) (d i taken : ℕ) (failed : Option Key) (count : ℕ) → begins_by count (opening_entry p d i taken failed) ≡ count
entry_begun Instance d i taken failed count = refl
entry_begun App d i taken failed count = refl

-- what the opening at a place asks for
pub can_open : (p : Part) (b : Books) (d place : ℕ) → CanOpenOf p b d → HasRowAt b d place → CanOpen p b place
can_open p b d place can at = (can.row, at_place b d can.place place can.row can.at at, can.left, can.unended)

module _ {F : Type 0} (calls : F → Option (List FixtureCall)) where
  opens : (p : Part) (v : Desk F) (fixtures : F) (books : Books) (d place : ℕ) (result : Result (Unit {0}) Key) (can : CanOpenOf p v.books d) → HasRowAt v.books d place → (o : Opens p place v.books books (calls v.fixtures) (calls fixtures) result)
      → Steps calls v (record v { fixtures = fixtures; books = books }) (opening_entry p d (line_at p o.changes.was).opened (length o.opens.takes.0) (failed_of result))
  opens p v fixtures books d place result can at o opening s told count known a =
      let w : Desk F = record v { fixtures = fixtures; books = books } in
      let r : Row = o.changes.was in
      let t : Row = o.changes.is in
      let i : ℕ = (line_at p r).opened in
      let failed : Option Key = failed_of result in
      let done : List Key = o.opens.takes.0 in
      let e : Entry = opening_entry p d i (length done) failed in
      let number : d ≡ r.number = number_of v.books books d place o.changes at in
      let row_is : can.row ≡ r = same_at v.books.rows.items place can.row r (at_place v.books d can.place place can.row can.at at) o.changes.there in
      let sh : Shown s.retired r (slice_get s.drafts d) = shown_at calls opening v s told count a d place r number o.changes.there in
      let x : Drafted = sh.draft in
      let there : slice_get s.drafts d ≡ Some x = sh.is in
      let live : r.life ≡ Live = ap (λ (z : Row). z.life) (sym row_is) ∙ can.live in
      let wait = (line_at p r).wait i o.opens.was o.opens.there (omega arith) in
      let keys : List Key = keys_at (part_keys p x.plan) i in
      let plan_is : part_keys (line_at p r).part (line_at p r).plan.value ≡ part_keys p x.plan = ap (λ z. part_keys z (line_at p r).plan.value) (line_part p r) ∙ ap (part_keys p) (line_plan p r ∙ sym sh.shows.plan) in
      let keys_are : reverse o.opens.was.waiting.items ≡ keys = wait.0 ∙ ap (λ z. keys_at z i) plan_is in
      let left : (line_at p r).opened < length (line_at p r).parts.items = subst (λ (z : Row). (line_at p z).opened < length (line_at p z).parts.items) row_is can.left in
      let many : length (part_keys p x.plan) ≡ length (line_at p r).parts.items = ap length (sym plan_is) ∙ live_whole p r live in
      let ends : Ends keys done v.books.pool.held result = subst (λ z. Ends z done v.books.pool.held result) keys_are o.opens.takes.1 in
      let fits : holds (λ k. keys_fit (keys_in s.pairs) k (length done) failed) (slice_get (part_keys p x.plan) i) ≡ true =
      ap (holds (λ k. keys_fit (keys_in s.pairs) k (length done) failed)) (keys_there (part_keys p x.plan) i (omega arith)) ∙ fit (keys_in s.pairs) keys done result v.books.pool.held (ap keys_in a.pairs) ends in
      let passes : may_open p i (length done) failed s.pairs x ≡ true =
      opens-by p i (length done) failed s.pairs x (record {
        opened = record { live = sh.shows.life ∙ live; unfailed = none_is x.failed (sh.shows.failed ∙ (ap (λ z. z.failed) (sym row_is) ∙ can.unfailed)) };
        ready = ready_is p s.retired r x live sh.shows (subst (λ z. IsReady p z) row_is can.ready);
        next = sym (shows_count p s.retired r x sh.shows);
        fit = fits;
      }) in
      let may : allowed s e ≡ true = entry_may p s d i (length done) failed ∙ (ap (holds (may_open p i (length done) failed s.pairs)) there ∙ passes) in
      let taken : take (length done) (keys_for p i (slice_get s.drafts d)) ≡ done = ap (λ z. take (length done) (keys_for p i z)) there ∙ taken_keys keys done result v.books.pool.held ends in
      let holder : part_of (line_at p r).part r.number i ≡ part_of p d i = ap (λ z. part_of z r.number i) (line_part p r) ∙ ap (λ z. part_of p z i) (sym number) in
      let its : entry_calls s e ≡ takings s.pairs done ++ failing failed = entry_told p s d i (length done) failed may known ∙ ap (λ z. takings s.pairs z ++ failing failed) taken in
      let f : Drafted → Drafted = one_opened p failed in (
        may,
        subst (λ z. Agrees calls opening w z (told ++ entry_calls s e) (begins_by count e)) (sym (entry_after p s d i (length done) failed))
            (record {
              serial = a.serial;
              halted = a.halted;
              begun = ap (λ (z : ℕ). min z count_end) (entry_begun p d i (length done) failed count) ∙ a.begun;
              drafts = length_change f s.drafts d ∙ (a.drafts ∙ sym o.changes.next);
              rows = λ j. subst (λ z. ShowsAt s.retired (row_with j z) (slice_get (change_at f d s.drafts) j)) (sym o.changes.rows)
                  (rows_after s.retired v.books.rows.items s.drafts f d v.books.next place r t x v.books.numbers o.changes.there o.changes.number number sh.is (shows_opened p s.retired r t x result sh.shows o.changes.tree o.changes.plan o.opens.opened o.opens.ended o.others o.failed o.life o.retired) a.rows j);
              closed = λ j lt none. subst (λ z. is_closed_in z j ≡ true) (entry_after p s d i (length done) failed)
                  (closed_stays s e j may (a.closed j (subst (λ z. j < z) o.changes.next lt) (none_before j 0 v.books.rows.items v.books.next place r t v.books.numbers o.changes.there o.changes.number (subst (λ z. row_with j z ≡ None) o.changes.rows none))));
              retired = a.retired;
              opening_retired = a.opening_retired;
              pairs = ap (λ z. s.pairs ++ pairs_for (part_of p d i) z) taken ∙ (ap (λ z. z ++ pairs_for (part_of p d i) done) a.pairs ∙ (ap (λ z. pairs v.books.pool.held ++ pairs_for z done) (sym holder) ∙ sym o.opens.takes.2.added));
              tickets = a.tickets;
              at_serial = a.at_serial;
              callers = a.callers;
              told_on = subst (λ z. CallsGrow (calls opening.fixtures) (told ++ z) (calls fixtures)) (sym its)
                  (calls_join (calls opening.fixtures) (calls v.fixtures) (calls fixtures) told (takings s.pairs done ++ failing failed) a.told_on (subst (λ z. CallsGrow (calls v.fixtures) (takings z done ++ failing failed) (calls fixtures)) (sym a.pairs) o.opens.takes.2.calls));
            }),
      )

  pub opens_entry : (p : Part) (v : Desk F) (fixtures : F) (books : Books) (d place : ℕ) (result : Result (Unit {0}) Key) (can : CanOpenOf p v.books d) → HasRowAt v.books d place → (o : Opens p place v.books books (calls v.fixtures) (calls fixtures) result)
      → OpensEntry calls p v (record v { fixtures = fixtures; books = books }) d result
  opens_entry p v fixtures books d place result can at o = record { place = place; at = at; opens = o; adds = adds calls v _ _ (opens p v fixtures books d place result can at o) }
