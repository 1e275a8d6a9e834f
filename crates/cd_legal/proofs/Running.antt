-- Each pair's holder is begun, and not ended.
use Rattle.std.proofs.Common.{◌≡◌, ◌≢◌, ℕ, ◌+◌, ◌==◌, Bool, true, false, ◌&&◌, cond, nat_lt, List, [], ◌∷◌, ◌++◌, take, slice_get, Option, refl, sym, ap, ◌∙◌, ⊎_elim, arith, eq-eqb}
use Rattle.std.specs.List.{list_all}
use Rattle.std.proofs.lemmas.Bool.Decides.{nat_tests, eqb_tells}
use Rattle.std.proofs.lemmas.Bool.{eqb-false}
use Rattle.std.proofs.lemmas.List.Folds.{list_all-append}
use Rattle.cd_outside.specs.declared.key.Key.{Key}
use Rattle.cd_outside.specs.declared.holder.Holder.{Holder}
use Rattle.cd_outside.specs.declared.holder.Pair.{Pair}
use Rattle.cd_outside.specs.Keys.{holder_eq, bool_eq, without_holder, pairs_for}
use Rattle.cd_legal.specs.declared.part.Part.{Part}
use Rattle.cd_legal.specs.declared.part.Part.TheVariants.{Instance, App}
use Rattle.cd_legal.specs.declared.entry.Entry.{Entry}
use Rattle.cd_legal.specs.declared.entry.Entry.TheVariants.{Draft, Made, Started, Publish, Abandon, Stopped, Cleaned}
use Rattle.cd_legal.specs.declared.state.State.{State}
use Rattle.cd_legal.specs.declared.state.Drafted.{Drafted}
use Rattle.cd_legal.specs.State.{holds, change_at, is_live, part_of, is_app, keys_for, one_opened, one_ended}
use Rattle.cd_legal.specs.Legal.{allowed, after, legal_from, state_from, part_opened, part_ended, may_open, is_complete}
use Rattle.cd_legal.specs.Steps.{may_end}
use Rattle.cd_legal.proofs.Histories.{both, first, second}
use Rattle.cd_legal.proofs.Facts.{opens, stops, cleans, can}
use Rattle.cd_legal.proofs.Places.{get_change_other, holds_kept, holds_made, holds_push}
use Rattle.cd_legal.proofs.Counting.{made_of}
use Rattle.cd_legal.proofs.Sound.{is_sound, bound_of, are_sound, sound, sound_at, open_whole}
use Rattle.cd_legal.proofs.Ending.{ended_of}

-- the place is made of the draft, and none of the last that are ended
abbrev pub runs : Bool → ℕ → Drafted → Bool
runs app p x = nat_lt (p + ended_of app x) (made_of app x)

-- so of the draft that the holder names
abbrev pub runs_in : Holder → List Drafted → Bool
runs_in h xs = holds (runs h.app h.place) (slice_get xs h.draft)

-- so of the holder of each pair
abbrev pub all_run : List Drafted → List Pair → Bool
all_run xs ps = list_all (λ p. runs_in p.holder xs) ps

-- ---- lists of pairs

-- a change that lets all run on
still_run : (xs ys : List Drafted) → ((h : Holder) → runs_in h xs ≡ true → runs_in h ys ≡ true) → (ps : List Pair) → all_run xs ps ≡ true → all_run ys ps ≡ true
still_run xs ys keeps [] all = refl
still_run xs ys keeps (p ∷ ps) all = both (runs_in p.holder ys) _ (keeps p.holder (first (runs_in p.holder xs) _ all)) (still_run xs ys keeps ps (second (runs_in p.holder xs) _ all))

others_one : (b : Bool) (ys : List Drafted) (p : Pair) (ws : List Pair) → (b ≡ false → runs_in p.holder ys ≡ true) → all_run ys ws ≡ true → all_run ys (cond b ws (p ∷ ws)) ≡ true
others_one true ys p ws here all = all
others_one false ys p ws here all = both (runs_in p.holder ys) _ (here refl) all

-- a change that lets all but one holder run on, whose pairs go
others_run : (g : Holder) (xs ys : List Drafted) → ((h : Holder) → holder_eq g h ≡ false → runs_in h xs ≡ true → runs_in h ys ≡ true) → (ps : List Pair) → all_run xs ps ≡ true → all_run ys (without_holder g ps) ≡ true
others_run g xs ys keeps [] all = refl
others_run g xs ys keeps (p ∷ ps) all = others_one (holder_eq g p.holder) ys p (without_holder g ps) (λ ne. keeps p.holder ne (first (runs_in p.holder xs) _ all)) (others_run g xs ys keeps ps (second (runs_in p.holder xs) _ all))

-- the pairs of a holder that runs
own_run : (h : Holder) (ys : List Drafted) → runs_in h ys ≡ true → (ks : List Key) → all_run ys (pairs_for h ks) ≡ true
own_run h ys here [] = refl
own_run h ys here (k ∷ ks) = both (runs_in h ys) _ here (own_run h ys here ks)

-- so after pairs that are there
taken_run : (h : Holder) (ys : List Drafted) (ps : List Pair) (ks : List Key) → all_run ys ps ≡ true → runs_in h ys ≡ true → all_run ys (ps ++ pairs_for h ks) ≡ true
taken_run h ys ps ks all here = list_all-append (λ (p : Pair). runs_in p.holder ys) ps (pairs_for h ks) ∙ both (all_run ys ps) _ all (own_run h ys here ks)

-- ---- one more made

up : (p e m : ℕ) → nat_lt (p + e) m ≡ true → nat_lt (p + e) (m + 1) ≡ true
up p e m is = grind (arith, nat_tests)

last : (i e m : ℕ) → i ≡ m → e ≡ 0 → nat_lt (i + e) (m + 1) ≡ true
last i e m is none = grind (arith, nat_tests)

-- one more keeps those that run
opened_keeps : (part : Part) (app : Bool) (p : ℕ) (failed : Option Key) (x : Drafted) → runs app p x ≡ true → runs app p (one_opened part failed x) ≡ true
opened_keeps Instance true p failed x is = is
opened_keeps Instance false p failed x is = up p x.cleaned x.made is
opened_keeps App true p failed x is = up p x.stopped x.started is
opened_keeps App false p failed x is = is

-- and it runs itself
opened_runs : (bound : ℕ) (part : Part) (i taken : ℕ) (failed : Option Key) (ps : List Pair) (x : Drafted) → (is_sound bound x && may_open part i taken failed ps x) ≡ true → runs (is_app part) i (one_opened part failed x) ≡ true
opened_runs bound Instance i taken failed ps x m = last i x.cleaned x.made (opens Instance i taken failed ps x (second (is_sound bound x) _ m)).next (open_whole bound Instance i taken failed ps x m).1
opened_runs bound App i taken failed ps x m = last i x.stopped x.started (opens App i taken failed ps x (second (is_sound bound x) _ m)).next (open_whole bound App i taken failed ps x m).0

-- ---- one more ended

-- the last one is ended: the others run on
next_down : (p a e m : ℕ) → a ≢ p → a + 1 + e ≡ m → nat_lt (p + e) m ≡ true → nat_lt (p + (e + 1)) m ≡ true
next_down p a e m ne is t = grind (arith, nat_tests)

ended_keeps : (part : Part) (i : ℕ) (s : State) (app : Bool) (p : ℕ) (x : Drafted) → (bool_eq (is_app part) app && (i == p)) ≡ false → may_end part i s x ≡ true → runs app p x ≡ true → runs app p (one_ended part x) ≡ true
ended_keeps Instance i s true p x ne m t = t
ended_keeps Instance i s false p x ne m t = next_down p i x.cleaned x.made (eqb-false i p ne) (cleans i s.retired x m).next t
ended_keeps App i s true p x ne m t = next_down p i x.stopped x.started (eqb-false i p ne) (stops i s.serial x m).next t
ended_keeps App i s false p x ne m t = t

not_here : (b c : Bool) → b ≡ true → (b && c) ≡ false → c ≡ false
not_here true c is e = e
not_here false c is e = cc

-- a change at one draft, which keeps what all but one holder names
module _ (g : Holder) (may : Drafted → Bool) (f : Drafted → Drafted) (keeps : (app : Bool) (p : ℕ) (x : Drafted) → (bool_eq g.app app && (g.place == p)) ≡ false → may x ≡ true → runs app p x ≡ true → runs app p (f x) ≡ true) where
  but_one : (xs : List Drafted) → holds may (slice_get xs g.draft) ≡ true → (h : Holder) → holder_eq g h ≡ false → runs_in h xs ≡ true → runs_in h (change_at f g.draft xs) ≡ true
  but_one xs m h ne t = ⊎_elim
      (λ q. holds_kept (runs h.app h.place) may f (λ x n u. keeps h.app h.place x (not_here (g.draft == h.draft) _ (eq-eqb g.draft h.draft (sym q.1)) ne) n u) xs g.draft h.draft m t)
      (λ q. ap (holds (runs h.app h.place)) (get_change_other f xs g.draft h.draft q.1) ∙ t) (eqb_tells h.draft g.draft)

-- ---- a history

-- a change that keeps what any holder names
unchanged : (s : State) (d : ℕ) (may : Drafted → Bool) (f : Drafted → Drafted) → ((app : Bool) (p : ℕ) (x : Drafted) → runs app p x ≡ true → runs app p (f x) ≡ true) → holds may (slice_get s.drafts d) ≡ true → all_run s.drafts s.pairs ≡ true → all_run (change_at f d s.drafts) s.pairs ≡ true
unchanged s d may f keeps m all = still_run s.drafts (change_at f d s.drafts) (λ h t. holds_kept (runs h.app h.place) may f (λ x n u. keeps h.app h.place x u) s.drafts d h.draft m t) s.pairs all

-- one is opened, or ended
opened_run : (s : State) (part : Part) (d i taken : ℕ) (failed : Option Key) → are_sound s ≡ true → holds (may_open part i taken failed s.pairs) (slice_get s.drafts d) ≡ true → all_run s.drafts s.pairs ≡ true → all_run (part_opened part d i taken failed s).drafts (part_opened part d i taken failed s).pairs ≡ true
opened_run s part d i taken failed fine may all =
    taken_run (part_of part d i) _ s.pairs (take taken (keys_for part i (slice_get s.drafts d))) (unchanged s d (may_open part i taken failed s.pairs) _ (λ app p x t. opened_keeps part app p failed x t) may all)
    (holds_made (runs (is_app part) i) (λ x. is_sound (bound_of s) x && may_open part i taken failed s.pairs x) _ (opened_runs (bound_of s) part i taken failed s.pairs) s.drafts d (sound_at s d (may_open part i taken failed s.pairs) fine may))

ended_run : (s : State) (part : Part) (d i : ℕ) → holds (may_end part i s) (slice_get s.drafts d) ≡ true → all_run s.drafts s.pairs ≡ true → all_run (part_ended part d i s).drafts (part_ended part d i s).pairs ≡ true
ended_run s part d i may all = others_run (part_of part d i) s.drafts _ (but_one (part_of part d i) (may_end part i s) _ (ended_keeps part i s) s.drafts may) s.pairs all

-- one entry leaves them so
run : (s : State) (e : Entry) → are_sound s ≡ true → allowed s e ≡ true → all_run s.drafts s.pairs ≡ true → all_run (after s e).drafts (after s e).pairs ≡ true
run s (Draft d tree plan) fine may all = still_run s.drafts _ (λ h t. holds_push (runs h.app h.place) _ s.drafts h.draft t) s.pairs all
run s (Made d i taken failed) fine may all = opened_run s Instance d i taken failed fine may all
run s (Started d a taken failed) fine may all = opened_run s App d a taken failed fine may all
run s (Publish d n from c) fine may all = unchanged s d is_complete _ (λ app p x t. t) (can s (Publish d n from c) may).complete all
run s (Abandon d) fine may all = unchanged s d (λ x. is_live x.life) _ (λ app p x t. t) may all
run s (Stopped d a) fine may all = ended_run s App d a may all
run s (Cleaned d i) fine may all = ended_run s Instance d i may all
run s e fine may all = all

-- of each pair of a legal history
pub run_from : (s : State) (log : List Entry) → are_sound s ≡ true → legal_from s log ≡ true → all_run s.drafts s.pairs ≡ true → all_run (state_from s log).drafts (state_from s log).pairs ≡ true
run_from s [] fine legal all = all
run_from s (e ∷ es) fine legal all =
    let may = first (allowed s e) _ legal in
    run_from (after s e) es (sound s e may fine) (second (allowed s e) _ legal) (run s e fine may all)
