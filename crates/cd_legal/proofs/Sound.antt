-- What each state of a legal history has: of a live draft nothing is ended, and no draft has a serial that is not there yet.
use Rattle.std.proofs.Common.{◌≡◌, ◌≤◌, ℕ, ◌+◌, ◌==◌, zero, suc, Bool, true, false, ◌&&◌, not, cond, nat_lt, List, [], ◌∷◌, slice_get, refl, ◌∙◌, arith, Option}
use Rattle.std.specs.Prelude.{◌||◌}
use Rattle.std.specs.List.{list_all}
use Rattle.std.proofs.lemmas.Bool.Decides.{nat_tests}
use Rattle.std.proofs.lemmas.Bool.{eqb-true}
use Rattle.std.proofs.lemmas.List.Folds.{list_all-append}
use Rattle.cd_outside.specs.declared.key.Key.{Key}
use Rattle.cd_outside.specs.declared.holder.Pair.{Pair}
use Rattle.cd_legal.specs.declared.part.Part.{Part}
use Rattle.cd_legal.specs.declared.part.Part.TheVariants.{Instance, App}
use Rattle.cd_legal.specs.declared.entry.Change.{Change}
use Rattle.cd_legal.specs.declared.entry.Entry.{Entry}
use Rattle.cd_legal.specs.declared.entry.Entry.TheVariants.{Draft, Made, Started, Publish, Abandon, Stopped, Cleaned, Halt}
use Rattle.cd_legal.specs.declared.state.State.{State}
use Rattle.cd_legal.specs.declared.state.Drafted.{Drafted}
use Rattle.cd_legal.specs.declared.state.Life.{Life}
use Rattle.cd_legal.specs.declared.state.Life.TheVariants.{Live, Published, Abandoned}
use Rattle.cd_legal.specs.State.{holds, change_at, is_live, may_stop_apps, may_clean_instances}
use Rattle.cd_legal.specs.Legal.{allowed, after, legal_from, legal, state_from, may_open, may_stop, may_clean, is_complete}
use Rattle.cd_legal.proofs.Histories.{both, first, second, along}
use Rattle.cd_legal.proofs.Facts.{Publishes, Halts, opens, stops, cleans, can}

-- ---- drafts

-- of a live draft nothing is stopped or cleaned
abbrev pub is_unended_if_live : Drafted → Bool
is_unended_if_live x = not (is_live x.life) || ((x.stopped == 0) && (x.cleaned == 0))

-- a published draft has a serial below this one
abbrev pub is_below : ℕ → Life → Bool
is_below bound Live = true
is_below bound (Published n) = nat_lt n bound
is_below bound Abandoned = true

-- both
abbrev pub is_sound : ℕ → Drafted → Bool
is_sound bound x = is_unended_if_live x && is_below bound x.life

-- below which the serials of published drafts are: the halt's own is none of them
abbrev pub bound_of : State → ℕ
bound_of s = cond s.halted s.serial (s.serial + 1)

-- so of each draft
abbrev pub are_sound : State → Bool
are_sound s = list_all (is_sound (bound_of s)) s.drafts

-- a change at one place keeps a test of all, where the element that is changed passes another one
all_changed : (test may : Drafted → Bool) (f : Drafted → Drafted) → ((x : Drafted) → may x ≡ true → test x ≡ true → test (f x) ≡ true) → (xs : List Drafted) (d : ℕ) → holds may (slice_get xs d) ≡ true → list_all test xs ≡ true → list_all test (change_at f d xs) ≡ true
all_changed test may f keeps [] d m all = refl
all_changed test may f keeps (x ∷ xs) zero m all = both (test (f x)) _ (keeps x m (first (test x) _ all)) (second (test x) _ all)
all_changed test may f keeps (x ∷ xs) (suc d) m all = both (test x) _ (first (test x) _ all) (all_changed test may f keeps xs d m (second (test x) _ all))

-- what is over is not live
over : (n b : ℕ) (l : Life) (r t : Bool) → may_stop_apps n l ≡ true → ((not (is_live l) || r) && is_below b l) ≡ true → ((not (is_live l) || t) && is_below b l) ≡ true
over n b Live r t is e = cc
over n b (Published m) r t is e = e
over n b Abandoned r t is e = e

done : (ns : List ℕ) (b : ℕ) (l : Life) (r t : Bool) → may_clean_instances ns l ≡ true → ((not (is_live l) || r) && is_below b l) ≡ true → ((not (is_live l) || t) && is_below b l) ≡ true
done ns b Live r t is e = cc
done ns b (Published m) r t is e = e
done ns b Abandoned r t is e = e

-- a higher bound
raised : (m b c : ℕ) → b ≤ c → nat_lt m b ≡ true → nat_lt m c ≡ true
raised m b c up e = grind (arith, nat_tests)

raised_life : (b c : ℕ) (l : Life) → b ≤ c → is_below b l ≡ true → is_below c l ≡ true
raised_life b c Live up e = refl
raised_life b c (Published m) up e = raised m b c up e
raised_life b c Abandoned up e = refl

raised_all : (b c : ℕ) (xs : List Drafted) → b ≤ c → list_all (is_sound b) xs ≡ true → list_all (is_sound c) xs ≡ true
raised_all b c [] up all = refl
raised_all b c (x ∷ xs) up all =
    let here = first (is_sound b x) _ all in
    both (is_sound c x) _ (both (is_unended_if_live x) _ (first (is_unended_if_live x) _ here) (raised_life b c x.life up (second (is_unended_if_live x) _ here))) (raised_all b c xs up (second (is_sound b x) _ all))

more : (b n : ℕ) → n + 1 ≤ b → nat_lt n b ≡ true
more b n e = grind (arith, nat_tests)

-- before the halt the bound is above the serial
running : (b : Bool) (n : ℕ) → b ≡ false → cond b n (n + 1) ≡ n + 1
running true n e = cc
running false n e = refl

-- a publishing
published : (s : State) (d n from : ℕ) (c : Change) → allowed s (Publish d n from c) ≡ true → are_sound s ≡ true → are_sound (after s (Publish d n from c)) ≡ true
published s d n from c may all =
    let f : Publishes s d n from = can s (Publish d n from c) may in
    let old = running s.halted s.serial f.running in
    let new = running s.halted n f.running in
    all_changed (is_sound (cond s.halted n (n + 1))) is_complete _ (λ x m t. more (cond s.halted n (n + 1)) n (omega (arith, new))) s.drafts d f.complete
    (raised_all (bound_of s) (cond s.halted n (n + 1)) s.drafts (omega (arith, old, new, f.current, f.next)) all)

-- the halt takes the serial that the bound left free
halted : (s : State) (n : ℕ) → allowed s (Halt n) ≡ true → are_sound s ≡ true → are_sound (after s (Halt n)) ≡ true
halted s n may all =
    let f : Halts s n = can s (Halt n) may in
    let old = running s.halted s.serial f.running in
    raised_all (bound_of s) n s.drafts (omega (arith, old, f.next)) all

-- one entry leaves them so
pub sound : (s : State) (e : Entry) → allowed s e ≡ true → are_sound s ≡ true → are_sound (after s e) ≡ true
sound s (Draft d tree plan) may all = list_all-append (is_sound (bound_of s)) s.drafts _ ∙ both (list_all (is_sound (bound_of s)) s.drafts) _ all refl
sound s (Made d i taken failed) may all = all_changed (is_sound (bound_of s)) (may_open Instance i taken failed s.pairs) _ (λ x m t. t) s.drafts d may all
sound s (Started d a taken failed) may all = all_changed (is_sound (bound_of s)) (may_open App a taken failed s.pairs) _ (λ x m t. t) s.drafts d may all
sound s (Publish d n from c) may all = published s d n from c may all
sound s (Abandon d) may all = all_changed (is_sound (bound_of s)) (λ x. is_live x.life) _ (λ x m t. refl) s.drafts d may all
sound s (Stopped d a) may all = all_changed (is_sound (bound_of s)) (may_stop a s.serial) _ (λ x m t. over s.serial (bound_of s) x.life _ _ (stops a s.serial x m).over t) s.drafts d may all
sound s (Cleaned d i) may all = all_changed (is_sound (bound_of s)) (may_clean i s.retired) _ (λ x m t. done s.retired (bound_of s) x.life _ _ (cleans i s.retired x m).done t) s.drafts d may all
sound s (Halt n) may all = halted s n may all
sound s e may all = all

-- of each draft of a legal history
pub sound_from : (s : State) (log : List Entry) → legal_from s log ≡ true → are_sound s ≡ true → are_sound (state_from s log) ≡ true
sound_from s log legal all = along (λ t. are_sound t ≡ true) sound s log legal all

-- ---- at a place

-- what holds of all, and what holds at a place
at : (test : Drafted → Bool) (xs : List Drafted) (d : ℕ) (may : Drafted → Bool) → list_all test xs ≡ true → holds may (slice_get xs d) ≡ true → holds (λ x. test x && may x) (slice_get xs d) ≡ true
at test [] d may all m = m
at test (x ∷ xs) zero may all m = both (test x) _ (first (test x) _ all) m
at test (x ∷ xs) (suc d) may all m = at test xs d may (second (test x) _ all) m

-- a draft of a sound state, of which one entry more is allowed
pub sound_at : (s : State) (d : ℕ) (may : Drafted → Bool) → are_sound s ≡ true → holds may (slice_get s.drafts d) ≡ true → holds (λ x. is_sound (bound_of s) x && may x) (slice_get s.drafts d) ≡ true
sound_at s d may all m = at (is_sound (bound_of s)) s.drafts d may all m

-- by its life
nothing_ended : (l : Life) (b st cl : ℕ) → l ≡ Live → ((not (is_live l) || ((st == 0) && (cl == 0))) && is_below b l) ≡ true → (st ≡ 0) × (cl ≡ 0)
nothing_ended Live b st cl live e = let h = first ((st == 0) && (cl == 0)) true e in (eqb-true st 0 (first (st == 0) _ h), eqb-true cl 0 (second (st == 0) _ h))
nothing_ended (Published n) b st cl live e = cc
nothing_ended Abandoned b st cl live e = cc

-- so of a live one nothing is ended
pub live_whole : (bound : ℕ) (x : Drafted) → x.life ≡ Live → is_sound bound x ≡ true → (x.stopped ≡ 0) × (x.cleaned ≡ 0)
live_whole bound x live e = nothing_ended x.life bound x.stopped x.cleaned live e

-- so where one more may be opened
pub open_whole : (bound : ℕ) (part : Part) (i taken : ℕ) (failed : Option Key) (ps : List Pair) (x : Drafted) → (is_sound bound x && may_open part i taken failed ps x) ≡ true → (x.stopped ≡ 0) × (x.cleaned ≡ 0)
open_whole bound part i taken failed ps x m = live_whole bound x (opens part i taken failed ps x (second (is_sound bound x) _ m)).opened.live (first (is_sound bound x) _ m)
