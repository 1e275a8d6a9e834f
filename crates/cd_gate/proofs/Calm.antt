-- What an entry that makes or starts something leaves to be stopped or cleaned: nothing.
use Rattle.std.proofs.Common.{◌≡◌, ◌≤◌, ℕ, zero, suc, ◌+◌, Bool, true, false, not, List, [], ◌∷◌, slice_get, refl, ap, ◌∙◌, arith}
use Rattle.std.specs.List.{list_all}
use Rattle.std.proofs.lemmas.List.Folds.{list_all-append}
use Rattle.cd_legal.specs.declared.entry.Entry.{Entry}
use Rattle.cd_legal.specs.declared.entry.Entry.TheVariants.{Draft, Made, Started}
use Rattle.cd_legal.specs.declared.part.Part.TheVariants.{Instance, App}
use Rattle.cd_legal.specs.declared.state.State.{State}
use Rattle.cd_legal.specs.declared.state.Drafted.{Drafted}
use Rattle.cd_legal.specs.declared.state.Life.{Life}
use Rattle.cd_legal.specs.declared.state.Life.TheVariants.{Live}
use Rattle.cd_legal.specs.State.{holds, change_at, is_live, may_clean_instances, new_draft, apps_stopped}
use Rattle.cd_legal.specs.Legal.{allowed, after, may_open}
use Rattle.cd_legal.specs.Whole.{all_apps_stopped, nothing_left, nothing_left_of}
use Rattle.cd_legal.proofs.Histories.{both, first, second}
use Rattle.cd_legal.proofs.Facts.{opens}
use Rattle.cd_legal.proofs.Serials.{Agree}
use Rattle.cd_gate.specs.Knowing.{is_calm}
use Rattle.cd_gate.proofs.Numbers.{left}
use Rattle.cd_gate.proofs.Retiring.{apps_stay}

all_stay : (s : State) (e : Entry) → Agree s → allowed s e ≡ true → (n : ℕ) → n ≤ s.serial → all_apps_stopped s n ≡ true → all_apps_stopped (after s e) n ≡ true
all_stay s e a may zero low is = refl
all_stay s e a may (suc n) low is =
    both (apps_stopped (after s e) n) _ (apps_stay s n e a may (omega arith) (first (apps_stopped s n) _ is))
    (all_stay s e a may n (omega arith) (second (apps_stopped s n) _ is))

kept_at : (test may : Drafted → Bool) (f : Drafted → Drafted) → ((x : Drafted) → may x ≡ true → test (f x) ≡ true) → (xs : List Drafted) (d : ℕ) → holds may (slice_get xs d) ≡ true → list_all test xs ≡ true → list_all test (change_at f d xs) ≡ true
kept_at test may f makes [] d m all = refl
kept_at test may f makes (x ∷ xs) zero m all = both (test (f x)) _ (makes x m) (second (test x) _ all)
kept_at test may f makes (x ∷ xs) (suc d) m all = both (test x) _ (first (test x) _ all) (kept_at test may f makes xs d m (second (test x) _ all))

live_stays : (retired : List ℕ) (l : Life) → is_live l ≡ true → not (may_clean_instances retired l) ≡ true
live_stays retired Live live = refl
live_stays retired l live = absurd (let h : false ≡ true = live in cc)

live_left : (retired : List ℕ) (x : Drafted) → is_live x.life ≡ true → nothing_left_of retired x ≡ true
live_left retired x live = left (not (may_clean_instances retired x.life)) _ (live_stays retired x.life live)

drafts_left : (s : State) (e : Entry) → allowed s e ≡ true → is_calm e ≡ true → list_all (nothing_left_of s.retired) s.drafts ≡ true → list_all (nothing_left_of (after s e).retired) (after s e).drafts ≡ true
drafts_left s (Draft d tree plan) may calm all =
    list_all-append (nothing_left_of s.retired) s.drafts (new_draft tree plan ∷ []) ∙ both (list_all (nothing_left_of s.retired) s.drafts) _ all refl
drafts_left s (Made d i taken failed) may calm all =
    kept_at (nothing_left_of s.retired) (may_open Instance i taken failed s.pairs) (λ x. record x { made = x.made + 1; failed = failed })
    (λ x m. live_left s.retired (record x { made = x.made + 1; failed = failed }) (ap is_live (opens Instance i taken failed s.pairs x m).opened.live)) s.drafts d may all
drafts_left s (Started d a taken failed) may calm all =
    kept_at (nothing_left_of s.retired) (may_open App a taken failed s.pairs) (λ x. record x { started = x.started + 1; failed = failed })
    (λ x m. live_left s.retired (record x { started = x.started + 1; failed = failed }) (ap is_live (opens App a taken failed s.pairs x m).opened.live)) s.drafts d may all
drafts_left s e may calm all = absurd (let h : false ≡ true = calm in cc)

serial_calm : (s : State) (e : Entry) → is_calm e ≡ true → (after s e).serial ≡ s.serial
serial_calm s (Draft d tree plan) calm = refl
serial_calm s (Made d i taken failed) calm = refl
serial_calm s (Started d a taken failed) calm = refl
serial_calm s e calm = absurd (let h : false ≡ true = calm in cc)

-- a calm entry leaves nothing where nothing was left
pub left_calm : (s : State) (e : Entry) → Agree s → allowed s e ≡ true → is_calm e ≡ true → nothing_left s ≡ true → nothing_left (after s e) ≡ true
left_calm s e a may calm is =
    both (all_apps_stopped (after s e) (after s e).serial) _
    (ap (all_apps_stopped (after s e)) (serial_calm s e calm) ∙ all_stay s e a may s.serial (omega arith) (first (all_apps_stopped s s.serial) _ is))
    (drafts_left s e may calm (second (all_apps_stopped s s.serial) _ is))
