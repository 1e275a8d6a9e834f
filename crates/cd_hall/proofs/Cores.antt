-- A history without its requests: it is one too, and all but its tickets is as with them.
use Rattle.std.proofs.Common.{◌≡◌, ℕ, suc, ◌==◌, Bool, true, false, cond, List, [], ◌∷◌, ◌++◌, Option, Some, None, is_none, refl, sym, ap, ◌∙◌}
use Rattle.cd_outside.specs.declared.fixtures.FixtureCall.{FixtureCall}
use Rattle.cd_legal.specs.declared.entry.Entry.{Entry}
use Rattle.cd_legal.specs.declared.entry.Entry.TheVariants.{Draft, Made, Started, Publish, Abandon, Begin, Finish}
use Rattle.cd_legal.specs.declared.entry.Signed.{Signed}
use Rattle.cd_legal.specs.declared.state.State.{State}
use Rattle.cd_legal.specs.Calls.{is_shut, shutting, entry_calls, calls_from, fixture_calls, failures}
use Rattle.cd_legal.specs.Entry.{entries}
use Rattle.cd_legal.specs.Laws.{core, core_at, is_core, bare}
use Rattle.cd_legal.specs.Legal.{after, legal}
use Rattle.cd_legal.specs.Owing.{Owes, owes_nothing, owes_by, owes_from, owes_of}
use Rattle.cd_legal.specs.Serials.{conf_by, conf_from, last_conf, publishings}
use Rattle.cd_legal.specs.Signing.{may_sign, are_signed_from, IsHistory}
use Rattle.cd_legal.specs.State.{opening_state, holds, Conf}
use Rattle.std.proofs.lemmas.List.{append-nil}
use Rattle.cd_legal.proofs.Apart.{apart}
use Rattle.cd_legal.proofs.Cores.{entries-core, core-append}
use Rattle.cd_legal.proofs.Histories.{both, first, second}
use Rattle.cd_gate.proofs.Cored.{one_more}
use Rattle.cd_gate.proofs.Numbers.{off}

-- ---- what is said of entries

no_shut : (b : Bool) → shutting b b ≡ []
no_shut true = refl
no_shut false = refl

calls_core : (s : State) (es : List Entry) → calls_from (bare s) (core es) ≡ calls_from s es
calls_core s [] = refl
calls_core s (Begin k n ∷ es) = calls_core (after s (Begin k n)) es ∙ ap (λ (l : List FixtureCall). l ++ calls_from (after s (Begin k n)) es) (sym (no_shut (is_shut s)))
calls_core s (Finish k ∷ es) = calls_core (after s (Finish k)) es ∙ ap (λ (l : List FixtureCall). l ++ calls_from (after s (Finish k)) es) (sym (no_shut (is_shut s)))
calls_core s (e ∷ es) = ap (λ (l : List FixtureCall). entry_calls s e ++ l) (calls_core (after s e) es)

pub fixture_calls-core : (log : List Signed) → fixture_calls (entries (core_at log)) ≡ fixture_calls (entries log)
fixture_calls-core log = ap fixture_calls (entries-core log) ∙ calls_core opening_state (entries log)

failed_core : (es : List Entry) → failures (core es) ≡ failures es
failed_core [] = refl
failed_core (Begin k n ∷ es) = failed_core es
failed_core (Finish k ∷ es) = failed_core es
failed_core (Made d i taken None ∷ es) = failed_core es
failed_core (Made d i taken (Some key) ∷ es) = ap suc (failed_core es)
failed_core (Started d a taken None ∷ es) = failed_core es
failed_core (Started d a taken (Some key) ∷ es) = ap suc (failed_core es)
failed_core (e ∷ es) = failed_core es

pub failures-core : (log : List Signed) → failures (entries (core_at log)) ≡ failures (entries log)
failures-core log = ap failures (entries-core log) ∙ failed_core (entries log)

published_core : (es : List Entry) → publishings (core es) ≡ publishings es
published_core [] = refl
published_core (Begin k n ∷ es) = published_core es
published_core (Finish k ∷ es) = published_core es
published_core (Publish d n from change ∷ es) = ap suc (published_core es)
published_core (e ∷ es) = published_core es

pub publishings-core : (log : List Signed) → publishings (entries (core_at log)) ≡ publishings (entries log)
publishings-core log = ap publishings (entries-core log) ∙ published_core (entries log)

conf_core : (s : State) (conf : Conf) (es : List Entry) → conf_from (bare s) conf (core es) ≡ conf_from s conf es
conf_core s conf [] = refl
conf_core s conf (Begin k n ∷ es) = conf_core (after s (Begin k n)) conf es
conf_core s conf (Finish k ∷ es) = conf_core (after s (Finish k)) conf es
conf_core s conf (e ∷ es) = conf_core (after s e) (conf_by s conf e) es

pub last_conf-core : (log : List Signed) → last_conf (entries (core_at log)) ≡ last_conf (entries log)
last_conf-core log = ap last_conf (entries-core log) ∙ conf_core opening_state Conf.Opening (entries log)

-- ---- who may sign

-- what is owed of drafts does not depend on tickets
same_draft : (o u : Owes) (e : Entry) → o.draft ≡ u.draft → (owes_by o e).draft ≡ (owes_by u e).draft
same_draft o u (Draft d tree plan) is = refl
same_draft o u (Publish d n from change) is = refl
same_draft o u (Abandon d) is = refl
same_draft o u e is = is

quiet_draft : (o u : Owes) (e : Entry) → is_core e ≡ false → o.draft ≡ u.draft → o.draft ≡ (owes_by u e).draft
quiet_draft o u (Begin k n) quiet is = is
quiet_draft o u (Finish k) quiet is = is
quiet_draft o u e quiet is = absurd (off (sym quiet))

by_test : (b : Bool) (o u v : Owes) → o.draft ≡ u.draft → o.draft ≡ v.draft → o.draft ≡ (cond b u v).draft
by_test true o u v one two = one
by_test false o u v one two = two

both_tests : (b : Bool) (o u p v : Owes) → o.draft ≡ u.draft → p.draft ≡ v.draft → (cond b o p).draft ≡ (cond b u v).draft
both_tests true o u p v one two = one
both_tests false o u p v one two = two

draft_step : (b : Bool) (o u : Owes) (k : ℕ) (x : Signed) (xs : List Signed) → is_core x.entry ≡ b → o.draft ≡ u.draft
    → ((p q : Owes) → p.draft ≡ q.draft → (owes_from p k (core_at xs)).draft ≡ (owes_from q k xs).draft)
    → (owes_from o k (cond b (x ∷ core_at xs) (core_at xs))).draft ≡ (owes_from (cond (x.by == k) (owes_by u x.entry) u) k xs).draft
draft_step true o u k x xs is same rest =
    rest (cond (x.by == k) (owes_by o x.entry) o) (cond (x.by == k) (owes_by u x.entry) u) (both_tests (x.by == k) (owes_by o x.entry) (owes_by u x.entry) o u (same_draft o u x.entry same) same)
draft_step false o u k x xs is same rest =
    rest o (cond (x.by == k) (owes_by u x.entry) u) (by_test (x.by == k) o (owes_by u x.entry) u (quiet_draft o u x.entry is same) same)

draft_from : (o u : Owes) (k : ℕ) (xs : List Signed) → o.draft ≡ u.draft → (owes_from o k (core_at xs)).draft ≡ (owes_from u k xs).draft
draft_from o u k [] same = same
draft_from o u k (x ∷ xs) same = draft_step (is_core x.entry) o u k x xs refl same (λ p q e. draft_from p q k xs e)

draft-core : (k : ℕ) (log : List Signed) → (owes_of k (core_at log)).draft ≡ (owes_of k log).draft
draft-core k log = draft_from owes_nothing owes_nothing k log refl

may_same : (k : ℕ) (o u : Owes) (e : Entry) → o.draft ≡ u.draft → may_sign k o e ≡ may_sign k u e
may_same k o u (Draft d tree plan) is = ap (λ (z : Option ℕ). is_none z) is
may_same k o u (Made d i taken failed) is = ap (λ (z : Option ℕ). holds (λ own. own == d) z) is
may_same k o u (Started d a taken failed) is = ap (λ (z : Option ℕ). holds (λ own. own == d) z) is
may_same k o u (Publish d n from change) is = ap (λ (z : Option ℕ). holds (λ own. own == d) z) is
may_same k o u (Abandon d) is = ap (λ (z : Option ℕ). holds (λ own. own == d) z) is
may_same k o u e is = refl

signed_step : (b : Bool) (before : List Signed) (x : Signed) (xs : List Signed) → is_core x.entry ≡ b → are_signed_from before (x ∷ xs) ≡ true
    → are_signed_from (core_at (before ++ x ∷ [])) (core_at xs) ≡ true → are_signed_from (core_at before) (cond b (x ∷ core_at xs) (core_at xs)) ≡ true
signed_step true before x xs is all rest =
    both (may_sign x.by (owes_of x.by (core_at before)) x.entry) _
    (may_same x.by (owes_of x.by (core_at before)) (owes_of x.by before) x.entry (draft-core x.by before) ∙ first (may_sign x.by (owes_of x.by before) x.entry) _ all)
    (ap (λ (l : List Signed). are_signed_from l (core_at xs)) (sym (one_more before x is)) ∙ rest)
signed_step false before x xs is all rest =
    ap (λ (l : List Signed). are_signed_from l (core_at xs)) (sym (core-append before (x ∷ []) ∙ (ap (λ (b : Bool). core_at before ++ cond b (x ∷ []) []) is ∙ append-nil (core_at before)))) ∙ rest

signed_core : (before xs : List Signed) → are_signed_from before xs ≡ true → are_signed_from (core_at before) (core_at xs) ≡ true
signed_core before [] all = refl
signed_core before (x ∷ xs) all =
    signed_step (is_core x.entry) before x xs refl all (signed_core (before ++ x ∷ []) xs (second (may_sign x.by (owes_of x.by before) x.entry) _ all))

pub history-core : (log : List Signed) → IsHistory log → IsHistory (core_at log)
history-core log is = record {
  is_legal = ap legal (entries-core log) ∙ first (legal (core (entries log))) _ (sym (apart (entries log)) ∙ is.is_legal);
  is_signed = signed_core [] log is.is_signed;
}
