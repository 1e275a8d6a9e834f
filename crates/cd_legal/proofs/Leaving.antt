-- What the entries of an abandoned draft leave as it was.
use Rattle.std.proofs.Common.{◌≡◌, ◌≢◌, ℕ, ◌==◌, zero, suc, Bool, true, false, ◌&&◌, nat_lt, List, [], ◌∷◌, ◌++◌, length, take, slice_get, Option, Some, None, refl, sym, ap, subst, ◌∙◌, eq-eqb, arith}
use Rattle.std.proofs.lemmas.List.{append-nil}
use Rattle.std.specs.List.{list_all}
use Rattle.std.proofs.lemmas.Bool.Decides.{nat_tests}
use Rattle.std.proofs.lemmas.Bool.{eqb-true}
use Rattle.cd_outside.specs.declared.key.Key.{Key}
use Rattle.cd_outside.specs.declared.holder.Holder.{Holder}
use Rattle.cd_outside.specs.declared.holder.Pair.{Pair}
use Rattle.cd_outside.specs.Keys.{keys_of, pairs_for}
use Rattle.cd_tree.specs.declared.tree.Tree.{Tree}
use Rattle.cd_legal.specs.declared.part.Part.TheVariants.{Instance, App}
use Rattle.cd_legal.specs.declared.plan.Plan.{Plan}
use Rattle.cd_legal.specs.declared.entry.Entry.{Entry}
use Rattle.cd_legal.specs.declared.entry.Entry.TheVariants.{Draft, Made, Started, Publish, Abandon, Stopped, Cleaned}
use Rattle.cd_legal.specs.declared.state.State.{State}
use Rattle.cd_legal.specs.declared.state.Drafted.{Drafted}
use Rattle.cd_legal.specs.State.{opening_state, holds_if_there, change_at, conf_of, conf_in, conf_at, Conf, part_of, keys_for, new_draft}
use Rattle.cd_legal.specs.Legal.{allowed, after, legal_from, legal, state_from, state_of}
use Rattle.cd_legal.specs.Abandoned.{is_entry_of, is_abandoned_in, pairs_of_others, Leaves}
use Rattle.cd_legal.proofs.Histories.{first, second, state_from-snoc, legal_from-front, legal_from-back, state_from-append}
use Rattle.cd_legal.proofs.Places.{get_change_other}
use Rattle.cd_legal.proofs.Others.{others-append, others-own, others-without_own, others-keys}
use Rattle.cd_legal.proofs.Lives.{never_published, are_there, there_from}

-- ---- trees

pub conf_in-change : (f : Drafted → Drafted) → ((x : Drafted) → (f x).tree ≡ x.tree) → (xs : List Drafted) (d j : ℕ) → conf_in (slice_get (change_at f d xs) j) ≡ conf_in (slice_get xs j)
conf_in-change f same [] d j = refl
conf_in-change f same (x ∷ xs) zero zero = ap (λ t. Conf.Of t) (same x)
conf_in-change f same (x ∷ xs) zero (suc j) = refl
conf_in-change f same (x ∷ xs) (suc d) zero = refl
conf_in-change f same (x ∷ xs) (suc d) (suc j) = conf_in-change f same xs d j

-- a change that keeps the tree
pub conf_at-change : (f : Drafted → Drafted) → ((x : Drafted) → (f x).tree ≡ x.tree) → (halt : Bool) (xs : List Drafted) (d : ℕ) (o : Option ℕ) → conf_at halt (change_at f d xs) o ≡ conf_at halt xs o
conf_at-change f same halt xs d None = refl
conf_at-change f same halt xs d (Some j) = conf_in-change f same xs d j

low : (j n : ℕ) → nat_lt (suc j) (suc n) ≡ true → nat_lt j n ≡ true
low j n e = grind (arith, nat_tests)

-- a new last draft leaves those that are there
slice_get-push : (xs : List Drafted) (x : Drafted) (j : ℕ) → nat_lt j (length xs) ≡ true → slice_get (xs ++ x ∷ []) j ≡ slice_get xs j
slice_get-push [] x j e = absurd (grind (arith, nat_tests))
slice_get-push (y ∷ xs) x zero e = refl
slice_get-push (y ∷ xs) x (suc j) e = slice_get-push xs x j (low j (length xs) e)

-- and those at all other places
pub slice_get-push_other : (xs : List Drafted) (x : Drafted) (j : ℕ) → j ≢ length xs → slice_get (xs ++ x ∷ []) j ≡ slice_get xs j
slice_get-push_other [] x zero ne = absurd (ne refl)
slice_get-push_other [] x (suc j) ne = refl
slice_get-push_other (y ∷ xs) x zero ne = refl
slice_get-push_other (y ∷ xs) x (suc j) ne = slice_get-push_other xs x j (λ e. ne (ap suc e))

-- so it leaves the trees of those that are there
pub conf_at-push : (halt : Bool) (xs : List Drafted) (x : Drafted) (o : Option ℕ) → holds_if_there (λ j. nat_lt j (length xs)) o ≡ true → conf_at halt (xs ++ x ∷ []) o ≡ conf_at halt xs o
conf_at-push halt xs x None e = refl
conf_at-push halt xs x (Some j) e = ap conf_in (slice_get-push xs x j e)

pub at_each : (test : ℕ → Bool) (ds : List ℕ) (n : ℕ) → list_all test ds ≡ true → holds_if_there test (slice_get ds n) ≡ true
at_each test [] n all = refl
at_each test (d ∷ ds) zero all = first (test d) _ all
at_each test (d ∷ ds) (suc n) all = at_each test ds n (second (test d) _ all)

-- ---- one entry

-- by the serial
pub with_confs : (s : State) (drafts : List Drafted) (pairs : List Pair) → ((halt : Bool) (o : ℕ) → conf_at halt drafts (slice_get s.published o) ≡ conf_at halt s.drafts (slice_get s.published o)) → (n : ℕ) → conf_of (record s { drafts = drafts; pairs = pairs }) n ≡ conf_of s n
with_confs s drafts pairs same zero = refl
with_confs s drafts pairs same (suc n) = same (s.halted && (suc n == s.serial)) n

-- the keys of a holder of another draft are among the others' pairs
keeps_keys : (d : ℕ) (h : Holder) → h.draft ≢ d → (ps qs : List Pair) → pairs_of_others d qs ≡ pairs_of_others d ps → keys_of h qs ≡ keys_of h ps
keeps_keys d h ne ps qs same = others-keys d h ne qs ∙ (ap (keys_of h) same ∙ sym (others-keys d h ne ps))

-- what is left by drafts and pairs that differ for this draft alone
leaves : (d : ℕ) (s : State) (drafts : List Drafted) (pairs : List Pair) → ((halt : Bool) (n : ℕ) → conf_at halt drafts (slice_get s.published n) ≡ conf_at halt s.drafts (slice_get s.published n))
    → ((j : ℕ) → j ≢ d → slice_get drafts j ≡ slice_get s.drafts j) → pairs_of_others d pairs ≡ pairs_of_others d s.pairs → Leaves d s (record s { drafts = drafts; pairs = pairs })
leaves d s drafts pairs trees others same = record {
  serial = refl;
  halted = refl;
  published = refl;
  retired = refl;
  tickets = refl;
  trees = with_confs s drafts pairs trees;
  drafts = others;
  keys = λ h ne. keeps_keys d h ne s.pairs pairs same;
  pairs = same;
}

-- a change of the draft that keeps its tree
changes : (d : ℕ) (s : State) (f : Drafted → Drafted) (pairs : List Pair) → ((x : Drafted) → (f x).tree ≡ x.tree) → pairs_of_others d pairs ≡ pairs_of_others d s.pairs → Leaves d s (record s { drafts = change_at f d s.drafts; pairs = pairs })
changes d s f pairs same others = leaves d s (change_at f d s.drafts) pairs (λ halt n. conf_at-change f same halt s.drafts d (slice_get s.published n)) (λ j ne. get_change_other f s.drafts d j ne) others

-- a holder of the draft takes keys
pub taking : (d : ℕ) (h : Holder) (ps : List Pair) (ks : List Key) → (h.draft == d) ≡ true → pairs_of_others d (ps ++ pairs_for h ks) ≡ pairs_of_others d ps
taking d h ps ks own = others-append d ps (pairs_for h ks) ∙ (ap (λ (zs : List Pair). pairs_of_others d ps ++ zs) (others-own d h ks own) ∙ append-nil (pairs_of_others d ps))

-- a new draft
new_one : (s : State) (x : Drafted) → are_there s ≡ true → Leaves (length s.drafts) s (record s { drafts = s.drafts ++ x ∷ [] })
new_one s x all = leaves (length s.drafts) s (s.drafts ++ x ∷ []) s.pairs (λ halt n. conf_at-push halt s.drafts x (slice_get s.published n) (at_each _ s.published n all)) (λ j ne. slice_get-push_other s.drafts x j ne) refl

-- at the draft's own number
own : (s : State) (e : Entry) (d j : ℕ) → (j == d) ≡ true → Leaves j s (after s e) → Leaves d s (after s e)
own s e d j is here = subst (λ z. Leaves z s (after s e)) (eqb-true j d is) here

-- so the entry that makes it
drafted : (s : State) (j : ℕ) (tree : Tree) (plan : Plan) → allowed s (Draft j tree plan) ≡ true → are_there s ≡ true → Leaves j s (after s (Draft j tree plan))
drafted s j tree plan may all =
    subst (λ z. Leaves z s (after s (Draft j tree plan))) (sym (eqb-true j (length s.drafts) (first (j == length s.drafts) _ may))) (new_one s (new_draft tree plan) all)

-- an entry of the draft, which is abandoned after it
one : (d : ℕ) (s : State) (e : Entry) (es : List Entry) → are_there s ≡ true → legal_from s (e ∷ es) ≡ true → is_abandoned_in (state_from (after s e) es) d ≡ true → is_entry_of d e ≡ true → Leaves d s (after s e)
one d s (Draft j tree plan) es all legal gone is = own s (Draft j tree plan) d j is (drafted s j tree plan (first (allowed s (Draft j tree plan)) _ legal) all)
one d s (Made j i taken failed) es all legal gone is = own s (Made j i taken failed) d j is (changes j s _ _ (λ x. refl) (taking j (part_of Instance j i) s.pairs (take taken (keys_for Instance i (slice_get s.drafts j))) (eq-eqb j j refl)))
one d s (Started j a taken failed) es all legal gone is = own s (Started j a taken failed) d j is (changes j s _ _ (λ x. refl) (taking j (part_of App j a) s.pairs (take taken (keys_for App a (slice_get s.drafts j))) (eq-eqb j j refl)))
one d s (Publish j n from c) es all legal gone is = absurd (let e : false ≡ true = never_published s j n from c es legal (subst (λ z. is_abandoned_in (state_from (after s (Publish j n from c)) es) z ≡ true) (sym (eqb-true j d is)) gone) in cc)
one d s (Abandon j) es all legal gone is = own s (Abandon j) d j is (changes j s _ s.pairs (λ x. refl) refl)
one d s (Stopped j a) es all legal gone is = own s (Stopped j a) d j is (changes j s _ _ (λ x. refl) (others-without_own j (part_of App j a) refl s.pairs))
one d s (Cleaned j i) es all legal gone is = own s (Cleaned j i) d j is (changes j s _ _ (λ x. refl) (others-without_own j (part_of Instance j i) refl s.pairs))
one d s e es all legal gone is = cc

-- ---- where it stands in a history

-- so each entry of a draft that is abandoned at the end
pub leaving : (d : ℕ) (front : List Entry) (e : Entry) (back : List Entry) → legal (front ++ e ∷ back) ≡ true → is_abandoned_in (state_of (front ++ e ∷ back)) d ≡ true → is_entry_of d e ≡ true → Leaves d (state_of front) (state_of (front ++ e ∷ []))
leaving d front e back legal_log gone is =
    let s : State = state_of front in
    let end : is_abandoned_in (state_from s (e ∷ back)) d ≡ true = ap (λ (t : State). is_abandoned_in t d) (sym (state_from-append opening_state front (e ∷ back))) ∙ gone in
    subst (λ (t : State). Leaves d s t) (sym (state_from-snoc opening_state front e))
    (one d s e back (there_from opening_state front (legal_from-front opening_state front (e ∷ back) legal_log) refl) (legal_from-back opening_state front (e ∷ back) legal_log) end is)
