-- The first configuration that a history with its parts publishes is that of the start, and a start that was refused has a failed key.
use Rattle.std.proofs.Common.{◌≡◌, ◌≤◌, ◌⊎◌, inl, inr, ℕ, zero, suc, ◌+◌, Bool, true, false, cond, List, [], ◌∷◌, ◌++◌, take, slice_get, Option, Some, None, refl, ap, sym, ◌∙◌, subst, arith}
use Rattle.std.proofs.lemmas.List.{append_assoc}
use Rattle.cd_outside.specs.declared.key.Key.{Key}
use Rattle.cd_tree.specs.declared.tree.Tree.{Tree}
use Rattle.cd_legal.specs.declared.plan.Plan.{Plan}
use Rattle.cd_legal.specs.declared.entry.Change.TheVariants as change
use Rattle.cd_legal.specs.declared.entry.Entry.{Entry}
use Rattle.cd_legal.specs.declared.entry.Entry.TheVariants.{Draft, Made, Started, Publish, Abandon, Stopped, Begin, Finish, Retire, Cleaned, Halt}
use Rattle.cd_legal.specs.declared.entry.Signed.{Signed}
use Rattle.cd_legal.specs.declared.part.Part.TheVariants.{Instance, App}
use Rattle.cd_legal.specs.declared.state.State.{State}
use Rattle.cd_legal.specs.Calls.{failures}
use Rattle.cd_legal.specs.Entry.{entries}
use Rattle.cd_legal.specs.Legal.{allowed, after, legal_from, state_from, state_of, state_at, IsLegal}
use Rattle.cd_legal.specs.Runs.{Failure, made_from, started_from, all_made, opened, opened_until, undone_after, stopped_all, cleaned_all, entries_for, started_in, made_in, stopped_of, cleaned_of, block_of}
use Rattle.cd_legal.specs.State.{opening_state, conf_in, one_opened, one_ended, draft_of}
use Rattle.cd_legal.proofs.Facts.{can}
use Rattle.cd_legal.proofs.Fresh.{serial_rises}
use Rattle.cd_legal.proofs.Histories.{first as one-holds, second as other-holds, legal_from-back, state_from-append}
use Rattle.cd_legal.proofs.Leaving.{conf_in-change}
use Rattle.cd_legal.proofs.Logs.{entries-append}
use Rattle.cd_gate.specs.Growing.{all_signed}
use Rattle.cd_serve.specs.Episodes.{another_halted}
use Rattle.cd_host.specs.Firsts.{IsFirst, AreFirst, BeginsWith}
use Rattle.cd_host.specs.Parts.{HasParts, end_entries}
use Rattle.cd_host.specs.Program.{Start, start_entries, halt_entries}
use Rattle.cd_host.proofs.PartEntries.{is_part, Parts, opened-parts, until-parts, undone-parts, stopped-parts, cleaned-parts}
use Rattle.cd_host.proofs.Signing.{entries-all}

module _ (tree : Tree) where
  pub first-append : (s : State) (xs ys : List Entry) → AreFirst tree s xs → AreFirst tree (state_from s xs) ys → AreFirst tree s (xs ++ ys)
  first-append s [] ys one two = two
  first-append s (x ∷ xs) ys one two = (one.0, first-append (after s x) xs ys one.1 two)

  part-first : (s : State) (e : Entry) → is_part e ≡ true → IsFirst tree s e
  part-first s (Publish d n zero way) is = absurd (let f : false ≡ true = is in cc)
  part-first s (Publish d n (suc from) way) is = tt
  part-first s e is = tt

  parts-first : (s : State) (es : List Entry) → Parts es → AreFirst tree s es
  parts-first s [] all = tt
  parts-first s (e ∷ es) all = (part-first s e all.0, parts-first (after s e) es all.1)

  -- once there is a serial none is published from serial 0
  later-one : (s : State) (e : Entry) → 1 ≤ s.serial → allowed s e ≡ true → IsFirst tree s e
  later-one s (Publish d n zero way) low may = absurd (let f = (can s (Publish d n zero way) may).current in omega arith)
  later-one s (Publish d n (suc from) way) low may = tt
  later-one s e low may = tt

  later : (s : State) (es : List Entry) → 1 ≤ s.serial → legal_from s es ≡ true → AreFirst tree s es
  later s [] low legal = tt
  later s (e ∷ es) low legal =
      let may : allowed s e ≡ true = one-holds (allowed s e) (legal_from (after s e) es) legal in
      let rises = serial_rises s e may in
      (later-one s e low may, later (after s e) es (omega arith) (other-holds (allowed s e) (legal_from (after s e) es) legal))

-- ---- instances and apps leave the trees

part-conf : (s : State) (e : Entry) (d : ℕ) → is_part e ≡ true → conf_in (slice_get (after s e).drafts d) ≡ conf_in (slice_get s.drafts d)
part-conf s (Made j i taken failed) d is = conf_in-change (one_opened Instance failed) (λ x. refl) s.drafts j d
part-conf s (Started j a taken failed) d is = conf_in-change (one_opened App failed) (λ x. refl) s.drafts j d
part-conf s (Stopped j a) d is = conf_in-change (one_ended App) (λ x. refl) s.drafts j d
part-conf s (Cleaned j i) d is = conf_in-change (one_ended Instance) (λ x. refl) s.drafts j d
part-conf s e d is = absurd (let f : false ≡ true = is in cc)

parts-conf : (s : State) (es : List Entry) (d : ℕ) → Parts es → conf_in (slice_get (state_from s es).drafts d) ≡ conf_in (slice_get s.drafts d)
parts-conf s [] d all = refl
parts-conf s (e ∷ es) d all = parts-conf (after s e) es d all.1 ∙ part-conf s e d all.0

-- ---- the start

module _ (first : Tree) (plan : Plan) where
  -- the state that the draft of the start leaves
  abbrev drafted : State
  drafted = after (after opening_state (Begin 0 0)) (Draft 0 first plan)

  abbrev publishing : List Entry
  publishing = Publish 0 1 0 change.First ∷ Finish 0 ∷ Retire 0 ∷ []

  published-first : BeginsWith first (start_entries first plan Start.published)
  published-first = (
    tt,
    (
      tt,
      first-append first drafted (opened 0 plan) publishing (parts-first first drafted (opened 0 plan) (opened-parts 0 plan))
          (parts-conf drafted (opened 0 plan) 0 (opened-parts 0 plan), (tt, (tt, tt))),
    ),
  )

  -- a start without its publishing publishes nothing
  refused-first : (failure : Failure) (key : Key) → BeginsWith first (start_entries first plan (Start.refused failure key))
  refused-first failure key = (
    tt,
    (
      tt,
      first-append first drafted (opened_until 0 plan failure key) (Abandon 0 ∷ (undone_after 0 plan failure ++ Finish 0 ∷ [])) (parts-first first drafted (opened_until 0 plan failure key) (until-parts 0 plan failure key)) (
        tt,
        first-append first (after (state_from drafted (opened_until 0 plan failure key)) (Abandon 0)) (undone_after 0 plan failure) (Finish 0 ∷ [])
            (parts-first first (after (state_from drafted (opened_until 0 plan failure key)) (Abandon 0)) (undone_after 0 plan failure) (undone-parts 0 plan failure)) (tt, tt),
      ),
    ),
  )

  start-first : (start : Start) → BeginsWith first (start_entries first plan start)
  start-first Start.published = published-first
  start-first (Start.refused failure key) = refused-first failure key
  start-first Start.undrafted = (tt, (tt, tt))
  start-first Start.unbegun = tt

  -- after it the serial is 1
  published-serial : 1 ≤ (state_of (start_entries first plan Start.published)).serial
  published-serial = let e = ap (λ (s : State). s.serial) (state_from-append drafted (opened 0 plan) publishing) in omega arith

-- ---- the end

pub for-parts : (f : ℕ → List Entry) → ((d : ℕ) → Parts (f d)) → (o : Option ℕ) → Parts (entries_for f o)
for-parts f each None = tt
for-parts f each (Some d) = each d

halt-first : (first : Tree) (t s : State) → AreFirst first t (halt_entries s)
halt-first first t s =
    let stops : Parts (stopped_of s s.serial) = for-parts (λ d. stopped_all d (started_in s d)) (λ d. stopped-parts d (started_in s d)) (draft_of s.serial s.published) in
    let cleans : Parts (cleaned_of s s.serial) = for-parts (λ d. cleaned_all d (made_in s d)) (λ d. cleaned-parts d (made_in s d)) (draft_of s.serial s.published) in (
      tt,
      first-append first (after t (Halt (s.serial + 1))) (stopped_of s s.serial) (block_of s s.serial) (parts-first first (after t (Halt (s.serial + 1))) (stopped_of s s.serial) stops)
          (tt, parts-first first (after (state_from (after t (Halt (s.serial + 1))) (stopped_of s s.serial)) (Retire s.serial)) (cleaned_of s s.serial) cleans),
    )

end-first : (first : Tree) (t s : State) (b : Bool) → AreFirst first t (cond b [] (halt_entries s))
end-first first t s true = tt
end-first first t s false = halt-first first t s

-- ---- the whole

-- the entries of a history with its parts
entries-are : (first : Tree) (plan : Plan) (start : Start) (history : List Signed) → (parts : HasParts first plan start history)
    → entries history ≡ start_entries first plan start ++ (entries parts.lanes ++ end_entries (all_signed 0 (start_entries first plan start) ++ parts.lanes))
entries-are first plan start history parts =
    let begun : List Signed = all_signed 0 (start_entries first plan start) in
    let ends : List Entry = end_entries (begun ++ parts.lanes) in
    ap entries parts.whole
    ∙ entries-append (begun ++ parts.lanes) (all_signed 0 ends)
    ∙ ap (λ (es : List Entry). entries (begun ++ parts.lanes) ++ es) (entries-all 0 ends)
    ∙ ap (λ (es : List Entry). es ++ ends) (entries-append begun parts.lanes ∙ ap (λ (es : List Entry). es ++ entries parts.lanes) (entries-all 0 (start_entries first plan start)))
    ∙ append_assoc (start_entries first plan start) (entries parts.lanes) ends

rest-first : (first : Tree) (plan : Plan) (start : Start) (lanes : List Signed) (ends : List Entry) → legal_from (state_of (start_entries first plan start)) (entries lanes ++ ends) ≡ true
    → ((t : State) → AreFirst first t ends) → (start ≡ Start.published) ⊎ (lanes ≡ []) → AreFirst first (state_of (start_entries first plan start)) (entries lanes ++ ends)
rest-first first plan start lanes ends legal last (inl is) =
    later first (state_of (start_entries first plan start)) (entries lanes ++ ends) (subst (λ (h : Start). 1 ≤ (state_of (start_entries first plan h)).serial) (sym is) (published-serial first plan)) legal
rest-first first plan start lanes ends legal last (inr none) =
    subst (λ (l : List Signed). AreFirst first (state_of (start_entries first plan start)) (entries l ++ ends)) (sym none) (last (state_of (start_entries first plan start)))

pub begins-with : (first : Tree) (plan : Plan) (start : Start) (history : List Signed) → IsLegal history → (parts : HasParts first plan start history) → (start ≡ Start.published) ⊎ (parts.lanes ≡ [])
    → BeginsWith first (entries history)
begins-with first plan start history legal parts which =
    let starting : List Entry = start_entries first plan start in
    let log : List Signed = all_signed 0 starting ++ parts.lanes in
    let rest : List Entry = entries parts.lanes ++ end_entries log in
    let is : entries history ≡ starting ++ rest = entries-are first plan start history parts in
    let allowed_rest : legal_from (state_of starting) rest ≡ true = legal_from-back opening_state starting rest (ap (legal_from opening_state) (sym is) ∙ legal) in
    subst (λ (es : List Entry). AreFirst first opening_state es) (sym is)
    (first-append first opening_state starting rest (start-first first plan start)
    (rest-first first plan start parts.lanes (end_entries log) allowed_rest (λ t. end-first first t (state_at log) (another_halted 0 log)) which))

-- ---- failed keys

failures-append : (xs ys : List Entry) → failures (xs ++ ys) ≡ failures xs + failures ys
failures-append [] ys = omega arith
failures-append (Made d i taken (Some key) ∷ xs) ys = let rest = failures-append xs ys in omega arith
failures-append (Started d a taken (Some key) ∷ xs) ys = let rest = failures-append xs ys in omega arith
failures-append (e ∷ xs) ys = failures-append xs ys

one-failed : (plan : Plan) (failure : Failure) (key : Key) → 1 ≤ failures (opened_until 0 plan failure key)
one-failed plan (Failure.InModule i taken) key = let e = failures-append (made_from 0 0 (take i plan.modules)) (Made 0 i taken (Some key) ∷ []) in omega arith
one-failed plan (Failure.InApp a taken) key =
    let e = failures-append (all_made 0 plan) (started_from 0 0 (take a plan.apps) ++ Started 0 a taken (Some key) ∷ []) in
    let f = failures-append (started_from 0 0 (take a plan.apps)) (Started 0 a taken (Some key) ∷ []) in omega arith

pub refused-failed : (first : Tree) (plan : Plan) (failure : Failure) (key : Key) (history : List Signed) → HasParts first plan (Start.refused failure key) history → 1 ≤ failures (entries history)
refused-failed first plan failure key history parts =
    let starting : List Entry = start_entries first plan (Start.refused failure key) in
    let rest : List Entry = entries parts.lanes ++ end_entries (all_signed 0 starting ++ parts.lanes) in
    let is = ap failures (entries-are first plan (Start.refused failure key) history parts) in
    let one = failures-append starting rest in
    let two = failures-append (opened_until 0 plan failure key) (Abandon 0 ∷ (undone_after 0 plan failure ++ Finish 0 ∷ [])) in
    let three = one-failed plan failure key in omega arith
