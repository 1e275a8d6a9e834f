-- How an entry changes the drafts: not at all, by a new last one, or at one place.
use Rattle.std.proofs.Common.{◌≡◌, ◌≤◌, ◌⊎◌, inl, inr, ℕ, ◌+◌, Bool, true, false, List, [], ◌∷◌, ◌++◌, length, slice_get, refl, sym, ap, ◌∙◌, ⊎_elim, arith, length-append}
use Rattle.cd_legal.specs.declared.part.Part.TheVariants.{Instance, App}
use Rattle.cd_legal.specs.declared.entry.Entry.{Entry}
use Rattle.cd_legal.specs.declared.entry.Entry.TheVariants.{Draft, Made, Started, Publish, Abandon, Stopped, Cleaned}
use Rattle.cd_legal.specs.declared.state.State.{State}
use Rattle.cd_legal.specs.declared.state.Drafted.{Drafted}
use Rattle.cd_legal.specs.declared.state.Life.TheVariants.{Published, Abandoned}
use Rattle.cd_legal.specs.State.{holds, change_at, is_live, new_draft}
use Rattle.cd_legal.specs.Legal.{allowed, after, may_open, may_stop, may_clean, is_complete}
use Rattle.cd_legal.proofs.Facts.{completes, can}
use Rattle.cd_legal.proofs.Places.{length_change}

-- a new last draft, of which nothing is made
pub record Adds (s : State) (e : Entry) : Type 0 where
  pub draft : Drafted
  pub drafts : (after s e).drafts ≡ s.drafts ++ draft ∷ []
  pub fresh : draft ≡ new_draft draft.tree draft.plan

-- a change of one draft, which passes a test: its tree and plan stay, and its life where it is not live
pub record Changes (s : State) (e : Entry) : Type 0 where
  pub place : ℕ
  pub test : Drafted → Bool
  pub change : Drafted → Drafted
  pub drafts : (after s e).drafts ≡ change_at change place s.drafts
  pub passes : holds test (slice_get s.drafts place) ≡ true
  pub tree : (x : Drafted) → (change x).tree ≡ x.tree
  pub plan : (x : Drafted) → (change x).plan ≡ x.plan
  pub life : (x : Drafted) → test x ≡ true → is_live x.life ≡ false → (change x).life ≡ x.life

abbrev pub Effect : State → Entry → Type 0
Effect s e = ((after s e).drafts ≡ s.drafts) ⊎ (Adds s e ⊎ Changes s e)

clash : (x : Drafted) → is_live x.life ≡ true → is_live x.life ≡ false → true ≡ false
clash x live dead = sym live ∙ dead

pub effect : (s : State) (e : Entry) → allowed s e ≡ true → Effect s e
effect s (Draft d tree plan) may = inr (inl record { draft = new_draft tree plan; drafts = refl; fresh = refl })
effect s (Made d i taken failed) may = inr (inr record { place = d; test = may_open Instance i taken failed s.pairs; change = λ x. record x { made = x.made + 1; failed = failed }; drafts = refl; passes = may; tree = λ x. refl; plan = λ x. refl; life = λ x m l. refl })
effect s (Started d a taken failed) may = inr (inr record { place = d; test = may_open App a taken failed s.pairs; change = λ x. record x { started = x.started + 1; failed = failed }; drafts = refl; passes = may; tree = λ x. refl; plan = λ x. refl; life = λ x m l. refl })
effect s (Publish d n from c) may = inr (inr record { place = d; test = is_complete; change = λ x. record x { life = Published n }; drafts = refl; passes = (can s (Publish d n from c) may).complete; tree = λ x. refl; plan = λ x. refl; life = λ x m l. absurd (let h : true ≡ false = clash x (ap is_live (completes x m).opened.live) l in cc) })
effect s (Abandon d) may = inr (inr record { place = d; test = λ x. is_live x.life; change = λ x. record x { life = Abandoned }; drafts = refl; passes = may; tree = λ x. refl; plan = λ x. refl; life = λ x m l. absurd (let h : true ≡ false = clash x m l in cc) })
effect s (Stopped d a) may = inr (inr record { place = d; test = may_stop a s.serial; change = λ x. record x { stopped = x.stopped + 1 }; drafts = refl; passes = may; tree = λ x. refl; plan = λ x. refl; life = λ x m l. refl })
effect s (Cleaned d i) may = inr (inr record { place = d; test = may_clean i s.retired; change = λ x. record x { cleaned = x.cleaned + 1 }; drafts = refl; passes = may; tree = λ x. refl; plan = λ x. refl; life = λ x m l. refl })
effect s e may = inl refl

-- no draft goes
pub drafts-stay : (s : State) (e : Entry) → allowed s e ≡ true → length s.drafts ≤ length (after s e).drafts
drafts-stay s e may = ⊎_elim
    (λ q. let same = ap (λ (z : List Drafted). length z) q in omega arith)
    (λ q. ⊎_elim
    (λ r. let same = ap (λ (z : List Drafted). length z) r.drafts in let more = length-append s.drafts (r.draft ∷ []) in omega arith)
    (λ r. let same = ap (λ (z : List Drafted). length z) r.drafts ∙ length_change r.change s.drafts r.place in omega arith) q) (effect s e may)
