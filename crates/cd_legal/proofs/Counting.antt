-- How often a history makes and starts what a holder names.
use Rattle.std.proofs.Common.{◌≡◌, ℕ, zero, suc, ◌+◌, ◌≤◌, ◌==◌, Bool, true, false, ◌&&◌, cond, List, [], ◌∷◌, ◌++◌, refl, sym, ap, ◌∙◌, arith, subst, Some, None, Option, slice_get, option_map, nat_lt, ⊎_elim}
use Rattle.std.proofs.lemmas.Bool.Decides.{nat_tests, eqb_tells}
use Rattle.cd_outside.specs.declared.key.Key.{Key}
use Rattle.cd_outside.specs.declared.holder.Holder.{Holder}
use Rattle.cd_outside.specs.Keys.{holder_eq, bool_eq}
use Rattle.cd_tree.specs.declared.tree.Tree.{Tree}
use Rattle.cd_legal.specs.declared.part.Part.{Part}
use Rattle.cd_legal.specs.declared.part.Part.TheVariants.{Instance, App}
use Rattle.cd_legal.specs.declared.plan.Plan.{Plan}
use Rattle.cd_legal.specs.declared.entry.Entry.{Entry}
use Rattle.cd_legal.specs.declared.entry.Entry.TheVariants.{Draft, Made, Started, Publish, Abandon, Stopped, Cleaned}
use Rattle.cd_legal.specs.declared.state.State.{State}
use Rattle.cd_legal.specs.declared.state.Drafted.{Drafted}
use Rattle.cd_legal.specs.State.{opening_state, holds, change_at, is_live, part_of, is_app, new_draft, opened_in, one_opened}
use Rattle.cd_legal.specs.Legal.{allowed, after, legal_from, legal, state_from, state_of, part_opened, may_open, may_stop, may_clean, is_complete}
use Rattle.cd_legal.specs.Whole.{begun}
use Rattle.cd_legal.proofs.Histories.{first, second}
use Rattle.cd_legal.proofs.Facts.{opens, can}
use Rattle.cd_legal.proofs.Places.{get_change_same, get_change_other}

-- how many instances, or apps, were made of a draft
abbrev pub made_of : Bool → Drafted → ℕ
made_of app x = cond app x.started x.made

-- whether the place is among those that were made
abbrev pub begun_by : Bool → ℕ → Option Drafted → ℕ
begun_by app place None = 0
begun_by app place (Some x) = cond (nat_lt place (made_of app x)) 1 0

-- whether the state has made what the holder names
abbrev pub begun_in : Holder → State → ℕ
begun_in h s = begun_by h.app h.place (slice_get s.drafts h.draft)

pub plus_none : (m n : ℕ) → m ≡ n → m ≡ 0 + n
plus_none m n e = omega arith

pub counted : (b : Bool) (n : ℕ) → cond b (suc n) n ≡ cond b (suc 0) 0 + n
counted true n = omega arith
counted false n = omega arith

-- ---- a count of one draft, and how it changes

add_none : (b c : Bool) (n : ℕ) → b ≡ false → n ≡ cond (b && c) 1 0 + n
add_none true c n e = cc
add_none false c n e = omega arith

module _ (by : Option Drafted → ℕ) where
  -- a change at one place that it doesn't see
  pub kept : (may : Drafted → Bool) (f : Drafted → Drafted) → ((x : Drafted) → may x ≡ true → by (Some (f x)) ≡ by (Some x)) → (xs : List Drafted) (d j : ℕ) → holds may (slice_get xs d) ≡ true → by (slice_get (change_at f d xs) j) ≡ by (slice_get xs j)
  kept may f same [] d j m = refl
  kept may f same (x ∷ xs) zero zero m = same x m
  kept may f same (x ∷ xs) zero (suc j) m = refl
  kept may f same (x ∷ xs) (suc d) zero m = refl
  kept may f same (x ∷ xs) (suc d) (suc j) m = kept may f same xs d j m

  -- a new draft that counts as none
  pub pushed : (x : Drafted) → by (Some x) ≡ by None → (xs : List Drafted) (j : ℕ) → by (slice_get (xs ++ x ∷ []) j) ≡ by (slice_get xs j)
  pushed x none [] zero = none
  pushed x none [] (suc j) = refl
  pushed x none (y ∷ xs) zero = refl
  pushed x none (y ∷ xs) (suc j) = pushed x none xs j

  here_if : (c : Bool) (may : Drafted → Bool) (f : Drafted → Drafted) → ((x : Drafted) → may x ≡ true → by (Some (f x)) ≡ cond c 1 0 + by (Some x)) → (b : Bool) (o : Option Drafted) → b ≡ true → holds may o ≡ true → by (option_map f o) ≡ cond (b && c) 1 0 + by o
  here_if c may f one true None b m = absurd (let e : false ≡ true = m in cc)
  here_if c may f one true (Some x) b m = one x m
  here_if c may f one false o b m = absurd (let e : false ≡ true = b in cc)

  -- a change that makes one more, of what the holder g names
  pub one_more : (h g : Holder) (may : Drafted → Bool) (f : Drafted → Drafted) → ((x : Drafted) → may x ≡ true → by (Some (f x)) ≡ cond (bool_eq h.app g.app && (h.place == g.place)) 1 0 + by (Some x))
      → (xs : List Drafted) → holds may (slice_get xs g.draft) ≡ true → by (slice_get (change_at f g.draft xs) h.draft) ≡ cond (holder_eq h g) 1 0 + by (slice_get xs h.draft)
  one_more h g may f one xs m = ⊎_elim
      (λ q. ap (λ z. by (slice_get (change_at f g.draft xs) z)) q.1 ∙ (ap by (get_change_same f xs g.draft)
      ∙ (here_if (bool_eq h.app g.app && (h.place == g.place)) may f one (h.draft == g.draft) (slice_get xs g.draft) q.0 m ∙ ap (λ z. cond (holder_eq h g) 1 0 + by (slice_get xs z)) (sym q.1))))
      (λ q. ap by (get_change_other f xs g.draft h.draft q.1) ∙ add_none (h.draft == g.draft) (bool_eq h.app g.app && (h.place == g.place)) (by (slice_get xs h.draft)) q.0) (eqb_tells h.draft g.draft)

-- ---- what one entry makes

nothing : (p : ℕ) → cond {A = ℕ} (nat_lt p 0) 1 0 ≡ 0
nothing p = grind (arith, nat_tests)

none_made : (app : Bool) (p : ℕ) (tree : Tree) (plan : Plan) → begun_by app p (Some (new_draft tree plan)) ≡ 0
none_made true p tree plan = nothing p
none_made false p tree plan = nothing p

next_one : (p i m : ℕ) → i ≡ m → cond (nat_lt p (m + 1)) 1 0 ≡ cond (p == i) 1 0 + cond (nat_lt p m) 1 0
next_one p i m e = grind (arith, nat_tests)

-- the next one
opened_one : (part : Part) (app : Bool) (p i : ℕ) (failed : Option Key) (x : Drafted) → i ≡ opened_in part x → begun_by app p (Some (one_opened part failed x)) ≡ cond (bool_eq app (is_app part) && (p == i)) 1 0 + begun_by app p (Some x)
opened_one Instance true p i failed x e = plus_none _ _ refl
opened_one Instance false p i failed x e = next_one p i x.made e
opened_one App true p i failed x e = next_one p i x.started e
opened_one App false p i failed x e = plus_none _ _ refl

module _ (h : Holder) where
  opened : (s : State) (part : Part) (d i taken : ℕ) (failed : Option Key) → holds (may_open part i taken failed s.pairs) (slice_get s.drafts d) ≡ true
      → begun_in h (part_opened part d i taken failed s) ≡ cond (holder_eq h (part_of part d i)) 1 0 + begun_in h s
  opened s part d i taken failed may = one_more (begun_by h.app h.place) h (part_of part d i) (may_open part i taken failed s.pairs) _ (λ x m. opened_one part h.app h.place i failed x (opens part i taken failed s.pairs x m).next) s.drafts may

  step : (s : State) (e : Entry) → allowed s e ≡ true → begun_in h (after s e) ≡ begun h (e ∷ []) + begun_in h s
  step s (Draft d tree plan) may = plus_none _ _ (pushed (begun_by h.app h.place) (new_draft tree plan) (none_made h.app h.place tree plan) s.drafts h.draft)
  step s (Made d i taken failed) may = opened s Instance d i taken failed may
  step s (Started d a taken failed) may = opened s App d a taken failed may
  step s (Publish d n from c) may = plus_none _ _ (kept (begun_by h.app h.place) is_complete _ (λ x m. refl) s.drafts d h.draft (can s (Publish d n from c) may).complete)
  step s (Abandon d) may = plus_none _ _ (kept (begun_by h.app h.place) (λ x. is_live x.life) _ (λ x m. refl) s.drafts d h.draft may)
  step s (Stopped d a) may = plus_none _ _ (kept (begun_by h.app h.place) (may_stop a s.serial) _ (λ x m. refl) s.drafts d h.draft may)
  step s (Cleaned d i) may = plus_none _ _ (kept (begun_by h.app h.place) (may_clean i s.retired) _ (λ x m. refl) s.drafts d h.draft may)
  step s e may = plus_none _ _ refl

  begun-cons : (e : Entry) (es : List Entry) → begun h (e ∷ es) ≡ begun h (e ∷ []) + begun h es
  begun-cons (Made d i taken failed) es = counted (holder_eq h (part_of Instance d i)) (begun h es)
  begun-cons (Started d a taken failed) es = counted (holder_eq h (part_of App d a)) (begun h es)
  begun-cons e es = plus_none _ _ refl

  begun_from : (s : State) (log : List Entry) → legal_from s log ≡ true → begun_in h s + begun h log ≡ begun_in h (state_from s log)
  begun_from s [] legal = omega arith
  begun_from s (e ∷ es) legal =
      let here = step s e (first (allowed s e) _ legal) in
      let more = begun-cons e es in
      let rest = begun_from (after s e) es (second (allowed s e) _ legal) in
      omega arith

none_before : (h : Holder) → begun_in h opening_state ≡ 0
none_before h = refl

-- a legal history makes an instance as often as its state says
pub begun-state : (h : Holder) (log : List Entry) → legal log ≡ true → begun h log ≡ begun_in h (state_of log)
begun-state h log legal = let all = begun_from h opening_state log legal in let none = none_before h in omega arith

at_most : (b : Bool) → cond {A = ℕ} b 1 0 ≤ 1
at_most true = omega arith
at_most false = omega arith

once_by : (h : Holder) (o : Option Drafted) → begun_by h.app h.place o ≤ 1
once_by h None = omega arith
once_by h (Some x) = at_most (nat_lt h.place (made_of h.app x))

-- and so at most once
pub begun-once : (h : Holder) (log : List Entry) → legal log ≡ true → begun h log ≤ 1
begun-once h log legal = subst (λ z. z ≤ 1) (sym (begun-state h log legal)) (once_by h (slice_get (state_of log).drafts h.draft))
