-- How a draft is opened, one instance and one app at a time.
use Rattle.std.proofs.Common.{◌≡◌, ◌<◌, ◌≤◌, ℕ, zero, suc, ◌+◌, true, false, List, [], ◌∷◌, ◌++◌, length, take, map, Option, Some, None, refl, sym, ap, subst, ◌∙◌, arith}
use Rattle.cd_outside.specs.declared.key.Key.{Key}
use Rattle.cd_legal.specs.declared.entry.Entry.{Entry}
use Rattle.cd_legal.specs.declared.entry.Entry.TheVariants.{Made, Started}
use Rattle.cd_legal.specs.declared.plan.PlanModule.{PlanModule}
use Rattle.cd_legal.specs.declared.plan.PlanApp.{PlanApp}
use Rattle.cd_legal.specs.Runs.{Failure, made_from, started_from, all_made}
use Rattle.cd_legal.specs.State.{keys_at}
use Rattle.cd_legal.specs.Signing.{IsHistory}
use Rattle.cd_gate.specs.declared.view.View.{View}
use Rattle.cd_hall.specs.Drafts.{Held, one_made, one_started, made_entry, started_entry}
use Rattle.cd_serve.specs.Attempts.{HasMade, MakesAll, StartsAll, Opens}
use Rattle.cd_serve.proofs.Works.{made-none, made-both}

-- one instance more, all of its keys
module-next : (d j i p : ℕ) (ms : List PlanModule) → p ≡ j + i → i < length ms → made_from d j (take i ms) ++ Made d p (length (keys_at (map (λ m. m.keys) ms) i)) None ∷ [] ≡ made_from d j (take (suc i) ms)
module-next d j i p [] is low = absurd (omega (arith, low))
module-next d j zero p (x ∷ xs) is low = let e : p ≡ j = omega (arith, is) in ap (λ (n : ℕ). Made d n (length x.keys) None ∷ []) e
module-next d j (suc i) p (x ∷ xs) is low =
    let e : p ≡ (j + 1) + i = omega (arith, is) in
    let less : i < length xs = omega (arith, low) in
    ap (λ (l : List Entry). Made d j (length x.keys) None ∷ l) (module-next d (j + 1) i p xs e less)

-- one app more
app-next : (d j i p : ℕ) (ms : List PlanApp) → p ≡ j + i → i < length ms → started_from d j (take i ms) ++ Started d p (length (keys_at (map (λ m. m.keys) ms) i)) None ∷ [] ≡ started_from d j (take (suc i) ms)
app-next d j i p [] is low = absurd (omega (arith, low))
app-next d j zero p (x ∷ xs) is low = let e : p ≡ j = omega (arith, is) in ap (λ (n : ℕ). Started d n (length x.keys) None ∷ []) e
app-next d j (suc i) p (x ∷ xs) is low =
    let e : p ≡ (j + 1) + i = omega (arith, is) in
    let less : i < length xs = omega (arith, low) in
    ap (λ (l : List Entry). Started d j (length x.keys) None ∷ l) (app-next d (j + 1) i p xs e less)

take-whole : {A : Type 0} (n : ℕ) (xs : List A) → n ≡ length xs → take n xs ≡ xs
take-whole n [] is = ap (λ (m : ℕ). take m []) is
take-whole n (x ∷ xs) is = ap (λ (m : ℕ). take m (x ∷ xs)) is ∙ ap (λ (l : List _). x ∷ l) (take-whole (length xs) xs refl)

module _ {T : Type 0} where
  -- of the draft h the first instances were made, and so it became g
  pub record MakesSoFar (v w : View T) (h g : Held) : Type 0 where
    pub made : HasMade v w (made_from h.number 0 (take g.made h.plan.modules))
    pub same : g ≡ record h { made = g.made }
    pub within : g.made ≤ length h.plan.modules

  pub makes-none : (v : View T) (h : Held) → IsHistory v.seen → h.made ≡ 0 → MakesSoFar v v h h
  makes-none v h history none = record {
    made = subst (λ (n : ℕ). HasMade v v (made_from h.number 0 (take n h.plan.modules))) (sym none) (made-none v history);
    same = refl;
    within = omega arith;
  }

  pub makes-more : (v w x : View T) (h g f : Held) → MakesSoFar v w h g → g.made < length g.plan.modules → HasMade w x (made_entry g None ∷ []) → f ≡ one_made g false → h.failed ≡ false → MakesSoFar v x h f
  makes-more v w x h g f s less one is unfailed =
      let i = g.made in
      let plan = ap (λ (z : Held). z.plan) s.same in
      let low : i < length h.plan.modules = omega (arith, less, ap (λ (z : Held). length z.plan.modules) s.same) in
      let entry : HasMade w x (Made h.number i (length (keys_at (map (λ m. m.keys) h.plan.modules) i)) None ∷ []) = subst (λ (z : Held). HasMade w x (made_entry z None ∷ [])) s.same one in
      let all : HasMade v x (made_from h.number 0 (take (suc i) h.plan.modules)) =
      subst (λ (l : List Entry). HasMade v x l) (module-next h.number 0 i i h.plan.modules (omega arith) low) (made-both v w x _ _ s.made entry) in
      let now : f ≡ record h { made = i + 1; failed = false } = is ∙ ap (λ (z : Held). one_made z false) s.same in
      let more : f.made ≡ i + 1 = ap (λ (z : Held). z.made) now in
      let count : f.made ≡ suc i = omega (arith, more) in
      record {
        made = subst (λ (n : ℕ). HasMade v x (made_from h.number 0 (take n h.plan.modules))) (sym count) all;
        same = now ∙ (λ k. record h { made = sym (ap (λ (z : Held). z.made) now) k; failed = sym unfailed k });
        within = omega (arith, low, count);
      }

  pub makes-whole : (v w : View T) (h g : Held) → MakesSoFar v w h g → length g.plan.modules ≤ g.made → (entries : List Entry) × HasMade v w entries × MakesAll h g entries None
  makes-whole v w h g s done =
      let count : g.made ≡ length h.plan.modules = omega (arith, done, s.within, ap (λ (z : Held). length z.plan.modules) s.same) in
      (made_from h.number 0 (take g.made h.plan.modules), s.made, (ap (λ (l : List PlanModule). made_from h.number 0 l) (take-whole g.made h.plan.modules count), s.same ∙ ap (λ (n : ℕ). record h { made = n }) count))

  pub makes-fails : (v w x : View T) (h g f : Held) (key : Key) → MakesSoFar v w h g → HasMade w x (made_entry g (Some key) ∷ []) → f ≡ one_made g true → (entries : List Entry) × HasMade v x entries × MakesAll h f entries (Some key)
  makes-fails v w x h g f key s one is =
      let i = g.made in
      let entry : HasMade w x (made_entry (record h { made = i }) (Some key) ∷ []) = subst (λ (z : Held). HasMade w x (made_entry z (Some key) ∷ [])) s.same one in
      (_, made-both v w x _ _ s.made entry, (i, _, refl, is ∙ ap (λ (z : Held). one_made z true) s.same))

  -- of the draft h the first apps were started, and so it became g
  pub record StartsSoFar (v w : View T) (h g : Held) : Type 0 where
    pub made : HasMade v w (started_from h.number 0 (take g.started h.plan.apps))
    pub same : g ≡ record h { started = g.started }
    pub within : g.started ≤ length h.plan.apps

  pub starts-none : (v : View T) (h : Held) → IsHistory v.seen → h.started ≡ 0 → StartsSoFar v v h h
  starts-none v h history none = record {
    made = subst (λ (n : ℕ). HasMade v v (started_from h.number 0 (take n h.plan.apps))) (sym none) (made-none v history);
    same = refl;
    within = omega arith;
  }

  pub starts-more : (v w x : View T) (h g f : Held) → StartsSoFar v w h g → g.started < length g.plan.apps → HasMade w x (started_entry g None ∷ []) → f ≡ one_started g false → h.failed ≡ false → StartsSoFar v x h f
  starts-more v w x h g f s less one is unfailed =
      let i = g.started in
      let low : i < length h.plan.apps = omega (arith, less, ap (λ (z : Held). length z.plan.apps) s.same) in
      let entry : HasMade w x (Started h.number i (length (keys_at (map (λ m. m.keys) h.plan.apps) i)) None ∷ []) = subst (λ (z : Held). HasMade w x (started_entry z None ∷ [])) s.same one in
      let all : HasMade v x (started_from h.number 0 (take (suc i) h.plan.apps)) =
      subst (λ (l : List Entry). HasMade v x l) (app-next h.number 0 i i h.plan.apps (omega arith) low) (made-both v w x _ _ s.made entry) in
      let now : f ≡ record h { started = i + 1; failed = false } = is ∙ ap (λ (z : Held). one_started z false) s.same in
      let more : f.started ≡ i + 1 = ap (λ (z : Held). z.started) now in
      let count : f.started ≡ suc i = omega (arith, more) in
      record {
        made = subst (λ (n : ℕ). HasMade v x (started_from h.number 0 (take n h.plan.apps))) (sym count) all;
        same = now ∙ (λ k. record h { started = sym (ap (λ (z : Held). z.started) now) k; failed = sym unfailed k });
        within = omega (arith, low, count);
      }

  pub starts-whole : (v w : View T) (h g : Held) → StartsSoFar v w h g → length g.plan.apps ≤ g.started → (entries : List Entry) × HasMade v w entries × StartsAll h g entries None
  starts-whole v w h g s done =
      let count : g.started ≡ length h.plan.apps = omega (arith, done, s.within, ap (λ (z : Held). length z.plan.apps) s.same) in
      (started_from h.number 0 (take g.started h.plan.apps), s.made, (ap (λ (l : List PlanApp). started_from h.number 0 l) (take-whole g.started h.plan.apps count), s.same ∙ ap (λ (n : ℕ). record h { started = n }) count))

  pub starts-fails : (v w x : View T) (h g f : Held) (key : Key) → StartsSoFar v w h g → HasMade w x (started_entry g (Some key) ∷ []) → f ≡ one_started g true → (entries : List Entry) × HasMade v x entries × StartsAll h f entries (Some key)
  starts-fails v w x h g f key s one is =
      let i = g.started in
      let entry : HasMade w x (started_entry (record h { started = i }) (Some key) ∷ []) = subst (λ (z : Held). HasMade w x (started_entry z (Some key) ∷ [])) s.same one in
      (_, made-both v w x _ _ s.made entry, (i, _, refl, is ∙ ap (λ (z : Held). one_started z true) s.same))

  -- ---- both

  -- an instance could not be made
  pub opens-fails : (v w : View T) (h g : Held) (key : Key) → ((entries : List Entry) × HasMade v w entries × MakesAll h g entries (Some key)) → (entries : List Entry) × HasMade v w entries × Opens h g entries (Some key)
  opens-fails v w h g key m = (m.0, m.1, (Failure.InModule m.2.0 m.2.1, m.2.2, m.2.3))

  starts-on : (v w x : View T) (h g f : Held) (es fs : List Entry) (r : Option Key) → HasMade v w es → es ≡ all_made h.number h.plan → g ≡ record h { made = length h.plan.modules } → HasMade w x fs → StartsAll g f fs r
      → (entries : List Entry) × HasMade v x entries × Opens h f entries r
  starts-on v w x h g f es fs None one made is two starts = (
    es ++ fs,
    made-both v w x es fs one two,
    (
      ap (λ (l : List Entry). l ++ fs) made ∙ ap (λ (l : List Entry). all_made h.number h.plan ++ l) (starts.0 ∙ ap (λ (z : Held). started_from z.number 0 z.plan.apps) is),
      starts.1 ∙ ap (λ (z : Held). record z { started = length z.plan.apps }) is,
    ),
  )
  starts-on v w x h g f es fs (Some key) one made is two starts = (
    es ++ fs,
    made-both v w x es fs one two,
    (
      Failure.InApp starts.0 starts.1,
      ap (λ (l : List Entry). l ++ fs) made ∙ ap (λ (l : List Entry). all_made h.number h.plan ++ l) (starts.2 ∙ ap (λ (z : Held). started_from z.number 0 (take starts.0 z.plan.apps) ++ Started z.number starts.0 starts.1 (Some key) ∷ []) is),
      starts.3 ∙ ap (λ (z : Held). record z { started = starts.0 + 1; failed = true }) is,
    ),
  )

  -- all instances were made, and the apps were started
  pub opens-on : (v w x : View T) (h g f : Held) (r : Option Key) → ((entries : List Entry) × HasMade v w entries × MakesAll h g entries None) → ((entries : List Entry) × HasMade w x entries × StartsAll g f entries r)
      → (entries : List Entry) × HasMade v x entries × Opens h f entries r
  opens-on v w x h g f r m s = starts-on v w x h g f m.0 s.0 r m.1 m.2.0 m.2.1 s.1 s.2
