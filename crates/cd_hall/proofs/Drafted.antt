-- Drafts that are made and opened in a turn.
use Rattle.std.proofs.Common.{◌≡◌, ℕ, zero, suc, ◌+◌, ◌==◌, Bool, true, false, cond, List, [], ◌∷◌, ◌++◌, length, take, slice_get, Option, Some, None, option_map, refl, sym, ap, subst, ◌∙◌, eq-eqb}
use Rattle.std.specs.Arc.{arc_value}
use Rattle.std.specs.Prelude.{◌||◌, is_some, is_none, is_err, IfErr, Result, Ok, Err}
use Rattle.std.proofs.lemmas.Bool.{eqb-true}
use Rattle.cd_outside.specs.declared.key.Key.{Key}
use Rattle.cd_outside.specs.declared.fixtures.FixtureCall.{FixtureCall}
use Rattle.cd_outside.specs.declared.holder.Pair.{Pair}
use Rattle.cd_outside.specs.Counts.{Rose}
use Rattle.cd_outside.specs.Keys.{key_eq, has_key, keys_in}
use Rattle.cd_outside.proofs.KeyLemmas.{has_key-append}
use Rattle.cd_tree.specs.declared.tree.Tree.{Tree}
use Rattle.cd_wire.specs.declared.request.Request.{Request}
use Rattle.cd_module.specs.declared.fault.LoadFault.{LoadFault}
use Rattle.cd_legal.specs.declared.entry.Entry.{Entry}
use Rattle.cd_legal.specs.declared.entry.Entry.TheVariants.{Draft, Made, Started}
use Rattle.cd_legal.specs.declared.entry.Signed.{Signed}
use Rattle.cd_legal.specs.declared.part.Part.{Part}
use Rattle.cd_legal.specs.declared.part.Part.TheVariants.{Instance, App}
use Rattle.cd_legal.specs.declared.plan.Plan.{Plan}
use Rattle.cd_legal.specs.declared.state.State.{State}
use Rattle.cd_legal.specs.declared.state.Drafted.{Drafted}
use Rattle.cd_legal.specs.Entry.{signed}
use Rattle.cd_legal.specs.Laws.{core_at}
use Rattle.cd_legal.specs.State.{holds, keys_at, part_keys, new_draft, one_opened}
use Rattle.cd_legal.specs.Legal.{allowed, after, state_at, keys_fit, may_open}
use Rattle.cd_legal.proofs.Cores.{is_apart, bare-core}
use Rattle.cd_legal.proofs.Facts.{opens, can, is-false}
use Rattle.cd_legal.proofs.Histories.{both, first, second}
use Rattle.cd_legal.proofs.Logs.{state-snoc}
use Rattle.cd_legal.proofs.Places.{get_change_same}
use Rattle.cd_legal.proofs.Serials.{get_last}
use Rattle.cd_gate.specs.declared.gate.Gate.{Gate}
use Rattle.cd_gate.specs.declared.pass.Pass.{Pass}
use Rattle.cd_gate.specs.declared.pass.Turn.{Turn}
use Rattle.cd_gate.specs.declared.view.View.{View}
use Rattle.cd_gate.specs.Passes.{view, opening_of}
use Rattle.cd_gate.specs.Steps.{may_note, with_turn, without_turn, noted}
use Rattle.cd_gate.proofs.Entries.{allowed_same, bare_same}
use Rattle.cd_desk.specs.declared.left.Left.{Left}
use Rattle.cd_desk.specs.Instances.{failed_in}
use Rattle.cd_desk.specs.Lefts.{IsLeft, left_of, one_made as left_made, one_started as left_started}
use Rattle.cd_desk.proofs.Laws.{left_there}
use Rattle.cd_life.specs.declared.board.Board.{Board}
use Rattle.cd_life.specs.declared.board.Draft.{Draft as HeldDraft}
use Rattle.cd_life.specs.Standing.{Stood, Adds}
use Rattle.cd_hall.specs.declared.faults.KeyFailed.{KeyFailed}
use Rattle.cd_hall.specs.Drafts.{FaultRose, Held, held, new_held, one_made, one_started, IsLiveAs, IsDraftOf, place_of, taken_of, draft_entry, made_entry, started_entry}
use Rattle.cd_hall.specs.Turns.{InTurn}
use Rattle.cd_hall.proofs.Requested.{allows, stands_on}

-- what is said of equals
pub said : {D R : Type 0} (P : D → R → Type 0) (d d' : D) (r r' : R) → d' ≡ d → r' ≡ r → P d r → P d' r'
said P d d' r r' one two is = subst (λ x. P x r') (sym one) (subst (λ y. P d y) (sym two) is)

pub err_is : {A : Type 0} (r : Result A Key) → is_err r ≡ is_some (failed_in r)
err_is (Ok a) = refl
err_is (Err key) = refl

-- ---- how many keys were taken

at_keys : (test : List Key → Bool) (xs : List (List Key)) (i : ℕ) → holds test (slice_get xs i) ≡ true → test (keys_at xs i) ≡ true
at_keys test [] zero is = absurd (let h : false ≡ true = is in cc)
at_keys test [] (suc i) is = absurd (let h : false ≡ true = is in cc)
at_keys test (x ∷ xs) zero is = is
at_keys test (x ∷ xs) (suc i) is = at_keys test xs i is

or_first : (a b : Bool) → (a || b) ≡ false → a ≡ false
or_first true b is = is
or_first false b is = refl

or_second : (a b : Bool) → (a || b) ≡ false → b ≡ false
or_second true b is = absurd (let h : true ≡ false = is in cc)
or_second false b is = is

place_is : (key : Key) (keys : List Key) (n : ℕ) → holds (key_eq key) (slice_get keys n) ≡ true → has_key key (take n keys) ≡ false → n ≡ place_of key keys
place_is key [] zero is none = absurd (let h : false ≡ true = is in cc)
place_is key [] (suc n) is none = absurd (let h : false ≡ true = is in cc)
place_is key (k ∷ ks) zero is none = sym (ap (λ (b : Bool). cond b 0 (suc (place_of key ks))) is)
place_is key (k ∷ ks) (suc n) is none =
    ap (λ (m : ℕ). suc m) (place_is key ks n is (or_second (key_eq key k) (has_key key (take n ks)) none))
    ∙ sym (ap (λ (b : Bool). cond b 0 (suc (place_of key ks))) (or_first (key_eq key k) (has_key key (take n ks)) none))

taken_is : (had keys : List Key) (taken : ℕ) (failed : Option Key) → keys_fit had keys taken failed ≡ true → taken ≡ taken_of keys failed
taken_is had keys taken None is = eqb-true taken (length keys) is
taken_is had keys taken (Some key) is =
    let fresh = is-false (has_key key (had ++ take taken keys)) (second (holds (key_eq key) (slice_get keys taken)) _ is) in
    place_is key keys taken (first (holds (key_eq key) (slice_get keys taken)) _ is)
    (or_second (has_key key had) (has_key key (take taken keys)) (sym (has_key-append key had (take taken keys)) ∙ fresh))

taken_at : (part : Part) (i taken : ℕ) (failed : Option Key) (pairs : List Pair) (x : Drafted) → may_open part i taken failed pairs x ≡ true → taken ≡ taken_of (keys_at (part_keys part x.plan) i) failed
taken_at part i taken failed pairs x may =
    taken_is (keys_in pairs) (keys_at (part_keys part x.plan) i) taken failed
    (at_keys (λ keys. keys_fit (keys_in pairs) keys taken failed) (part_keys part x.plan) i (opens part i taken failed pairs x may).fit)

taken_by : (s : State) (h : Held) (part : Part) (i taken : ℕ) (failed : Option Key) → IsLiveAs s h → holds (may_open part i taken failed s.pairs) (slice_get s.drafts h.number) ≡ true → taken ≡ taken_of (keys_at (part_keys part h.plan) i) failed
taken_by s h part i taken failed live may =
    taken_at part i taken failed s.pairs live.drafted (ap (holds (may_open part i taken failed s.pairs)) (sym live.there) ∙ may)
    ∙ ap (λ (p : Plan). taken_of (keys_at (part_keys part p) i) failed) live.plan

made_is : (s : State) (h : Held) (taken : ℕ) (failed : Option Key) → IsLiveAs s h → allowed s (Made h.number h.made taken failed) ≡ true → Made h.number h.made taken failed ≡ made_entry h failed
made_is s h taken failed live may = ap (λ (n : ℕ). Made h.number h.made n failed) (taken_by s h Instance h.made taken failed live may)

started_is : (s : State) (h : Held) (taken : ℕ) (failed : Option Key) → IsLiveAs s h → allowed s (Started h.number h.started taken failed) ≡ true → Started h.number h.started taken failed ≡ started_entry h failed
started_is s h taken failed live may = ap (λ (n : ℕ). Started h.number h.started n failed) (taken_by s h App h.started taken failed live may)

-- ---- what the entry leaves

new_live : (s : State) (h : Held) → allowed s (draft_entry h) ≡ true → h ≡ new_held h.number h.tree h.plan → IsLiveAs (after s (draft_entry h)) h
new_live s h may is = record {
  drafted = new_draft h.tree h.plan;
  there = ap (slice_get (s.drafts ++ new_draft h.tree h.plan ∷ [])) (can s (draft_entry h) may).next ∙ get_last s.drafts (new_draft h.tree h.plan);
  live = refl;
  tree = refl;
  plan = refl;
  made = sym (ap (λ (z : Held). z.made) is);
  started = sym (ap (λ (z : Held). z.started) is);
  failed = sym (ap (λ (z : Held). z.failed) is);
}

made_live : (s : State) (h : Held) (failed : Option Key) → IsLiveAs s h → IsLiveAs (after s (made_entry h failed)) (one_made h (is_some failed))
made_live s h failed live = record {
  drafted = one_opened Instance failed live.drafted;
  there = get_change_same (one_opened Instance failed) s.drafts h.number ∙ ap (option_map (one_opened Instance failed)) live.there;
  live = live.live;
  tree = live.tree;
  plan = live.plan;
  made = ap (λ (z : ℕ). z + 1) live.made;
  started = live.started;
  failed = refl;
}

started_live : (s : State) (h : Held) (failed : Option Key) → IsLiveAs s h → IsLiveAs (after s (started_entry h failed)) (one_started h (is_some failed))
started_live s h failed live = record {
  drafted = one_opened App failed live.drafted;
  there = get_change_same (one_opened App failed) s.drafts h.number ∙ ap (option_map (one_opened App failed)) live.there;
  live = live.live;
  tree = live.tree;
  plan = live.plan;
  made = live.made;
  started = ap (λ (z : ℕ). z + 1) live.started;
  failed = refl;
}

-- tickets are nothing to it
live_by : (s t : State) (h : Held) → t.drafts ≡ s.drafts → IsLiveAs s h → IsLiveAs t h
live_by s t h same l = record { drafted = l.drafted; there = ap (λ (xs : List Drafted). slice_get xs h.number) same ∙ l.there; live = l.live; tree = l.tree; plan = l.plan; made = l.made; started = l.started; failed = l.failed }

live_alike : (one other : List Signed) (h : Held) → core_at other ≡ core_at one → IsLiveAs (state_at one) h → IsLiveAs (state_at other) h
live_alike one other h same l = live_by (state_at one) (state_at other) h (ap (λ (s : State). s.drafts) (bare_same one other same)) l

pub live_core : (log : List Signed) (h : Held) → IsLiveAs (state_at log) h → IsLiveAs (state_at (core_at log)) h
live_core log h l = live_by (state_at log) (state_at (core_at log)) h (ap (λ (s : State). s.drafts) (sym (bare-core log))) l

-- ---- a draft and how far it has come

module _ {A B : Type 0} {k : _} (d : HeldDraft A B k) where
  pub held_made : (e : HeldDraft A B k) (err : Bool) → e.left ≡ left_made d.left err → e.loaded ≡ d.loaded → held e ≡ one_made (held d) err
  held_made e err l o = λ i. record { number = (l i).number; tree = (arc_value (o i)).tree; plan = (arc_value (o i)).plan; made = (l i).made; started = (l i).started; failed = (l i).failed }

  pub held_started : (e : HeldDraft A B k) (err : Bool) → e.left ≡ left_started d.left err → e.loaded ≡ d.loaded → held e ≡ one_started (held d) err
  held_started e err l o = λ i. record { number = (l i).number; tree = (arc_value (o i)).tree; plan = (arc_value (o i)).plan; made = (l i).made; started = (l i).started; failed = (l i).failed }

  -- that of a new one
  abbrev fresh : ℕ → ℕ → Left
  fresh modules apps = record { number = d.left.number; made = 0; modules = modules; started = 0; apps = apps; failed = false }

  pub held_new : (tree : Tree) (plan : Plan) (modules apps : ℕ) → d.left ≡ fresh modules apps → (arc_value d.loaded).tree ≡ tree → (arc_value d.loaded).plan ≡ plan → held d ≡ new_held d.left.number tree plan
  held_new tree plan modules apps l t p = λ i. record { number = d.left.number; tree = t i; plan = p i; made = (l i).made; started = (l i).started; failed = (l i).failed }

  pub entry_new : (tree : Tree) (plan : Plan) → (arc_value d.loaded).tree ≡ tree → (arc_value d.loaded).plan ≡ plan → draft_entry (held d) ≡ Draft d.left.number tree plan
  entry_new tree plan t p = λ i. Draft d.left.number (t i) (p i)

  -- what is left of it, as the state has it
  left_same : {T : Type 0} (v : View T) (has : IsDraftOf v d) → left_of d.left.number has.live.drafted ≡ d.left
  left_same v has =
      let x = has.live.drafted in
      let modules : length x.plan.modules ≡ d.left.modules = ap (λ (p : Plan). length p.modules) has.live.plan ∙ sym has.modules in
      let apps : length x.plan.apps ≡ d.left.apps = ap (λ (p : Plan). length p.apps) has.live.plan ∙ sym has.apps in
      λ i. record { number = d.left.number; made = has.live.made i; modules = modules i; started = has.live.started i; apps = apps i; failed = has.live.failed i }

-- ---- in a turn

owns : (n : ℕ) (o : Option ℕ) → o ≡ Some n → holds (λ own. own == n) o ≡ true
owns n o is = ap (holds (λ own. own == n)) is ∙ eq-eqb n n refl

module _ {T : Type 0} where
  pub may_draft : (v : View T) (h : Held) → v.draft ≡ None → allowed (state_at v.seen) (draft_entry h) ≡ true → may_note v (draft_entry h) ≡ true
  may_draft v h free may = both (allowed (state_at v.seen) (draft_entry h)) _ may (ap is_none free)

  pub may_make : (v : View T) (h : Held) (failed : Option Key) → v.draft ≡ Some h.number → allowed (state_at v.seen) (made_entry h failed) ≡ true → may_note v (made_entry h failed) ≡ true
  may_make v h failed has may = both (allowed (state_at v.seen) (made_entry h failed)) _ may (owns h.number v.draft has)

  pub may_start : (v : View T) (h : Held) (failed : Option Key) → v.draft ≡ Some h.number → allowed (state_at v.seen) (started_entry h failed) ≡ true → may_note v (started_entry h failed) ≡ true
  may_start v h failed has may = both (allowed (state_at v.seen) (started_entry h failed)) _ may (owns h.number v.draft has)

module _ {T A B : Type 0} {k : _} where
  -- the draft after its entry
  pub drafted : (v w : View T) (log : List Signed) (d : HeldDraft A B k) (modules apps : ℕ) → core_at log ≡ core_at v.seen → allowed (state_at v.seen) (draft_entry (held d)) ≡ true → d.left ≡ fresh d modules apps
      → modules ≡ length (held d).plan.modules → apps ≡ length (held d).plan.apps → w ≡ noted v log (draft_entry (held d)) → IsDraftOf w d
  drafted v w log d modules apps core may l m a seen =
      let h : Held = held d in
      let new : h ≡ new_held h.number h.tree h.plan = held_new d h.tree h.plan modules apps l refl refl in
      record {
        own = ap (λ (z : View T). z.draft) seen;
        live = subst (λ (z : View T). IsLiveAs (state_at z.seen) h) (sym seen) (subst (λ (s : State). IsLiveAs s h) (sym (state-snoc log (signed v.number (draft_entry h)))) (new_live (state_at log) h (allowed_same v.seen log (draft_entry h) refl core ∙ may) new));
        modules = ap (λ (z : Left). z.modules) l ∙ m;
        apps = ap (λ (z : Left). z.apps) l ∙ a;
      }

  -- and after those of its next instance, and of its next app
  pub draft_made : (v w : View T) (log : List Signed) (d e : HeldDraft A B k) (failed : Option Key) (err : Bool) → core_at log ≡ core_at v.seen → IsDraftOf v d → w ≡ noted v log (made_entry (held d) failed) → e.left ≡ left_made d.left err → e.loaded ≡ d.loaded → err ≡ is_some failed → IsDraftOf w e
  draft_made v w log d e failed err core has seen l o same =
      let h : Held = held d in
      let is : held e ≡ one_made h err = held_made d e err l o in
      record {
        own = ap (λ (z : View T). z.draft) seen ∙ (has.own ∙ ap (λ (z : Left). Some z.number) (sym l));
        live = subst (λ (z : Held). IsLiveAs (state_at w.seen) z) (sym (is ∙ ap (one_made h) same))
            (subst (λ (z : View T). IsLiveAs (state_at z.seen) (one_made h (is_some failed))) (sym seen)
            (subst (λ (s : State). IsLiveAs s (one_made h (is_some failed))) (sym (state-snoc log (signed v.number (made_entry h failed)))) (made_live (state_at log) h failed (live_alike v.seen log h core has.live))));
        modules = ap (λ (z : Left). z.modules) l ∙ (has.modules ∙ ap (λ (z : Held). length z.plan.modules) (sym is));
        apps = ap (λ (z : Left). z.apps) l ∙ (has.apps ∙ ap (λ (z : Held). length z.plan.apps) (sym is));
      }

  pub draft_started : (v w : View T) (log : List Signed) (d e : HeldDraft A B k) (failed : Option Key) (err : Bool) → core_at log ≡ core_at v.seen → IsDraftOf v d → w ≡ noted v log (started_entry (held d) failed) → e.left ≡ left_started d.left err → e.loaded ≡ d.loaded → err ≡ is_some failed → IsDraftOf w e
  draft_started v w log d e failed err core has seen l o same =
      let h : Held = held d in
      let is : held e ≡ one_started h err = held_started d e err l o in
      record {
        own = ap (λ (z : View T). z.draft) seen ∙ (has.own ∙ ap (λ (z : Left). Some z.number) (sym l));
        live = subst (λ (z : Held). IsLiveAs (state_at w.seen) z) (sym (is ∙ ap (one_started h) same))
            (subst (λ (z : View T). IsLiveAs (state_at z.seen) (one_started h (is_some failed))) (sym seen)
            (subst (λ (s : State). IsLiveAs s (one_started h (is_some failed))) (sym (state-snoc log (signed v.number (started_entry h failed)))) (started_live (state_at log) h failed (live_alike v.seen log h core has.live))));
        modules = ap (λ (z : Left). z.modules) l ∙ (has.modules ∙ ap (λ (z : Held). length z.plan.modules) (sym is));
        apps = ap (λ (z : Left). z.apps) l ∙ (has.apps ∙ ap (λ (z : Held). length z.plan.apps) (sym is));
      }

  -- when the turn is taken, and when it is left
  pub draft_in : (v w : View T) (d : HeldDraft A B k) → w ≡ with_turn v w.seen → ((n : ℕ) → v.draft ≡ Some n → slice_get (state_at w.seen).drafts n ≡ slice_get (state_at v.seen).drafts n) → IsDraftOf v d → IsDraftOf w d
  draft_in v w d same stays has =
      let l = has.live in
      record {
        own = ap (λ (z : View T). z.draft) same ∙ has.own;
        live = record { drafted = l.drafted; there = stays d.left.number has.own ∙ l.there; live = l.live; tree = l.tree; plan = l.plan; made = l.made; started = l.started; failed = l.failed };
        modules = has.modules;
        apps = has.apps;
      }

  pub draft_after : (x y : View T) (d : HeldDraft A B k) → y ≡ without_turn x → IsDraftOf x d → IsDraftOf y d
  draft_after x y d is has =
      let left : IsDraftOf (without_turn x) d = record { own = has.own; live = has.live; modules = has.modules; apps = has.apps } in
      subst (λ (z : View T). IsDraftOf z d) (sym is) left

  -- the draft that was handed back
  pub draft_kept : (v w x y : View T) (d e : HeldDraft A B k) → w ≡ with_turn v w.seen → ((n : ℕ) → v.draft ≡ Some n → slice_get (state_at w.seen).drafts n ≡ slice_get (state_at v.seen).drafts n) → x ≡ w → y ≡ without_turn x → e ≡ d → IsDraftOf v d → IsDraftOf y e
  draft_kept v w x y d e same stays none is kept has =
      subst (λ (z : HeldDraft A B k). IsDraftOf y z) (sym kept) (draft_after x y d is (subst (λ (z : View T). IsDraftOf z d) (sym none) (draft_in v w d same stays has)))

module _ {A F B : Type 0} {k : _} (calls : F → Option (List FixtureCall)) (faults : F → ℕ) (plan : Tree → Result Plan LoadFault) (makes : Tree → Request → Option Tree) (g : Gate (Board A F B k)) (t : Turn (Board A F B k)) (p : Pass (Board A F B k)) (h : InTurn (Stood calls faults plan makes) g t p) where
  -- what is left of the draft is in the books
  pub left_here : (d : HeldDraft A B k) → IsDraftOf (view p) d → IsLeft t.value.desk.books (arc_value d.loaded).tree d.left
  left_here d has =
      let x = has.live.drafted in
      subst (λ (l : Left). IsLeft t.value.desk.books (arc_value d.loaded).tree l) (left_same d (view p) has)
      (subst (λ (tree : Tree). IsLeft t.value.desk.books tree (left_of d.left.number x)) has.live.tree
      (left_there calls (opening_of g).desk t.value.desk (core_at (view p).seen) h.board.desk d.left.number x (ap (λ (s : State). slice_get s.drafts d.left.number) (sym (bare-core (view p).seen)) ∙ has.live.there) has.live.live))

  -- the entry that was made is allowed, and the board stands for it
  abbrev IsMade : Board A F B k → Entry → Type 0
  IsMade b e = (allowed (state_at (view p).seen) e ≡ true) × Stood calls faults plan makes (opening_of g) b (core_at (view p).seen ++ signed (view p).number e ∷ [])

  made_by : (b : Board A F B k) (e : Entry) → is_apart e ≡ true → Adds calls faults plan makes t.value b e → IsMade b e
  made_by b e apart adds = (allows calls faults plan makes g t p h b e apart adds, stands_on calls faults plan makes g t p h b e adds)

  pub drafted_here : (b : Board A F B k) (d : HeldDraft A B k) (tree : Tree) (planned : Plan) → (arc_value d.loaded).tree ≡ tree → (arc_value d.loaded).plan ≡ planned → Adds calls faults plan makes t.value b (Draft d.left.number tree planned) → IsMade b (draft_entry (held d))
  drafted_here b d tree planned one two adds = subst (IsMade b) (sym (entry_new d tree planned one two)) (made_by b (Draft d.left.number tree planned) refl adds)

  pub made_here : (b : Board A F B k) (d : HeldDraft A B k) (failed : Option Key) → IsDraftOf (view p) d → ((taken : ℕ) × Adds calls faults plan makes t.value b (Made d.left.number d.left.made taken failed)) → IsMade b (made_entry (held d) failed)
  made_here b d failed has adds =
      let is = made_by b (Made d.left.number d.left.made adds.0 failed) refl adds.1 in
      subst (IsMade b) (made_is (state_at (view p).seen) (held d) adds.0 failed has.live is.0) is

  pub started_here : (b : Board A F B k) (d : HeldDraft A B k) (failed : Option Key) → IsDraftOf (view p) d → ((taken : ℕ) × Adds calls faults plan makes t.value b (Started d.left.number d.left.started taken failed)) → IsMade b (started_entry (held d) failed)
  started_here b d failed has adds =
      let is = made_by b (Started d.left.number d.left.started adds.0 failed) refl adds.1 in
      subst (IsMade b) (started_is (state_at (view p).seen) (held d) adds.0 failed has.live is.0) is

  -- as many drafts were made as the books say
  pub drafts_here : length (state_at (view p).seen).drafts ≡ t.value.desk.books.next
  drafts_here = ap (λ (s : State). length s.drafts) (bare-core (view p).seen) ∙ h.board.desk.agrees.drafts

-- between the board that was found and the one that was left the faults rose, where the call failed
pub fault_rose : {A F B S : Type 0} {k : _} (calls : F → Option (List FixtureCall)) (faults : F → ℕ) (plan : Tree → Result Plan LoadFault) (makes : Tree → Request → Option Tree) (o b c : Board A F B k) (found before log seen : List Signed) (last : Signed) (r : Result S KeyFailed) (opened : Result S Key)
    → Stood calls faults plan makes o b (core_at before) → core_at found ≡ core_at before → Stood calls faults plan makes o c (core_at log) → seen ≡ log → seen ≡ found ++ last ∷ [] → IfErr r (λ failed. opened ≡ Err failed.key) → IfErr opened (λ key. Rose (faults b.desk.fixtures) (faults c.desk.fixtures))
    → IfErr r (λ failed. FaultRose (Stood calls faults plan makes) (λ (z : Board A F B k). faults z.desk.fixtures) o seen last)
fault_rose calls faults plan makes o b c found before log seen last (Ok a) opened was alike is same made told rose = tt
fault_rose calls faults plan makes o b c found before log seen last (Err failed) opened was alike is same made told rose = record {
  found = found;
  before = b;
  now = c;
  made = made;
  was = subst (λ (l : List Signed). Stood calls faults plan makes o b l) (sym alike) was;
  is = subst (λ (l : List Signed). Stood calls faults plan makes o c (core_at l)) (sym same) is;
  rose = subst (λ z. IfErr z (λ key. Rose (faults b.desk.fixtures) (faults c.desk.fixtures))) told rose;
}
