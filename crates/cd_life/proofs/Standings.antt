-- What a board stands for after one entry more.
use Rattle.std.proofs.Common.{◌≡◌, ◌≢◌, ℕ, zero, suc, ◌+◌, ◌-◌, ◌<◌, ◌≤◌, ◌==◌, ◌&&◌, true, false, Bool, not, ◌||◌, List, [], ◌∷◌, ◌++◌, length, refl, sym, ap, ◌∙◌, arith, subst, slice_get, Option, Some, None, Result, Ok, Err, OnErr, IfErr, cond, eq-eqb, ne_eqb, ⊎_elim}
use Rattle.std.proofs.lemmas.Bool.{eqb-true}
use Rattle.std.proofs.lemmas.Bool.Decides.{eqb_tells}
use Rattle.std.specs.Vec.{vec_len, vec_capacity}
use Rattle.cd_outside.specs.declared.key.Key.{Key}
use Rattle.cd_outside.specs.declared.fixtures.FixtureCall.{FixtureCall}
use Rattle.cd_outside.specs.Counts.{Covers, Rises, Rose, raised}
use Rattle.cd_tree.specs.declared.tree.Tree.{Tree}
use Rattle.cd_wire.specs.declared.request.Request.{Request}
use Rattle.cd_module.specs.declared.fault.LoadFault.{LoadFault}
use Rattle.cd_legal.specs.declared.plan.Plan.{Plan}
use Rattle.cd_legal.specs.declared.entry.Change.{Change}
use Rattle.cd_legal.specs.declared.entry.Entry.{Entry}
use Rattle.cd_legal.specs.declared.entry.Entry.TheVariants.{Draft, Made, Started, Publish, Abandon, Retire}
use Rattle.cd_legal.specs.declared.entry.Signed.{Signed}
use Rattle.cd_legal.specs.declared.state.State.{State}
use Rattle.cd_legal.specs.declared.state.Drafted.{Drafted}
use Rattle.cd_legal.specs.declared.state.Life.TheVariants.{Published, Abandoned}
use Rattle.cd_legal.specs.Entry.{signed, entries}
use Rattle.cd_legal.specs.State.{opening_state, conf_of, Conf, is_live, new_draft, has_number}
use Rattle.cd_legal.specs.Calls.{failures}
use Rattle.cd_legal.specs.Legal.{allowed, after, is_complete, state_from, state_at, IsLegal}
use Rattle.cd_legal.proofs.Histories.{entries-snoc}
use Rattle.cd_legal.proofs.Serials.{is_publish, count_running, published-count, retired-below}
use Rattle.cd_legal.proofs.Facts.{can, completes, Publishes, Retires}
use Rattle.cd_legal.proofs.Fresh.{serial_rises}
use Rattle.cd_desk.specs.Instances.{failed_in}
use Rattle.cd_desk.specs.Desks.{AddsTo, Holds, Keeps as KeepsDesk}
use Rattle.cd_life.specs.declared.board.Board.{Board}
use Rattle.cd_desk.specs.declared.left.Left.{Left}
use Rattle.cd_desk.specs.Lefts.{IsLeft}
use Rattle.cd_desk.proofs.Laws.{LeftDraft, left_is}
use Rattle.cd_life.specs.declared.board.Kept.{Kept}
use Rattle.cd_life.specs.Changes.{tree_at, tree_of}
use Rattle.cd_life.specs.Fits.{Fits, FitFrom, AllFit}
use Rattle.cd_life.specs.Standing.{Stood, Shelves, Adds, Keeps, is_kept, kept_to, kept_among}
use Rattle.cd_life.proofs.Shelving.{state_more, allowed_more, conf_before, conf_after, kept_before, live_plain, live_push, live_gone, is_plain, older, published_kept, last_kept, kept_plain, kept_more, kept_less, others_kept, last_stays, published_more}
use Rattle.cd_life.proofs.Laws.{conf_there_is}

fit_more : (plan : Tree → Result Plan LoadFault) (makes : Tree → Request → Option Tree) (s : State) (log : List Entry) (e : Entry) → FitFrom plan makes s log → Fits plan makes (state_from s log) e → FitFrom plan makes s (log ++ e ∷ [])
fit_more plan makes s [] e all one = (one, tt)
fit_more plan makes s (x ∷ log) e all one = (all.0, fit_more plan makes (after s x) log e all.1 one)

at_push_some : {A B : Type 0} {g : _} (xs : List (Kept A B g)) (y : Kept A B g) (n : ℕ) (t : Tree) → tree_at xs n ≡ Some t → tree_at (xs ++ y ∷ []) n ≡ Some t
at_push_some [] y n t e = cc
at_push_some (x ∷ xs) y n t e = pick (x.serial == n) (at_push_some xs y n t) e
  where
    pick : (b : Bool) → (tree_at xs n ≡ Some t → tree_at (xs ++ y ∷ []) n ≡ Some t) → cond b (Some (tree_of x)) (tree_at xs n) ≡ Some t → cond b (Some (tree_of x)) (tree_at (xs ++ y ∷ []) n) ≡ Some t
    pick true on e = e
    pick false on e = on e

at_push_none : {A B : Type 0} {g : _} (xs : List (Kept A B g)) (y : Kept A B g) (n : ℕ) → tree_at xs n ≡ None → tree_at (xs ++ y ∷ []) n ≡ cond (y.serial == n) (Some (tree_of y)) None
at_push_none [] y n e = refl
at_push_none (x ∷ xs) y n e = pick (x.serial == n) (at_push_none xs y n) e
  where
    pick : (b : Bool) → (tree_at xs n ≡ None → tree_at (xs ++ y ∷ []) n ≡ cond (y.serial == n) (Some (tree_of y)) None) → cond b (Some (tree_of x)) (tree_at xs n) ≡ None → cond b (Some (tree_of x)) (tree_at (xs ++ y ∷ []) n) ≡ cond (y.serial == n) (Some (tree_of y)) None
    pick true on e = cc
    pick false on e = on e

same_tree : (o : Option Drafted) (x y : Drafted) (t : Tree) → o ≡ Some x → o ≡ Some y → x.tree ≡ t → y.tree ≡ t
same_tree o x y t is there tree = ap (λ (z : Drafted). z.tree) (let e : Some y ≡ Some x = sym there ∙ is in let f : y ≡ x = cc in f) ∙ tree

-- ---- keys that could not be opened

failures_more : (log : List Entry) (e : Entry) → failures (log ++ e ∷ []) ≡ failures log + failures (e ∷ [])
failures_more [] e = omega arith
failures_more (Made d i n None ∷ log) e = failures_more log e
failures_more (Made d i n (Some key) ∷ log) e = let rest = failures_more log e in omega (arith, rest)
failures_more (Started d i n None ∷ log) e = failures_more log e
failures_more (Started d i n (Some key) ∷ log) e = let rest = failures_more log e in omega (arith, rest)
failures_more (x ∷ log) e = failures_more log e

one_failure : (e : Entry) → failures (e ∷ []) ≤ 1
one_failure (Made d i n None) = omega arith
one_failure (Made d i n (Some key)) = omega arith
one_failure (Started d i n None) = omega arith
one_failure (Started d i n (Some key)) = omega arith
one_failure e = omega arith

covers_more : (m n before was now : ℕ) → n ≤ 1 → Rises was now (0 < n) → Covers m before was 0 → Covers (m + n) before now 0
covers_more m zero before was now few r covers below none = let later = r.later in let all = covers (omega (arith, later, below)) none in omega (arith, later, all)
covers_more m (suc zero) before was now few r covers below none =
    let later = r.later in
    let all = covers (omega (arith, later, below)) none in
    let rose : raised was ≤ now = r.rose (omega arith) in
    omega (arith, later, all, rose, below)
covers_more m (suc (suc n)) before was now few r covers below none = absurd (omega (arith, few))

pub covers_none : (n : ℕ) → Covers 0 n n 0
covers_none n below none = omega arith

-- where the faults are as they were
pub calm : (before now : ℕ) → now ≡ before → Rises before now (0 < 0)
calm before now same = record { later = omega (arith, same); rose = λ more. absurd (omega (arith, more)) }

-- they rose where a key could not be opened
pub made_rises : {A : Type 0} (d i taken before now : ℕ) (result : Result A Key) → before ≤ now → IfErr result (λ key. Rose before now) → Rises before now (0 < failures (Made d i taken (failed_in result) ∷ []))
made_rises d i taken before now (Ok a) later cause = record { later = later; rose = λ more. absurd (omega (arith, more)) }
made_rises d i taken before now (Err key) later cause = record { later = later; rose = λ more. cause }

pub started_rises : {A : Type 0} (d i taken before now : ℕ) (result : Result A Key) → before ≤ now → IfErr result (λ key. Rose before now) → Rises before now (0 < failures (Started d i taken (failed_in result) ∷ []))
started_rises d i taken before now (Ok a) later cause = record { later = later; rose = λ more. absurd (omega (arith, more)) }
started_rises d i taken before now (Err key) later cause = record { later = later; rose = λ more. cause }

module _ {A F B : Type 0} {g : _} (calls : F → Option (List FixtureCall)) (faults : F → ℕ) (plan : Tree → Result Plan LoadFault) (makes : Tree → Request → Option Tree) where
  -- an entry of the desk is one of the board, where it fits, and leaves what is kept
  pub adds : (v w : Board A F B g) (e : Entry) → AddsTo calls v.desk w.desk e → Rises (faults v.desk.fixtures) (faults w.desk.fixtures) (0 < failures (e ∷ [])) → ((opening : Board A F B g) (log : List Signed) → Stood calls faults plan makes opening v log → Fits plan makes (state_at log) e)
      → ((opening : Board A F B g) (log : List Signed) (k : ℕ) → Stood calls faults plan makes opening v log → IsLegal (log ++ signed k e ∷ []) → Shelves w (after (state_at log) e)) → Adds calls faults plan makes v w e
  adds v w e desk rises fits shelf opening log k h =
      let x : Signed = signed k e in
      let next : Holds calls opening.desk w.desk (log ++ x ∷ []) = desk opening.desk log k h.desk in
      record {
        desk = next;
        fits = subst (λ z. AllFit plan makes z) (sym (entries-snoc log x)) (fit_more plan makes opening_state (entries log) e h.fits (fits opening log h));
        shelf = subst (λ z. Shelves w z) (sym (state_more log x)) (shelf opening log k h next.is_legal);
        covered = subst (λ (z : ℕ). Covers z (faults opening.desk.fixtures) (faults w.desk.fixtures) 0) (sym (ap failures (entries-snoc log x) ∙ failures_more (entries log) e))
            (covers_more (failures (entries log)) (failures (e ∷ [])) (faults opening.desk.fixtures) (faults v.desk.fixtures) (faults w.desk.fixtures) (one_failure e) rises h.covered);
      }

  pub keeps : (v w : Board A F B g) → KeepsDesk calls v.desk w.desk → faults w.desk.fixtures ≡ faults v.desk.fixtures → ((s : State) → Shelves v s → Shelves w s) → Keeps calls faults plan makes v w
  keeps v w desk same shelf opening log h = record {
    desk = desk opening.desk log h.desk;
    fits = h.fits;
    shelf = shelf (state_at log) h.shelf;
    covered = subst (λ (z : ℕ). Covers (failures (entries log)) (faults opening.desk.fixtures) z 0) (sym same) h.covered;
  }

  -- an entry that makes no draft, publishes and abandons none, where the board keeps what it kept
  pub shelf_plain : (v w : Board A F B g) (e : Entry) → is_plain e ≡ true → is_publish e ≡ false → w.kept ≡ v.kept → w.live ≡ v.live → (opening : Board A F B g) (log : List Signed) (k : ℕ) → Stood calls faults plan makes opening v log → IsLegal (log ++ signed k e ∷ []) → Shelves w (after (state_at log) e)
  shelf_plain v w e plain none kept live opening log k h legal =
      let s : State = state_at log in
      let may = allowed_more log (signed k e) legal in
      let up = serial_rises s e may in
      record {
        kept = λ n t conf is. ap (λ z. tree_at z.items n) kept ∙ h.shelf.kept n t (conf_before log (signed k e) n t h.desk.is_legal legal none conf) (kept_before s e n none is);
        most = (let few = h.shelf.most in let same = kept_plain s e plain in let len : vec_len w.kept ≡ vec_len v.kept = ap (λ z. vec_len z) kept in omega (arith, few, same, len));
        later = λ n lt. ap (λ z. tree_at z.items n) kept ∙ h.shelf.later n (omega (arith, lt, up));
        live = live_plain s e plain ∙ (h.shelf.live ∙ sym live);
        room = subst (λ z. vec_len z + w.live ≤ vec_capacity z) (sym kept) (subst (λ (z : ℕ). vec_len v.kept + z ≤ vec_capacity v.kept) (sym live) h.shelf.room);
      }

  -- a new draft, for which there is room
  pub shelf_draft : (v w : Board A F B g) (d : ℕ) (tree : Tree) (planned : Plan) → w.kept.items ≡ v.kept.items → vec_len w.kept ≡ vec_len v.kept → w.live ≡ v.live + 1 → vec_len w.kept + w.live ≤ vec_capacity w.kept → (opening : Board A F B g) (log : List Signed) (k : ℕ) → Stood calls faults plan makes opening v log → IsLegal (log ++ signed k (Draft d tree planned) ∷ [])
      → Shelves w (after (state_at log) (Draft d tree planned))
  shelf_draft v w d tree planned kept len live room opening log k h legal =
      let s : State = state_at log in
      let more = live_push s.drafts (new_draft tree planned) refl in
      let was = h.shelf.live in
      record {
        kept = λ n t conf is. ap (λ z. tree_at z n) kept ∙ h.shelf.kept n t (conf_before log (signed k (Draft d tree planned)) n t h.desk.is_legal legal refl conf) is;
        most = (let few = h.shelf.most in let same = kept_more s (after s (Draft d tree planned)) (length s.published) (λ m lt k. k) in omega (arith, few, same, len));
        later = λ n lt. ap (λ z. tree_at z n) kept ∙ h.shelf.later n lt;
        live = omega (arith, more, was, live);
        room = room;
      }

  -- a draft that is given up
  pub shelf_abandon : (v w : Board A F B g) (d : ℕ) → w.kept ≡ v.kept → w.live ≡ v.live - 1 → (opening : Board A F B g) (log : List Signed) (k : ℕ) → Stood calls faults plan makes opening v log → IsLegal (log ++ signed k (Abandon d) ∷ []) → Shelves w (after (state_at log) (Abandon d))
  shelf_abandon v w d kept live opening log k h legal =
      let s : State = state_at log in
      let may : allowed s (Abandon d) ≡ true = allowed_more log (signed k (Abandon d)) legal in
      let gone = live_gone (λ x. record x { life = Abandoned }) (λ x. refl) (λ x. is_live x.life) (λ x m. m) s.drafts d may in
      let was = h.shelf.live in
      let room = h.shelf.room in
      record {
        kept = λ n t conf is. ap (λ z. tree_at z.items n) kept ∙ h.shelf.kept n t (conf_before log (signed k (Abandon d)) n t h.desk.is_legal legal refl conf) is;
        most = (let few = h.shelf.most in let same = kept_more s (after s (Abandon d)) (length s.published) (λ m lt k. k) in let len : vec_len w.kept ≡ vec_len v.kept = ap (λ z. vec_len z) kept in omega (arith, few, same, len));
        later = λ n lt. ap (λ z. tree_at z.items n) kept ∙ h.shelf.later n lt;
        live = omega (arith, gone, was, live);
        room = subst (λ z. vec_len z + w.live ≤ vec_capacity z) (sym kept) (omega (arith, room, live));
      }

  -- a configuration more
  pub shelf_publish : (v w : Board A F B g) (l : Left) (n : ℕ) (way : Change) (loaded : Tree) (one : Kept A B g) → one.serial ≡ n + 1 → tree_of one ≡ loaded → IsLeft v.desk.books loaded l → (vec_len v.kept < vec_capacity v.kept → w.kept.items ≡ v.kept.items ++ one ∷ []) → vec_len w.kept ≤ vec_len v.kept + 1
      → vec_capacity w.kept ≡ vec_capacity v.kept → w.live ≡ v.live - 1 → (opening : Board A F B g) (log : List Signed) (k : ℕ) → Stood calls faults plan makes opening v log → IsLegal (log ++ signed k (Publish l.number (n + 1) n way) ∷ []) → Shelves w (after (state_at log) (Publish l.number (n + 1) n way))
  shelf_publish v w l n way loaded one serial its left pushed len capacity live opening log k h legal =
      let s : State = state_at log in
      let d : ℕ = l.number in
      let e : Entry = Publish d (n + 1) n way in
      let may : allowed s e ≡ true = allowed_more log (signed k e) legal in
      let f : Publishes s d (n + 1) n = can s e may in
      let gone = live_gone (λ x. record x { life = Published (n + 1) }) (λ x. refl) is_complete (λ x m. ap is_live (completes x m).opened.live) s.drafts d f.complete in
      let was = h.shelf.live in
      let room = h.shelf.room in
      let count : length s.published ≡ s.serial = count_running s f.running (published-count (entries log) h.desk.is_legal) in
      let current = f.current in
      let items : w.kept.items ≡ v.kept.items ++ one ∷ [] = pushed (omega (arith, gone, was, room)) in
      let x : LeftDraft s loaded l = left_is calls opening.desk v.desk log h.desk loaded l left in
      let last : tree_at w.kept.items (n + 1) ≡ Some loaded =
      ap (λ z. tree_at z (n + 1)) items ∙ (at_push_none v.kept.items one (n + 1) (h.shelf.later (n + 1) (omega (arith, current))) ∙ (ap (λ (b : Bool). cond b (Some (tree_of one)) None) (eq-eqb one.serial (n + 1) serial) ∙ ap (λ (z : Tree). Some z) its)) in
      record {
        kept = λ m t conf is. published_kept s d n way loaded count current (λ y there. same_tree (slice_get s.drafts d) x.draft y loaded x.there there x.tree) (tree_at w.kept.items) last m t conf
            (λ low. ap (λ z. tree_at z m) items ∙ at_push_some v.kept.items one m t (h.shelf.kept m t (sym (conf_after log (signed k e) m legal (omega (arith, low, count))) ∙ conf) (older s d m low is)));
        most = (let few = h.shelf.most in let more = published_more s d n way (λ m last. unretired m (last ∙ count)) in omega (arith, few, more, len));
        later = λ m lt. ap (λ z. tree_at z m) items ∙ (at_push_none v.kept.items one m (h.shelf.later m (omega (arith, lt, current))) ∙ ap (λ (b : Bool). cond b (Some (tree_of one)) None) (ne_eqb one.serial m (λ (same : one.serial ≡ m). omega (arith, same, serial, lt))));
        live = omega (arith, gone, was, live);
        room = omega (arith, gone, was, live, room, len, capacity);
      }
    where
      unretired : (m : ℕ) → m ≡ (state_at log).serial → has_number m (state_at log).retired ≡ false
      unretired m current = at (has_number m (state_at log).retired) refl
        where
          at : (c : Bool) → has_number m (state_at log).retired ≡ c → has_number m (state_at log).retired ≡ false
          at false e = e
          at true e = absurd (let low = retired-below (entries log) m h.desk.is_legal e in omega (arith, low, current))

  -- a serial that is retired, of which nothing is kept any more unless a halt has superseded it
  pub shelf_retire : (v w : Board A F B g) (n : ℕ) → (v.desk.halted && (n + 1 == v.desk.serial)) ≡ false → ((m : ℕ) → m ≢ n → tree_at w.kept.items m ≡ tree_at v.kept.items m) → vec_len w.kept ≤ vec_len v.kept → ((t : Tree) → tree_at v.kept.items n ≡ Some t → vec_len w.kept + 1 ≡ vec_len v.kept) → vec_capacity w.kept ≡ vec_capacity v.kept → w.live ≡ v.live → (opening : Board A F B g) (log : List Signed) (k : ℕ)
      → Stood calls faults plan makes opening v log → IsLegal (log ++ signed k (Retire n) ∷ []) → Shelves w (after (state_at log) (Retire n))
  shelf_retire v w n flag others len gone capacity live opening log k h legal =
      let s : State = state_at log in
      let e : Entry = Retire n in
      let may : allowed s e ≡ true = allowed_more log (signed k e) legal in
      let f : Retires s n = can s e may in
      let low = f.superseded in
      let room = h.shelf.room in
      let same : (s.halted && (n + 1 == s.serial)) ≡ false = ap (λ (z : Bool). z && (n + 1 == s.serial)) h.desk.agrees.halted ∙ (ap (λ (z : ℕ). v.desk.halted && (n + 1 == z)) h.desk.agrees.serial ∙ flag) in
      record {
        kept = λ m t conf is. others m (λ (q : m ≡ n). last_kept s.halted n (length s.published) s.serial s.retired same (published-count (entries log) h.desk.is_legal) low (subst (λ (z : ℕ). (not (has_number z (s.retired ++ n ∷ [])) || (z == length s.published)) ≡ true) q is))
            ∙ h.shelf.kept m t (conf_before log (signed k e) m t h.desk.is_legal legal refl conf) (kept_before s e m refl is);
        most = fewer n refl f.unretired low;
        later = λ m lt. others m (λ (q : m ≡ n). omega (arith, lt, low, q)) ∙ h.shelf.later m lt;
        live = h.shelf.live ∙ sym live;
        room = omega (arith, room, len, capacity, live);
      }
    where
      -- the opening configuration is none of those that are kept; of each other one that is retired its tree was kept
      fewer : (m : ℕ) → n ≡ m → has_number n (state_at log).retired ≡ false → n < (state_at log).serial → vec_len w.kept ≤ kept_among (after (state_at log) (Retire n))
      fewer zero first free low =
          let few = h.shelf.most in
          let same = kept_more (state_at log) (after (state_at log) (Retire n)) (length (state_at log).published) (λ m lt k. others_kept (state_at log) n (suc m) (λ (q : suc m ≡ n). omega (arith, first, q)) k) in
          omega (arith, few, same, len)
      fewer (suc m) next free low =
          let few = h.shelf.most in
          let serial = h.desk.agrees.serial in
          let t = conf_there_is calls faults plan makes opening v log h n (λ (q : n ≡ 0). omega (arith, next, q)) (omega (arith, low)) free (not_current v.desk.halted (ne_eqb n v.desk.serial (λ (q : n ≡ v.desk.serial). omega (arith, low, serial, q)))) in
          let less = gone t.0 t.1 in
          let all = kept_less (state_at log) (after (state_at log) (Retire n)) n (length (state_at log).published) (λ j other k. others_kept (state_at log) n (suc j) other k) in
          omega (arith, few, less, all)
        where
          not_current : (b : Bool) {c : Bool} → c ≡ false → (b && c) ≡ false
          not_current true e = e
          not_current false e = refl

  -- a serial that is retired, whose configuration was published last before a halt: it is kept still
  pub shelf_last : (v w : Board A F B g) (n : ℕ) → (v.desk.halted && (n + 1 == v.desk.serial)) ≡ true → w.kept ≡ v.kept → w.live ≡ v.live → (opening : Board A F B g) (log : List Signed) (k : ℕ) → Stood calls faults plan makes opening v log → IsLegal (log ++ signed k (Retire n) ∷ [])
      → Shelves w (after (state_at log) (Retire n))
  shelf_last v w n flag kept live opening log k h legal =
      let s : State = state_at log in
      let e : Entry = Retire n in
      let room = h.shelf.room in
      let last : n ≡ length s.published = before v.desk.halted (length s.published) s.serial v.desk.serial flag (ap (λ (z : Bool). length s.published + cond {A = ℕ} z 1 0) (sym h.desk.agrees.halted) ∙ published-count (entries log) h.desk.is_legal) h.desk.agrees.serial in
      record {
        kept = λ m t conf is. ap (λ z. tree_at z.items m) kept ∙ h.shelf.kept m t (conf_before log (signed k e) m t h.desk.is_legal legal refl conf) (kept_before s e m refl is);
        most = (let few = h.shelf.most in let len : vec_len w.kept ≡ vec_len v.kept = ap (λ z. vec_len z) kept in let same = kept_more s (after s e) (length s.published) (λ m lt is. stays last (suc m) is) in omega (arith, few, same, len));
        later = λ m lt. ap (λ z. tree_at z.items m) kept ∙ h.shelf.later m lt;
        live = h.shelf.live ∙ sym live;
        room = subst (λ z. vec_len z + w.live ≤ vec_capacity z) (sym kept) (subst (λ (z : ℕ). vec_len v.kept + z ≤ vec_capacity v.kept) (sym live) room);
      }
    where
      before : (b : Bool) (l serial now : ℕ) → (b && (n + 1 == now)) ≡ true → l + cond {A = ℕ} b 1 0 ≡ serial → serial ≡ now → n ≡ l
      before true l serial now flag count same = let next : n + 1 ≡ now = eqb-true (n + 1) now flag in omega (arith, next, count, same)
      before false l serial now flag count same = cc

      stays : n ≡ length (state_at log).published → (m : ℕ) → is_kept (state_at log) m ≡ true → is_kept (after (state_at log) (Retire n)) m ≡ true
      stays last m is = ⊎_elim
          (λ q. ap (is_kept (after (state_at log) (Retire n))) q.1 ∙ last_stays (state_at log) n last)
          (λ q. others_kept (state_at log) n m q.1 is) (eqb_tells m n)

-- the same configurations, with as much room
pub shelf_same : {A F B : Type 0} {g : _} (v w : Board A F B g) → w.kept.items ≡ v.kept.items → vec_len w.kept ≡ vec_len v.kept → vec_capacity v.kept ≤ vec_capacity w.kept → w.live ≡ v.live → (s : State) → Shelves v s → Shelves w s
shelf_same v w items len capacity live s h =
    let room = h.room in
    record {
      kept = λ n t conf is. ap (λ z. tree_at z n) items ∙ h.kept n t conf is;
      most = (let few = h.most in omega (arith, few, len));
      later = λ n lt. ap (λ z. tree_at z n) items ∙ h.later n lt;
      live = h.live ∙ sym live;
      room = omega (arith, room, len, capacity, live);
    }

not_first : (n : ℕ) (t : Tree) → conf_of opening_state n ≡ Conf.Of t → false ≡ true
not_first zero t e = cc
not_first (suc n) t e = cc

-- a board at which nothing has happened
pub nothing_kept : {A F B : Type 0} {g : _} (b : Board A F B g) → b.kept.items ≡ [] → vec_len b.kept ≡ 0 → b.live ≡ 0 → Shelves b opening_state
nothing_kept b none empty live = record {
  kept = λ n t conf is. absurd (let f : false ≡ true = not_first n t conf in cc);
  most = omega (arith, empty);
  later = λ n lt. ap (λ z. tree_at z n) none;
  live = sym live;
  room = omega (arith, live, empty);
}

-- what follows where a call failed
pub on_err : {T E : Type 0} (r : Result T E) (P Q : Type 0) → (P → Q) → OnErr r P → OnErr r Q
on_err (Ok x) P Q f p = tt
on_err (Err e) P Q f p = f p
