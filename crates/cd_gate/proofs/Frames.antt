-- What one step must show, for its own view and for the others.
use Rattle.std.proofs.Common.{◌≡◌, ◌≢◌, ℕ, ◌+◌, ◌%◌, ◌^◌, ◌<◌, ◌≤◌, true, false, List, [], ◌∷◌, ◌++◌, set, Option, Some, None, refl, sym, ap, ◌∙◌, subst, ⊎_elim, arith}
use mathlib.Core.Option.{some}
use mathlib.Core.List.{IsPrefix}
use lib.ListN.{get_elem?}
use Rattle.cd_legal.specs.declared.entry.Entry.{Entry}
use Rattle.cd_legal.specs.declared.entry.Signed.{Signed}
use Rattle.cd_legal.specs.Entry.{signed, entries, mine}
use Rattle.cd_legal.specs.Laws.{core_at}
use Rattle.cd_legal.specs.Legal.{state_at}
use Rattle.cd_legal.specs.Owing.{Owes, owes_of, owes_by}
use Rattle.cd_legal.specs.Signing.{IsHistory}
use Rattle.cd_legal.specs.Whole.{nothing_left}
use Rattle.cd_legal.proofs.Logs.{prefix_more, prefix_trans, mine-own, mine-other}
use Rattle.cd_legal.proofs.Owing.{owes-own, owes-other}
use Rattle.cd_gate.specs.declared.view.View.{View}
use Rattle.cd_gate.specs.declared.view.Unsettled.{Unsettled}
use Rattle.cd_gate.specs.Counts.{Counts, Ordered, Crowd, is_ready, noted_in, begins_in}
use Rattle.cd_gate.specs.Duties.{is_due}
use Rattle.cd_gate.specs.Rule.{Fits, Numbered, Dutiful, IsKept, unsettled_in}
use Rattle.cd_gate.specs.Steps.{adding}
use Rattle.cd_gate.specs.Words.{Slot, Moment, owed}
use Rattle.cd_gate.proofs.Entries.{left_same}
use Rattle.cd_gate.proofs.Longer.{prefix_self}
use Rattle.cd_gate.proofs.Numbers.{tells}
use Rattle.cd_gate.proofs.Views.{fits_set, face, makes, numbers_stay, Holder, holder_stays}

-- what a step of the pass k leaves to the others
pub record Goes (log log' : List Signed) (k : ℕ) : Type 0 where
  pub seen : IsPrefix log log'
  pub own : (j : ℕ) → j ≢ k → mine j log' ≡ mine j log
  pub owes : (j : ℕ) → j ≢ k → owes_of j log' ≡ owes_of j log
  pub runs : (state_at log').halted ≡ false → (state_at log).halted ≡ false

-- what it leaves to the one that has the turn
pub record Stays (turn turn' : ℕ) (log log' : List Signed) (unsettled unsettled' : Option ℕ) (edge edge' : ℕ) : Type 0 where
  pub turn_is : turn' ≡ turn
  pub core_is : core_at log' ≡ core_at log
  pub unsettled_is : unsettled' ≡ unsettled
  pub begun_is : (n : ℕ) → unsettled ≡ Some n → begins_in log' n ≡ begins_in log n
  pub ready_is : is_ready (state_at log') edge' ≡ is_ready (state_at log) edge

pub goes_nowhere : (log : List Signed) (k : ℕ) → Goes log log k
goes_nowhere log k = record { seen = prefix_self log; own = λ j ne. refl; owes = λ j ne. refl; runs = λ h. h }

pub goes_on : (log : List Signed) (k : ℕ) (e : Entry) → ((state_at (log ++ signed k e ∷ [])).halted ≡ false → (state_at log).halted ≡ false) → Goes log (log ++ signed k e ∷ []) k
goes_on log k e runs = record {
  seen = (signed k e ∷ [], refl);
  own = λ j ne. mine-other log k j e (λ q. ne (sym q));
  owes = λ j ne. owes-other k j log e (λ q. ne (sym q));
  runs = runs;
}

pub stays_put : (turn : ℕ) (log : List Signed) (unsettled : Option ℕ) (edge : ℕ) → Stays turn turn log log unsettled unsettled edge edge
stays_put turn log unsettled edge = record { turn_is = refl; core_is = refl; unsettled_is = refl; begun_is = λ n is. refl; ready_is = refl }

pub none_some : {A : Type 0} (o : Option A) (a : A) → o ≡ None → o ≡ Some a → ⊥
none_some {A} o a e f = absurd (let h : ◌≡◌ {A = Option A} None (Some a) = sym e ∙ f in cc)

module _ {T : Type 0} where
  pub other_fits : (opening : T) (turn turn' : ℕ) (log log' : List Signed) (unsettled unsettled' : Option ℕ) (edge edge' k : ℕ) (v : View T) → Goes log log' k → (v.turn ≡ true → Stays turn turn' log log' unsettled unsettled' edge edge') → (v.live ≡ true → v.number ≢ k)
      → Fits opening turn log unsettled edge v → Fits opening turn' log' unsettled' edge' v
  other_fits opening turn turn' log log' unsettled unsettled' edge edge' k v goes stays differ f = record {
    opened = f.opened;
    seen = prefix_trans v.seen log log' f.seen goes.seen;
    older = f.older;
    own = λ a. goes.own v.number (differ a) ∙ f.own a;
    own_seen = f.own_seen;
    owes = λ a. goes.owes v.number (differ a) ∙ f.owes a;
    holds = λ has. let g = f.holds has in let s = stays has in (g.0, s.turn_is ∙ g.1, g.2 ∙ sym s.core_is, g.3 ∙ sym s.unsettled_is, g.4 ∙ sym s.ready_is);
    waits = f.waits;
    begun = λ l is. ⊎_elim
        (λ has. let g = f.holds has in let s = stays has in
        f.begun l is ∙ sym (s.begun_is l.serial (sym g.3 ∙ ap (λ (o : Option Unsettled). Rattle.std.specs.Prelude.option_map (λ (z : Unsettled). z.serial) o) is)))
        (λ idle. absurd (none_some v.unsettled l (f.waits idle).0 is)) (tells v.turn);
    lends = λ l is on. f.lends l is (goes.runs on);
    checks = f.checks;
  }

  -- the serial of a view that is unsettled is the one that the rule names
  pub unsettled_known : (stands : T → T → List Signed → Type 0) (opening : T) (log : List Signed) (m : Moment T) (r : IsKept stands opening log m) (id : ℕ) (v : View T) → get_elem? m.views id ≡ some v → (l : Unsettled) → v.unsettled ≡ Some l → r.unsettled ≡ Some l.serial
  unsettled_known stands opening log m r id v at l is = ⊎_elim
      (λ has. sym ((r.each id v at).holds has).3 ∙ ap (λ (o : Option Unsettled). Rattle.std.specs.Prelude.option_map (λ (z : Unsettled). z.serial) o) is)
      (λ idle. absurd (none_some v.unsettled l ((r.each id v at).waits idle).0 is)) (tells v.turn)

-- what the pass k knows of a history with an entry of its own more
module _ {T : Type 0} (opening : T) (turn : ℕ) (log : List Signed) (unsettled : Option ℕ) (edge : ℕ) (v : View T) (e : Entry) (f : Fits opening turn log unsettled edge v) where
  abbrev log' : List Signed
  log' = log ++ signed v.number e ∷ []

  older_more : (i : ℕ) (l : List Signed) → get_elem? v.older i ≡ some l → IsPrefix l log'
  older_more i l is = prefix_more l log (signed v.number e ∷ []) (prefix_trans l v.seen log (f.older i l is) f.seen)

  own_more : v.live ≡ true → mine v.number log' ≡ v.mine ++ signed v.number e ∷ []
  own_more live = mine-own log v.number e ∙ ap (λ (l : List Signed). l ++ signed v.number e ∷ []) (f.own live)

  owes_more : v.live ≡ true → owes_of v.number log' ≡ owes_by (owed v) e
  owes_more live = owes-own v.number log e ∙ ap (λ (o : Owes). owes_by o e) (f.owes live)

  -- its view with that entry fits this history, whatever it says of serials, of duties and of room
  pub fits_more : (w : View T) → w ≡ record (adding v log e) { checked = w.checked; ready = w.ready; unsettled = w.unsettled; duties = w.duties }
      → (unsettled' : Option ℕ) → (v.turn ≡ true → (unsettled_in w ≡ unsettled') × (w.ready ≡ is_ready (state_at log') edge)) → (v.turn ≡ false → (w.unsettled ≡ None) × (w.ready ≡ false))
      → ((l : Unsettled) → w.unsettled ≡ Some l → l.begins ≡ begins_in log' l.serial) → ((l : Unsettled) → w.unsettled ≡ Some l → (state_at log').halted ≡ false → (owes_by (owed v) e).ticket ≡ Some l.serial)
      → (w.checked ≡ true → v.live ≡ true) → Fits opening turn log' unsettled' edge w
  fits_more w is unsettled' knows waits begun lends checks = subst (Fits opening turn log' unsettled' edge) (sym is) record {
    opened = f.opened;
    seen = prefix_self log';
    older = older_more;
    own = own_more;
    own_seen = own_more;
    owes = owes_more;
    holds = λ has. let g = f.holds has in let k = knows has in (g.0, g.1, refl, k.0, k.1);
    waits = waits;
    begun = begun;
    lends = lends;
    checks = checks;
  }

module _ {T : Type 0} (stands : T → T → List Signed → Type 0) (opening : T) (log : List Signed) (m : Moment T) (r : IsKept stands opening log m) where
  -- only one view has the turn
  pub others_wait : (id : ℕ) (v : View T) → get_elem? m.views id ≡ some v → v.turn ≡ true → (j : ℕ) (u : View T) → j ≢ id → get_elem? m.views j ≡ some u → u.turn ≡ true → ⊥
  others_wait id v at has j u apart e also =
      let a = (r.each id v at).holds has in let b = (r.each j u e).holds also in
      apart (r.numbers.apart j id u v e at b.0 a.0 (let x = a.1 in let y = b.1 in omega arith))

  -- another board, or other views, beside the same words and the same history
  pub with_others : (board : Slot T) (views : List (View T)) → Crowd (begins_in log (state_at log).serial) views → ((j : ℕ) (u : View T) → get_elem? views j ≡ some u → Fits opening m.turn log r.unsettled r.edge u) → Numbered log views → Dutiful (is_due (state_at log) r.unsettled) views
      → (m.turn ≡ 0 → board ≡ m.board) → (0 < m.turn → Holder views × ((x : Option T) × (board ≡ Slot.Held x))) → IsKept stands opening log (record m { board = board; views = views })
  with_others board views crowd each numbers duties home taken = record {
    unsettled = r.unsettled;
    edge = r.edge;
    history = r.history;
    counted = r.counted;
    order = r.order;
    counts = r.counts;
    crowd = crowd;
    each = each;
    numbers = numbers;
    duties = duties;
    free = λ z. let f = r.free z in ((f.0.0, home z ∙ f.0.1, f.0.2), f.1, f.2, f.3);
    taken = taken;
  }

  module _ (id : ℕ) (v w : View T) (at : get_elem? m.views id ≡ some v) (live : v.live ≡ true) (same : face w ≡ face v) (made : makes w ≡ makes v) (log' : List Signed) (unsettled' : Option ℕ) (edge' packed turn counted : ℕ) (balances : List ℕ) (board : Slot T) where
    abbrev now : Moment T
    now = record { packed = packed; turn = turn; counted = counted; balances = balances; board = board; views = set m.views id w }

    abbrev Free : Type 0
    Free = turn ≡ 0 → ((b : T) × (board ≡ Slot.Home b) × stands opening b (core_at log')) × (nothing_left (state_at log') ≡ true) × (unsettled' ≡ None) × (is_ready (state_at log') edge' ≡ false)

    abbrev Taken : Type 0
    Taken = 0 < turn → ((seat : ℕ) × (u : View T) × (get_elem? (set m.views id w) seat ≡ some u) × (u.turn ≡ true)) × ((x : Option T) × (board ≡ Slot.Held x))

    pub next : IsHistory log' → counted ≡ noted_in (entries log') % 2 ^ 64 → Ordered (state_at log') unsettled' edge' → Counts packed balances (state_at log') unsettled' edge' (begins_in log') → Crowd (begins_in log' (state_at log').serial) (set m.views id w)
        → Fits opening turn log' unsettled' edge' w → Goes log log' v.number
        → ((j : ℕ) (u : View T) → j ≢ id → get_elem? m.views j ≡ some u → u.turn ≡ true → Stays m.turn turn log log' r.unsettled unsettled' r.edge edge')
        → Dutiful (is_due (state_at log') unsettled') (set m.views id w) → Free → Taken → IsKept stands opening log' now
    next history counted_is order counts crowd mine_fits goes stays duties free taken = record {
      unsettled = unsettled';
      edge = edge';
      history = history;
      counted = counted_is;
      order = order;
      counts = counts;
      crowd = crowd;
      each = fits_set (Fits opening turn log' unsettled' edge') m.views id w mine_fits
          (λ j u apart e. other_fits opening m.turn turn log log' r.unsettled unsettled' r.edge edge' v.number u goes (stays j u apart e) (λ lx is. apart (r.numbers.apart j id u v e at lx live is)) (r.each j u e));
      numbers = numbers_stay log log' m.views id v w at same made r.numbers
          (λ k le. goes.own k (differs v.number r.numbers.root.made k (r.numbers.below id v at live) le) ∙ r.numbers.unmade k le)
          (λ g left. let ne = left.absent id v at live in
          (prefix_trans g.seen log log' left.seen goes.seen, goes.own g.number (λ q. ne (sym q)) ∙ left.own, goes.owes g.number (λ q. ne (sym q)) ∙ left.owes));
      duties = duties;
      free = free;
      taken = taken;
    }
      where
        differs : (a b k : ℕ) → a < b → b ≤ k → k ≢ a
        differs a b k low le = λ e. absurd (omega arith)

    -- where the turn and the board stay, and so does what the pass with the turn knows
    module _ (same_turn : turn ≡ m.turn) (same_board : board ≡ m.board) where
      pub free_stays : Stays m.turn turn log log' r.unsettled unsettled' r.edge edge' → Free
      free_stays s z =
          let f = r.free (sym same_turn ∙ z) in (
            (f.0.0, same_board ∙ f.0.1, subst (stands opening f.0.0) (sym s.core_is) f.0.2),
            left_same log log' s.core_is ∙ f.1,
            s.unsettled_is ∙ f.2,
            s.ready_is ∙ f.3,
          )

      pub taken_stays : w.turn ≡ v.turn → Taken
      taken_stays is more = let t = r.taken (subst (λ (z : ℕ). 0 < z) same_turn more) in (holder_stays m.views id v w at is t.0, (t.1.0, same_board ∙ t.1.1))

      -- the step is one of the pass with the turn
      pub not_free : v.turn ≡ true → Free
      not_free has z = let h = ((r.each id v at).holds has).1 in absurd (wrong (v.number) m.turn (sym h) (sym same_turn ∙ z))
        where
          wrong : (n t : ℕ) → n + 1 ≡ t → t ≡ 0 → ⊥
          wrong n t e f = absurd (omega arith)
