-- The places of the balances, and what a step on one of the words leaves.
use Rattle.std.proofs.Common.{◌≡◌, ◌≢◌, ℕ, ◌+◌, ◌-◌, ◌*◌, ◌/◌, ◌%◌, ◌<◌, ◌≤◌, ◌==◌, Bool, true, false, not, cond, nat_lt, List, length, get_or, set, Option, Some, None, refl, sym, ap, ◌∙◌, subst, ⊎_elim, arith, length-set, get_or-set_other, get_or-set_same, eq-eqb, ne_eqb}
use Rattle.std.specs.Prelude.{◌&&◌}
use Rattle.std.proofs.lemmas.Bool.{eqb-true, eqb-false}
use mathlib.Core.Logic.{dite}
use native.Mathlib.Decide.{ℕ_discrete}
use Rattle.cd_legal.specs.declared.entry.Entry.TheVariants.{Begin, Finish}
use Rattle.cd_gate.specs.declared.table.TheConstants.{FULL_BALANCE, SERIAL_STEP}
use Rattle.cd_legal.specs.declared.limits.TheConstants.{MAX_UNRETIRED}
use Rattle.cd_legal.specs.declared.state.State.{State}
use Rattle.cd_legal.specs.State.{open_at, open_by, ticket_of, without_ticket}
use Rattle.cd_legal.specs.Legal.{after}
use Rattle.cd_legal.proofs.Callers.{open_at-push, open_at-closed}
use Rattle.cd_legal.proofs.Facts.{is-less, less-is, is-false, not-false}
use Rattle.cd_legal.proofs.Histories.{both, first, second}
use Rattle.cd_gate.specs.Counts.{place_of, is_ready, Counts, Ordered}
use Rattle.cd_gate.specs.Duties.{is_at, is_settled}
use Rattle.cd_gate.proofs.Numbers.{tells, off, some_is, none_some}
use Rattle.cd_gate.proofs.Tickets.{one_off, one_on}

-- ---- which serials are settled

pub settled_low : (s : State) (unsettled : Option ℕ) (n : ℕ) → is_settled s unsettled n ≡ true → n < s.serial
settled_low s unsettled n is = is-less n s.serial (first (nat_lt n s.serial) _ is)

pub settled_not : (s : State) (unsettled : Option ℕ) (n : ℕ) → is_settled s unsettled n ≡ true → unsettled ≢ Some n
settled_not s unsettled n is e = off (sym (is-false (is_at n unsettled) (second (nat_lt n s.serial) _ is)) ∙ (ap (is_at n) e ∙ eq-eqb n n refl))

at_none : (n : ℕ) (unsettled : Option ℕ) → unsettled ≢ Some n → is_at n unsettled ≡ false
at_none n None ne = refl
at_none n (Some m) ne = ne_eqb m n (λ e. ne (ap (λ (z : ℕ). Some z) e))

pub settled_is : (s : State) (unsettled : Option ℕ) (n : ℕ) → n < s.serial → unsettled ≢ Some n → is_settled s unsettled n ≡ true
settled_is s unsettled n low ne = both (nat_lt n s.serial) _ (less-is n s.serial low) (not-false (is_at n unsettled) (at_none n unsettled ne))

not_and : (a b : Bool) → (a ≡ true → b ≡ true → ⊥) → (a && b) ≡ false
not_and true true h = absurd (h refl refl)
not_and true false h = refl
not_and false b h = refl

high : (n serial : ℕ) → serial ≤ n → n < serial → ⊥
high n serial le low = absurd (omega arith)

pub settled_no : (s : State) (unsettled : Option ℕ) (n : ℕ) → s.serial ≤ n → is_settled s unsettled n ≡ false
settled_no s unsettled n le = not_and (nat_lt n s.serial) _ (λ low _. high n s.serial le (is-less n s.serial low))

pub unsettled_no : (s : State) (n : ℕ) → is_settled s (Some n) n ≡ false
unsettled_no s n = not_and (nat_lt n s.serial) _ (λ low other. off (sym (is-false (n == n) other) ∙ eq-eqb n n refl))

-- ---- places

at_open : (b : Bool) (p : ℕ) → b ≡ false → cond b 0 p ≡ p
at_open true p is = absurd (off (sym is))
at_open false p is = refl

at_halted : (b : Bool) (p : ℕ) → b ≡ true → cond b 0 p ≡ 0
at_halted true p is = refl
at_halted false p is = absurd (off is)

pub place_open : (s : State) (n : ℕ) → (s.halted && (n == s.serial)) ≡ false → place_of s n ≡ 1 + n % MAX_UNRETIRED
place_open s n is = at_open (s.halted && (n == s.serial)) (1 + n % MAX_UNRETIRED) is

pub place_halted : (s : State) (n : ℕ) → (s.halted && (n == s.serial)) ≡ true → place_of s n ≡ 0
place_halted s n is = at_halted (s.halted && (n == s.serial)) (1 + n % MAX_UNRETIRED) is

pub not_halted : (s : State) (n : ℕ) → n ≢ s.serial → (s.halted && (n == s.serial)) ≡ false
not_halted s n ne = not_and s.halted (n == s.serial) (λ _ q. ne (eqb-true n s.serial q))

pub running : (s : State) (n : ℕ) → s.halted ≡ false → (s.halted && (n == s.serial)) ≡ false
running s n is = not_and s.halted (n == s.serial) (λ h _. off (sym is ∙ h))

pub place_low : (s : State) (n : ℕ) → n ≢ s.serial → place_of s n ≡ 1 + n % MAX_UNRETIRED
place_low s n ne = place_open s n (not_halted s n ne)

in_table : (b : Bool) (n : ℕ) → cond b 0 (1 + n % MAX_UNRETIRED) < 1 + MAX_UNRETIRED
in_table true n = omega arith
in_table false n = omega arith

pub place_in : (s : State) (n : ℕ) → place_of s n < 1 + MAX_UNRETIRED
place_in s n = in_table (s.halted && (n == s.serial)) n

-- the place of the halted serial is no other's
zero_no : (z : ℕ) → 0 ≡ 1 + z → ⊥
zero_no z e = absurd (omega arith)

in_range : (n len : ℕ) → len ≡ 1 + MAX_UNRETIRED → 1 + n % MAX_UNRETIRED < len
in_range n len is = omega arith

lower : (n serial : ℕ) → n < serial → n ≤ serial
lower n serial low = omega arith

-- two serials of one window have two places
pub two_places : (a b e : ℕ) → a ≤ e → b ≤ e → e < a + MAX_UNRETIRED → e < b + MAX_UNRETIRED → a ≢ b → 1 + a % MAX_UNRETIRED ≢ 1 + b % MAX_UNRETIRED
two_places a b e la lb ha hb ne same = ne (omega arith)

below_edge : (h : Bool) (n serial edge : ℕ) → (h && (n == serial)) ≡ false → n ≤ serial → serial ≤ edge + cond h 1 0 → n ≤ edge
below_edge true n serial edge is le low = let ne = eqb-false n serial is in below n serial edge ne le low
  where
    below : (n serial edge : ℕ) → n ≢ serial → n ≤ serial → serial ≤ edge + 1 → n ≤ edge
    below n serial edge ne le low = grind arith
below_edge false n serial edge is le low = omega arith

module _ (s : State) (unsettled : Option ℕ) (edge : ℕ) (o : Ordered s unsettled edge) where
  pub edge_above : (n : ℕ) → (s.halted && (n == s.serial)) ≡ false → n ≤ s.serial → n ≤ edge
  edge_above n is le = below_edge s.halted n s.serial edge is le o.low

  pub places_apart : (a b : ℕ) → a ≤ s.serial → b ≤ s.serial → edge < a + MAX_UNRETIRED → edge < b + MAX_UNRETIRED → a ≢ b → place_of s a ≢ place_of s b
  places_apart a b la lb ha hb ne same = ⊎_elim
      (λ (p : (s.halted && (a == s.serial)) ≡ true). ⊎_elim
      (λ (q : (s.halted && (b == s.serial)) ≡ true). ne (eqb-true a s.serial (second s.halted (a == s.serial) p) ∙ sym (eqb-true b s.serial (second s.halted (b == s.serial) q))))
      (λ (q : (s.halted && (b == s.serial)) ≡ false). zero_no (b % MAX_UNRETIRED) (sym (place_halted s a p) ∙ (same ∙ place_open s b q))) (tells (s.halted && (b == s.serial))))
      (λ (p : (s.halted && (a == s.serial)) ≡ false). ⊎_elim
      (λ (q : (s.halted && (b == s.serial)) ≡ true). zero_no (a % MAX_UNRETIRED) (sym (place_halted s b q) ∙ (sym same ∙ place_open s a p)))
      (λ (q : (s.halted && (b == s.serial)) ≡ false). two_places a b edge (edge_above a p la) (edge_above b q lb) ha hb ne (sym (place_open s a p) ∙ (same ∙ place_open s b q))) (tells (s.halted && (b == s.serial))))
      (tells (s.halted && (a == s.serial)))

  -- the place of a serial is not that of a balance that no serial has used
  pub unused_apart : (n m : ℕ) → n ≤ s.serial → edge < m → m < MAX_UNRETIRED → place_of s n ≢ 1 + m
  unused_apart n m le above few same = ⊎_elim
      (λ q. zero_no m (sym (place_halted s n q) ∙ same))
      (λ q. apart n m edge (edge_above n q le) above few (sym (place_open s n q) ∙ same)) (tells (s.halted && (n == s.serial)))
    where
      apart : (n m e : ℕ) → n ≤ e → e < m → m < MAX_UNRETIRED → 1 + n % MAX_UNRETIRED ≡ 1 + m → ⊥
      apart n m e le above few same = absurd (omega arith)

-- ---- sums

sums : (g x x' t t' c : ℕ) → g + x ≡ FULL_BALANCE + t → x' ≡ x + c → t' ≡ c + t → g + x' ≡ FULL_BALANCE + t'
sums g x x' t t' c h m u = omega arith

less : (g x t u : ℕ) → g + x ≡ FULL_BALANCE + t → x < SERIAL_STEP → 1 + u ≡ t → (g - 1) + x ≡ FULL_BALANCE + u
less g x t u h few e = omega arith

one_less : (g t u : ℕ) → g ≡ t → 1 + u ≡ t → g - 1 ≡ u
one_less g t u h e = omega arith

none_plus : (c t u : ℕ) → c ≡ 0 → u ≡ c + t → u ≡ t
none_plus c t u e h = omega arith

plus_none : (x c y : ℕ) → c ≡ 0 → y ≡ x + c → y ≡ x
plus_none x c y e h = omega arith

one_packed : (p s x y c : ℕ) → p ≡ s * SERIAL_STEP + x → y ≡ x + c → c ≡ 1 → p + 1 ≡ s * SERIAL_STEP + y
one_packed p s x y c h e f = omega arith

one_more_few : (x y c : ℕ) → x + 1 < SERIAL_STEP → y ≡ x + c → c ≡ 1 → y < SERIAL_STEP
one_more_few x y c room e f = omega arith

up : (a b : ℕ) → a < b → a ≢ b
up a b low = λ e. absurd (omega arith)

-- the two parts of the word of the serial
pub parts : (p x b : ℕ) → p ≡ x * SERIAL_STEP + b → b < SERIAL_STEP → (p % SERIAL_STEP ≡ b) × (p / SERIAL_STEP ≡ x)
parts p x b is few = (omega arith, omega arith)

module _ (p : ℕ) (bs : List ℕ) (s : State) (unsettled : Option ℕ) (edge : ℕ) (b : ℕ → ℕ) (o : Ordered s unsettled edge) (c : Counts p bs s unsettled edge b) where
  -- the requests under the current serial fit the word, which has their count
  pub few_current : b s.serial < SERIAL_STEP
  few_current = c.few s.serial (settled_no s unsettled s.serial (self s.serial))
    where
      self : (n : ℕ) → n ≤ n
      self n = omega arith

  pub begins_found : p % SERIAL_STEP ≡ b s.serial
  begins_found = (parts p s.serial (b s.serial) c.packed_is few_current).0

  -- one request more under the current serial
  pub counts_begin : (b' : ℕ → ℕ) (k : ℕ) → ((n : ℕ) → b' n ≡ b n + cond (s.serial == n) 1 0) → b s.serial + 1 < SERIAL_STEP → Counts (p + 1) bs (after s (Begin k s.serial)) unsettled edge b'
  counts_begin b' k more room = record {
    packed_is = one_packed p s.serial (b s.serial) (b' s.serial) (cond (s.serial == s.serial) 1 0) c.packed_is (more s.serial) (one_on s.serial s.serial refl);
    range = c.range;
    whole = λ n le used un. sums (get_or bs (place_of s n) 0) (b n) (b' n) (open_at n s.tickets) (open_at n (after s (Begin k s.serial)).tickets) (cond (s.serial == n) 1 0)
        (c.whole n le used un) (more n) (open_at-push n s.tickets (record { caller = k; serial = s.serial }));
    settled = λ n used is. c.settled n used is
        ∙ sym (none_plus (cond (s.serial == n) 1 0) (open_at n s.tickets) (open_at n (after s (Begin k s.serial)).tickets) (one_off s.serial n (λ e. up n s.serial (settled_low s unsettled n is) (sym e))) (open_at-push n s.tickets (record { caller = k; serial = s.serial })));
    unused = c.unused;
    coming = c.coming;
    halting = c.halting;
    few = λ n un. dite (ℕ_discrete s.serial n)
        (λ e. subst (λ (z : ℕ). b' z < SERIAL_STEP) e (one_more_few (b s.serial) (b' s.serial) (cond (s.serial == s.serial) 1 0) room (more s.serial) (one_on s.serial s.serial refl)))
        (λ ne. subst (λ (z : ℕ). z < SERIAL_STEP) (sym (plus_none (b n) (cond (s.serial == n) 1 0) (b' n) (one_off s.serial n ne) (more n))) (c.few n un));
    unbegun = λ n low. plus_none (b n) (cond (s.serial == n) 1 0) (b' n) (one_off s.serial n (up s.serial n low)) (more n) ∙ c.unbegun n low;
  }

  -- an open ticket is counted
  pub positive : (n : ℕ) → n ≤ s.serial → edge < n + MAX_UNRETIRED → 0 < open_at n s.tickets → 0 < get_or bs (place_of s n) 0
  positive n le used some = ⊎_elim
      (λ q. above (get_or bs (place_of s n) 0) (open_at n s.tickets) (c.settled n used q) some)
      (λ q. more (get_or bs (place_of s n) 0) (b n) (open_at n s.tickets) (c.whole n le used q) (c.few n q)) (tells (is_settled s unsettled n))
    where
      above : (g t : ℕ) → g ≡ t → 0 < t → 0 < g
      above g t e some = omega arith

      more : (g x t : ℕ) → g + x ≡ FULL_BALANCE + t → x < SERIAL_STEP → 0 < g
      more g x t h few = omega arith

  -- the coming serial's balance is that of no serial that is there
  coming_apart : (n : ℕ) → n ≤ s.serial → edge < n + MAX_UNRETIRED → is_ready s edge ≡ true → place_of s n ≢ 1 + edge % MAX_UNRETIRED
  coming_apart n le used ready same =
      let on : s.halted ≡ false = is-false s.halted (first (not s.halted) _ ready) in
      let next : edge ≡ s.serial + 1 = eqb-true edge (s.serial + 1) (second (not s.halted) _ ready) in
      two_places n edge edge (low n s.serial edge le next) (below edge) used (self edge) (differ n s.serial edge le next) (sym (place_open s n (running s n on)) ∙ same)
    where
      low : (n serial edge : ℕ) → n ≤ serial → edge ≡ serial + 1 → n ≤ edge
      low n serial edge le e = omega arith

      below : (e : ℕ) → e ≤ e
      below e = omega arith

      self : (e : ℕ) → e < e + MAX_UNRETIRED
      self e = omega arith

      differ : (n serial edge : ℕ) → n ≤ serial → edge ≡ serial + 1 → n ≢ edge
      differ n serial edge le e = λ same. absurd (omega arith)

  module _ (n k : ℕ) (has : ticket_of k s.tickets ≡ Some n) (one : open_by k s.tickets ≤ 1) (le : n ≤ s.serial) (used : edge < n + MAX_UNRETIRED) where
    abbrev here : ℕ
    here = place_of s n

    abbrev rest : ℕ → ℕ
    rest m = open_at m (without_ticket k s.tickets)

    one_fewer : 1 + rest n ≡ open_at n s.tickets
    one_fewer = ap (λ (z : ℕ). z + rest n) (sym (one_on n n refl)) ∙ open_at-closed k n n s.tickets one has

    pub same_rest : (m : ℕ) → n ≢ m → rest m ≡ open_at m s.tickets
    same_rest m ne = sym (none_plus (cond (n == m) 1 0) (rest m) (open_at m s.tickets) (one_off n m ne) (sym (open_at-closed k n m s.tickets one has)))

    -- a finish finds 1 exactly where its serial is due then
    pub found_one : (get_or bs here 0 == 1) ≡ (is_settled s unsettled n && (rest n == 0))
    found_one = ⊎_elim
        (λ q. ap (λ (z : ℕ). z == 1) (c.settled n used q) ∙ (one_is (open_at n s.tickets) (rest n) one_fewer ∙ sym (ap (λ (t : Bool). t && (rest n == 0)) q)))
        (λ q. ne_eqb (get_or bs here 0) 1 (λ e. big (get_or bs here 0) (b n) (open_at n s.tickets) (c.whole n le used q) (c.few n q) e) ∙ sym (ap (λ (t : Bool). t && (rest n == 0)) q)) (tells (is_settled s unsettled n))
      where
        one_is : (t u : ℕ) → 1 + u ≡ t → (t == 1) ≡ (u == 0)
        one_is t u e = dite (ℕ_discrete u 0) (λ z. eq-eqb t 1 (omega (arith, e, z)) ∙ sym (eq-eqb u 0 z)) (λ ne. ne_eqb t 1 (λ f. ne (omega (arith, e, f))) ∙ sym (ne_eqb u 0 ne))

        big : (g x t : ℕ) → g + x ≡ FULL_BALANCE + t → x < SERIAL_STEP → g ≡ 1 → ⊥
        big g x t h few e = absurd (omega arith)

    abbrev left : List ℕ
    left = set bs here (get_or bs here 0 - 1)

    at_here : get_or left here 0 ≡ get_or bs here 0 - 1
    at_here = get_or-set_same bs here (get_or bs here 0 - 1) 0 (let r = c.range in let q = place_in s n in omega arith)

    at_other : (m : ℕ) → m ≤ s.serial → edge < m + MAX_UNRETIRED → n ≢ m → get_or left (place_of s m) 0 ≡ get_or bs (place_of s m) 0
    at_other m lm um ne = get_or-set_other bs here (place_of s m) (get_or bs here 0 - 1) 0 (places_apart s unsettled edge o m n lm le um used (λ e. ne (sym e)))

    -- one request fewer
    pub counts_finish : (b' : ℕ → ℕ) → ((m : ℕ) → b' m ≡ b m) → Counts p left (after s (Finish k)) unsettled edge b'
    counts_finish b' same = record {
      packed_is = c.packed_is ∙ ap (λ (z : ℕ). s.serial * SERIAL_STEP + z) (sym (same s.serial));
      range = length-set bs here (get_or bs here 0 - 1) ∙ c.range;
      whole = λ m lm um un. ap (λ (z : ℕ). get_or left (place_of s m) 0 + z) (same m) ∙ dite (ℕ_discrete n m)
          (λ e. subst (λ (z : ℕ). is_settled s unsettled z ≡ false → get_or left (place_of s z) 0 + b z ≡ FULL_BALANCE + rest z) e
          (λ un'. ap (λ (z : ℕ). z + b n) at_here ∙ less (get_or bs here 0) (b n) (open_at n s.tickets) (rest n) (c.whole n le used un') (c.few n un') one_fewer) un)
          (λ ne. ap (λ (z : ℕ). z + b m) (at_other m lm um ne) ∙ (c.whole m lm um un ∙ ap (λ (z : ℕ). FULL_BALANCE + z) (sym (same_rest m ne))));
      settled = λ m um is. dite (ℕ_discrete n m)
          (λ e. subst (λ (z : ℕ). is_settled s unsettled z ≡ true → get_or left (place_of s z) 0 ≡ rest z) e
          (λ is'. at_here ∙ one_less (get_or bs here 0) (open_at n s.tickets) (rest n) (c.settled n used is') one_fewer) is)
          (λ ne. at_other m (lower m s.serial (settled_low s unsettled m is)) um ne ∙ (c.settled m um is ∙ sym (same_rest m ne)));
      unused = λ m above few. get_or-set_other bs here (1 + m) (get_or bs here 0 - 1) 0 (λ e. unused_apart s unsettled edge o n m le above few (sym e)) ∙ c.unused m above few;
      coming = λ ready. get_or-set_other bs here (1 + edge % MAX_UNRETIRED) (get_or bs here 0 - 1) 0 (λ e. coming_apart n le used ready (sym e)) ∙ c.coming ready;
      halting = λ on. get_or-set_other bs here 0 (get_or bs here 0 - 1) 0 (λ e. zero_no (n % MAX_UNRETIRED) (e ∙ place_open s n (running s n on))) ∙ c.halting on;
      few = λ m un. subst (λ (z : ℕ). z < SERIAL_STEP) (sym (same m)) (c.few m un);
      unbegun = λ m low. same m ∙ c.unbegun m low;
    }

  -- the coming serial's balance is made ready
  pub counts_reset : s.halted ≡ false → Counts p (set bs (1 + (s.serial + 1) % MAX_UNRETIRED) FULL_BALANCE) s unsettled (s.serial + 1) b
  counts_reset on =
      let q : ℕ = 1 + (s.serial + 1) % MAX_UNRETIRED in
      let apart = λ (n : ℕ) (le : n ≤ s.serial) (used : s.serial + 1 < n + MAX_UNRETIRED).
      (let h : place_of s n ≢ q = next_apart n le used in h) in
      record {
        packed_is = c.packed_is;
        range = length-set bs q FULL_BALANCE ∙ c.range;
        whole = λ n le used un. ap (λ (z : ℕ). z + b n) (get_or-set_other bs q (place_of s n) FULL_BALANCE 0 (apart n le used)) ∙ c.whole n le (in_use n used) un;
        settled = λ n used is. get_or-set_other bs q (place_of s n) FULL_BALANCE 0 (apart n (lower n s.serial (settled_low s unsettled n is)) used) ∙ c.settled n (in_use n used) is;
        unused = λ m above few. get_or-set_other bs q (1 + m) FULL_BALANCE 0 (λ e. later s.serial m above few e) ∙ c.unused m (before_it edge (cond s.halted 1 0) s.serial m o.high above) few;
        coming = λ ready. get_or-set_same bs q FULL_BALANCE 0 (in_range (s.serial + 1) (length bs) c.range);
        halting = λ h. get_or-set_other bs q 0 FULL_BALANCE 0 (λ e. zero_no ((s.serial + 1) % MAX_UNRETIRED) e) ∙ c.halting h;
        few = c.few;
        unbegun = c.unbegun;
      }
    where
      later : (serial m : ℕ) → serial + 1 < m → m < MAX_UNRETIRED → 1 + m ≡ 1 + (serial + 1) % MAX_UNRETIRED → ⊥
      later serial m above few e = absurd (omega arith)

      before_it : (e c serial m : ℕ) → e + c ≤ serial + 1 → serial + 1 < m → e < m
      before_it e c serial m high above = omega arith

      fits : (e c serial n : ℕ) → e + c ≤ serial + 1 → serial + 1 < n + MAX_UNRETIRED → e < n + MAX_UNRETIRED
      fits e c serial n high used = omega arith

      in_use : (n : ℕ) → s.serial + 1 < n + MAX_UNRETIRED → edge < n + MAX_UNRETIRED
      in_use n used = fits edge (cond s.halted 1 0) s.serial n o.high used

      apart_next : (n serial : ℕ) → n ≤ serial → serial + 1 < n + MAX_UNRETIRED → 1 + n % MAX_UNRETIRED ≢ 1 + (serial + 1) % MAX_UNRETIRED
      apart_next n serial le used = λ e. absurd (omega arith)

      next_apart : (n : ℕ) → n ≤ s.serial → s.serial + 1 < n + MAX_UNRETIRED → place_of s n ≢ 1 + (s.serial + 1) % MAX_UNRETIRED
      next_apart n le used = λ e. apart_next n s.serial le used (sym (place_open s n (running s n on)) ∙ e)

  -- the unsettled serial is settled
  module _ (n : ℕ) (is_unsettled : unsettled ≡ Some n) where
    before : n + 1 ≡ s.serial
    before = o.last n is_unsettled

    pub unsettled_place : place_of s n ≡ 1 + n % MAX_UNRETIRED
    unsettled_place = place_low s n (one_before n s.serial before)
      where
        one_before : (n serial : ℕ) → n + 1 ≡ serial → n ≢ serial
        one_before n serial e = λ f. absurd (omega arith)

    in_window : edge < n + MAX_UNRETIRED
    in_window = window edge (cond s.halted 1 0) s.serial n o.high before
      where
        window : (e c serial n : ℕ) → e + c ≤ serial + 1 → n + 1 ≡ serial → e < n + MAX_UNRETIRED
        window e c serial n high is = omega arith

    still_unsettled : is_settled s unsettled n ≡ false
    still_unsettled = ap (λ (l : Option ℕ). is_settled s l n) is_unsettled ∙ unsettled_no s n

    pub unsettled_sum : get_or bs (1 + n % MAX_UNRETIRED) 0 + b n ≡ FULL_BALANCE + open_at n s.tickets
    unsettled_sum = ap (λ (z : ℕ). get_or bs z 0 + b n) (sym unsettled_place) ∙ c.whole n (le n s.serial before) in_window still_unsettled
      where
        le : (n serial : ℕ) → n + 1 ≡ serial → n ≤ serial
        le n serial e = omega arith

    pub unsettled_few : b n < SERIAL_STEP
    unsettled_few = c.few n still_unsettled

    kept_unsettled : (m : ℕ) → is_settled s None m ≡ false → is_settled s unsettled m ≡ false
    kept_unsettled m un = settled_no s unsettled m (not_low m s.serial (λ low. off (sym un ∙ settled_is s None m low (λ e. none_some m e))))
      where
        not_low : (m serial : ℕ) → (m < serial → ⊥) → serial ≤ m
        not_low m serial never = grind arith

    pub counts_settle : Counts p (set bs (1 + n % MAX_UNRETIRED) (open_at n s.tickets)) s None edge b
    counts_settle =
        let q : ℕ = 1 + n % MAX_UNRETIRED in
        let left : ℕ = open_at n s.tickets in
        record {
          packed_is = c.packed_is;
          range = length-set bs q left ∙ c.range;
          whole = λ m le used un. ap (λ (z : ℕ). z + b m) (get_or-set_other bs q (place_of s m) left 0 (λ e. places_apart s unsettled edge o m n le (low n s.serial before) used in_window (λ f. off (sym un ∙ (ap (λ (z : ℕ). is_settled s None z) f ∙ earlier))) (e ∙ sym unsettled_place)))
              ∙ c.whole m le used (kept_unsettled m un);
          settled = λ m used is. dite (ℕ_discrete m n)
              (λ e. subst (λ (z : ℕ). get_or (set bs q left) (place_of s z) 0 ≡ open_at z s.tickets) (sym e)
              (ap (λ (z : ℕ). get_or (set bs q left) z 0) unsettled_place ∙ get_or-set_same bs q left 0 (in_range n (length bs) c.range)))
              (λ ne. get_or-set_other bs q (place_of s m) left 0 (λ e. places_apart s unsettled edge o m n (lower m s.serial (settled_low s None m is)) (low n s.serial before) used in_window ne (e ∙ sym unsettled_place))
              ∙ c.settled m used (settled_is s unsettled m (settled_low s None m is) (λ e. ne (some_is m n (sym e ∙ is_unsettled)))));
          unused = λ m above few. get_or-set_other bs q (1 + m) left 0 (λ e. unused_apart s unsettled edge o n m (low n s.serial before) above few (unsettled_place ∙ sym e)) ∙ c.unused m above few;
          coming = λ ready. get_or-set_other bs q (1 + edge % MAX_UNRETIRED) left 0 (λ e. coming_apart n (low n s.serial before) in_window ready (unsettled_place ∙ sym e)) ∙ c.coming ready;
          halting = λ h. get_or-set_other bs q 0 left 0 (λ e. zero_no (n % MAX_UNRETIRED) e) ∙ c.halting h;
          few = λ m un. c.few m (kept_unsettled m un);
          unbegun = c.unbegun;
        }
      where
        low : (n serial : ℕ) → n + 1 ≡ serial → n ≤ serial
        low n serial e = omega arith

        earlier : is_settled s None n ≡ true
        earlier = settled_is s None n (less n s.serial before) (λ e. none_some n e)
          where
            less : (n serial : ℕ) → n + 1 ≡ serial → n < serial
            less n serial e = omega arith

  -- the current serial is superseded
  pub counts_superseded : (t : State) (b' : ℕ → ℕ) → ((n : ℕ) → b' n ≡ b n) → unsettled ≡ None → t.serial ≡ s.serial + 1 → t.tickets ≡ s.tickets → open_at (s.serial + 1) s.tickets ≡ 0
      → get_or bs (place_of t (s.serial + 1)) 0 ≡ FULL_BALANCE → ((n : ℕ) → n ≤ s.serial → place_of t n ≡ place_of s n) → is_ready t edge ≡ false → (t.halted ≡ false → s.halted ≡ false)
      → Counts ((s.serial + 1) * SERIAL_STEP) bs t (Some s.serial) edge b'
  counts_superseded t b' same none next tickets unborn fresh places unready runs = record {
    packed_is = packed s.serial t.serial (b' t.serial) next (same t.serial ∙ c.unbegun t.serial (over s.serial t.serial next));
    range = c.range;
    whole = λ n le used un. dite (ℕ_discrete n (s.serial + 1))
        (λ e. subst (λ (z : ℕ). get_or bs (place_of t z) 0 + b' z ≡ FULL_BALANCE + open_at z t.tickets) (sym e)
        (zeros (get_or bs (place_of t (s.serial + 1)) 0) (b' (s.serial + 1)) (open_at (s.serial + 1) t.tickets) fresh (same (s.serial + 1) ∙ c.unbegun (s.serial + 1) (one_up s.serial)) (ap (open_at (s.serial + 1)) tickets ∙ unborn)))
        (λ ne. let low = old n s.serial t.serial le next ne in
        ap (λ (z : ℕ). get_or bs z 0 + b' n) (places n low) ∙ (ap (λ (z : ℕ). get_or bs (place_of s n) 0 + z) (same n)
        ∙ (c.whole n low used (settled_no s unsettled n (current n un)) ∙ ap (λ (l : List _). FULL_BALANCE + open_at n l) (sym tickets))));
    settled = λ n used is. let low = before n is in
        ap (λ (z : ℕ). get_or bs z 0) (places n (lower n s.serial low)) ∙ (c.settled n used (settled_is s unsettled n low (λ e. none_some n (sym none ∙ e))) ∙ ap (open_at n) (sym tickets));
    unused = c.unused;
    coming = λ ready. absurd (off (sym unready ∙ ready));
    halting = λ h. c.halting (runs h);
    few = λ n un. subst (λ (z : ℕ). z < SERIAL_STEP) (sym (same n)) (c.few n (settled_no s unsettled n (current n un)));
    unbegun = λ n low. same n ∙ c.unbegun n (further s.serial t.serial n next low);
  }
    where
      packed : (x y z : ℕ) → y ≡ x + 1 → z ≡ 0 → (x + 1) * SERIAL_STEP ≡ y * SERIAL_STEP + z
      packed x y z e f = omega arith

      over : (x y : ℕ) → y ≡ x + 1 → x < y
      over x y e = omega arith

      one_up : (x : ℕ) → x < x + 1
      one_up x = omega arith

      zeros : (g x o : ℕ) → g ≡ FULL_BALANCE → x ≡ 0 → o ≡ 0 → g + x ≡ FULL_BALANCE + o
      zeros g x o e f h = omega arith

      old : (n x y : ℕ) → n ≤ y → y ≡ x + 1 → n ≢ x + 1 → n ≤ x
      old n x y le e ne = grind arith

      further : (x y n : ℕ) → y ≡ x + 1 → y < n → x < n
      further x y n e low = omega arith

      not_before : (n x y : ℕ) → y ≡ x + 1 → (n < y → x ≢ n → ⊥) → x ≤ n
      not_before n x y e never = dite (ℕ_discrete x n) (λ is. omega (arith, is)) (λ ne. high_by n x y e (λ low. never low ne))
        where
          high_by : (n x y : ℕ) → y ≡ x + 1 → (n < y → ⊥) → x ≤ n
          high_by n x y e never = grind arith

      -- a serial that is not settled then is not below the old one
      current : (n : ℕ) → is_settled t (Some s.serial) n ≡ false → s.serial ≤ n
      current n un = not_before n s.serial t.serial next (λ low ne. off (sym un ∙ settled_is t (Some s.serial) n low (λ e. ne (some_is s.serial n e))))

      -- one that is was settled
      before : (n : ℕ) → is_settled t (Some s.serial) n ≡ true → n < s.serial
      before n is = less_by n s.serial t.serial next (settled_low t (Some s.serial) n is) (λ e. settled_not t (Some s.serial) n is (ap (λ (z : ℕ). Some z) (sym e)))
        where
          less_by : (n x y : ℕ) → y ≡ x + 1 → n < y → n ≢ x → n < x
          less_by n x y e low ne = grind arith

  -- nothing of it changes
  pub counts_same : (t : State) (b' : ℕ → ℕ) → ((n : ℕ) → b' n ≡ b n) → t.serial ≡ s.serial → t.halted ≡ s.halted → t.tickets ≡ s.tickets → Counts p bs t unsettled edge b'
  counts_same t b' same serial halted tickets = record {
    packed_is = c.packed_is ∙ (ap (λ (z : ℕ). z * SERIAL_STEP + b z) (sym serial) ∙ ap (λ (z : ℕ). t.serial * SERIAL_STEP + z) (sym (same t.serial)));
    range = c.range;
    whole = λ n le used un. ap (λ (z : ℕ). get_or bs z 0 + b' n) (place n) ∙ (ap (λ (z : ℕ). get_or bs (place_of s n) 0 + z) (same n)
        ∙ (c.whole n (subst (λ (z : ℕ). n ≤ z) serial le) used (sym (settles n) ∙ un) ∙ ap (λ (l : List _). FULL_BALANCE + open_at n l) (sym tickets)));
    settled = λ n used is. ap (λ (z : ℕ). get_or bs z 0) (place n) ∙ (c.settled n used (sym (settles n) ∙ is) ∙ ap (open_at n) (sym tickets));
    unused = c.unused;
    coming = λ ready. c.coming (sym (ap (λ (z : Bool). not z && (edge == t.serial + 1)) halted ∙ ap (λ (z : ℕ). not s.halted && (edge == z + 1)) serial) ∙ ready);
    halting = λ h. c.halting (sym halted ∙ h);
    few = λ n un. subst (λ (z : ℕ). z < SERIAL_STEP) (sym (same n)) (c.few n (sym (settles n) ∙ un));
    unbegun = λ n low. same n ∙ c.unbegun n (subst (λ (z : ℕ). z < n) serial low);
  }
    where
      place : (n : ℕ) → place_of t n ≡ place_of s n
      place n = ap (λ (h : Bool). cond (h && (n == t.serial)) 0 (1 + n % MAX_UNRETIRED)) halted ∙ ap (λ (z : ℕ). cond (s.halted && (n == z)) 0 (1 + n % MAX_UNRETIRED)) serial

      settles : (n : ℕ) → is_settled t unsettled n ≡ is_settled s unsettled n
      settles n = ap (λ (z : ℕ). nat_lt n z && not (is_at n unsettled)) serial
