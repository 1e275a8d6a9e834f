-- The serial of a legal history never falls, and no entry names one that is not there yet; so its Begins are fresh.
use Rattle.std.proofs.Common.{◌≡◌, ◌≤◌, ℕ, ◌+◌, ◌==◌, max, Bool, true, false, cond, nat_le, List, [], ◌∷◌, ◌++◌, refl, ap, sym, subst, arith, eq-eqb}
use Rattle.std.proofs.lemmas.Bool.Decides.{nat_tests}
use Rattle.cd_legal.specs.declared.entry.Entry.{Entry}
use Rattle.cd_legal.specs.declared.entry.Entry.TheVariants.{Publish, Begin, Retire, Halt}
use Rattle.cd_legal.specs.declared.entry.Signed.{Signed}
use Rattle.cd_legal.specs.declared.state.State.{State}
use Rattle.cd_legal.specs.Entry.{entries}
use Rattle.cd_legal.specs.Legal.{allowed, after, legal_from, state_at, legal, IsLegal}
use Rattle.cd_legal.specs.Placed.{Placed, placed_from, placed}
use Rattle.cd_legal.specs.Fresh.{named, is_fresh_at, is_fresh_from, Fresh}
use Rattle.cd_legal.proofs.Histories.{both, first, second}
use Rattle.cd_legal.proofs.Logs.{state-snoc}
use Rattle.cd_legal.proofs.Facts.{Publishes, Begins, Retires, Halts, can}

le : (a b : ℕ) → a ≤ b → nat_le a b ≡ true
le a b e = grind (arith, nat_tests)

-- the serial never falls
pub serial_rises : (s : State) (e : Entry) → allowed s e ≡ true → s.serial ≤ (after s e).serial
serial_rises s (Publish d n m c) may = let f : Publishes s d n m = can s (Publish d n m c) may in omega (arith, f.current, f.next)
serial_rises s (Halt n) may = let f : Halts s n = can s (Halt n) may in omega (arith, f.next)
serial_rises s e may = omega arith

publish_names : (d n m : ℕ) (c : _) → n ≡ m + 1 → named (Publish d n m c) ≤ n
publish_names d n m c is = omega arith

-- what it names is there after it
names : (s : State) (e : Entry) → allowed s e ≡ true → named e ≤ (after s e).serial
names s (Publish d n m c) may = publish_names d n m c (can s (Publish d n m c) may).next
names s (Begin k n) may = let f : Begins s k n = can s (Begin k n) may in omega (arith, f.current)
names s (Retire n) may = let f : Retires s n = can s (Retire n) may in omega (arith, f.superseded)
names s e may = omega arith

begin_here : (least : ℕ) (s : State) (k n : ℕ) → allowed s (Begin k n) ≡ true → least ≤ s.serial → is_fresh_at least s.serial (Begin k n) ≡ true
begin_here least s k n may low =
    let f : Begins s k n = can s (Begin k n) may in
    both (n == s.serial) _ (eq-eqb n s.serial f.current) (le least n (omega (arith, f.current)))

here : (least : ℕ) (s : State) (e : Entry) → allowed s e ≡ true → least ≤ s.serial → is_fresh_at least s.serial e ≡ true
here least s (Begin k n) may low = begin_here least s k n may low
here least s e may low = refl

pick : (b : Bool) (least : ℕ) (p : Placed) (own : List Placed) → is_fresh_from least (p ∷ own) ≡ true → is_fresh_from least own ≡ true → is_fresh_from least (cond b (p ∷ own) own) ≡ true
pick true least p own with_it without_it = with_it
pick false least p own with_it without_it = without_it

fresh_from : (k least : ℕ) (before log : List Signed) → legal_from (state_at before) (entries log) ≡ true → least ≤ (state_at before).serial → is_fresh_from least (placed_from k before log) ≡ true
fresh_from k least before [] legal low = refl
fresh_from k least before (x ∷ xs) legal low =
    let s : State = state_at before in
    let next : List Signed = before ++ x ∷ [] in
    let is = state-snoc before x in
    let may : allowed s x.entry ≡ true = first (allowed s x.entry) _ legal in
    let rest : legal_from (state_at next) (entries xs) ≡ true = subst (λ (z : State). legal_from z (entries xs) ≡ true) (sym is) (second (allowed s x.entry) _ legal) in
    let up : s.serial ≤ (state_at next).serial = omega (arith, serial_rises s x.entry may, ap (λ (z : State). z.serial) is) in
    let named_up : named x.entry ≤ (state_at next).serial = omega (arith, names s x.entry may, ap (λ (z : State). z.serial) is) in
    let p : Placed = record { before = before; entry = x.entry } in
    pick (x.by == k) least p (placed_from k next xs)
    (both (is_fresh_at least s.serial x.entry) _ (here least s x.entry may low) (fresh_from k (max least (named x.entry)) next xs rest (omega arith)))
    (fresh_from k least next xs rest (omega arith))

-- each pass of a legal history is fresh
pub legal-fresh : (history : List Signed) (k : ℕ) → IsLegal history → Fresh (placed k history)
legal-fresh history k legal = fresh_from k 0 [] history legal (omega arith)
