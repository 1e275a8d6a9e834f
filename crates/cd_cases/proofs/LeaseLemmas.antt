-- The leases of a pool after a take and after a give.
use Rattle.std.proofs.Common.{◌≡◌, ℕ, zero, suc, ◌+◌, ◌<◌, ◌≤◌, ◌==◌, Bool, true, false, cond, List, [], ◌∷◌, ◌++◌, refl, sym, ap, ◌∙◌, arith, length, Some, eq-eqb}
use Rattle.std.specs.List.{remove, slice_index_or}
use Rattle.std.specs.Option.{IsSome}
use Rattle.cd_pool.specs.declared.lease.Leased.{Leased}
use Rattle.cd_pool.specs.Pairs.{pair_at, without}
use Rattle.cd_pool.specs.Numbers.{uses, times}
use Rattle.cd_pool.proofs.Numbers.{uses-append, times-append, once_more, step, uses-without}
use Rattle.cd_cases.specs.Leases.{AreLeases}

-- a pair more and its lease more
pub taken : (held held' : List Leased) (ls ls' : List ℕ) (h : Leased) → held' ≡ held ++ h ∷ [] → ls' ≡ ls ++ h.number ∷ [] → AreLeases ls held → AreLeases ls' held'
taken held held' ls ls' h added more fit n = rw (added, more, uses-append n held (h ∷ []), times-append n ls (h.number ∷ []), fit n) refl

-- a number that is taken out of a list
times-remove : (n at : ℕ) (ls : List ℕ) (l : ℕ) → at < length ls → l ≡ slice_index_or ls at l → times n (remove ls at) + times n (l ∷ []) ≡ times n ls
times-remove n at [] l lt e = absurd (omega arith)
times-remove n zero (x ∷ ls) l lt e = rw e (once_more (x == n) (times n ls))
times-remove n (suc at) (x ∷ ls) l lt e = step (x == n) (times n ls) (times n (remove ls at)) (times n (l ∷ [])) (times-remove n at ls l (omega arith) e)

-- a number that is used names a pair
used : (n : ℕ) (h : Leased) (hs : List Leased) (b : Bool) → (1 ≤ uses n hs → IsSome (pair_at n hs)) → 1 ≤ cond b (1 + uses n hs) (uses n hs) → IsSome (cond b (Some h.pair) (pair_at n hs))
used n h hs true rec le = refl
used n h hs false rec le = rec le

names : (n : ℕ) (hs : List Leased) → 1 ≤ uses n hs → IsSome (pair_at n hs)
names n [] le = absurd (omega arith)
names n (h ∷ hs) le = used n h hs (h.number == n) (names n hs) le

-- each lease names a pair
pub named : (held : List Leased) (ls : List ℕ) (at l : ℕ) → at < length ls → l ≡ slice_index_or ls at l → AreLeases ls held → IsSome (pair_at l held)
named held ls at l lt e fit =
    let one : times l (l ∷ []) ≡ 1 = rw (eq-eqb l l refl) refl in
    let all = times-remove l at ls l lt e in
    let same = fit l in
    names l held (omega (arith, one, all, same))

-- a pair less and its lease less
pub given : (held held' : List Leased) (ls ls' : List ℕ) (at l : ℕ) → at < length ls → l ≡ slice_index_or ls at l → held' ≡ without l held → ls' ≡ remove ls at → AreLeases ls held → AreLeases ls' held'
given held held' ls ls' at l lt e less left fit n =
    let pair = uses-without l n held (named held ls at l lt e fit) in
    let lease = times-remove n at ls l lt e in
    let same = fit n in
    rw (less, left) (omega (arith, pair, lease, same))

-- where there is no lease there is no pair
none_left : (held : List Leased) → AreLeases [] held → held ≡ []
none_left [] fit = refl
none_left (h ∷ hs) fit =
    let none : cond (h.number == h.number) (1 + uses h.number hs) (uses h.number hs) ≡ 0 = fit h.number in
    absurd (some (h.number == h.number) (eq-eqb h.number h.number refl) none)
  where
    some : (b : Bool) → b ≡ true → cond b (1 + uses h.number hs) (uses h.number hs) ≡ 0 → ⊥
    some true t e = omega arith
    some false t e = cc

-- the same of a list without a lease
pub all_given : (held : List Leased) (ls : List ℕ) → length ls ≡ 0 → AreLeases ls held → held ≡ []
all_given held [] none fit = none_left held fit
all_given held (l ∷ ls) none fit = absurd (omega (arith, none))
