-- What the books keep while an instance is opened or ended.
use Rattle.std.proofs.Common.{◌≡◌, ◌≢◌, ℕ, zero, suc, ◌+◌, ◌-◌, ◌≤◌, Bool, true, false, List, [], ◌∷◌, ◌++◌, All, refl, sym, ap, ◌∙◌, arith, Some, None, Option, set, slice_get, get_or, ⊎_elim, subst, sum_by, eq-eqb, IfSome}
use Rattle.std.proofs.lemmas.List.Sums.{sum_by-set, sum_by-cons, sum_by-append}
use Rattle.std.proofs.lemmas.Option.{slice_get_within, get_or_from_slice_get}
use Rattle.std.proofs.lemmas.Bool.Decides.{eqb_tells}
use Rattle.cd_outside.specs.declared.key.Key.{Key}
use Rattle.cd_outside.specs.declared.holder.Holder.{Holder}
use Rattle.cd_outside.specs.Keys.{holder_eq}
use Rattle.cd_outside.proofs.KeyLemmas.{holder_eq-true}
use Rattle.cd_pool.specs.declared.lease.Leased.{Leased}
use Rattle.cd_pool.specs.Pairs.{leases_of}
use Rattle.cd_legal.specs.declared.part.Part.{Part}
use Rattle.cd_legal.specs.declared.part.Part.TheVariants.{Instance, App}
use Rattle.cd_legal.specs.State.{part_of, is_app}
use Rattle.cd_desk.specs.declared.instance.Instance.{Instance as Held}
use Rattle.cd_desk.specs.declared.row.Row.{Row}
use Rattle.cd_desk.specs.Waiting.{Wait, waits, IsEmpty}
use Rattle.cd_desk.specs.Rows.{Numbered, line_by, line_at, leases_in, leases_at, place_in, line_waits, row_waits, row_with}
use Rattle.cd_desk.specs.Books.{other}
use Rattle.cd_desk.proofs.Lists.{get_set_same, get_set_other}
use Rattle.cd_desk.proofs.Numbers.{with_at, with_set_same, with_set_other, with_push_same, with_push_other}

pub one_of_sum : {A : Type 0} (f : A → ℕ) (xs : List A) (d : ℕ) (x : A) → slice_get xs d ≡ Some x → f x ≤ sum_by f xs
one_of_sum f [] d x e = cc
one_of_sum f (y ∷ xs) zero x e = let same : f y ≡ f x = ap f (let s : y ≡ x = cc in s) in let all = sum_by-cons f y xs in omega arith
one_of_sum f (y ∷ xs) (suc d) x e = let h = one_of_sum f xs d x e in let all = sum_by-cons f y xs in omega arith

part_room : (o : Option Held) (f : ℕ) → ((a : Held) → o ≡ Some a → waits a ≤ f) → IfSome o (λ a. waits a ≤ f)
part_room None f all = tt
part_room (Some a) f all = all a refl

-- ---- a row, and one of its lines

pub split_waits : (p : Part) (r : Row) → row_waits r ≡ line_waits (line_at p r) + line_waits (line_at (other p) r)
split_waits Instance r = refl
split_waits App r = omega arith

by_at : (p : Part) (r : Row) → line_by (is_app p) r ≡ line_at p r
by_at Instance r = refl
by_at App r = refl

pub line_part : (p : Part) (r : Row) → (line_at p r).part ≡ p
line_part Instance r = r.instances
line_part App r = r.started

pub line_plan : (p : Part) (r : Row) → (line_at p r).plan.value ≡ r.plan.value
line_plan Instance r = r.modules_plan
line_plan App r = r.apps_plan

pub room_for : (rows : List Row) (p : Part) (j : ℕ) (r : Row) (i f : ℕ) → slice_get rows j ≡ Some r → sum_by row_waits rows ≤ f → IfSome (slice_get (line_at p r).parts.items i) (λ a. waits a ≤ f)
room_for rows p j r i f there room = part_room (slice_get (line_at p r).parts.items i) f (λ a e. let one = one_of_sum waits (line_at p r).parts.items i a e in let all = one_of_sum row_waits rows j r there in let whole = split_waits p r in omega arith)

pub part_free : (o : Option Held) → ((a : Held) → o ≡ Some a → a.leases.items ≡ []) → leases_in o ≡ []
part_free None all = refl
part_free (Some a) all = all a refl

-- what waits holds nothing
pub line_free : (p : Part) (rows : List Row) (d : ℕ) (r : Row) (keys : List (List Key)) → row_with d rows ≡ Some r → Wait (line_at p r).opened (line_at p r).parts.items keys → leases_at (row_with d rows) (is_app p) (line_at p r).opened ≡ []
line_free p rows d r keys is w =
    ap (λ z. leases_at z (is_app p) (line_at p r).opened) is ∙ (ap (λ z. leases_in (slice_get z.parts.items (line_at p r).opened)) (by_at p r) ∙ part_free (slice_get (line_at p r).parts.items (line_at p r).opened) (λ a e. (w (line_at p r).opened a e (omega arith)).1))

part_held : (o : Option Held) (ls : List ℕ) → ls ≡ leases_in o → IfSome o (λ a. a.leases.items ≡ ls)
part_held None ls e = tt
part_held (Some a) ls e = sym e

-- what one of a row holds
pub held_by : (p : Part) (d i : ℕ) (rows : List Row) (r : Row) (kind : Part) (held : List Leased) → row_with d rows ≡ Some r → kind ≡ p → leases_of (place_in d (is_app p) i) held ≡ leases_at (row_with d rows) (is_app p) i
    → IfSome (slice_get (line_at p r).parts.items i) (λ a. a.leases.items ≡ leases_of (part_of kind d i) held)
held_by p d i rows r kind held there is kept =
    part_held (slice_get (line_at p r).parts.items i) (leases_of (part_of kind d i) held)
    (ap (λ (z : Part). leases_of (part_of z d i) held) is ∙ (kept ∙ (ap (λ z. leases_at z (is_app p) i) there ∙ ap (λ z. leases_in (slice_get z.parts.items i)) (by_at p r))))

-- ---- one instance of a row, and who holds what, have changed

same_line : (p : Part) (b : Bool) (d i k : ℕ) (r t : Row) (is_ : Held) → (line_at p t).parts.items ≡ set (line_at p r).parts.items i is_ → line_at (other p) t ≡ line_at (other p) r → holder_eq (place_in d b k) (part_of p d i) ≡ false
    → leases_at (Some t) b k ≡ leases_at (Some r) b k
same_line Instance true d i k r t is_ parts others ne = ap (λ z. leases_in (slice_get z.parts.items k)) others
same_line Instance false d i k r t is_ parts others ne =
    let differ : k ≢ i = λ (e : k ≡ i). (let all : holder_eq (place_in d false k) (part_of Instance d i) ≡ true = rw (eq-eqb d d refl, eq-eqb k i e) refl in cc) in
    ap (λ z. leases_in (slice_get z k)) parts ∙ ap leases_in (get_set_other r.modules.parts.items i k is_ differ)
same_line App true d i k r t is_ parts others ne =
    let differ : k ≢ i = λ (e : k ≡ i). (let all : holder_eq (place_in d true k) (part_of App d i) ≡ true = rw (eq-eqb d d refl, eq-eqb k i e) refl in cc) in
    ap (λ z. leases_in (slice_get z k)) parts ∙ ap leases_in (get_set_other r.apps.parts.items i k is_ differ)
same_line App false d i k r t is_ parts others ne = ap (λ z. leases_in (slice_get z.parts.items k)) others

module _ (to j i : ℕ) (p : Part) (r t : Row) (was is_ : Held) (old new : List Leased) (part : slice_get (line_at p r).parts.items i ≡ Some was) (parts : (line_at p t).parts.items ≡ set (line_at p r).parts.items i is_) (others : line_at (other p) t ≡ line_at (other p) r) (same : t.number ≡ r.number)
    (own : is_.leases.items ≡ leases_of (part_of p r.number i) new) (rest_ : (h : Holder) → holder_eq h (part_of p r.number i) ≡ false → leases_of h new ≡ leases_of h old) (rows : List Row) (numbers : Numbered 0 rows to) (there : slice_get rows j ≡ Some r) where
  now_is : row_with r.number (set rows j t) ≡ Some t
  now_is = with_set_same 0 rows to j r t numbers there same

  mine : leases_at (row_with r.number (set rows j t)) (is_app p) i ≡ leases_of (part_of p r.number i) new
  mine = ap (λ z. leases_at z (is_app p) i) now_is ∙ (ap (λ z. leases_in (slice_get z.parts.items i)) (by_at p t) ∙ (ap leases_in (ap (λ z. slice_get z i) parts ∙ get_set_same (line_at p r).parts.items i was is_ part) ∙ own))

  rest : (d n : ℕ) (b : Bool) → holder_eq (place_in d b n) (part_of p r.number i) ≡ false → leases_at (row_with d (set rows j t)) b n ≡ leases_at (row_with d rows) b n
  rest d n b ne = ⊎_elim
      (λ q. ap (λ z. leases_at (row_with z (set rows j t)) b n) q.1 ∙ (ap (λ z. leases_at z b n) now_is
      ∙ (same_line p b r.number i n r t is_ parts others (subst (λ z. holder_eq (place_in z b n) (part_of p r.number i) ≡ false) q.1 ne) ∙ (ap (λ z. leases_at z b n) (sym (with_at 0 rows to j r numbers there)) ∙ ap (λ z. leases_at (row_with z rows) b n) (sym q.1)))))
      (λ q. ap (λ z. leases_at z b n) (with_set_other d rows j r t there same q.1)) (eqb_tells d r.number)

  pick : (d n : ℕ) (b c : Bool) → holder_eq (place_in d b n) (part_of p r.number i) ≡ c → leases_of (place_in d b n) old ≡ leases_at (row_with d rows) b n → leases_of (place_in d b n) new ≡ leases_at (row_with d (set rows j t)) b n
  pick d n b true e kept =
      let its : place_in d b n ≡ part_of p r.number i = holder_eq-true (place_in d b n) (part_of p r.number i) e in
      let draft : d ≡ r.number = ap (λ z. z.draft) its in
      let kind : b ≡ is_app p = ap (λ z. z.app) its in
      let place : n ≡ i = ap (λ z. z.place) its in
      ap (λ z. leases_of z new) its ∙ (sym mine ∙ (ap (λ z. leases_at (row_with z (set rows j t)) (is_app p) i) (sym draft) ∙ (ap (λ z. leases_at (row_with d (set rows j t)) z i) (sym kind) ∙ ap (leases_at (row_with d (set rows j t)) b) (sym place))))
  pick d n b false e kept = rest_ (place_in d b n) e ∙ (kept ∙ sym (rest d n b e))

  pub part_leases : ((d n : ℕ) (b : Bool) → leases_of (place_in d b n) old ≡ leases_at (row_with d rows) b n) → (d n : ℕ) (b : Bool) → leases_of (place_in d b n) new ≡ leases_at (row_with d (set rows j t)) b n
  part_leases kept d n b = pick d n b (holder_eq (place_in d b n) (part_of p r.number i)) refl (kept d n b)

-- what is still to be taken in all
module _ (j i : ℕ) (p : Part) (r t : Row) (was is_ : Held) (part : slice_get (line_at p r).parts.items i ≡ Some was) (parts : (line_at p t).parts.items ≡ set (line_at p r).parts.items i is_) (others : line_at (other p) t ≡ line_at (other p) r) (rows : List Row) (there : slice_get rows j ≡ Some r) where
  pub part_sum : sum_by row_waits (set rows j t) + waits was ≡ sum_by row_waits rows + waits is_
  part_sum =
      let whole = sum_by-set row_waits rows j t r (slice_get_within rows j r there) in
      let both = sum_by-set waits (line_at p r).parts.items i is_ was (slice_get_within (line_at p r).parts.items i was part) in
      let at : get_or rows j r ≡ r = get_or_from_slice_get rows j r r there in
      let in_part : get_or (line_at p r).parts.items i was ≡ was = get_or_from_slice_get (line_at p r).parts.items i was was part in
      let same : line_waits (line_at p t) ≡ sum_by waits (set (line_at p r).parts.items i is_) = ap (sum_by waits) parts in
      let same_others : line_waits (line_at (other p) t) ≡ line_waits (line_at (other p) r) = ap line_waits others in
      let whole2 : sum_by row_waits (set rows j t) + row_waits r ≡ sum_by row_waits rows + row_waits t = subst (λ z. sum_by row_waits (set rows j t) + row_waits z ≡ sum_by row_waits rows + row_waits t) at whole in
      let both2 : sum_by waits (set (line_at p r).parts.items i is_) + waits was ≡ line_waits (line_at p r) + waits is_ = subst (λ z. sum_by waits (set (line_at p r).parts.items i is_) + waits z ≡ sum_by waits (line_at p r).parts.items + waits is_) in_part both in
      fits (sum_by row_waits (set rows j t)) (sum_by row_waits rows) (row_waits r) (row_waits t) (line_waits (line_at p t)) (line_waits (line_at (other p) t)) (line_waits (line_at p r)) (line_waits (line_at (other p) r)) (sum_by waits (set (line_at p r).parts.items i is_)) (waits was) (waits is_) whole2 both2 same same_others (split_waits p r) (split_waits p t)
    where
      fits : (w' w rr rt tm ta rm ra s a b : ℕ) → w' + rr ≡ w + rt → s + a ≡ rm + b → tm ≡ s → ta ≡ ra → rr ≡ rm + ra → rt ≡ tm + ta → w' + a ≡ w + b
      fits w' w rr rt tm ta rm ra s a b e1 e2 e3 e4 e5 e6 = omega arith

  -- where it takes its keys, or is ended
  pub sum_less : (w n : ℕ) → n ≡ waits was → waits is_ ≡ 0 → w ≡ sum_by row_waits rows → w - n ≡ sum_by row_waits (set rows j t)
  sum_less w n taken none sum = let all = part_sum in omega (arith, all, taken, none, sum)

  pub sum_kept : (w : ℕ) → waits is_ ≡ waits was → w ≡ sum_by row_waits rows → w ≡ sum_by row_waits (set rows j t)
  sum_kept w same sum = let all = part_sum in omega (arith, all, same, sum)

pub taken_is : (parts : List Held) (i : ℕ) (a : Held) (n : ℕ) → slice_get parts i ≡ Some a → IfSome (slice_get parts i) (λ b. n ≡ waits b) → n ≡ waits a
taken_is parts i a n there is = subst (λ z. IfSome z (λ b. n ≡ waits b)) there is

-- one takes no more than all are to take
pub one_waits_of : (rows : List Row) (p : Part) (j : ℕ) (r : Row) (i : ℕ) (a : Held) → slice_get rows j ≡ Some r → slice_get (line_at p r).parts.items i ≡ Some a → waits a ≤ sum_by row_waits rows
one_waits_of rows p j r i a there part = let one = one_of_sum waits (line_at p r).parts.items i a part in let all = one_of_sum row_waits rows j r there in let whole = split_waits p r in omega arith

-- ---- a row that keeps its instances
module _ (to j : ℕ) (r t : Row) (modules : t.modules ≡ r.modules) (apps : t.apps ≡ r.apps) (same : t.number ≡ r.number) (rows : List Row) (numbers : Numbered 0 rows to) (there : slice_get rows j ≡ Some r) where
  by_same : (b : Bool) (n : ℕ) → leases_at (Some t) b n ≡ leases_at (Some r) b n
  by_same true n = ap (λ z. leases_in (slice_get z.parts.items n)) apps
  by_same false n = ap (λ z. leases_in (slice_get z.parts.items n)) modules

  pub row_leases : (d n : ℕ) (b : Bool) → leases_at (row_with d (set rows j t)) b n ≡ leases_at (row_with d rows) b n
  row_leases d n b = ⊎_elim
      (λ q. ap (λ z. leases_at (row_with z (set rows j t)) b n) q.1 ∙ (ap (λ z. leases_at z b n) (with_set_same 0 rows to j r t numbers there same) ∙ (by_same b n ∙ (ap (λ z. leases_at z b n) (sym (with_at 0 rows to j r numbers there)) ∙ ap (λ z. leases_at (row_with z rows) b n) (sym q.1)))))
      (λ q. ap (λ z. leases_at z b n) (with_set_other d rows j r t there same q.1)) (eqb_tells d r.number)

  pub row_room : sum_by row_waits (set rows j t) ≡ sum_by row_waits rows
  row_room =
      let whole = sum_by-set row_waits rows j t r (slice_get_within rows j r there) in
      let at : get_or rows j r ≡ r = get_or_from_slice_get rows j r r there in
      let whole2 : sum_by row_waits (set rows j t) + row_waits r ≡ sum_by row_waits rows + row_waits t = subst (λ z. sum_by row_waits (set rows j t) + row_waits z ≡ sum_by row_waits rows + row_waits t) at whole in
      let same : row_waits t ≡ row_waits r = ap (λ z. line_waits z + line_waits t.apps) modules ∙ ap (λ z. line_waits r.modules + line_waits z) apps in
      omega arith

-- ---- a new row

no_leases : (parts : List Held) (i : ℕ) → All IsEmpty parts → leases_in (slice_get parts i) ≡ []
no_leases [] i e = refl
no_leases (a ∷ parts) zero e = e 0 a (omega arith)
no_leases (a ∷ parts) (suc i) e = no_leases parts i (λ k d lt. e (suc k) d (omega arith))

no_leases_by : (b : Bool) (r : Row) (i : ℕ) → All IsEmpty r.modules.parts.items → All IsEmpty r.apps.parts.items → leases_in (slice_get (line_by b r).parts.items i) ≡ []
no_leases_by true r i m a = no_leases r.apps.parts.items i a
no_leases_by false r i m a = no_leases r.modules.parts.items i m

pub added_leases : (rows : List Row) (r : Row) → row_with r.number rows ≡ None → All IsEmpty r.modules.parts.items → All IsEmpty r.apps.parts.items → (d n : ℕ) (b : Bool) → leases_at (row_with d (rows ++ r ∷ [])) b n ≡ leases_at (row_with d rows) b n
added_leases rows r none m a d n b = ⊎_elim
    (λ q. ap (λ z. leases_at (row_with z (rows ++ r ∷ [])) b n) q.1 ∙ (ap (λ z. leases_at z b n) (with_push_same rows r none) ∙ (no_leases_by b r n m a ∙ (ap (λ z. leases_at z b n) (sym none) ∙ ap (λ z. leases_at (row_with z rows) b n) (sym q.1)))))
    (λ q. ap (λ z. leases_at z b n) (with_push_other d rows r q.1)) (eqb_tells d r.number)

pub added_sum : (rows : List Row) (r : Row) → sum_by row_waits (rows ++ r ∷ []) ≡ sum_by row_waits rows + row_waits r
added_sum rows r = let all = sum_by-append row_waits rows (r ∷ []) in let one = sum_by-cons row_waits r [] in omega arith
