-- What a directive more does to the steps of a block, and which routes the steps are.
use Rattle.std.proofs.Common.{◌≡◌, ℕ, ◌+◌, ◌-◌, ◌≤◌, ◌<◌, ◌==◌, nat_le, not, Bool, true, false, if◌then◌else◌, List, [], ◌∷◌, ◌++◌, length, map, reverse, refl, sym, ap, ◌∙◌, arith, Option, Some, None, codes, decimal}
use Rattle.std.proofs.Math.Dec.{eqb-suc-zero}
use Rattle.std.proofs.lemmas.Bool.{eqb-true, leb-true, leb-false}
use Rattle.std.proofs.lemmas.List.{length-reverse, reverse-reverse}
use Rattle.cd_tree.specs.declared.tree.Tree as tree
use Rattle.cd_tree.specs.declared.tree.Tree.{Tree}
use Rattle.cd_caddyfile.specs.FileSites.{rank, put, put_handle}
use Rattle.cd_caddyfile.specs.Shape.{Entry, member, list, group, route, set_of, handler_of, subroute, rewrites, handles, groups_inside, groups_of, one_if, routes_from, routes_of}
use Rattle.cd_caddyfile.specs.Sites.{Tests, Action, vars, set_field, add_field, delete_field, redir, rewrite, respond, Block, done, act, handle}
use Rattle.cd_adapt.specs.Laying.{routes_at}
use Rattle.cd_parts.specs.Measures.{measured, list_of, object_of, measured_entry}
use Rattle.cd_adapt.specs.Steps.{part, route_of, subroute_of, step_of, steps, frame_of, routes_by, routes_in, has_some, own_groups}
use Rattle.cd_parts.specs.declared.measured.Measured.{Measured}
use Rattle.cd_adapt.specs.declared.steps.Step.{Step}
use Rattle.cd_parts.proofs.MeasureLaws.{list-measured, object-measured}

-- ---- one step more

-- two tests of which not both hold may be made in either order
swap : (p q : Bool) (s s' : Step) (ss : List Step) → (p ≡ true → q ≡ true → ⊥) →
    (if p then s' ∷ (if q then s ∷ ss else ss) else (if q then s ∷ ss else ss)) ≡ (if q then s ∷ (if p then s' ∷ ss else ss) else (if p then s' ∷ ss else ss))
swap true true s s' ss apart = absurd (apart refl refl)
swap true false s s' ss apart = refl
swap false true s s' ss apart = refl
swap false false s s' ss apart = refl

-- what is put before the first of a greater rank
apart : (k low high : ℕ) → nat_le high low ≡ false → (low == k) ≡ true → (high == k) ≡ true → ⊥
apart k low high over one other = omega (arith, leb-false high low over, eqb-true low k one, eqb-true high k other)

abbrev and_step : ℕ → Action → Step → List Step → List Step
and_step k a s ss = if rank a == k then s ∷ ss else ss

steps-act : (over : Bool) (k : ℕ) (m m' : Option Tests) (a a' : Action) (b : Block) (free : ℕ) → nat_le (rank a) (rank a') ≡ over →
    steps k (put m a b) free ≡ and_step k a (step_of m (handler_of a)) (steps k b free) →
    steps k (put m a (act m' a' b)) free ≡ and_step k a (step_of m (handler_of a)) (steps k (act m' a' b) free)
unfolding put steps
steps-act true k m m' a a' b free e known = rw e refl
steps-act false k m m' a a' b free e known = rw (e, known) (swap (rank a' == k) (rank a == k) (step_of m (handler_of a)) (step_of m' (handler_of a')) (steps k b free) (apart k (rank a') (rank a) e))

steps-handle : (over : Bool) (k : ℕ) (m m' : Option Tests) (a : Action) (i b : Block) (free : ℕ) → nat_le (rank a) 4 ≡ over →
    steps k (put m a b) (free + groups_of i) ≡ and_step k a (step_of m (handler_of a)) (steps k b (free + groups_of i)) →
    steps k (put m a (handle m' i b)) free ≡ and_step k a (step_of m (handler_of a)) (steps k (handle m' i b) free)
unfolding put steps
steps-handle true k m m' a i b free e known = rw e refl
steps-handle false k m m' a i b free e known =
    rw (e, known) (swap (4 == k) (rank a == k) (step_of m (handler_of a)) (step_of m' (subroute (routes_of i free))) (steps k b (free + groups_of i)) (apart k 4 (rank a) e))

pub steps-put : (k : ℕ) (m : Option Tests) (a : Action) (b : Block) (free : ℕ) → steps k (put m a b) free ≡ and_step k a (step_of m (handler_of a)) (steps k b free)
unfolding put steps
steps-put k m a done free = refl
steps-put k m a (act m' a' b) free = steps-act (nat_le (rank a) (rank a')) k m m' a a' b free refl (steps-put k m a b free)
steps-put k m a (handle m' i b) free = steps-handle (nat_le (rank a) 4) k m m' a i b free refl (steps-put k m a b (free + groups_of i))

groups-act : (over : Bool) (m m' : Option Tests) (a a' : Action) (b : Block) → nat_le (rank a) (rank a') ≡ over → groups_inside (put m a b) ≡ groups_inside b →
    groups_inside (put m a (act m' a' b)) ≡ groups_inside b
unfolding put groups_inside
groups-act true m m' a a' b e known = rw e refl
groups-act false m m' a a' b e known = rw e known

groups-handle : (over : Bool) (m m' : Option Tests) (a : Action) (i b : Block) → nat_le (rank a) 4 ≡ over → groups_inside (put m a b) ≡ groups_inside b →
    groups_inside (put m a (handle m' i b)) ≡ groups_of i + groups_inside b
unfolding put groups_inside
groups-handle true m m' a i b e known = rw e refl
groups-handle false m m' a i b e known = rw (e, known) refl

pub groups-put : (m : Option Tests) (a : Action) (b : Block) → groups_inside (put m a b) ≡ groups_inside b
unfolding put groups_inside
groups-put m a done = refl
groups-put m a (act m' a' b) = groups-act (nat_le (rank a) (rank a')) m m' a a' b refl (groups-put m a b)
groups-put m a (handle m' i b) = groups-handle (nat_le (rank a) 4) m m' a i b refl (groups-put m a b)

-- ---- one `handle` more

abbrev and_handle : ℕ → Option Tests → Block → Block → ℕ → List Step
and_handle k m i b free = if 4 == k then step_of m (subroute (routes_of i free)) ∷ steps k b (free + groups_of i) else steps k b (free + groups_of i)

steps-act-handle : (over : Bool) (k : ℕ) (m m' : Option Tests) (a' : Action) (i b : Block) (free : ℕ) → nat_le 4 (rank a') ≡ over →
    steps k (put_handle m i b) free ≡ and_handle k m i b free → steps k (put_handle m i (act m' a' b)) free ≡ and_handle k m i (act m' a' b) free
unfolding put_handle steps
steps-act-handle true k m m' a' i b free e known = rw e refl
steps-act-handle false k m m' a' i b free e known =
    rw (e, known) (swap (rank a' == k) (4 == k) (step_of m (subroute (routes_of i free))) (step_of m' (handler_of a')) (steps k b (free + groups_of i)) (apart k (rank a') 4 e))

pub steps-put_handle : (k : ℕ) (m : Option Tests) (i b : Block) (free : ℕ) → steps k (put_handle m i b) free ≡ and_handle k m i b free
unfolding put_handle steps
steps-put_handle k m i done free = refl
steps-put_handle k m i (act m' a' b) free = steps-act-handle (nat_le 4 (rank a')) k m m' a' i b free refl (steps-put_handle k m i b free)
steps-put_handle k m i (handle m' i' b) free = refl

groups-act-handle : (over : Bool) (m m' : Option Tests) (a' : Action) (i b : Block) → nat_le 4 (rank a') ≡ over → groups_inside (put_handle m i b) ≡ groups_of i + groups_inside b →
    groups_inside (put_handle m i (act m' a' b)) ≡ groups_of i + groups_inside b
unfolding put_handle groups_inside
groups-act-handle true m m' a' i b e known = rw e refl
groups-act-handle false m m' a' i b e known = rw e known

pub groups-put_handle : (m : Option Tests) (i b : Block) → groups_inside (put_handle m i b) ≡ groups_of i + groups_inside b
unfolding put_handle groups_inside
groups-put_handle m i done = refl
groups-put_handle m i (act m' a' b) = groups-act-handle (nat_le 4 (rank a')) m m' a' i b refl (groups-put_handle m i b)
groups-put_handle m i (handle m' i' b) = refl

-- ---- blocks in order

-- directives are in order, and none is before this rank
abbrev pub From : ℕ → Block → Type 0
From r done = 0 ≤ 0
From r (act m a b) = (r ≤ rank a) × From (rank a) b
From r (handle m i b) = (r ≤ 4) × From 4 b

from-act : (over : Bool) (r : ℕ) (m m' : Option Tests) (a a' : Action) (b : Block) → nat_le (rank a) (rank a') ≡ over → From r (act m' a' b) → r ≤ rank a →
    (rank a' ≤ rank a → From (rank a') (put m a b)) → From r (put m a (act m' a' b))
unfolding put
from-act true r m m' a a' b e from le known = rw e (le, (leb-true (rank a) (rank a') e, from.1))
from-act false r m m' a a' b e from le known = rw e (from.0, known (omega (arith, leb-false (rank a) (rank a') e)))

from-handle : (over : Bool) (r : ℕ) (m m' : Option Tests) (a : Action) (i b : Block) → nat_le (rank a) 4 ≡ over → From r (handle m' i b) → r ≤ rank a →
    (4 ≤ rank a → From 4 (put m a b)) → From r (put m a (handle m' i b))
unfolding put
from-handle true r m m' a i b e from le known = rw e (le, (leb-true (rank a) 4 e, from.1))
from-handle false r m m' a i b e from le known = rw e (from.0, known (omega (arith, leb-false (rank a) 4 e)))

pub from-put : (r : ℕ) (m : Option Tests) (a : Action) (b : Block) → From r b → r ≤ rank a → From r (put m a b)
unfolding put
from-put r m a done from le = (le, from)
from-put r m a (act m' a' b) from le = from-act (nat_le (rank a) (rank a')) r m m' a a' b refl from le (λ more. from-put (rank a') m a b from.1 more)
from-put r m a (handle m' i b) from le = from-handle (nat_le (rank a) 4) r m m' a i b refl from le (λ more. from-put 4 m a b from.1 more)

from-act-handle : (over : Bool) (r : ℕ) (m m' : Option Tests) (a' : Action) (i b : Block) → nat_le 4 (rank a') ≡ over → From r (act m' a' b) → r ≤ 4 →
    (rank a' ≤ 4 → From (rank a') (put_handle m i b)) → From r (put_handle m i (act m' a' b))
unfolding put_handle
from-act-handle true r m m' a' i b e from le known = rw e (le, (leb-true 4 (rank a') e, from.1))
from-act-handle false r m m' a' i b e from le known = rw e (from.0, known (omega (arith, leb-false 4 (rank a') e)))

pub from-put_handle : (r : ℕ) (m : Option Tests) (i b : Block) → From r b → r ≤ 4 → From r (put_handle m i b)
unfolding put_handle
from-put_handle r m i done from le = (le, from)
from-put_handle r m i (act m' a' b) from le = from-act-handle (nat_le 4 (rank a')) r m m' a' i b refl from le (λ more. from-put_handle (rank a') m i b from.1 more)
from-put_handle r m i (handle m' i' b) from le = (le, (omega arith, from.1))

none-act : (here : Bool) (k r : ℕ) (s : Step) (ss : List Step) → (r == k) ≡ here → k < r → ss ≡ [] → (if r == k then s ∷ ss else ss) ≡ []
none-act true k r s ss e less known = absurd (omega (arith, eqb-true r k e))
none-act false k r s ss e less known = rw e known

none_below : (k r : ℕ) (b : Block) (free : ℕ) → From r b → k < r → steps k b free ≡ []
unfolding steps
none_below k r done free from less = refl
none_below k r (act m a b) free from less =
    let under : k < rank a = omega (arith, from.0) in
    none-act (rank a == k) k (rank a) (step_of m (handler_of a)) (steps k b free) refl under (none_below k (rank a) b free from.1 under)
none_below k r (handle m i b) free from less =
    let under : k < 4 = omega (arith, from.0) in
    none-act (4 == k) k 4 (step_of m (subroute (routes_of i free))) (steps k b (free + groups_of i)) refl under (none_below k 4 b (free + groups_of i) from.1 under)

-- ---- the groups that a block needs

pub has-one : (s : Step) (ss : List Step) → has_some (s ∷ ss) ≡ true
has-one s ss = ap not (eqb-suc-zero (length ss))

has-reversed : (ss : List Step) → has_some (reverse ss) ≡ has_some ss
has-reversed ss = ap (λ n. not (n == 0)) (length-reverse ss)

pub has-rewrites : (b : Block) (free : ℕ) → has_some (steps 3 b free) ≡ rewrites b
unfolding steps rewrites
has-rewrites done free = refl
has-rewrites (act m (vars n v) b) free = has-rewrites b free
has-rewrites (act m (set_field n v) b) free = has-rewrites b free
has-rewrites (act m (add_field n v) b) free = has-rewrites b free
has-rewrites (act m (delete_field n) b) free = has-rewrites b free
has-rewrites (act m (redir to code) b) free = has-rewrites b free
has-rewrites (act m (rewrite to) b) free = has-one (step_of m (handler_of (rewrite to))) (steps 3 b free)
has-rewrites (act m (respond body code) b) free = has-rewrites b free
has-rewrites (handle m i b) free = has-rewrites b (free + groups_of i)

pub has-handles : (b : Block) (free : ℕ) → has_some (steps 4 b free) ≡ handles b
unfolding steps handles
has-handles done free = refl
has-handles (act m (vars n v) b) free = has-handles b free
has-handles (act m (set_field n v) b) free = has-handles b free
has-handles (act m (add_field n v) b) free = has-handles b free
has-handles (act m (delete_field n) b) free = has-handles b free
has-handles (act m (redir to code) b) free = has-handles b free
has-handles (act m (rewrite to) b) free = has-handles b free
has-handles (act m (respond body code) b) free = has-handles b free
has-handles (handle m i b) free = has-one (step_of m (subroute (routes_of i free))) (steps 4 b (free + groups_of i))

rewrites-flag : (b : Block) (free : ℕ) → has_some (reverse (steps 3 b free)) ≡ rewrites b
rewrites-flag b free = has-reversed (steps 3 b free) ∙ has-rewrites b free

handles-flag : (b : Block) (free : ℕ) → has_some (reverse (steps 4 b free)) ≡ handles b
handles-flag b free = has-reversed (steps 4 b free) ∙ has-handles b free

pub own-groups : (b : Block) (free : ℕ) → own_groups (frame_of b free) ≡ one_if (rewrites b) + one_if (handles b)
own-groups b free = ap (λ r. one_if r + one_if (has_some (reverse (steps 4 b free)))) (rewrites-flag b free) ∙ ap (λ h. one_if (rewrites b) + one_if h) (handles-flag b free)

-- ---- routes

pub list-of-one : (t : Tree) → list_of (measured t ∷ []) ≡ measured (list (t ∷ []))
list-of-one t = list-measured (t ∷ [])

abbrev handle_entry : Tree → Entry
handle_entry t = member (codes "handle") (list (t ∷ []))

route-plain : (m : Option Tests) (t : Tree) → route_of None (step_of m t) ≡ measured (route [] m t)
route-plain None t = ap (λ x. object_of (part (codes "handle") x ∷ [])) (list-of-one t) ∙ object-measured (handle_entry t ∷ [])
route-plain (Some tests) t =
    ap (λ x. object_of (part (codes "handle") x ∷ part (codes "match") (list_of (measured (set_of tests) ∷ [])) ∷ [])) (list-of-one t)
    ∙ (ap (λ x. object_of (part (codes "handle") (measured (list (t ∷ []))) ∷ part (codes "match") x ∷ [])) (list-of-one (set_of tests))
    ∙ object-measured (handle_entry t ∷ member (codes "match") (list (set_of tests ∷ [])) ∷ []))

abbrev group_entry : ℕ → Entry
group_entry n = member (codes "group") (tree.Text (codes "group" ++ decimal n))

route-grouped : (n : ℕ) (m : Option Tests) (t : Tree) → route_of (Some n) (step_of m t) ≡ measured (route (group n) m t)
route-grouped n None t =
    ap (λ x. object_of (measured_entry (group_entry n) ∷ part (codes "handle") x ∷ [])) (list-of-one t) ∙ object-measured (group_entry n ∷ handle_entry t ∷ [])
route-grouped n (Some tests) t =
    ap (λ x. object_of (measured_entry (group_entry n) ∷ part (codes "handle") x ∷ part (codes "match") (list_of (measured (set_of tests) ∷ [])) ∷ [])) (list-of-one t)
    ∙ (ap (λ x. object_of (measured_entry (group_entry n) ∷ part (codes "handle") (measured (list (t ∷ []))) ∷ part (codes "match") x ∷ [])) (list-of-one (set_of tests))
    ∙ object-measured (group_entry n ∷ handle_entry t ∷ member (codes "match") (list (set_of tests ∷ [])) ∷ []))

pub subroute-measured : (rs : List Tree) → subroute_of (map measured rs) ≡ measured (subroute rs)
subroute-measured rs =
    ap (λ x. object_of (measured_entry (member (codes "handler") (tree.Text (codes "subroute"))) ∷ part (codes "routes") x ∷ [])) (list-measured rs)
    ∙ object-measured (member (codes "handler") (tree.Text (codes "subroute")) ∷ member (codes "routes") (list rs) ∷ [])

-- ---- all routes of a block

abbrev six : (a b c d e f : List Measured) → List Measured
six a b c d e f = ((((a ++ b) ++ c) ++ d) ++ e) ++ f

at1 : (x : Measured) (a b c d e f : List Measured) → a ≡ [] → six a (x ∷ b) c d e f ≡ x ∷ six a b c d e f
at1 x a b c d e f p = rw p refl

at2 : (x : Measured) (a b c d e f : List Measured) → a ≡ [] → b ≡ [] → six a b (x ∷ c) d e f ≡ x ∷ six a b c d e f
at2 x a b c d e f p q = rw (p, q) refl

at3 : (x : Measured) (a b c d e f : List Measured) → a ≡ [] → b ≡ [] → c ≡ [] → six a b c (x ∷ d) e f ≡ x ∷ six a b c d e f
at3 x a b c d e f p q r = rw (p, q, r) refl

at4 : (x : Measured) (a b c d e f : List Measured) → a ≡ [] → b ≡ [] → c ≡ [] → d ≡ [] → six a b c d (x ∷ e) f ≡ x ∷ six a b c d e f
at4 x a b c d e f p q r s = rw (p, q, r, s) refl

at5 : (x : Measured) (a b c d e f : List Measured) → a ≡ [] → b ≡ [] → c ≡ [] → d ≡ [] → e ≡ [] → six a b c d e (x ∷ f) ≡ x ∷ six a b c d e f
at5 x a b c d e f p q r s t = rw (p, q, r, s, t) refl

abbrev by : Option ℕ → List Step → List Measured
by g ss = map (λ s. route_of g s) ss

module _ (rw_n hd_n : ℕ) where
  abbrev all_by : Block → ℕ → List Measured
  all_by b free = six (by None (steps 0 b free)) (by None (steps 1 b free)) (by None (steps 2 b free)) (by (Some rw_n) (steps 3 b free)) (by (Some hd_n) (steps 4 b free)) (by None (steps 5 b free))

  gone : (k r : ℕ) (g : Option ℕ) (b : Block) (free : ℕ) → From r b → k < r → by g (steps k b free) ≡ []
  gone k r g b free from less = ap (by g) (none_below k r b free from less)

  headers_first : (m : Option Tests) (t : Tree) (b : Block) (free : ℕ) → From 1 b →
      six (by None (steps 0 b free)) (route_of None (step_of m t) ∷ by None (steps 1 b free)) (by None (steps 2 b free)) (by (Some rw_n) (steps 3 b free)) (by (Some hd_n) (steps 4 b free)) (by None (steps 5 b free))
      ≡ measured (route [] m t) ∷ all_by b free
  headers_first m t b free from = at1 _ _ _ _ _ _ _ (gone 0 1 None b free from (omega arith)) ∙ ap (λ x. x ∷ all_by b free) (route-plain m t)

  pub routes-sorted : (r : ℕ) (b : Block) (free : ℕ) → From r b → all_by b free ≡ map measured (routes_from b rw_n hd_n free)
  unfolding steps routes_from
  routes-sorted r done free from = refl
  routes-sorted r (act m (vars n v) b) free from = ap (λ x. x ∷ all_by b free) (route-plain m (handler_of (vars n v))) ∙ ap (λ xs. measured (route [] m (handler_of (vars n v))) ∷ xs) (routes-sorted 0 b free from.1)
  routes-sorted r (act m (set_field n v) b) free from = headers_first m (handler_of (set_field n v)) b free from.1 ∙ ap (λ xs. measured (route [] m (handler_of (set_field n v))) ∷ xs) (routes-sorted 1 b free from.1)
  routes-sorted r (act m (add_field n v) b) free from = headers_first m (handler_of (add_field n v)) b free from.1 ∙ ap (λ xs. measured (route [] m (handler_of (add_field n v))) ∷ xs) (routes-sorted 1 b free from.1)
  routes-sorted r (act m (delete_field n) b) free from = headers_first m (handler_of (delete_field n)) b free from.1 ∙ ap (λ xs. measured (route [] m (handler_of (delete_field n))) ∷ xs) (routes-sorted 1 b free from.1)
  routes-sorted r (act m (redir to code) b) free from =
      at2 _ _ _ _ _ _ _ (gone 0 2 None b free from.1 (omega arith)) (gone 1 2 None b free from.1 (omega arith))
      ∙ (ap (λ x. x ∷ all_by b free) (route-plain m (handler_of (redir to code))) ∙ ap (λ xs. measured (route [] m (handler_of (redir to code))) ∷ xs) (routes-sorted 2 b free from.1))
  routes-sorted r (act m (rewrite to) b) free from =
      at3 _ _ _ _ _ _ _ (gone 0 3 None b free from.1 (omega arith)) (gone 1 3 None b free from.1 (omega arith)) (gone 2 3 None b free from.1 (omega arith))
      ∙ (ap (λ x. x ∷ all_by b free) (route-grouped rw_n m (handler_of (rewrite to))) ∙ ap (λ xs. measured (route (group rw_n) m (handler_of (rewrite to))) ∷ xs) (routes-sorted 3 b free from.1))
  routes-sorted r (act m (respond body code) b) free from =
      at5 _ _ _ _ _ _ _ (gone 0 5 None b free from.1 (omega arith)) (gone 1 5 None b free from.1 (omega arith)) (gone 2 5 None b free from.1 (omega arith)) (gone 3 5 (Some rw_n) b free from.1 (omega arith)) (gone 4 5 (Some hd_n) b free from.1 (omega arith))
      ∙ (ap (λ x. x ∷ all_by b free) (route-plain m (handler_of (respond body code))) ∙ ap (λ xs. measured (route [] m (handler_of (respond body code))) ∷ xs) (routes-sorted 5 b free from.1))
  routes-sorted r (handle m i b) free from =
      let later = free + groups_of i in
      at4 _ _ _ _ _ _ _ (gone 0 4 None b later from.1 (omega arith)) (gone 1 4 None b later from.1 (omega arith)) (gone 2 4 None b later from.1 (omega arith)) (gone 3 4 (Some rw_n) b later from.1 (omega arith))
      ∙ (ap (λ x. x ∷ all_by b later) (route-grouped hd_n m (subroute (routes_of i free))) ∙ ap (λ xs. measured (route (group hd_n) m (subroute (routes_of i free))) ∷ xs) (routes-sorted 4 b later from.1))

six-same : (a b c d e f a' b' c' d' e' f' : List Measured) → a ≡ a' → b ≡ b' → c ≡ c' → d ≡ d' → e ≡ e' → f ≡ f' → six a b c d e f ≡ six a' b' c' d' e' f'
six-same a b c d e f a' b' c' d' e' f' p q r s t u = λ i. six (p i) (q i) (r i) (s i) (t i) (u i)

back : (g : Option ℕ) (ss : List Step) → routes_by g (reverse ss) ≡ by g ss
back g ss = ap (by g) (reverse-reverse ss)

-- the routes of a frame, where the first group is such that what follows the block's own is `free`
pub routes-of : (b : Block) (free first : ℕ) → From 0 b → first + own_groups (frame_of b free) ≡ free → routes_at (frame_of b free) free ≡ map measured (routes_of b first)
routes-of b free first from is =
    let begins : free - own_groups (frame_of b free) ≡ first = omega (arith, is) in
    let own = own-groups b free in
    let flag : one_if (has_some (reverse (steps 4 b free))) ≡ one_if (handles b) = ap one_if (handles-flag b free) in
    let handling : free - one_if (has_some (reverse (steps 4 b free))) ≡ first + one_if (rewrites b) = omega (arith, is, own, flag) in
    let later : first + one_if (rewrites b) + one_if (handles b) ≡ free = omega (arith, own, is) in
    ap (λ r. routes_in (frame_of b free) r (free - one_if (has_some (reverse (steps 4 b free))))) begins
    ∙ (ap (λ h. routes_in (frame_of b free) first h) handling
    ∙ (six-same _ _ _ _ _ _ _ _ _ _ _ _ (back None (steps 0 b free)) (back None (steps 1 b free)) (back None (steps 2 b free)) (back (Some first) (steps 3 b free))
    (back (Some (first + one_if (rewrites b))) (steps 4 b free)) (back None (steps 5 b free))
    ∙ (routes-sorted first (first + one_if (rewrites b)) 0 b free from ∙ ap (λ n. map measured (routes_from b first (first + one_if (rewrites b)) n)) (sym later))))
