-- The configurations, and the live drafts, that a history leaves after one entry more.
use Rattle.std.proofs.Common.{◌≡◌, ◌≢◌, ◌<◌, remove, ℕ, zero, suc, ◌+◌, ◌≤◌, ◌==◌, ◌&&◌, ◌||◌, not, cond, Bool, true, false, List, [], ◌∷◌, ◌++◌, length, refl, sym, ap, ◌∙◌, arith, subst, slice_get, Option, Some, None, length-append, eq-eqb, drop, ne_eqb, ◌⊎◌, inl, inr, ⊎_elim}
use Rattle.std.proofs.lemmas.Option.{slice_get_within}
use Rattle.std.proofs.lemmas.Bool.{eqb-true}
use Rattle.std.proofs.lemmas.Bool.Decides.{eqb_tells}
use mathlib.Core.List.{IsPrefix}
use Rattle.cd_tree.specs.declared.tree.Tree.{Tree}
use Rattle.cd_legal.specs.declared.entry.Change.{Change}
use Rattle.cd_legal.specs.declared.entry.Entry.{Entry}
use Rattle.cd_legal.specs.declared.entry.Entry.TheVariants.{Draft, Made, Started, Publish, Abandon, Stopped, Retire, Cleaned}
use Rattle.cd_legal.specs.declared.entry.Signed.{Signed}
use Rattle.cd_legal.specs.declared.state.State.{State}
use Rattle.cd_legal.specs.declared.state.Drafted.{Drafted}
use Rattle.cd_legal.specs.declared.state.Life.TheVariants.{Published}
use Rattle.cd_legal.specs.Entry.{entries}
use Rattle.cd_legal.specs.State.{opening_state, holds, has_number, is_live, change_at, Conf, conf_of, conf_at, conf_in}
use Rattle.cd_legal.specs.Legal.{allowed, after, legal, state_of, state_at, IsLegal}
use Rattle.cd_legal.proofs.Serials.{is_publish, published-count, get_last}
use Rattle.cd_legal.proofs.Confs.{conf-stays}
use Rattle.cd_legal.proofs.Leaving.{conf_in-change}
use Rattle.cd_legal.proofs.Histories.{first, legal_from-back, state_from-snoc, entries-snoc}
use Rattle.cd_life.specs.declared.board.Kept.{Kept}
use Rattle.cd_life.specs.Changes.{tree_at, tree_of}
use Rattle.cd_life.specs.Standing.{live_among, is_kept, kept_to, kept_among}

-- ---- one entry more

pub state_more : (log : List Signed) (x : Signed) → state_at (log ++ x ∷ []) ≡ after (state_at log) x.entry
state_more log x = ap state_of (entries-snoc log x) ∙ state_from-snoc opening_state (entries log) x.entry

pub allowed_more : (log : List Signed) (x : Signed) → IsLegal (log ++ x ∷ []) → allowed (state_at log) x.entry ≡ true
allowed_more log x is = first (allowed (state_at log) x.entry) true (legal_from-back opening_state (entries log) (x.entry ∷ []) (subst (λ (z : List Entry). legal z ≡ true) (entries-snoc log x) is))

-- ---- configurations

not_tree : (halt : Bool) (t : Tree) → cond halt Conf.Halted Conf.Opening ≡ Conf.Of t → false ≡ true
not_tree true t e = cc
not_tree false t e = cc

-- a serial with a tree was published
pub of_below : (s : State) (n : ℕ) (t : Tree) → conf_of s n ≡ Conf.Of t → n ≤ length s.published
of_below s zero t e = omega arith
of_below s (suc n) t e = at (slice_get s.published n) refl
  where
    at : (o : Option ℕ) → slice_get s.published n ≡ o → suc n ≤ length s.published
    at None is = absurd (let f : false ≡ true = not_tree (s.halted && (suc n == s.serial)) t (sym (ap (conf_at (s.halted && (suc n == s.serial)) s.drafts) is) ∙ e) in cc)
    at (Some d) is = let within = slice_get_within s.published n d is in omega arith

same_published : (s : State) (e : Entry) → is_publish e ≡ false → (after s e).published ≡ s.published
same_published s (Publish d n from c) is = cc
same_published s e is = refl

prefix : (log : List Signed) (x : Signed) → IsPrefix log (log ++ x ∷ [])
prefix log x = (x ∷ [], refl)

-- a tree that is there after an entry that publishes none was there before
pub conf_before : (log : List Signed) (x : Signed) (n : ℕ) (t : Tree) → IsLegal log → IsLegal (log ++ x ∷ []) → is_publish x.entry ≡ false → conf_of (after (state_at log) x.entry) n ≡ Conf.Of t → conf_of (state_at log) n ≡ Conf.Of t
conf_before log x n t before legal plain is =
    let s : State = state_at log in
    let within : n ≤ length (after s x.entry).published = of_below (after s x.entry) n t is in
    let same : length (after s x.entry).published ≡ length s.published = ap length (same_published s x.entry plain) in
    let count = published-count (entries log) before in
    let some = bit s.halted in
    let low : n ≤ s.serial = omega (arith, within, same, count, some) in
    sym (conf-stays log (log ++ x ∷ []) n (prefix log x) legal low) ∙ (ap (λ z. conf_of z n) (state_more log x) ∙ is)
  where
    bit : (b : Bool) → cond {A = ℕ} b 1 0 ≤ 1
    bit true = omega arith
    bit false = omega arith

-- one that was there stays
pub conf_after : (log : List Signed) (x : Signed) (n : ℕ) → IsLegal (log ++ x ∷ []) → n ≤ (state_at log).serial → conf_of (after (state_at log) x.entry) n ≡ conf_of (state_at log) n
conf_after log x n legal low = sym (ap (λ z. conf_of z n) (state_more log x)) ∙ conf-stays log (log ++ x ∷ []) n (prefix log x) legal low

-- what is kept after an entry that publishes none was to be kept before
or_false : (a b c : Bool) → (a ≡ false → b ≡ false) → (not a || c) ≡ true → (not b || c) ≡ true
or_false true b true imp e = orr b
  where
    orr : (b : Bool) → (not b || true) ≡ true
    orr true = refl
    orr false = refl
or_false true b false imp e = cc
or_false false b c imp e = let f : b ≡ false = imp refl in rw f refl

still_unretired : (n m : ℕ) (ms : List ℕ) → has_number n (ms ++ m ∷ []) ≡ false → has_number n ms ≡ false
still_unretired n m [] e = refl
still_unretired n m (k ∷ ms) e = pick (n == k) (has_number n (ms ++ m ∷ [])) (has_number n ms) (still_unretired n m ms) e
  where
    pick : (a b c : Bool) → (b ≡ false → c ≡ false) → (a || b) ≡ false → (a || c) ≡ false
    pick true b c imp e = cc
    pick false b c imp e = imp e

pub kept_before : (s : State) (e : Entry) (n : ℕ) → is_publish e ≡ false → is_kept (after s e) n ≡ true → is_kept s n ≡ true
kept_before s (Publish d m from c) n is k = cc
kept_before s (Retire m) n is k = or_false (has_number n (s.retired ++ m ∷ [])) (has_number n s.retired) (n == length s.published) (still_unretired n m s.retired) k
kept_before s e n is k = k

-- ---- live drafts

live_same : (f : Drafted → Drafted) → ((x : Drafted) → (f x).life ≡ x.life) → (xs : List Drafted) (d : ℕ) → live_among (change_at f d xs) ≡ live_among xs
live_same f same [] d = refl
live_same f same (x ∷ xs) zero = ap (λ z. cond {A = ℕ} (is_live z) 1 0 + live_among xs) (same x)
live_same f same (x ∷ xs) (suc d) = ap (λ (z : ℕ). cond {A = ℕ} (is_live x.life) 1 0 + z) (live_same f same xs d)

pub live_gone : (f : Drafted → Drafted) → ((x : Drafted) → is_live (f x).life ≡ false) → (may : Drafted → Bool) → ((x : Drafted) → may x ≡ true → is_live x.life ≡ true) → (xs : List Drafted) (d : ℕ) → holds may (slice_get xs d) ≡ true → live_among (change_at f d xs) + 1 ≡ live_among xs
live_gone f gone may live [] d m = cc
live_gone f gone may live (x ∷ xs) zero m = rw (gone x, live x m) (let e : 0 + live_among xs + 1 ≡ 1 + live_among xs = omega arith in e)
live_gone f gone may live (x ∷ xs) (suc d) m = let rest = live_gone f gone may live xs d m in omega arith

pub live_push : (xs : List Drafted) (x : Drafted) → is_live x.life ≡ true → live_among (xs ++ x ∷ []) ≡ live_among xs + 1
live_push [] x live = rw live refl
live_push (y ∷ xs) x live = let rest = live_push xs x live in omega arith

-- entries that make no draft and end none's making
abbrev pub is_plain : Entry → Bool
is_plain (Draft d tree plan) = false
is_plain (Publish d n from c) = false
is_plain (Abandon d) = false
is_plain (Retire n) = false
is_plain e = true

pub live_plain : (s : State) (e : Entry) → is_plain e ≡ true → live_among (after s e).drafts ≡ live_among s.drafts
live_plain s (Draft d tree plan) is = cc
live_plain s (Made d i taken failed) is = live_same _ (λ x. refl) s.drafts d
live_plain s (Started d i taken failed) is = live_same _ (λ x. refl) s.drafts d
live_plain s (Publish d n from c) is = cc
live_plain s (Abandon d) is = cc
live_plain s (Retire n) is = cc
live_plain s (Stopped d i) is = live_same _ (λ x. refl) s.drafts d
live_plain s (Cleaned d i) is = live_same _ (λ x. refl) s.drafts d
live_plain s e is = refl

-- ---- a publishing

left_one : (a b c : Bool) → b ≡ false → (a || b) ≡ true → (a || c) ≡ true
left_one true b c is e = refl
left_one false true c is e = cc
left_one false false c is e = cc

-- a configuration before it that is kept afterwards was to be kept before
pub older : (s : State) (d m : ℕ) → m ≤ length s.published → (not (has_number m s.retired) || (m == length (s.published ++ d ∷ []))) ≡ true → is_kept s m ≡ true
older s d m low is =
    let more = length-append s.published (d ∷ []) in
    left_one (not (has_number m s.retired)) (m == length (s.published ++ d ∷ [])) (m == length s.published) (ne_eqb m (length (s.published ++ d ∷ [])) (λ (same : m ≡ length (s.published ++ d ∷ [])). omega (arith, low, more, same))) is

its_tree : (o : Option Drafted) (loaded t : Tree) → ((x : Drafted) → o ≡ Some x → x.tree ≡ loaded) → conf_in o ≡ Conf.Of t → loaded ≡ t
its_tree None loaded t tree is = cc
its_tree (Some x) loaded t tree is = sym (tree x refl) ∙ (let e : x.tree ≡ t = cc in e)

up_to : (m l : ℕ) → m ≤ l + 1 → (m ≤ l) ⊎ (m ≡ suc l)
up_to zero l le = inl (omega arith)
up_to (suc m) zero le = inr (omega arith)
up_to (suc m) (suc l) le = ⊎_elim (λ q. inl (omega (arith, q))) (λ q. inr (ap suc q)) (up_to m l (omega arith))

-- what is kept under each serial after it
pub published_kept : (s : State) (d n : ℕ) (way : Change) (loaded : Tree) → length s.published ≡ s.serial → n ≡ s.serial → ((x : Drafted) → slice_get s.drafts d ≡ Some x → x.tree ≡ loaded) → (at : ℕ → Option Tree) → at (n + 1) ≡ Some loaded
    → (m : ℕ) (t : Tree) → conf_of (after s (Publish d (n + 1) n way)) m ≡ Conf.Of t → (m ≤ length s.published → at m ≡ Some t) → at m ≡ Some t
published_kept s d n way loaded count current tree at last m t conf low =
    let more = length-append s.published (d ∷ []) in
    let within : m ≤ length (s.published ++ d ∷ []) = of_below (after s (Publish d (n + 1) n way)) m t conf in
    ⊎_elim low (λ q. ap at (let e : m ≡ n + 1 = omega (arith, q, count, current) in e) ∙ (last ∙ ap (λ (z : Tree). Some z) (its_tree (slice_get s.drafts d) loaded t tree (there q)))) (up_to m (length s.published) (omega (arith, within, more)))
  where
    there : m ≡ suc (length s.published) → conf_in (slice_get s.drafts d) ≡ Conf.Of t
    there q =
        sym (conf_in-change (λ x. record x { life = Published (n + 1) }) (λ x. refl) s.drafts d d)
        ∙ (sym (ap (conf_at (s.halted && (suc (length s.published) == n + 1)) (change_at (λ x. record x { life = Published (n + 1) }) d s.drafts)) (get_last s.published d)) ∙ (ap (conf_of (after s (Publish d (n + 1) n way))) (sym q) ∙ conf))

-- ---- what is kept

some_is : {A : Type 0} (x y : A) → Some x ≡ Some y → x ≡ y
some_is x y e = cc

pub some_none : {A : Type 0} (x : A) → Some x ≡ None → false ≡ true
some_none x e = cc

-- one that is met first is found
pub tree_at_here : {A B : Type 0} {g : _} (ks : List (Kept A B g)) (place n : ℕ) (k : Kept A B g) → slice_get ks place ≡ Some k → k.serial ≡ n → tree_at (drop place ks) n ≡ Some (tree_of k)
tree_at_here [] place n k e is = absurd (let f : false ≡ true = some_none k (sym e) in cc)
tree_at_here (x ∷ ks) zero n k e is = ap (λ z. tree_at (z ∷ ks) n) (some_is x k e) ∙ ap (λ (b : Bool). cond b (Some (tree_of k)) (tree_at ks n)) (eq-eqb k.serial n is)
tree_at_here (x ∷ ks) (suc place) n k e is = tree_at_here ks place n k e is

-- ---- how many are kept

bit_more : (a b : Bool) → (a ≡ true → b ≡ true) → cond {A = ℕ} a 1 0 ≤ cond {A = ℕ} b 1 0
bit_more false b imp = omega arith
bit_more true b imp = rw (imp refl) (let e : 1 ≤ 1 = omega arith in e)

bit_one : (a b : Bool) → cond {A = ℕ} a 1 0 ≤ cond {A = ℕ} b 1 0 + 1
bit_one true b = omega arith
bit_one false b = omega arith

-- those that are kept before are kept afterwards
pub kept_more : (s t : State) (n : ℕ) → ((m : ℕ) → m < n → is_kept s (suc m) ≡ true → is_kept t (suc m) ≡ true) → kept_to s n ≤ kept_to t n
kept_more s t zero imp = omega arith
kept_more s t (suc n) imp =
    let rest = kept_more s t n (λ m lt. imp m (omega (arith, lt))) in
    let one = bit_more (is_kept s (suc n)) (is_kept t (suc n)) (imp n (omega arith)) in
    omega (arith, rest, one)

-- all but one of them
pub kept_less : (s t : State) (gone n : ℕ) → ((m : ℕ) → suc m ≢ gone → is_kept s (suc m) ≡ true → is_kept t (suc m) ≡ true) → kept_to s n ≤ kept_to t n + 1
kept_less s t gone zero imp = omega arith
kept_less s t gone (suc n) imp = ⊎_elim
    (λ q. (let rest = kept_more s t n (λ m lt. imp m (λ (e : suc m ≡ gone). (let here = q.1 in omega (arith, lt, e, here)))) in let one = bit_one (is_kept s (suc n)) (is_kept t (suc n)) in omega (arith, rest, one)))
    (λ q. (let rest = kept_less s t gone n imp in let one = bit_more (is_kept s (suc n)) (is_kept t (suc n)) (imp n q.1) in omega (arith, rest, one)))
    (eqb_tells (suc n) gone)

-- entries that publish none and retire none leave as many
pub kept_plain : (s : State) (e : Entry) → is_plain e ≡ true → kept_among s ≤ kept_among (after s e)
kept_plain s (Draft d tree plan) is = cc
kept_plain s (Publish d n from c) is = cc
kept_plain s (Abandon d) is = cc
kept_plain s (Retire n) is = cc
kept_plain s (Made d i taken failed) is = kept_more s (after s (Made d i taken failed)) (length s.published) (λ m lt k. k)
kept_plain s (Started d i taken failed) is = kept_more s (after s (Started d i taken failed)) (length s.published) (λ m lt k. k)
kept_plain s (Stopped d i) is = kept_more s (after s (Stopped d i)) (length s.published) (λ m lt k. k)
kept_plain s (Cleaned d i) is = kept_more s (after s (Cleaned d i)) (length s.published) (λ m lt k. k)
kept_plain s e is = kept_more s (after s e) (length s.published) (λ m lt k. k)

either : (a b c : Bool) → (a ≡ true → b ≡ true) → (a || c) ≡ true → (b || c) ≡ true
either true b c imp e = rw (imp refl) refl
either false true c imp e = refl
either false false c imp e = e

-- another serial that is not retired stays so
other_unretired : (m n : ℕ) (ms : List ℕ) → m ≢ n → has_number m (ms ++ n ∷ []) ≡ has_number m ms
other_unretired m n [] other = ap (λ (b : Bool). b || false) (ne_eqb m n other)
other_unretired m n (k ∷ ms) other = ap (λ (b : Bool). (m == k) || b) (other_unretired m n ms other)

pub others_kept : (s : State) (n m : ℕ) → m ≢ n → is_kept s m ≡ true → is_kept (after s (Retire n)) m ≡ true
others_kept s n m other k = ap (λ (b : Bool). not b || (m == length s.published)) (other_unretired m n s.retired other) ∙ k

-- the one that was published last stays kept when it is retired
pub last_stays : (s : State) (n : ℕ) → n ≡ length s.published → is_kept (after s (Retire n)) n ≡ true
last_stays s n last = either_right (not (has_number n (s.retired ++ n ∷ []))) (eq-eqb n (length s.published) last)
  where
    either_right : (a : Bool) {b : Bool} → b ≡ true → (a || b) ≡ true
    either_right true e = refl
    either_right false e = e

-- after a publishing the new one is kept, and those before it that were
pub published_more : (s : State) (d n : ℕ) (way : Change) → ((m : ℕ) → m ≡ length s.published → has_number m s.retired ≡ false) → kept_among s + 1 ≤ kept_among (after s (Publish d (n + 1) n way))
published_more s d n way current =
    let t : State = after s (Publish d (n + 1) n way) in
    let l : ℕ = length s.published in
    let more : length (s.published ++ d ∷ []) ≡ suc l = length-append s.published (d ∷ []) ∙ omega arith in
    let rest : kept_to s l ≤ kept_to t l = kept_more s t l (λ m lt k. unretired_stays (has_number (suc m) s.retired) (suc m == l) (suc m == length (s.published ++ d ∷ [])) (λ e. current (suc m) (eqb-true (suc m) l e)) k) in
    let new : is_kept t (suc l) ≡ true = last_one (not (has_number (suc l) s.retired)) (eq-eqb (suc l) (length (s.published ++ d ∷ [])) (sym more)) in
    subst (λ (z : ℕ). kept_to s l + 1 ≤ kept_to t z) (sym more) (subst (λ (b : Bool). kept_to s l + 1 ≤ cond {A = ℕ} b 1 0 + kept_to t l) (sym new) (omega (arith, rest)))
  where
    unretired_stays : (r b c : Bool) → (b ≡ true → r ≡ false) → (not r || b) ≡ true → (not r || c) ≡ true
    unretired_stays false b c current k = refl
    unretired_stays true true c current k = (let f : true ≡ false = current refl in cc)
    unretired_stays true false c current k = cc

    last_one : (a : Bool) {b : Bool} → b ≡ true → (a || b) ≡ true
    last_one true e = refl
    last_one false e = e

-- ---- what is let go

same_one : {A : Type 0} (x y : A) → Some x ≡ Some y → x ≡ y
same_one x y e = cc

-- without one of them, each other serial has what it had
pub tree_at_removed : {A B : Type 0} {g : _} (ks : List (Kept A B g)) (place n m : ℕ) (k : Kept A B g) → slice_get ks place ≡ Some k → k.serial ≡ n → m ≢ n → tree_at (remove ks place) m ≡ tree_at ks m
tree_at_removed [] place n m k there serial other = cc
tree_at_removed (x ∷ xs) zero n m k there serial other =
    sym (ap (λ (b : Bool). cond b (Some (tree_of x)) (tree_at xs m)) (ne_eqb x.serial m (λ (q : x.serial ≡ m). other (sym q ∙ (ap (λ z. z.serial) (same_one x k there) ∙ serial)))))
tree_at_removed (x ∷ xs) (suc place) n m k there serial other = ap (λ z. cond (x.serial == m) (Some (tree_of x)) z) (tree_at_removed xs place n m k there serial other)

has_last : (n : ℕ) (ms : List ℕ) → has_number n (ms ++ n ∷ []) ≡ true
has_last n [] = ap (λ (b : Bool). b || false) (eq-eqb n n refl)
has_last n (m ∷ ms) = ap (λ (b : Bool). (n == m) || b) (has_last n ms) ∙ any_true (n == m)
  where
    any_true : (b : Bool) → (b || true) ≡ true
    any_true true = refl
    any_true false = refl

-- a superseded serial that is retired, and to be kept still, is the last one that was published, and a halt has superseded it
pub last_kept : (halted : Bool) (n l serial : ℕ) (r : List ℕ) → (halted && (n + 1 == serial)) ≡ false → l + cond {A = ℕ} halted 1 0 ≡ serial → n < serial → (not (has_number n (r ++ n ∷ [])) || (n == l)) ≡ true → ⊥
last_kept halted n l serial r flag count low is =
    let same : n ≡ l = eqb-true n l (ap (λ (b : Bool). not b || (n == l)) (sym (has_last n r)) ∙ is) in
    at halted flag count same
  where
    at : (b : Bool) → (b && (n + 1 == serial)) ≡ false → l + cond {A = ℕ} b 1 0 ≡ serial → n ≡ l → ⊥
    at true flag count same = let f : true ≡ false = sym (eq-eqb (n + 1) serial (omega (arith, same, count))) ∙ flag in cc
    at false flag count same = omega (arith, same, count, low)
