-- The counts of a balancer are those of the live exchanges.
use Rattle.std.proofs.Common.{◌≡◌, ℕ, ◌+◌, ◌*◌, ◌<◌, ◌≤◌, ◌==◌, Bool, true, false, ◌&&◌, ◌||◌, not, cond, if◌then◌else◌, List, [], ◌∷◌, ◌++◌, length, get_or, set, replicate, refl, sym, ap, ◌∙◌, subst, append_assoc, arith, Option, Some, None}
use Rattle.std.proofs.lemmas.Bool.{eqb-true, eq-eqb}
use Rattle.std.proofs.lemmas.Bool.Decides.{nat_tests}
use Rattle.std.proofs.lemmas.List.{append-nil, length-replicate, length-set, set-get_or, get_or-set_same, get_or-set_other, get_or-replicate}
use Rattle.std.proofs.lemmas.List.Sums.{sum_by-set}
use Rattle.std.proofs.lemmas.List.Folds.{sum_by-replicate}
use Rattle.cd_outside.specs.declared.address.Address.{Address}
use Rattle.cd_peers.specs.declared.limits.TheConstants.{MAX_PLACES}
use Rattle.cd_peers.specs.declared.policy.Policy.{Policy}
use Rattle.cd_peers.specs.declared.state.BalancerState.{BalancerState}
use Rattle.cd_peers.specs.Balance.{is_at, count_at, at_place, fresh, begun, ended, ended_at, NoneBeyond}
use Rattle.cd_peers.specs.Calls.{Call, began, finished, is_call_at, is_over, live, Leads}

-- 1 where a test holds
abbrev pub one_if : Bool → ℕ
one_if b = cond b 1 0

-- the place of a call
abbrev pub place_of : Call → ℕ
place_of (began place upstream) = place
place_of (finished place good) = place

-- what a call leaves at its place
abbrev pub left_by : Call → Option ℕ
left_by (began place upstream) = Some upstream
left_by (finished place good) = None

-- what is at a place after these calls, where this was there before
abbrev pub held : ℕ → List Call → Option ℕ → Option ℕ
held place [] before = before
held place (c ∷ cs) before = held place cs (cond (place_of c == place) (left_by c) before)

is_call_at-is : (place : ℕ) (c : Call) → is_call_at place c ≡ (place_of c == place)
is_call_at-is place (began other upstream) = refl
is_call_at-is place (finished other good) = refl

live-is : (i : ℕ) (c : Call) (cs : List Call)
    → live i (c ∷ cs) ≡ one_if (is_at i (left_by c) && not (is_over (place_of c) cs)) + live i cs
live-is i (began place upstream) cs = refl
live-is i (finished place good) cs = omega arith

or_group : (a b c : Bool) → (a || (b || c)) ≡ ((a || b) || c)
or_group true b c = refl
or_group false b c = refl

or_false : (b : Bool) → (b || false) ≡ b
or_false true = refl
or_false false = refl

over_snoc : (q : ℕ) (es : List Call) (c : Call) → is_over q (es ++ c ∷ []) ≡ (is_over q es || (place_of c == q))
over_snoc q [] c = or_false (is_call_at q c) ∙ is_call_at-is q c
over_snoc q (e ∷ es) c =
    ap (λ b. is_call_at q e || b) (over_snoc q es c) ∙ or_group (is_call_at q e) (is_over q es) (place_of c == q)

-- ---- what is held

not_both : (b : Bool) → b ≡ true → b ≡ false → ⊥
not_both b x y = cc

either_over : (p : ℕ) (es : List Call) (l x y : Option ℕ) (b : Bool) → (is_over p es ≡ true → held p es x ≡ held p es y)
    → (b || is_over p es) ≡ true → held p es (cond b l x) ≡ held p es (cond b l y)
either_over p es l x y true rec k = refl
either_over p es l x y false rec k = rec k

held_over : (p : ℕ) (es : List Call) (x y : Option ℕ) → is_over p es ≡ true → held p es x ≡ held p es y
held_over p [] x y h = absurd (not_both false h refl)
held_over p (e ∷ es) x y h =
    either_over p es (left_by e) x y (place_of e == p) (held_over p es x y)
    (subst (λ b. (b || is_over p es) ≡ true) (is_call_at-is p e) h)

either_not : (p : ℕ) (es : List Call) (l x : Option ℕ) (b : Bool) → (is_over p es ≡ false → held p es x ≡ x)
    → (b || is_over p es) ≡ false → held p es (cond b l x) ≡ x
either_not p es l x true rec k = absurd (not_both true refl k)
either_not p es l x false rec k = rec k

held_not : (p : ℕ) (es : List Call) (x : Option ℕ) → is_over p es ≡ false → held p es x ≡ x
held_not p [] x h = refl
held_not p (e ∷ es) x h =
    either_not p es (left_by e) x (place_of e == p) (held_not p es x)
    (subst (λ b. (b || is_over p es) ≡ false) (is_call_at-is p e) h)

held_snoc : (p : ℕ) (es : List Call) (c : Call) (x : Option ℕ)
    → held p (es ++ c ∷ []) x ≡ cond (place_of c == p) (left_by c) (held p es x)
held_snoc p [] c x = refl
held_snoc p (e ∷ es) c x = held_snoc p es c (cond (place_of e == p) (left_by e) x)

-- ---- one more call

clear : (a : Bool) (A B h k : ℕ) → A + h ≡ B + k → (one_if (a && false) + A) + h ≡ (one_if (a && false) + B) + k
clear true A B h k e = omega arith
clear false A B h k e = omega arith

gone : (a : Bool) (A B k h : ℕ) → A ≡ B + k → h ≡ one_if a → (one_if (a && false) + A) + h ≡ (one_if (a && true) + B) + k
gone true A B k h e f = omega arith
gone false A B k h e f = omega arith

-- at the place of the call that is looked at, where it is over already or not
same_place : (a o : Bool) (A B k x0 x1 : ℕ) → (o ≡ true → x1 ≡ x0) → (o ≡ false → (x1 ≡ one_if a) × (x0 ≡ 0))
    → A + x0 ≡ B + k → (one_if (a && not (o || true)) + A) + x1 ≡ (one_if (a && not o) + B) + k
same_place a true A B k x0 x1 over none ih = clear a A B x1 k (ap (λ n. A + n) (over refl) ∙ ih)
same_place a false A B k x0 x1 over none ih =
    let f = none refl in gone a A B k x1 (omega (arith, ih, f.1)) f.0

-- at another place
other_place : (a o : Bool) (A B x k : ℕ) → A + x ≡ B + k → (one_if (a && not (o || false)) + A) + x ≡ (one_if (a && not o) + B) + k
other_place a true A B x k e = clear a A B x k e
other_place true false A B x k e = omega arith
other_place false false A B x k e = omega arith

turned_by : (s t : Bool) → (s ≡ true → t ≡ true) → (t ≡ true → s ≡ true) → s ≡ t
turned_by true true f g = refl
turned_by true false f g = sym (f refl)
turned_by false true f g = g refl
turned_by false false f g = refl

-- a test of two numbers, the other way round
turned : (a b : ℕ) → (a == b) ≡ (b == a)
turned a b = turned_by (a == b) (b == a) (λ e. eq-eqb b a (sym (eqb-true a b e))) (λ e. eq-eqb a b (sym (eqb-true b a e)))

first_call : (a : Bool) → ◌≡◌ {A = ℕ} ((one_if (a && true) + 0) + 0) (0 + one_if a)
first_call true = refl
first_call false = refl

-- what a call at the front of others adds, where one more comes after them
front_adds : (i : ℕ) (e c : Call) (es : List Call) (b : Bool) → (place_of c == place_of e) ≡ b
    → live i (es ++ c ∷ []) + one_if (is_at i (held (place_of c) es None)) ≡ live i es + one_if (is_at i (left_by c))
    → (one_if (is_at i (left_by e) && not (is_over (place_of e) es || b)) + live i (es ++ c ∷ [])) + one_if (is_at i (held (place_of c) (e ∷ es) None)) ≡ (one_if (is_at i (left_by e) && not (is_over (place_of e) es)) + live i es) + one_if (is_at i (left_by c))
front_adds i e c es true is ih =
    let same : place_of c ≡ place_of e = eqb-true (place_of c) (place_of e) is in
    let back : (place_of e == place_of c) ≡ true = turned (place_of e) (place_of c) ∙ is in
    let now : held (place_of c) (e ∷ es) None ≡ held (place_of c) es (left_by e) =
    ap (λ b. held (place_of c) es (cond b (left_by e) None)) back in
    same_place (is_at i (left_by e)) (is_over (place_of e) es) (live i (es ++ c ∷ [])) (live i es) (one_if (is_at i (left_by c)))
    (one_if (is_at i (held (place_of c) es None))) (one_if (is_at i (held (place_of c) (e ∷ es) None)))
    (λ over. ap (λ (x : Option ℕ). one_if (is_at i x)) (now ∙ held_over (place_of c) es (left_by e) None (ap (λ n. is_over n es) same ∙ over)))
    (λ none. (
      ap (λ (x : Option ℕ). one_if (is_at i x)) (now ∙ held_not (place_of c) es (left_by e) (ap (λ n. is_over n es) same ∙ none)),
      ap (λ (x : Option ℕ). one_if (is_at i x)) (held_not (place_of c) es None (ap (λ n. is_over n es) same ∙ none)),
    ))
    ih
front_adds i e c es false is ih =
    let back : (place_of e == place_of c) ≡ false = turned (place_of e) (place_of c) ∙ is in
    let now : held (place_of c) (e ∷ es) None ≡ held (place_of c) es None =
    ap (λ b. held (place_of c) es (cond b (left_by e) None)) back in
    other_place (is_at i (left_by e)) (is_over (place_of e) es) (live i (es ++ c ∷ [])) (live i es)
    (one_if (is_at i (held (place_of c) (e ∷ es) None))) (one_if (is_at i (left_by c)))
    (ap (λ (x : Option ℕ). live i (es ++ c ∷ []) + one_if (is_at i x)) now ∙ ih)

-- one more call ends the exchange at its place, and begins its own
pub live_snoc : (i : ℕ) (es : List Call) (c : Call)
    → live i (es ++ c ∷ []) + one_if (is_at i (held (place_of c) es None)) ≡ live i es + one_if (is_at i (left_by c))
live_snoc i [] c = ap (λ n. n + 0) (live-is i c []) ∙ first_call (is_at i (left_by c))
live_snoc i (e ∷ es) c =
    let left : live i (e ∷ (es ++ c ∷ [])) ≡ one_if (is_at i (left_by e) && not (is_over (place_of e) es || (place_of c == place_of e))) + live i (es ++ c ∷ []) =
    live-is i e (es ++ c ∷ [])
    ∙ ap (λ b. one_if (is_at i (left_by e) && not b) + live i (es ++ c ∷ [])) (over_snoc (place_of e) es c) in
    ap (λ n. n + one_if (is_at i (held (place_of c) (e ∷ es) None))) left
    ∙ front_adds i e c es (place_of c == place_of e) refl (live_snoc i es c)
    ∙ ap (λ n. n + one_if (is_at i (left_by c))) (sym (live-is i e es))

-- ---- a balancer after calls

pub record IsAfter (calls : List Call) (b : BalancerState) : Type 0 where
  pub room : length b.places ≡ MAX_PLACES
  pub holds : (p : ℕ) → p < MAX_PLACES → at_place p b ≡ held p calls None
  pub counts : (i : ℕ) → count_at i b.places ≡ live i calls

none_counted : (i n : ℕ) → count_at i (replicate n None) ≡ 0
none_counted i n = sum_by-replicate (λ (x : Option ℕ). one_if (is_at i x)) n None ∙ mul_zero n
  where
    mul_zero : (n : ℕ) → n * 0 ≡ 0
    mul_zero n = omega arith

after_none : (policy : Policy) (upstreams : List Address) → IsAfter [] (fresh policy upstreams)
after_none policy upstreams = record {
  room = length-replicate {A = Option ℕ} MAX_PLACES None;
  holds = λ p within. get_or-replicate MAX_PLACES p None None within;
  counts = λ i. none_counted i MAX_PLACES;
}

unequal : (m n : ℕ) → (m == n) ≡ false → m ≡ n → ⊥
unequal m n is e = not_both (m == n) (eq-eqb m n e) is

-- of sums
sums : (x y u v w z k : ℕ) → x + u ≡ y + k → u ≡ v → y ≡ z → w + v ≡ z + k → x ≡ w
sums x y u v w z k a b c d = omega arith

-- one more call, which writes at its place what it leaves
after_one : (calls : List Call) (c : Call) (b d : BalancerState) → IsAfter calls b → place_of c < MAX_PLACES
    → d.places ≡ set b.places (place_of c) (left_by c) → IsAfter (calls ++ c ∷ []) d
after_one calls c b d after within written = record {
  room = ap length written ∙ length-set b.places (place_of c) (left_by c) ∙ after.room;
  holds = λ p inside. ap (λ (ps : List (Option ℕ)). get_or ps p None) written ∙ there p inside (place_of c == p) refl ∙ sym (held_snoc p calls c None);
  counts = λ i.
      let l = left_by c in
      let held_before : one_if (is_at i (at_place (place_of c) b)) ≡ one_if (is_at i (held (place_of c) calls None)) =
      ap (λ (x : Option ℕ). one_if (is_at i x)) (after.holds (place_of c) within) in
      let changed : count_at i (set b.places (place_of c) l) + one_if (is_at i (at_place (place_of c) b)) ≡ count_at i b.places + one_if (is_at i l) =
      sum_by-set (λ (x : Option ℕ). one_if (is_at i x)) b.places (place_of c) l None (subst (λ n. place_of c < n) (sym after.room) within) in
      let grown = live_snoc i calls c in
      let same = after.counts i in
      ap (count_at i) written ∙ sums _ _ _ _ _ _ _ changed held_before same grown;
}
  where
    there : (p : ℕ) → p < MAX_PLACES → (t : Bool) → (place_of c == p) ≡ t
        → get_or (set b.places (place_of c) (left_by c)) p None ≡ cond (place_of c == p) (left_by c) (held p calls None)
    there p inside true is =
        let same : place_of c ≡ p = eqb-true (place_of c) p is in
        subst (λ n. get_or (set b.places (place_of c) (left_by c)) n None ≡ left_by c) same
        (get_or-set_same b.places (place_of c) (left_by c) None (subst (λ n. place_of c < n) (sym after.room) within))
        ∙ ap (λ t. cond t (left_by c) (held p calls None)) (sym is)
    there p inside false is =
        get_or-set_other b.places (place_of c) p (left_by c) None (λ same. unequal (place_of c) p is (sym same))
        ∙ after.holds p inside
        ∙ ap (λ t. cond t (left_by c) (held p calls None)) (sym is)

-- what an end writes
end_writes : (place : ℕ) (good : Bool) (b : BalancerState) (at : Option ℕ) → at_place place b ≡ at
    → (ended_at place good at b).places ≡ set b.places place None
end_writes place good b None is = sym (ap (set b.places place) (sym is) ∙ set-get_or b.places place None)
end_writes place good b (Some upstream) is = refl

-- what a begin writes, after it freed the place
pub after_calls : (before calls : List Call) (b c : BalancerState) → IsAfter before b → Leads b calls c → IsAfter (before ++ calls) c
after_calls before [] b c after leads =
    subst (λ (cs : List Call). IsAfter cs c) (sym (append-nil before)) (subst (λ (d : BalancerState). IsAfter before d) (sym leads) after)
after_calls before (began place upstream ∷ calls) b c after leads =
    subst (λ (cs : List Call). IsAfter cs c) (append_assoc before (began place upstream ∷ []) calls)
    (after_calls (before ++ began place upstream ∷ []) calls (begun place upstream b) c
    (after_one before (began place upstream) b (begun place upstream b) after leads.0 refl) leads.2)
after_calls before (finished place good ∷ calls) b c after leads =
    subst (λ (cs : List Call). IsAfter cs c) (append_assoc before (finished place good ∷ []) calls)
    (after_calls (before ++ finished place good ∷ []) calls (ended place good b) c
    (after_one before (finished place good) b (ended place good b) after leads.0 (end_writes place good b (at_place place b) refl)) leads.1)

pub counts_are_live : (policy : Policy) (upstreams : List Address) (calls : List Call) (b : BalancerState)
    → Leads (fresh policy upstreams) calls b → (i : ℕ) → count_at i b.places ≡ live i calls
counts_are_live policy upstreams calls b leads = (after_calls [] calls (fresh policy upstreams) b (after_none policy upstreams) leads).counts

-- one more call
pub Leads-snoc : (b : BalancerState) (calls more : List Call) (c d : BalancerState) → Leads b calls c → Leads c more d → Leads b (calls ++ more) d
Leads-snoc b [] more c d first then_ = subst (λ (x : BalancerState). Leads x more d) first then_
Leads-snoc b (began place upstream ∷ calls) more c d first then_ =
    (first.0, first.1, Leads-snoc (begun place upstream b) calls more c d first.2 then_)
Leads-snoc b (finished place good ∷ calls) more c d first then_ =
    (first.0, Leads-snoc (ended place good b) calls more c d first.1 then_)

-- ---- a number that no upstream has

-- an end changes no upstreams
end_keeps : (place : ℕ) (good : Bool) (b : BalancerState) (at : Option ℕ) → (ended_at place good at b).upstreams ≡ b.upstreams
end_keeps place good b None = refl
end_keeps place good b (Some upstream) = refl

pub other_number : (other number size : ℕ) → other < size → size ≤ number → (other == number) ≡ false
other_number other number size less most = grind (arith, nat_tests)

no_count : (b over : Bool) (rest : ℕ) → b ≡ false → rest ≡ 0 → (if b && over then 1 else 0) + rest ≡ 0
no_count true over rest is none = cc
no_count false over rest is none = omega (arith, none)

-- no exchange is begun there
pub none_live : (number : ℕ) (calls : List Call) (b c : BalancerState) → length b.upstreams ≤ number → Leads b calls c
    → live number calls ≡ 0
none_live number [] b c most leads = refl
none_live number (began place other ∷ later) b c most leads =
    no_count (other == number) (not (is_over place later)) (live number later)
    (other_number other number (length b.upstreams) leads.1.candidate.0 most)
    (none_live number later (begun place other b) c most leads.2)
none_live number (finished place good ∷ later) b c most leads =
    none_live number later (ended place good b) c
    (subst (λ (us : List Address). length us ≤ number) (sym (end_keeps place good b (at_place place b))) most) leads.1

pub others_have_none : (policy : Policy) (upstreams : List Address) (calls : List Call) (b : BalancerState)
    → Leads (fresh policy upstreams) calls b → (number : ℕ) → length upstreams ≤ number → count_at number b.places ≡ 0
others_have_none policy upstreams calls b leads number most =
    counts_are_live policy upstreams calls b leads number ∙ none_live number calls (fresh policy upstreams) b most leads

-- ---- what is written at a place

pub written_none : (i p : ℕ) (l : Option ℕ) (ps : List (Option ℕ)) → p < length ps → is_at i l ≡ false → count_at i ps ≡ 0 → count_at i (set ps p l) ≡ 0
written_none i p l ps within not_at none =
    let changed : count_at i (set ps p l) + one_if (is_at i (get_or ps p None)) ≡ count_at i ps + one_if (is_at i l) =
    sum_by-set (λ (x : Option ℕ). one_if (is_at i x)) ps p l None within in
    let nothing : one_if (is_at i l) ≡ 0 = ap one_if not_at in
    omega (arith, changed, none, nothing)

pub beyond_fresh : (policy : Policy) (upstreams : List Address) → NoneBeyond (fresh policy upstreams)
beyond_fresh policy upstreams number most = none_counted number MAX_PLACES

pub beyond_begun : (place upstream : ℕ) (b : BalancerState) → place < length b.places → upstream < length b.upstreams → NoneBeyond b → NoneBeyond (begun place upstream b)
beyond_begun place upstream b room within none number most =
    written_none number place (Some upstream) b.places room (other_number upstream number (length b.upstreams) within most) (none number most)

beyond_ended_at : (place : ℕ) (good : Bool) (b : BalancerState) (at : Option ℕ) → place < length b.places → NoneBeyond b → NoneBeyond (ended_at place good at b)
beyond_ended_at place good b None room none number most = none number most
beyond_ended_at place good b (Some upstream) room none number most = written_none number place None b.places room refl (none number most)

pub beyond_ended : (place : ℕ) (good : Bool) (b : BalancerState) → place < length b.places → NoneBeyond b → NoneBeyond (ended place good b)
beyond_ended place good b room none = beyond_ended_at place good b (at_place place b) room none
