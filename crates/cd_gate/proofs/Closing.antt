-- What is known when a gate is closed.
use Rattle.std.proofs.Common.{◌≡◌, ℕ, zero, suc, ◌<◌, Bool, true, false, not, nat_lt, List, [], ◌∷◌, ◌++◌, length, drop, get_or, refl, sym, ap, ◌∙◌, subst, ⊎_elim, arith, Option, Some, None, append_assoc}
use mathlib.Core.Option.{some, some-ne-none, some-injective}
use mathlib.Core.Logic.{dite}
use mathlib.Core.List.{IsPrefix}
use native.Mathlib.Decide.{ℕ_discrete, dec_le}
use lib.ListN.{get_elem?}
use Rattle.atomic_table.specs.Table.{State}
use Rattle.atomic_table.specs.Seated.{TableId}
use Rattle.atomic_table.proofs.Lists.{at_longer, at_last}
use Rattle.cd_legal.specs.declared.entry.Signed.{Signed}
use Rattle.cd_legal.specs.Entry.{mine}
use Rattle.cd_legal.specs.declared.state.State.{State as Host}
use Rattle.cd_legal.specs.State.{has_number, apps_stopped}
use Rattle.cd_legal.specs.Legal.{state_at, may_retire}
use Rattle.cd_legal.specs.Owing.{owes_of, owes_nothing}
use Rattle.cd_legal.proofs.Histories.{both, first, second}
use Rattle.cd_legal.proofs.Logs.{prefix_trans}
use Rattle.cd_legal.proofs.Owing.{owes-none}
use Rattle.cd_gate.specs.declared.table.TheConstants.{TURN_WORD, BOARD_SLOT}
use Rattle.cd_gate.specs.declared.view.View.{View}
use Rattle.cd_gate.specs.declared.view.Gone.{Gone}
use Rattle.cd_gate.specs.declared.pass.Pass.{Pass}
use Rattle.cd_gate.specs.Duties.{is_settled, is_due}
use Rattle.cd_gate.specs.Words.{owed}
use Rattle.cd_gate.specs.Rule.{HasLeft, IsKept}
use Rattle.cd_gate.specs.Steps.{gone_of, joining}
use Rattle.cd_gate.specs.Tables.{Holds, moment_of}
use Rattle.cd_gate.specs.Passes.{view, IsIdle}
use Rattle.cd_gate.specs.Ends.{IsRow, IsFree, AreFree, AllIn, Gathers, Closes}
use Rattle.cd_gate.proofs.Longer.{longer_first}
use Rattle.cd_gate.proofs.Numbers.{off}

at_middle : {A : Type 0} (xs ys : List A) (a : A) → get_elem? (xs ++ a ∷ ys) (length xs) ≡ some a
at_middle [] ys a = refl
at_middle (x ∷ xs) ys a = at_middle xs ys a

at_some : {A : Type 0} (l : List A) (i : ℕ) → i < length l → (a : A) × (get_elem? l i ≡ some a)
at_some [] i lt = absurd (omega arith)
at_some (x ∷ xs) zero lt = (x, refl)
at_some (x ∷ xs) (suc i) lt = at_some xs i (omega arith)

after_first : {A : Type 0} (all rest : List A) (i : ℕ) → 0 < length all → drop 1 all ≡ rest → get_elem? all (suc i) ≡ get_elem? rest i
after_first [] rest i h e = absurd (omega arith)
after_first (x ∷ xs) rest i h e = ap (λ l. get_elem? l i) e

is_not : (b : Bool) → (b ≡ true → ⊥) → b ≡ false
is_not true never = absurd (never refl)
is_not false never = refl

module _ {T : Type 0} where
  -- the pass of number 0 takes in the last of those that are left
  all_more : (joined : List Gone) (g : Gone) (ps : List (Pass T)) → AllIn joined ps → AllIn (joined ++ g ∷ []) ps
  all_more joined g [] h = tt
  all_more joined g (p ∷ ps) h = ((h.0.0, at_longer joined (g ∷ []) h.0.0 (gone_of (view p)) h.0.1), all_more joined g ps h.1)

  all_get : (joined : List Gone) (ps : List (Pass T)) → AllIn joined ps → (j : ℕ) (p : Pass T) → get_elem? ps j ≡ some p → (i : ℕ) × (get_elem? joined i ≡ some (gone_of (view p)))
  all_get joined [] h j p e = absurd (some-ne-none p (sym e))
  all_get joined (q ∷ ps) h zero p e = (h.0.0, h.0.1 ∙ ap (λ (x : Pass T). some (gone_of (view x))) (some-injective _ _ e))
  all_get joined (q ∷ ps) h (suc j) p e = all_get joined ps h.1 j p e

  pub gathers_more : (z : TableId) (o : T) (all left : List (Pass T)) (q q' p : Pass T) → Gathers z o all q (left ++ p ∷ []) → IsIdle z o q' → view q' ≡ joining (view q) (view p) → Gathers z o all q' left
  gathers_more z o all left q q' p h idle is = record {
    first = h.first;
    at = h.at;
    idle = idle;
    same =
        let j : View T = joining (view q) (view p) in
        let a : j ≡ record (view h.first) { seen = j.seen; joined = j.joined } = ap (λ (v : View T). record v { seen = j.seen; joined = j.joined }) h.same in
        is ∙ (a ∙ ap (λ (v : View T). record (view h.first) { seen = v.seen; joined = v.joined }) (sym is));
    seen = subst (λ (l : List Signed). IsPrefix (view h.first).seen l) (sym (ap (λ (v : View T). v.seen) is))
        (prefix_trans (view h.first).seen (view q).seen (joining (view q) (view p)).seen h.seen (longer_first (view q).seen (view p).seen));
    done = p ∷ h.done;
    rest = h.rest ∙ append_assoc left (p ∷ []) h.done;
    joined = subst (λ (l : List Gone). AllIn l (p ∷ h.done)) (sym (ap (λ (v : View T). v.joined) is))
        ((length (view q).joined, at_last (view q).joined (gone_of (view p)) (length (view q).joined) refl), all_more (view q).joined (gone_of (view p)) h.done h.joined);
  }

  other_at : (z : TableId) (o : T) (all left : List (Pass T)) (q p : Pass T) → IsRow z o all → Gathers z o all q (left ++ p ∷ []) → get_elem? all (suc (length left)) ≡ some p
  other_at z o all left q p row h =
      let rest : drop 1 all ≡ left ++ p ∷ h.done = h.rest ∙ append_assoc left (p ∷ []) h.done in
      after_first all (left ++ p ∷ h.done) (length left) row.some_pass rest ∙ at_middle left h.done p

  pub other_idle : (z : TableId) (o : T) (all left : List (Pass T)) (q p : Pass T) → IsRow z o all → Gathers z o all q (left ++ p ∷ []) → IsIdle z o p
  other_idle z o all left q p row h = (row.each (suc (length left)) p (other_at z o all left q p row h)).0

  pub other_free : (z : TableId) (o : T) (all left : List (Pass T)) (q p : Pass T) → IsRow z o all → AreFree all → Gathers z o all q (left ++ p ∷ []) → IsFree p
  other_free z o all left q p row free h = free.each (suc (length left)) p (other_at z o all left q p row h)

  pub root_number : (z : TableId) (o : T) (all left : List (Pass T)) (q : Pass T) → IsRow z o all → Gathers z o all q left → (view q).number ≡ 0
  root_number z o all left q row h = ap (λ (v : View T). v.number) h.same ∙ (row.each 0 h.first h.at).1

  -- with no pass left the turn is free
  module _ (stands : T → T → List Signed → Type 0) (z : TableId) (o : T) (all : List (Pass T)) (q : Pass T) (row : IsRow z o all) (free : AreFree all) (h : Gathers z o all q []) (s : State (Option T) (View T)) (r : Holds stands o s) (id : ℕ) (at : get_elem? s.views id ≡ some (view q)) where
    abbrev k : IsKept stands o r.log (moment_of s r.slot)
    k = r.kept

    abbrev root : View T
    root = r.kept.numbers.root

    root_is : view q ≡ root
    root_is =
        let here = k.numbers.apart id 0 (view q) root at k.numbers.root_at h.idle.0.1 k.numbers.root_is.0 (root_number z o all [] q row h ∙ sym k.numbers.root_is.1) in
        some-injective _ _ (sym at ∙ (ap (get_elem? s.views) here ∙ k.numbers.root_at))

    made_is : root.made ≡ length all
    made_is = ap (λ (v : View T). v.made) (sym root_is ∙ h.same) ∙ (row.root h.first h.at).0

    -- each other pass was joined
    gone_is : (j : ℕ) (p : Pass T) → get_elem? all (suc j) ≡ some p → HasLeft r.log s.views (gone_of (view p))
    gone_is j p e =
        let t = all_get (view q).joined h.done h.joined j p (sym (after_first all h.done j row.some_pass h.rest) ∙ e) in
        (k.numbers.gone t.0 (gone_of (view p)) (ap (λ (v : View T). get_elem? v.joined t.0) (sym root_is) ∙ t.1)).0

    -- so each live view is that of number 0
    alone_by : (seat : ℕ) (u : View T) → get_elem? s.views seat ≡ some u → u.live ≡ true → (n : ℕ) → u.number ≡ n → u ≡ root
    alone_by seat u e live zero is =
        let here = k.numbers.apart seat 0 u root e k.numbers.root_at live k.numbers.root_is.0 (is ∙ sym k.numbers.root_is.1) in
        some-injective _ _ (sym e ∙ (ap (get_elem? s.views) here ∙ k.numbers.root_at))
    alone_by seat u e live (suc n) is =
        let low = k.numbers.below seat u e live in
        let t = at_some all (suc n) (let m = made_is in omega arith) in
        let number = (row.each (suc n) t.0 t.1).1 in
        absurd ((gone_is n t.0 t.1).absent seat u e live (is ∙ sym number))

    alone : (seat : ℕ) (u : View T) → get_elem? s.views seat ≡ some u → u.live ≡ true → u ≡ root
    alone seat u e live = alone_by seat u e live u.number refl

    no_holder : (seat : ℕ) (u : View T) → get_elem? s.views seat ≡ some u → u.turn ≡ true → ⊥
    no_holder seat u e has = off (sym h.idle.1 ∙ (ap (λ (v : View T). v.turn) (root_is ∙ sym (alone seat u e ((k.each seat u e).holds has).0)) ∙ has))

    is_free : get_or s.words TURN_WORD 0 ≡ 0
    is_free = dite (ℕ_discrete (get_or s.words TURN_WORD 0) 0) (λ e. e) (λ ne. let t = (k.taken (omega arith)).0 in absurd (no_holder t.0 t.1 t.2 t.3))

    each_ends : (i : ℕ) (p : Pass T) → get_elem? all i ≡ some p → IsPrefix (view p).seen r.log × (mine i r.log ≡ (view p).mine)
    each_ends zero p e =
        let same : h.first ≡ p = some-injective _ _ (sym h.at ∙ e) in
        let f = k.each id (view q) at in
        subst (λ (x : Pass T). IsPrefix (view x).seen r.log × (mine 0 r.log ≡ (view x).mine)) same
        (prefix_trans (view h.first).seen (view q).seen r.log h.seen f.seen, ap (λ n. mine n r.log) (sym (root_number z o all [] q row h)) ∙ (f.own h.idle.0.1 ∙ ap (λ (v : View T). v.mine) h.same))
    each_ends (suc j) p e = let g = gone_is j p e in (g.seen, ap (λ n. mine n r.log) (sym (row.each (suc j) p e).1) ∙ g.own)

    root_free : (owed root ≡ owes_nothing) × (root.duties ≡ [])
    root_free =
        let f = free.each 0 h.first h.at in
        let same : root ≡ record (view h.first) { seen = (view q).seen; joined = (view q).joined } = sym root_is ∙ h.same in
        (ap (λ (v : View T). owed v) same ∙ f.0, ap (λ (v : View T). v.duties) same ∙ f.1)

    none_owes : (n : ℕ) → owes_of n r.log ≡ owes_nothing
    none_owes n = dite (dec_le root.made n)
        (λ le. owes-none n r.log (k.numbers.unmade n le))
        (λ more. ⊎_elim
        (λ t. ap (λ m. owes_of m r.log) (sym t.4) ∙ ((k.each t.0 t.1 t.2).owes t.3 ∙ (ap (λ (v : View T). owed v) (alone t.0 t.1 t.2 t.3) ∙ root_free.0)))
        (λ t. ap (λ m. owes_of m r.log) (sym t.3) ∙ (k.numbers.gone t.0 t.1 t.2).0.owes)
        (k.numbers.known n (omega (arith, more))))

    -- with nothing unsettled each serial that may be retired is due
    due_now : (n : ℕ) → may_retire (state_at r.log) n ≡ true → is_due (state_at r.log) r.kept.unsettled n ≡ true
    due_now n may =
        let s : Host = state_at r.log in
        let low = first (nat_lt n s.serial) _ may in
        let rest = second (nat_lt n s.serial) _ may in
        let new = first (not (has_number n s.retired)) _ rest in
        let done = second (apps_stopped s n) _ (second (not (has_number n s.retired)) _ rest) in
        ap (λ (o : Option ℕ). is_due s o n) (k.free is_free).2
        ∙ both (is_settled s None n) _ (both (nat_lt n s.serial) true low refl) (both (not (has_number n s.retired)) _ new done)

    none_due : (n : ℕ) → may_retire (state_at r.log) n ≡ true → ⊥
    none_due n may =
        let t = k.duties.whole n (due_now n may) in
        let e : false ≡ true = ap (has_number n) (sym root_free.1) ∙ (ap (λ (v : View T). has_number n v.duties) (sym (alone t.0 t.1 t.2 t.3)) ∙ t.4) in off e

    pub closes : (b : T) × (get_elem? s.homes BOARD_SLOT ≡ some (some (Some b))) × Closes stands o all b
    closes = let t = k.free is_free in (
      t.0.0,
      r.home t.0.0 t.0.1,
      record {
        log = r.log;
        history = k.history;
        board = t.0.2;
        each = each_ends;
        others = λ n le. k.numbers.unmade n (let m = made_is in omega arith);
        owes = none_owes;
        due = λ n. is_not (may_retire (state_at r.log) n) (none_due n);
        left = t.1;
      },
    )
