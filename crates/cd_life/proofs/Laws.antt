-- What a board has of what a history leaves for which it stands.
use Rattle.std.proofs.Common.{◌≡◌, ◌≢◌, ℕ, zero, suc, ◌+◌, ◌<◌, ◌≤◌, ◌==◌, ◌&&◌, ◌-◌, cond, Bool, true, false, not, ◌||◌, List, [], ◌∷◌, length, refl, sym, ap, ◌∙◌, arith, subst, slice_get, Option, Some, None, Result, eq-eqb, ne_eqb, nat_lt, IfSome, ⊎_elim}
use Rattle.std.specs.List.{list_all}
use Rattle.std.proofs.lemmas.Bool.Decides.{eqb_tells}
use Rattle.std.proofs.lemmas.Option.{slice_get_within}
use Rattle.cd_outside.specs.declared.fixtures.FixtureCall.{FixtureCall}
use Rattle.cd_tree.specs.declared.tree.Tree.{Tree}
use Rattle.cd_wire.specs.declared.request.Request.{Request}
use Rattle.cd_module.specs.declared.fault.LoadFault.{LoadFault}
use Rattle.cd_legal.specs.declared.plan.Plan.{Plan}
use Rattle.cd_legal.specs.declared.entry.Signed.{Signed}
use Rattle.cd_legal.specs.declared.entry.Change.{Change}
use Rattle.cd_legal.specs.declared.entry.Entry.TheVariants.{Publish}
use Rattle.cd_legal.specs.declared.state.State.{State}
use Rattle.cd_legal.specs.declared.state.Drafted.{Drafted}
use Rattle.cd_legal.specs.declared.state.Life.{Life}
use Rattle.cd_legal.specs.declared.state.Life.TheVariants.{Live, Published, Abandoned}
use Rattle.cd_legal.specs.Entry.{entries}
use Rattle.cd_legal.specs.State.{opening_state, has_number, is_live, may_clean_instances, all_stopped, all_cleaned, ticket_of, draft_of, Conf, conf_of, conf_at, conf_in, holds_if_there}
use Rattle.cd_legal.specs.Legal.{state_at, IsLegal}
use Rattle.cd_legal.specs.Whole.{IsOver, is_closed, nothing_left_of, all_retired}
use Rattle.cd_legal.proofs.Facts.{is-less}
use Rattle.cd_legal.proofs.Histories.{both, first, second}
use Rattle.cd_legal.proofs.Sound.{is_below, is_sound, is_unended_if_live, bound_of, are_sound, sound_from}
use Rattle.cd_legal.proofs.Serials.{published-count, retired-below}
use Rattle.cd_legal.proofs.Confs.{IsSteady, legal-steady}
use Rattle.cd_legal.proofs.Leaving.{at_each}
use Rattle.cd_desk.specs.declared.left.Left.{Left}
use Rattle.cd_desk.specs.Lefts.{IsLeft}
use Rattle.cd_desk.specs.Emptying.{IsEnded}
use Rattle.cd_desk.proofs.Laws.{LeftDraft, left_is}
use Rattle.cd_desk.proofs.Shuttings.{last_at}
use Rattle.cd_life.specs.declared.board.Board.{Board}
use Rattle.cd_life.specs.Changes.{tree_at, conf_there, conf_kept, conf_here}
use Rattle.cd_life.specs.Fits.{Fits, Suits}
use Rattle.cd_life.specs.Standing.{Stood, is_kept, last_published}

-- ---- the configurations of a state, by what is kept

halt_zero : (b : Bool) (l serial : ℕ) → l + cond {A = ℕ} b 1 0 ≡ serial → (b && (0 == serial)) ≡ false
halt_zero true l serial e = ne_eqb 0 serial (λ (q : 0 ≡ serial). omega (arith, q, e))
halt_zero false l serial e = refl

flag_false : (b : Bool) (l serial m : ℕ) → suc m ≤ l → l + cond {A = ℕ} b 1 0 ≡ serial → (b && (suc m == serial)) ≡ false
flag_false true l serial m le e = ne_eqb (suc m) serial (λ (q : suc m ≡ serial). omega (arith, q, e, le))
flag_false false l serial m le e = refl

flag_true : (b : Bool) (l serial m : ℕ) → l ≤ m → suc m ≤ serial → l + cond {A = ℕ} b 1 0 ≡ serial → (b && (suc m == serial)) ≡ true
flag_true true l serial m le low e = eq-eqb (suc m) serial (omega (arith, le, low, e))
flag_true false l serial m le low e = absurd (omega (arith, le, low, e))

none_past : {A : Type 0} (xs : List A) (n : ℕ) → slice_get xs n ≡ None → length xs ≤ n
none_past [] n e = omega arith
none_past (x ∷ xs) zero e = cc
none_past (x ∷ xs) (suc n) e = let rest = none_past xs n e in omega (arith, rest)

get_there : {A : Type 0} (xs : List A) (n : ℕ) → n < length xs → (d : A) × (slice_get xs n ≡ Some d)
get_there [] n lt = absurd (omega arith)
get_there (x ∷ xs) zero lt = (x, refl)
get_there (x ∷ xs) (suc n) lt = get_there xs n (omega arith)

module _ (s : State) (kept : ℕ → Option Tree) (m : ℕ) (is : IsSteady s) (low : suc m ≤ s.serial) (has : (t : Tree) → conf_of s (suc m) ≡ Conf.Of t → kept (suc m) ≡ Some t) where
  published_conf : (d : ℕ) → slice_get s.published m ≡ Some d → (x : Drafted) × (conf_of s (suc m) ≡ Conf.Of x.tree)
  published_conf d at =
      let below = is-less d (length s.drafts) (ap (holds_if_there (λ j. nat_lt j (length s.drafts))) (sym at) ∙ at_each (λ j. nat_lt j (length s.drafts)) s.published m is.there) in
      let x = get_there s.drafts d below in
      (x.0, ap (conf_at (s.halted && (suc m == s.serial)) s.drafts) at ∙ ap conf_in x.1)

  by_kept : (o : Option ℕ) → slice_get s.published m ≡ o → conf_there (s.halted && (suc m == s.serial)) (kept (suc m)) (suc m) ≡ conf_of s (suc m)
  by_kept (Some d) at =
      let within = slice_get_within s.published m d at in
      let x = published_conf d at in
      let flag : (s.halted && (suc m == s.serial)) ≡ false = flag_false s.halted (length s.published) s.serial m (omega (arith, within)) is.agrees.count in
      ap (λ (b : Bool). conf_there b (kept (suc m)) (suc m)) flag
      ∙ (ap (λ (b : Bool). cond b Conf.Opening (conf_kept (kept (suc m)))) (ne_eqb (suc m) 0 (λ (q : suc m ≡ 0). cc)) ∙ (ap conf_kept (has x.0.tree x.1) ∙ sym x.1))
  by_kept None at =
      let flag : (s.halted && (suc m == s.serial)) ≡ true = flag_true s.halted (length s.published) s.serial m (none_past s.published m at) low is.agrees.count in
      ap (λ (b : Bool). conf_there b (kept (suc m)) (suc m)) flag ∙ sym (ap (conf_at (s.halted && (suc m == s.serial)) s.drafts) at ∙ ap (λ (b : Bool). cond b Conf.Halted Conf.Opening) flag)

  kept_there : (o : Option ℕ) → slice_get s.published m ≡ o → (s.halted && (suc m == s.serial)) ≡ false → (t : Tree) × (kept (suc m) ≡ Some t)
  kept_there (Some d) at flag = let x = published_conf d at in (x.0.tree, has x.0.tree x.1)
  kept_there None at flag = absurd (let e : false ≡ true = sym flag ∙ flag_true s.halted (length s.published) s.serial m (none_past s.published m at) low is.agrees.count in cc)

unretired_kept : (s : State) (n : ℕ) → has_number n s.retired ≡ false → is_kept s n ≡ true
unretired_kept s n e = ap (λ (b : Bool). not b || (n == length s.published)) e

-- what the board has where it keeps a tree
pub here_is : {A F B : Type 0} {g : _} (b : Board A F B g) (n : ℕ) (t : Tree) → (b.desk.halted && (n == b.desk.serial)) ≡ false → n ≢ 0 → tree_at b.kept.items n ≡ Some t → conf_here b n ≡ Conf.Of t
here_is b n t flag some has =
    ap (λ (z : Bool). conf_there z (tree_at b.kept.items n) n) flag ∙ (ap (λ (z : Bool). cond z Conf.Opening (conf_kept (tree_at b.kept.items n))) (ne_eqb n 0 some) ∙ ap conf_kept has)

-- and under the serial of the halt
pub here_halted : {A F B : Type 0} {g : _} (b : Board A F B g) (n : ℕ) → (b.desk.halted && (n == b.desk.serial)) ≡ true → Conf.Halted ≡ conf_here b n
here_halted b n flag = sym (ap (λ (z : Bool). conf_there z (tree_at b.kept.items n) n) flag)

module _ {A F B : Type 0} {g : _} (calls : F → Option (List FixtureCall)) (faults : F → ℕ) (plan : Tree → Result Plan LoadFault) (makes : Tree → Request → Option Tree) (opening b : Board A F B g) (log : List Signed) (h : Stood calls faults plan makes opening b log) where
  same_flag : (n : ℕ) → (b.desk.halted && (n == b.desk.serial)) ≡ ((state_at log).halted && (n == (state_at log).serial))
  same_flag n = ap (λ (z : Bool). z && (n == b.desk.serial)) (sym h.desk.agrees.halted) ∙ ap (λ (z : ℕ). (state_at log).halted && (n == z)) (sym h.desk.agrees.serial)

  -- what the board has for a serial that is not retired is its configuration
  pub conf_is : (n : ℕ) → n ≤ (state_at log).serial → has_number n (state_at log).retired ≡ false → conf_here b n ≡ conf_of (state_at log) n
  conf_is zero low free =
      ap (λ (z : Bool). conf_there z (tree_at b.kept.items 0) 0) (same_flag 0 ∙ halt_zero (state_at log).halted (length (state_at log).published) (state_at log).serial (published-count (entries log) h.desk.is_legal))
  conf_is (suc m) low free =
      ap (λ (z : Bool). conf_there z (tree_at b.kept.items (suc m)) (suc m)) (same_flag (suc m))
      ∙ by_kept (state_at log) (tree_at b.kept.items) m (legal-steady (entries log) h.desk.is_legal) low (λ t conf. h.shelf.kept (suc m) t conf (unretired_kept (state_at log) (suc m) free)) (slice_get (state_at log).published m) refl

  -- it has one
  pub conf_there_is : (n : ℕ) → n ≢ 0 → n ≤ (state_at log).serial → has_number n (state_at log).retired ≡ false → (b.desk.halted && (n == b.desk.serial)) ≡ false → (t : Tree) × (tree_at b.kept.items n ≡ Some t)
  conf_there_is zero some low free flag = absurd (some refl)
  conf_there_is (suc m) some low free flag =
      kept_there (state_at log) (tree_at b.kept.items) m (legal-steady (entries log) h.desk.is_legal) low (λ t conf. h.shelf.kept (suc m) t conf (unretired_kept (state_at log) (suc m) free)) (slice_get (state_at log).published m) refl (sym (same_flag (suc m)) ∙ flag)

  -- the current configuration is not retired
  pub current_unretired : has_number (state_at log).serial (state_at log).retired ≡ false
  current_unretired = at (has_number (state_at log).serial (state_at log).retired) refl
    where
      at : (c : Bool) → has_number (state_at log).serial (state_at log).retired ≡ c → has_number (state_at log).serial (state_at log).retired ≡ false
      at false e = e
      at true e = absurd (let low = retired-below (entries log) (state_at log).serial h.desk.is_legal e in omega (arith, low))

  -- what is kept of the configuration that was published last
  pub last_is : (n : ℕ) → n ≡ b.desk.serial - cond {A = ℕ} b.desk.halted 1 0 → conf_there false (tree_at b.kept.items n) n ≡ last_published (state_at log)
  last_is n is =
      let s : State = state_at log in
      let halted : n ≡ s.serial - cond {A = ℕ} s.halted 1 0 = is ∙ (ap (λ (z : ℕ). z - cond {A = ℕ} b.desk.halted 1 0) (sym h.desk.agrees.serial) ∙ ap (λ (z : Bool). s.serial - cond {A = ℕ} z 1 0) (sym h.desk.agrees.halted)) in
      at n (before_halt s.halted (length s.published) s.serial n (published-count (entries log) h.desk.is_legal) halted) ∙ ap (conf_at false s.drafts) (sym (last_at s.published))
    where
      before_halt : (c : Bool) (l serial n : ℕ) → l + cond {A = ℕ} c 1 0 ≡ serial → n ≡ serial - cond {A = ℕ} c 1 0 → n ≡ l
      before_halt true l serial n e is = omega (arith, e, is)
      before_halt false l serial n e is = omega (arith, e, is)

      with_draft : (m : ℕ) → suc m ≡ length (state_at log).published → (d : ℕ) → slice_get (state_at log).published m ≡ Some d → conf_there false (tree_at b.kept.items (suc m)) (suc m) ≡ conf_at false (state_at log).drafts (slice_get (state_at log).published m)
      with_draft m its d there =
          let s : State = state_at log in
          let all = (legal-steady (entries log) h.desk.is_legal).there in
          let below = is-less d (length s.drafts) (ap (holds_if_there (λ j. nat_lt j (length s.drafts))) (sym there) ∙ at_each (λ j. nat_lt j (length s.drafts)) s.published m all) in
          let x = get_there s.drafts d below in
          let conf : conf_of s (suc m) ≡ Conf.Of x.0.tree = ap (conf_at (s.halted && (suc m == s.serial)) s.drafts) there ∙ ap conf_in x.1 in
          let kept = h.shelf.kept (suc m) x.0.tree conf (or_true (not (has_number (suc m) s.retired)) (eq-eqb (suc m) (length s.published) its)) in
          ap (λ (z : Bool). cond z Conf.Opening (conf_kept (tree_at b.kept.items (suc m)))) (ne_eqb (suc m) 0 (λ (q : suc m ≡ 0). cc))
          ∙ (ap conf_kept kept ∙ sym (ap (conf_at false s.drafts) there ∙ ap conf_in x.1))
        where
          or_true : (c : Bool) {d : Bool} → d ≡ true → (c || d) ≡ true
          or_true true e = refl
          or_true false e = e

      at : (n : ℕ) → n ≡ length (state_at log).published → conf_there false (tree_at b.kept.items n) n ≡ conf_at false (state_at log).drafts (draft_of (length (state_at log).published) (state_at log).published)
      at zero its = ap (λ (z : ℕ). conf_at false (state_at log).drafts (draft_of z (state_at log).published)) its
      at (suc m) its =
          let d = get_there (state_at log).published m (omega (arith, its)) in
          with_draft m its d.0 d.1 ∙ ap (λ (z : ℕ). conf_at false (state_at log).drafts (draft_of z (state_at log).published)) its

  -- a publishing that suits what the board has fits the history
  pub publish_fits : (t : Tree) (l : Left) (from n : ℕ) (way : Change) → IsLeft b.desk.books t l → from ≡ b.desk.serial → Suits makes (conf_here b from) way t → Fits plan makes (state_at log) (Publish l.number n from way)
  publish_fits t l from n way i current suits =
      let x : LeftDraft (state_at log) t l = left_is calls opening.desk b.desk log h.desk t l i in
      let serial : from ≡ (state_at log).serial = current ∙ sym h.desk.agrees.serial in
      let conf : conf_here b from ≡ conf_of (state_at log) from = conf_is from (omega (arith, serial)) (ap (λ (z : ℕ). has_number z (state_at log).retired) serial ∙ current_unretired) in
      subst (λ (o : Option Drafted). IfSome o (λ y. Suits makes (conf_of (state_at log) from) way y.tree)) (sym x.there)
      (subst (λ (z : Conf). Suits makes z way x.draft.tree) conf (subst (λ (z : Tree). Suits makes (conf_here b from) way z) (sym x.tree) suits))

-- ---- what is over

lower : (n m : ℕ) → n < suc m → n ≢ m → n < m
lower n m low ne = grind arith

retired_under : (retired : List ℕ) (n m : ℕ) → all_retired m retired ≡ true → n < m → has_number n retired ≡ true
retired_under retired n zero all low = absurd (omega arith)
retired_under retired n (suc m) all low = ⊎_elim
    (λ q. ap (λ (z : ℕ). has_number z retired) q.1 ∙ first (has_number m retired) _ all)
    (λ q. retired_under retired n m (second (has_number m retired) _ all) (lower n m low q.1)) (eqb_tells n m)

done_over : (b q : Bool) → b ≡ true → (not b || q) ≡ true → (b && q) ≡ true
done_over true q is e = e
done_over false q is e = cc

life_over : (serial : ℕ) (retired : List ℕ) → all_retired serial retired ≡ true → (l : Life) (q : Bool) → not (is_live l) ≡ true → is_below serial l ≡ true → (not (may_clean_instances retired l) || q) ≡ true → (may_clean_instances retired l && q) ≡ true
life_over serial retired all Live q gone low e = cc
life_over serial retired all (Published n) q gone low e = done_over (has_number n retired) q (retired_under retired n serial all (is-less n serial low)) e
life_over serial retired all Abandoned q gone low e = e

all_over : (serial : ℕ) (retired : List ℕ) → all_retired serial retired ≡ true → (xs : List Drafted) → list_all (λ x. not (is_live x.life)) xs ≡ true → list_all (is_sound serial) xs ≡ true → list_all (nothing_left_of retired) xs ≡ true → list_all (is_closed retired) xs ≡ true
all_over serial retired all [] gone fine done = refl
all_over serial retired all (x ∷ xs) gone fine done =
    both (is_closed retired x) _
    (life_over serial retired all x.life (all_stopped x && all_cleaned x) (first (not (is_live x.life)) _ gone) (second (is_unended_if_live x) _ (first (is_sound serial x) _ fine)) (first (nothing_left_of retired x) _ done))
    (all_over serial retired all xs (second (not (is_live x.life)) _ gone) (second (is_sound serial x) _ fine) (second (nothing_left_of retired x) _ done))

-- after a history that is over each draft is closed
pub over_ended : (log : List Signed) → IsLegal log → IsOver (state_at log) → ((caller : ℕ) → ticket_of caller (state_at log).tickets ≡ None) → IsEnded (state_at log)
over_ended log legal over free =
    let s : State = state_at log in
    let fine : are_sound s ≡ true = sound_from opening_state (entries log) legal refl in
    let bound : bound_of s ≡ s.serial = ap (λ (c : Bool). cond c s.serial (s.serial + 1)) over.halted in
    let below : list_all (is_sound s.serial) s.drafts ≡ true = subst (λ (n : ℕ). list_all (is_sound n) s.drafts ≡ true) bound fine in
    record { closed = all_over s.serial s.retired over.retired s.drafts over.drafts below over.finished; free = free }
