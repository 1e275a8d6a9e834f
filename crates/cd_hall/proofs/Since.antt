-- A turn goes on by steps, and what was made in it is spread over the history.
use Rattle.std.proofs.Common.{◌≡◌, ℕ, Bool, false, List, [], ◌∷◌, ◌++◌, cond, eq-eqb, refl, sym, ap, ◌∙◌, subst}
use Rattle.std.proofs.lemmas.List.{append-nil, append_assoc, append_cancel_left, map-append}
use mathlib.Core.List.{IsPrefix}
use Rattle.cd_legal.specs.declared.entry.Entry.{Entry}
use Rattle.cd_legal.specs.declared.entry.Entry.TheVariants.{Begin}
use Rattle.cd_legal.specs.declared.entry.Signed.{Signed}
use Rattle.cd_legal.specs.Entry.{signed, mine}
use Rattle.cd_legal.specs.Owing.{Owes, owes_by}
use Rattle.cd_legal.specs.Placed.{Placed, placed, placed_from, placed_entries, through}
use Rattle.cd_legal.specs.Signing.{IsHistory}
use Rattle.cd_legal.proofs.Logs.{prefix_more, prefix_trans, mine-append, mine-own}
use Rattle.cd_legal.proofs.Placed.{placed-append, placed-stays}
use Rattle.cd_gate.specs.declared.view.View.{View}
use Rattle.cd_gate.specs.Growing.{all_signed, EndsWith, owes_after, Places}
use Rattle.cd_gate.specs.Steps.{with_turn, without_turn, adding, begun}
use Rattle.cd_gate.specs.Tables.{Found, Begins}
use Rattle.cd_gate.specs.Words.{owed}
use Rattle.cd_gate.proofs.Longer.{prefix_self}
use Rattle.cd_hall.specs.Since.{Since, reached}
use Rattle.cd_hall.specs.Spread.{Starts, Spread}
use Rattle.cd_hall.specs.Turned.{Turned}

-- ---- one entry more, last

entries-snoc : (ps : List Placed) (p : Placed) → placed_entries (ps ++ p ∷ []) ≡ placed_entries ps ++ p.entry ∷ []
entries-snoc ps p = map-append (λ (q : Placed). q.entry) ps (p ∷ [])

all-snoc : (k : ℕ) (es : List Entry) (e : Entry) → all_signed k (es ++ e ∷ []) ≡ all_signed k es ++ signed k e ∷ []
all-snoc k [] e = refl
all-snoc k (f ∷ es) e = ap (λ (l : List Signed). signed k f ∷ l) (all-snoc k es e)

owes-snoc : (o : Owes) (es : List Entry) (e : Entry) → owes_after o (es ++ e ∷ []) ≡ owes_by (owes_after o es) e
owes-snoc o [] e = refl
owes-snoc o (f ∷ es) e = owes-snoc (owes_by o f) es e

through-snoc : (k : ℕ) (ps : List Placed) (p : Placed) → through k (ps ++ p ∷ []) ≡ p.before ++ signed k p.entry ∷ []
through-snoc k [] p = refl
through-snoc k (q ∷ []) p = refl
through-snoc k (q ∷ r ∷ ps) p = through-snoc k (r ∷ ps) p

-- what was found, once there is one more: the history right before it, where it is the first
abbrev pub found_then : List Signed → List Placed → List Signed → List Signed
found_then found [] log = log
found_then found (p ∷ ps) log = found

reached-snoc : (k : ℕ) (found log : List Signed) (ps : List Placed) (e : Entry) → reached k (found_then found ps log) (ps ++ record { before = log; entry = e } ∷ []) ≡ log ++ signed k e ∷ []
reached-snoc k found log [] e = refl
reached-snoc k found log (p ∷ ps) e = through-snoc k (p ∷ ps) (record { before = log; entry = e })

starts-snoc : (found log seen : List Signed) (ps : List Placed) (e : Entry) (now : List Signed) → Starts found ps seen → Starts (found_then found ps log) (ps ++ record { before = log; entry = e } ∷ []) now
starts-snoc found log seen [] e now first = refl
starts-snoc found log seen (p ∷ ps) e now first = first

front-snoc : (found log : List Signed) (ps : List Placed) → IsPrefix found log → IsPrefix found (found_then found ps log)
front-snoc found log [] p = p
front-snoc found log (q ∷ ps) p = prefix_self found

below-snoc : (found log : List Signed) (ps : List Placed) → IsPrefix found log → IsPrefix (found_then found ps log) log
below-snoc found log [] p = prefix_self log
below-snoc found log (q ∷ ps) p = p

-- ---- how the last of them ends what was seen

ends_through : (k : ℕ) (found : List Signed) (ps : List Placed) → EndsWith (reached k found ps) k (placed_entries ps)
ends_through k found [] = tt
ends_through k found (p ∷ []) = (p.before, refl)
ends_through k found (p ∷ q ∷ ps) = ends_through k found (q ∷ ps)

through_front : (k : ℕ) (found : List Signed) (ps : List Placed) → IsPrefix (through k ps) (reached k found ps)
through_front k found [] = (found, refl)
through_front k found (p ∷ ps) = prefix_self (through k (p ∷ ps))

-- entries of others place nothing
placed-others : (k : ℕ) (seen log m : List Signed) → IsPrefix seen log → mine k log ≡ m → mine k seen ≡ m → placed k log ≡ placed k seen
placed-others k seen log m p high low =
    let more : List Signed = p.0 in
    let none : mine k more ≡ [] = append_cancel_left (mine k seen) (mine k more) [] (sym (mine-append k seen more) ∙ (ap (λ (l : List Signed). mine k l) p.1 ∙ (high ∙ (sym low ∙ sym (append-nil (mine k seen)))))) in
    ap (λ (l : List Signed). placed k l) (sym p.1) ∙ placed-stays k seen more none

module _ {T : Type 0} where
  -- a turn begins with no entry
  pub entered : (v w : View T) (log : List Signed) → Found v log → w ≡ with_turn v log → Since v w log []
  entered v w log f is = subst (λ (z : View T). Since v z log []) (sym is) record {
    seen = f.seen;
    first = refl;
    after = prefix_self log;
    reached_is = refl;
    history = f.history;
    before = f.own_seen;
    own = f.own;
    placed_is = placed-others v.number v.seen log v.mine f.seen f.own f.own_seen ∙ sym (append-nil (placed v.number v.seen));
    adds = sym (append-nil v.mine);
    owes = refl;
    same = refl;
  }

  -- a step in it that adds no entry
  pub goes_on : (v w x : View T) (found : List Signed) (added : List Placed) → Since v w found added
      → x ≡ record w { turn = x.turn; checked = x.checked; ready = x.ready; unsettled = x.unsettled; duties = x.duties } → Since v x found added
  goes_on v w x found added s is = record {
    seen = s.seen;
    first = subst (λ (l : List Signed). Starts found added l) (sym seen_is) s.first;
    after = subst (λ (l : List Signed). IsPrefix found l) (sym seen_is) s.after;
    reached_is = seen_is ∙ s.reached_is;
    history = subst (λ (l : List Signed). IsHistory l) (sym seen_is) s.history;
    before = s.before;
    own = ap (λ (l : List Signed). mine v.number l) seen_is ∙ (s.own ∙ sym mine_is);
    placed_is = ap (λ (l : List Signed). placed v.number l) seen_is ∙ s.placed_is;
    adds = mine_is ∙ s.adds;
    owes = owed_is ∙ s.owes;
    same = is ∙ (ap (λ (z : View T). record z { turn = x.turn; checked = x.checked; ready = x.ready; unsettled = x.unsettled; duties = x.duties }) s.same
        ∙ (λ i. record v {
          turn = x.turn;
          checked = x.checked;
          ready = x.ready;
          unsettled = x.unsettled;
          seen = sym seen_is i;
          mine = sym mine_is i;
          ticket = (sym owed_is i).ticket;
          draft = (sym owed_is i).draft;
          duties = x.duties;
        }));
  }
    where
      seen_is : x.seen ≡ w.seen
      seen_is = ap (λ (z : View T). z.seen) is

      mine_is : x.mine ≡ w.mine
      mine_is = ap (λ (z : View T). z.mine) is

      owed_is : owed x ≡ owed w
      owed_is = ap (λ (z : View T). owed z) is

  -- one that adds an entry, after a history that has begun with what the pass had seen
  pub goes_further : (v w x : View T) (found log : List Signed) (added : List Placed) (e : Entry) → Since v w found added → Found w log → IsHistory (log ++ signed w.number e ∷ [])
      → x ≡ record (adding w log e) { checked = x.checked; ready = x.ready; unsettled = x.unsettled; duties = x.duties }
      → Since v x (found_then found added log) (added ++ record { before = log; entry = e } ∷ [])
  goes_further v w x found log added e s f history is =
      let p : Placed = record { before = log; entry = e } in
      let k : ℕ = v.number in
      let end : List Signed = log ++ signed k e ∷ [] in
      let found_log : IsPrefix found log = prefix_trans found w.seen log s.after f.seen in
      record {
        seen = prefix_trans v.seen found (found_then found added log) s.seen (front-snoc found log added found_log);
        first = starts-snoc found log w.seen added e x.seen s.first;
        after = subst (λ (l : List Signed). IsPrefix (found_then found added log) l) (sym seen_is) (prefix_more (found_then found added log) log (signed k e ∷ []) (below-snoc found log added found_log));
        reached_is = seen_is ∙ sym (reached-snoc k found log added e);
        history = subst (λ (l : List Signed). IsHistory l) (sym seen_is) (subst (λ (n : ℕ). IsHistory (log ++ signed n e ∷ [])) number_is history);
        before = s.before;
        own = ap (λ (l : List Signed). mine k l) seen_is ∙ (mine-own log k e ∙ (ap (λ (l : List Signed). l ++ signed k e ∷ []) own_log ∙ sym mine_is));
        placed_is = ap (λ (l : List Signed). placed k l) seen_is
            ∙ (placed-append k log (signed k e ∷ [])
            ∙ (ap (λ (l : List Placed). placed k log ++ l) (one_placed k log e)
            ∙ (ap (λ (l : List Placed). l ++ p ∷ []) (placed-others k w.seen log w.mine f.seen own_log s.own ∙ s.placed_is)
            ∙ append_assoc (placed k v.seen) added (p ∷ []))));
        adds = mine_is
            ∙ (ap (λ (l : List Signed). l ++ signed k e ∷ []) s.adds
            ∙ (append_assoc v.mine (all_signed k (placed_entries added)) (signed k e ∷ [])
            ∙ ap (λ (l : List Signed). v.mine ++ l) (sym (all-snoc k (placed_entries added) e) ∙ ap (λ (l : List Entry). all_signed k l) (sym (entries-snoc added p)))));
        owes = owed_is
            ∙ (ap (λ (o : Owes). owes_by o e) s.owes
            ∙ (sym (owes-snoc (owed v) (placed_entries added) e) ∙ ap (λ (l : List Entry). owes_after (owed v) l) (sym (entries-snoc added p))));
        same = is
            ∙ (ap (λ (z : View T). record z { checked = x.checked; ready = x.ready; unsettled = x.unsettled; seen = log ++ signed w.number e ∷ []; mine = w.mine ++ signed w.number e ∷ []; ticket = (owes_by (owed w) e).ticket; draft = (owes_by (owed w) e).draft; duties = x.duties }) s.same
            ∙ (λ i. record v {
              turn = sym turn_is i;
              checked = x.checked;
              ready = x.ready;
              unsettled = x.unsettled;
              seen = sym seen_was i;
              mine = sym mine_was i;
              ticket = (sym owed_is i).ticket;
              draft = (sym owed_is i).draft;
              duties = x.duties;
            }));
      }
    where
      number_is : w.number ≡ v.number
      number_is = ap (λ (z : View T). z.number) s.same

      turn_is : x.turn ≡ w.turn
      turn_is = ap (λ (z : View T). z.turn) is

      seen_was : x.seen ≡ log ++ signed w.number e ∷ []
      seen_was = ap (λ (z : View T). z.seen) is

      seen_is : x.seen ≡ log ++ signed v.number e ∷ []
      seen_is = seen_was ∙ ap (λ (n : ℕ). log ++ signed n e ∷ []) number_is

      mine_was : x.mine ≡ w.mine ++ signed w.number e ∷ []
      mine_was = ap (λ (z : View T). z.mine) is

      mine_is : x.mine ≡ w.mine ++ signed v.number e ∷ []
      mine_is = mine_was ∙ ap (λ (n : ℕ). w.mine ++ signed n e ∷ []) number_is

      owed_is : owed x ≡ owes_by (owed w) e
      owed_is = ap (λ (z : View T). owed z) is

      own_log : mine v.number log ≡ w.mine
      own_log = ap (λ (n : ℕ). mine n log) (sym number_is) ∙ f.own

      one_placed : (k : ℕ) (log : List Signed) (e : Entry) → placed_from k log (signed k e ∷ []) ≡ record { before = log; entry = e } ∷ []
      one_placed k log e = ap (λ (b : Bool). cond b (record { before = log; entry = e } ∷ []) []) (eq-eqb k k refl)

  -- once the turn is left
  pub spreads : (v w x : View T) (found : List Signed) (added : List Placed) → Since v w found added → x ≡ without_turn w → v.turn ≡ false → w.checked ≡ v.checked → w.ready ≡ v.ready → w.unsettled ≡ v.unsettled → Spread v x found (placed_entries added)
  spreads v w x found added s is idle checked ready settled =
      let at_end : View T = record v { seen = w.seen; mine = w.mine; ticket = w.ticket; draft = w.draft; duties = w.duties } in
      let now : x ≡ at_end = is ∙ (ap (λ (z : View T). without_turn z) s.same ∙ (λ i. record at_end { turn = sym idle i; checked = checked i; ready = ready i; unsettled = settled i })) in
      let p : Places v at_end added = record {
        number = refl;
        seen = prefix_trans v.seen found w.seen s.seen s.after;
        history = s.history;
        placed_is = s.placed_is;
        last = subst (λ (l : List Signed). IsPrefix (through v.number added) l) (sym s.reached_is) (through_front v.number found added);
        adds = s.adds;
        same = refl;
      } in
      subst (λ (z : View T). Spread v z found (placed_entries added)) (sym now) record {
        seen = s.seen;
        added = added;
        are = refl;
        first = s.first;
        places = p;
        grows = record {
          seen = p.seen;
          history = s.history;
          before = s.before;
          own = s.own;
          adds = s.adds;
          last = subst (λ (l : List Signed). EndsWith l v.number (placed_entries added)) (sym s.reached_is) (ends_through v.number found added);
          owes = s.owes;
          same = refl;
        };
      }

  -- a look before the first of them: what was found is what it saw
  pub looks : (v w x : View T) (found log : List Signed) → Since v w found [] → Found w log → x ≡ record w { seen = log; checked = x.checked } → Since v x log []
  looks v w x found log s f is = record {
    seen = prefix_trans v.seen found log s.seen found_log;
    first = seen_is;
    after = subst (λ (l : List Signed). IsPrefix log l) (sym seen_is) (prefix_self log);
    reached_is = seen_is;
    history = subst (λ (l : List Signed). IsHistory l) (sym seen_is) f.history;
    before = s.before;
    own = ap (λ (l : List Signed). mine v.number l) seen_is ∙ (own_log ∙ sym mine_is);
    placed_is = ap (λ (l : List Signed). placed v.number l) seen_is ∙ (placed-others v.number w.seen log w.mine f.seen own_log s.own ∙ s.placed_is);
    adds = mine_is ∙ s.adds;
    owes = ap (λ (z : View T). owed z) is ∙ s.owes;
    same = is ∙ (ap (λ (z : View T). record z { seen = log; checked = x.checked }) s.same ∙ (λ i. record v {
      turn = sym (ap (λ (z : View T). z.turn) is) i;
      checked = x.checked;
      ready = sym (ap (λ (z : View T). z.ready) is) i;
      unsettled = sym (ap (λ (z : View T). z.unsettled) is) i;
      seen = sym seen_is i;
      mine = sym mine_is i;
      ticket = sym (ap (λ (z : View T). z.ticket) is) i;
      draft = sym (ap (λ (z : View T). z.draft) is) i;
      duties = sym (ap (λ (z : View T). z.duties) is) i;
    }));
  }
    where
      seen_is : x.seen ≡ log
      seen_is = ap (λ (z : View T). z.seen) is

      mine_is : x.mine ≡ w.mine
      mine_is = ap (λ (z : View T). z.mine) is

      found_log : IsPrefix found log
      found_log = prefix_trans found w.seen log s.after f.seen

      own_log : mine v.number log ≡ w.mine
      own_log = ap (λ (n : ℕ). mine n log) (sym (ap (λ (z : View T). z.number) s.same)) ∙ f.own

  -- a call of one entry, or of none, has it right after what was found
  pub turned_one : (v w x : View T) (found : List Signed) (p : Placed) → Since v w found (p ∷ []) → x.seen ≡ w.seen → Spread v x found (p.entry ∷ []) → Turned v x found (p.entry ∷ [])
  turned_one v w x found p s same t = record { seen = s.seen; is = same ∙ (s.reached_is ∙ ap (λ (l : List Signed). l ++ signed v.number p.entry ∷ []) s.first); grows = t.grows }

  pub turned_none : (v w x : View T) (found : List Signed) → Since v w found [] → x.seen ≡ w.seen → Spread v x found [] → Turned v x found []
  turned_none v w x found s same t = record { seen = s.seen; is = same ∙ (s.reached_is ∙ sym (append-nil found)); grows = t.grows }

  -- a request begins
  pub begun_further : (v w x : View T) (serial : ℕ) (found log : List Signed) (added : List Placed) → Since v w found added → Begins w x serial log
      → Since v x (found_then found added log) (added ++ record { before = log; entry = Begin w.number serial } ∷ [])
  begun_further v w x serial found log added s b =
      subst (λ (z : View T). Since v z (found_then found added log) (added ++ record { before = log; entry = Begin w.number serial } ∷ [])) (sym b.is)
      (goes_further v w (begun w log serial) found log added (Begin w.number serial) s b.found b.history refl)
