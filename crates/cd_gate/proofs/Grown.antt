-- What calls tell, as entries and as places.
use Rattle.std.proofs.Common.{◌≡◌, ℕ, ◌==◌, Bool, true, false, cond, List, [], ◌∷◌, ◌++◌, refl, sym, ap, ◌∙◌, subst}
use Rattle.std.proofs.lemmas.Bool.{eqb-true}
use Rattle.std.proofs.lemmas.List.{append-nil, append_assoc, append_cancel_left, map-append}
use mathlib.Core.List.{IsPrefix}
use Rattle.cd_legal.specs.declared.entry.Entry.{Entry}
use Rattle.cd_legal.specs.declared.entry.Signed.{Signed}
use Rattle.cd_legal.specs.Entry.{signed, mine, entries}
use Rattle.cd_legal.specs.Placed.{Placed, placed_from, placed, placed_entries, through}
use Rattle.cd_legal.proofs.Logs.{prefix_trans, entries-append}
use Rattle.cd_legal.proofs.Placed.{placed-append, placed-entries}
use Rattle.cd_gate.specs.declared.view.View.{View}
use Rattle.cd_gate.specs.Growing.{all_signed, Grows, Places}

entries_all : (k : ℕ) (es : List Entry) → entries (all_signed k es) ≡ es
entries_all k [] = refl
entries_all k (e ∷ es) = ap (λ (l : List Entry). e ∷ l) (entries_all k es)

pub all-append : (k : ℕ) (xs ys : List Entry) → all_signed k (xs ++ ys) ≡ all_signed k xs ++ all_signed k ys
all-append k [] ys = refl
all-append k (x ∷ xs) ys = ap (λ (l : List Signed). signed k x ∷ l) (all-append k xs ys)

-- ---- places

-- the history up to and with one entry more
step_through : (k : ℕ) (p : Placed) (rest : List Placed) (whole : List Signed) → IsPrefix (p.before ++ signed k p.entry ∷ []) whole → IsPrefix (through k rest) whole → IsPrefix (through k (p ∷ rest)) whole
step_through k p [] whole one more = one
step_through k p (q ∷ rest) whole one more = more

picked : (k : ℕ) (b : Bool) (before : List Signed) (x : Signed) (rest : List Placed) (whole : List Signed) → (b ≡ true → x.by ≡ k) → IsPrefix (before ++ x ∷ []) whole → IsPrefix (through k rest) whole
    → IsPrefix (through k (cond b (record { before = before; entry = x.entry } ∷ rest) rest)) whole
picked k true before x rest whole own one more =
    step_through k (record { before = before; entry = x.entry }) rest whole
    (subst (λ (n : ℕ). IsPrefix (before ++ signed n x.entry ∷ []) whole) (own refl) one) more
picked k false before x rest whole own one more = more

-- it begins the whole
through_front : (k : ℕ) (before xs : List Signed) → IsPrefix (through k (placed_from k before xs)) (before ++ xs)
through_front k before [] = (before ++ [], refl)
through_front k before (x ∷ xs) =
    let assoc = append_assoc before (x ∷ []) xs in
    picked k (x.by == k) before x (placed_from k (before ++ x ∷ []) xs) (before ++ x ∷ xs) (eqb-true x.by k) (xs, assoc)
    (subst (λ (l : List Signed). IsPrefix (through k (placed_from k (before ++ x ∷ []) xs)) l) assoc (through_front k (before ++ x ∷ []) xs))

-- the last of all is the last of the last
through_last : (k : ℕ) (own : List Placed) (q : Placed) (more : List Placed) → through k (own ++ q ∷ more) ≡ through k (q ∷ more)
through_last k [] q more = refl
through_last k (p ∷ []) q more = refl
through_last k (p ∷ r ∷ own) q more = through_last k (r ∷ own) q more

pub through_both : (k : ℕ) (own more : List Placed) (front whole : List Signed) → IsPrefix (through k own) front → IsPrefix front whole → IsPrefix (through k more) whole → IsPrefix (through k (own ++ more)) whole
through_both k own [] front whole one goes two = subst (λ (l : List Placed). IsPrefix (through k l) whole) (sym (append-nil own)) (prefix_trans (through k own) front whole one goes)
through_both k own (q ∷ more) front whole one goes two = subst (λ (l : List Signed). IsPrefix l whole) (sym (through_last k own q more)) two

module _ {T : Type 0} where
  -- the entries of a call, each where it stands
  pub grown : (v w : View T) (es : List Entry) → Grows v w es → (added : List Placed) × Places v w added × (placed_entries added ≡ es)
  grown v w es g =
      let k = v.number in
      let more : List Signed = g.seen.0 in
      let whole : v.seen ++ more ≡ w.seen = g.seen.1 in
      let added : List Placed = placed_from k v.seen more in
      let all : List Signed = all_signed k es in
      let placed_is : placed k w.seen ≡ placed k v.seen ++ added = ap (λ (l : List Signed). placed k l) (sym whole) ∙ placed-append k v.seen more in
      let there : placed_entries (placed k v.seen) ++ placed_entries added ≡ entries (mine k w.seen) =
      sym (map-append (λ (p : Placed). p.entry) (placed k v.seen) added) ∙ (ap placed_entries (sym placed_is) ∙ placed-entries k w.seen) in
      let said : entries (mine k w.seen) ≡ placed_entries (placed k v.seen) ++ es =
      ap entries (g.own ∙ g.adds)
      ∙ (entries-append v.mine all
      ∙ (ap (λ (l : List Entry). l ++ entries all) (ap entries (sym g.before) ∙ sym (placed-entries k v.seen))
      ∙ ap (λ (l : List Entry). placed_entries (placed k v.seen) ++ l) (entries_all k es))) in
      let are : placed_entries added ≡ es = append_cancel_left (placed_entries (placed k v.seen)) (placed_entries added) es (there ∙ said) in (
        added,
        record {
          number = ap (λ (z : View T). z.number) g.same;
          seen = g.seen;
          history = g.history;
          placed_is = placed_is;
          last = subst (λ (l : List Signed). IsPrefix (through k added) l) whole (through_front k v.seen more);
          adds = g.adds ∙ ap (λ (l : List Entry). v.mine ++ all_signed k l) (sym are);
          same = g.same;
        },
        are,
      )

  -- the places of two calls, one after the other
  pub places_both : (v w x : View T) (one two : List Placed) → Places v w one → Places w x two → Places v x (one ++ two)
  places_both v w x one two a b =
      let k = v.number in
      let second : placed k x.seen ≡ placed k w.seen ++ two = subst (λ (n : ℕ). placed n x.seen ≡ placed n w.seen ++ two) a.number b.placed_is in
      let behind : IsPrefix (through k two) x.seen = subst (λ (n : ℕ). IsPrefix (through n two) x.seen) a.number b.last in
      record {
        number = b.number ∙ a.number;
        seen = prefix_trans v.seen w.seen x.seen a.seen b.seen;
        history = b.history;
        placed_is = second ∙ (ap (λ (l : List Placed). l ++ two) a.placed_is ∙ append_assoc (placed k v.seen) one two);
        last = through_both k one two w.seen x.seen a.last b.seen behind;
        adds = subst (λ (n : ℕ). x.mine ≡ w.mine ++ all_signed n (placed_entries two)) a.number b.adds
            ∙ ap (λ (l : List Signed). l ++ all_signed k (placed_entries two)) a.adds
            ∙ append_assoc v.mine (all_signed k (placed_entries one)) (all_signed k (placed_entries two))
            ∙ ap (λ (l : List Signed). v.mine ++ l) (sym (all-append k (placed_entries one) (placed_entries two)))
            ∙ ap (λ (l : List Entry). v.mine ++ all_signed k l) (sym (map-append (λ (p : Placed). p.entry) one two));
        same = b.same ∙ ap (λ (z : View T). record z { seen = x.seen; mine = x.mine; ticket = x.ticket; draft = x.draft; duties = x.duties }) a.same;
      }
