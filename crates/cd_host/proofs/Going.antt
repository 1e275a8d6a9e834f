-- What several calls have signed, one after another, and what is known of it where nobody else has signed anything.
use Rattle.std.proofs.Common.{◌≡◌, ℕ, ◌==◌, Bool, true, false, cond, List, [], ◌∷◌, ◌++◌, length, drop, arith, refl, ap, sym, ◌∙◌, subst}
use Rattle.std.proofs.lemmas.Bool.{eqb-true}
use Rattle.std.proofs.lemmas.List.{append-nil, append_cancel_left, map-append}
use mathlib.Core.List.{IsPrefix}
use Rattle.cd_legal.specs.declared.entry.Entry.{Entry}
use Rattle.cd_legal.specs.declared.entry.Signed.{Signed}
use Rattle.cd_legal.specs.Entry.{signed, entries, mine}
use Rattle.cd_legal.specs.Placed.{Placed, placed, placed_entries}
use Rattle.cd_legal.specs.Signing.{IsHistory}
use Rattle.cd_legal.proofs.Logs.{mine-append, entries-append}
use Rattle.cd_legal.proofs.Placed.{placed-entries}
use Rattle.cd_gate.specs.declared.view.View.{View}
use Rattle.cd_gate.specs.Growing.{all_signed}
use Rattle.cd_gate.proofs.Grown.{places_both}
use Rattle.cd_host.specs.Parts.{IsAlone}
use Rattle.cd_host.specs.OwnPass.{HasSigned}
use Rattle.cd_host.proofs.Signing.{none-left, none-right, own-alone, mine-length}

pub alone-front : (front log : List Signed) → IsPrefix front log → IsAlone log → IsAlone front
alone-front front log p alone = λ k pos. none-left (mine k front) (mine k p.0) (sym (mine-append k front p.0) ∙ ap (mine k) p.1 ∙ alone k pos)

-- a list that one pass has signed is told by its entries
by-entries : (k : ℕ) (log : List Signed) → mine k log ≡ log → log ≡ all_signed k (entries log)
by-entries k [] own = refl
by-entries k (x ∷ xs) own = here (x.by == k) (by-entries k xs) refl own
  where
    here : (b : Bool) → (mine k xs ≡ xs → xs ≡ all_signed k (entries xs)) → (x.by == k) ≡ b → cond b (x ∷ mine k xs) (mine k xs) ≡ x ∷ xs → x ∷ xs ≡ all_signed k (entries (x ∷ xs))
    here true later is own =
        let rest : mine k xs ≡ xs = ap (drop 1) own in
        ap (λ (n : ℕ). signed n x.entry ∷ xs) (eqb-true x.by k is) ∙ ap (λ (l : List Signed). signed k x.entry ∷ l) (later rest)
    here false later is own = let low = mine-length k xs in let all = ap length own in absurd (omega arith)

module _ {T : Type 0} where
  pub signs-none : (v : View T) → IsHistory v.seen → HasSigned v v []
  signs-none v history = (
    [],
    record { number = refl; seen = ([], append-nil v.seen); history = history; placed_is = sym (append-nil (placed v.number v.seen)); last = (v.seen, refl); adds = sym (append-nil v.mine); same = refl },
    refl,
  )

  pub signs-both : (v w x : View T) (one two : List Entry) → HasSigned v w one → HasSigned w x two → HasSigned v x (one ++ two)
  signs-both v w x one two a b = (
    a.0 ++ b.0,
    places_both v w x a.0 b.0 a.1 b.1,
    map-append (λ (p : Placed). p.entry) a.0 b.0 ∙ ap (λ (es : List Entry). es ++ placed_entries b.0) a.2 ∙ ap (λ (es : List Entry). one ++ es) b.2,
  )

  pub number-stays : (v w : View T) (made : List Entry) → HasSigned v w made → v.number ≡ 0 → w.number ≡ 0
  number-stays v w made s number = s.1.number ∙ number

  -- where nobody else has signed anything, what it has seen has grown by just these
  pub seen-alone : (v w : View T) (made : List Entry) → HasSigned v w made → v.number ≡ 0 → IsAlone w.seen → w.seen ≡ v.seen ++ all_signed 0 made
  seen-alone v w made s number alone =
      let more : List Signed = s.1.seen.0 in
      let whole : v.seen ++ more ≡ w.seen = s.1.seen.1 in
      let rest_alone : IsAlone more = λ k pos. none-right (mine k v.seen) (mine k more) (sym (mine-append k v.seen more) ∙ ap (mine k) whole ∙ alone k pos) in
      let front_alone : IsAlone v.seen = alone-front v.seen w.seen s.1.seen alone in
      let placed_zero : placed 0 w.seen ≡ placed 0 v.seen ++ s.0 = subst (λ (n : ℕ). placed n w.seen ≡ placed n v.seen ++ s.0) number s.1.placed_is in
      let said : entries w.seen ≡ entries v.seen ++ made =
      ap entries (sym (own-alone w.seen alone)) ∙ sym (placed-entries 0 w.seen) ∙ ap placed_entries placed_zero
      ∙ map-append (λ (p : Placed). p.entry) (placed 0 v.seen) s.0
      ∙ ap (λ (es : List Entry). es ++ placed_entries s.0) (placed-entries 0 v.seen ∙ ap entries (own-alone v.seen front_alone))
      ∙ ap (λ (es : List Entry). entries v.seen ++ es) s.2 in
      let there : entries w.seen ≡ entries v.seen ++ entries more = ap entries (sym whole) ∙ entries-append v.seen more in
      let is : entries more ≡ made = append_cancel_left (entries v.seen) (entries more) made (sym there ∙ said) in
      sym whole ∙ ap (λ (l : List Signed). v.seen ++ l) (by-entries 0 more (own-alone more rest_alone) ∙ ap (all_signed 0) is)
