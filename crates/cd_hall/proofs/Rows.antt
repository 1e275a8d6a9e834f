-- The passes that a hall begins with, and a board at which nothing has happened; what a pass has seen that was told more.
use Rattle.std.proofs.Common.{◌≡◌, ◌⊎◌, inl, inr, List, [], ◌∷◌, ◌++◌, refl, sym, ap, subst, ◌∙◌, ⊎_elim}
use mathlib.Core.List.{IsPrefix}
use Rattle.cd_legal.specs.declared.entry.Signed.{Signed}
use Rattle.cd_legal.specs.Legal.{state_at}
use Rattle.cd_legal.specs.Signing.{IsHistory}
use Rattle.cd_gate.specs.declared.pass.Pass.{Pass}
use Rattle.cd_gate.specs.declared.view.View.{View}
use Rattle.cd_gate.specs.Ends.{IsRowOf, AreNew}
use Rattle.cd_gate.specs.Passes.{view, IsIdleOf}
use Rattle.cd_gate.specs.Steps.{longer}
use Rattle.cd_desk.specs.Emptying.{IsEnded}
use Rattle.cd_life.specs.declared.board.Board.{Board}
use Rattle.cd_hall.specs.declared.hall.Hall.{Hall}
use Rattle.cd_hall.specs.Calls.{IsPassOf}
use Rattle.cd_hall.specs.Ends.{ArePassesOf}

pub all_passes : {A F B : Type 0} {k : _} (h : Hall A F B k) (passes : List (Pass (Board A F B k))) → IsRowOf h.gate passes → AreNew passes → ArePassesOf h passes
all_passes {A} {F} {B} {k} h passes row new i p at = record {
  idle = (row.each i p at).0;
  unchecked = new.unchecked i p at;
  history = subst (λ (l : List Signed). IsHistory l) (sym (new.each i p at).0) record { is_legal = refl; is_signed = refl };
}

-- after the empty history nothing is left
pub nothing_ended : IsEnded (state_at [])
nothing_ended = record { closed = refl; free = λ caller. refl }

heads : (x y : Signed) (xs ys : List Signed) → x ∷ xs ≡ y ∷ ys → x ≡ y
heads x y xs ys is = cc

tails : (x y : Signed) (xs ys : List Signed) → x ∷ xs ≡ y ∷ ys → xs ≡ ys
tails x y xs ys is = cc

-- of two beginnings of one history the longer is one of them
pub either_one : (xs ys zs : List Signed) → IsPrefix xs zs → IsPrefix ys zs → (longer xs ys ≡ xs) ⊎ (longer xs ys ≡ ys)
either_one [] ys zs p q = inr refl
either_one (x ∷ xs) [] zs p q = inl refl
either_one (x ∷ xs) (y ∷ ys) [] p q = absurd (let h : x ∷ (xs ++ p.0) ≡ [] = p.1 in cc)
either_one (x ∷ xs) (y ∷ ys) (z ∷ zs) p q =
    let here : x ∷ (xs ++ p.0) ≡ z ∷ zs = p.1 in
    let there : y ∷ (ys ++ q.0) ≡ z ∷ zs = q.1 in
    let back : x ≡ y = heads x z (xs ++ p.0) zs here ∙ sym (heads y z (ys ++ q.0) zs there) in
    let first : xs ++ p.0 ≡ zs = tails x z (xs ++ p.0) zs here in
    let second : ys ++ q.0 ≡ zs = tails y z (ys ++ q.0) zs there in
    ⊎_elim (λ e. inl (ap (λ (l : List Signed). x ∷ l) e)) (λ e. inr (λ i. back i ∷ e i)) (either_one xs ys zs (p.0, first) (q.0, second))

longer_history : (xs ys zs : List Signed) → IsPrefix xs zs → IsPrefix ys zs → IsHistory xs → IsHistory ys → IsHistory (longer xs ys)
longer_history xs ys zs p q a b = ⊎_elim (λ e. subst (λ (l : List Signed). IsHistory l) (sym e) a) (λ e. subst (λ (l : List Signed). IsHistory l) (sym e) b) (either_one xs ys zs p q)

-- a pass that was told what another had seen
pub told_pass : {A F B : Type 0} {k : _} (h : Hall A F B k) (to from now : Pass (Board A F B k)) → IsPassOf h to → IsPassOf h from → IsIdleOf h.gate now → view now ≡ record (view to) { seen = longer (view to).seen (view from).seen }
    → IsPrefix (view to).seen (view now).seen → IsPrefix (view from).seen (view now).seen → IsPassOf h now
told_pass {A} {F} {B} {k} h to from now a b idle is p q = record {
  idle = idle;
  unchecked = ap (λ (z : View (Board A F B k)). z.checked) is ∙ a.unchecked;
  history = subst (λ (l : List Signed). IsHistory l) (sym (ap (λ (z : View (Board A F B k)). z.seen) is)) (longer_history (view to).seen (view from).seen (view now).seen p q a.history b.history);
}

pub told_same : {T : Type 0} (v w : View T) (seen : List Signed) → w ≡ record v { seen = seen } → w ≡ record v { seen = w.seen }
told_same v w seen is = is ∙ ap (λ (l : List Signed). record v { seen = l }) (sym (ap (λ (z : View _). z.seen) is))
