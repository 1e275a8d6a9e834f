-- What is left of a draft that is given up.
use Rattle.std.proofs.Common.{◌≡◌, ℕ, ◌||◌, true, Bool, refl, ap, ◌∙◌, arith, subst, None}
use Rattle.cd_tree.specs.declared.tree.Tree.{Tree}
use Rattle.cd_legal.specs.declared.state.Life.{Life}
use Rattle.cd_legal.specs.declared.state.Life.TheVariants.{Abandoned}
use Rattle.cd_legal.specs.Abandoned.{is_abandoned}
use Rattle.cd_desk.specs.declared.books.Books.{Books}
use Rattle.cd_desk.specs.declared.left.Left.{Left}
use Rattle.cd_desk.specs.Books.{HasRowAt, Lives}
use Rattle.cd_desk.specs.Publishing.{CanAbandon}
use Rattle.cd_desk.specs.Lefts.{IsLeft, Follows}
use Rattle.cd_desk.specs.Closings.{IsRest, MayClean, may_clean_row}
use Rattle.cd_desk.proofs.Counts.{now_at, was_at}
use Rattle.cd_desk.proofs.Numbers.{row_same}

pub can_abandon : (b : Books) (t : Tree) (l : Left) → IsLeft b t l → CanAbandon b l.number
can_abandon b t l i = record { place = i.place; row = i.row; at = i.at; live = i.follows.live }

module _ (v w : Books) (t : Tree) (l : Left) (place : ℕ) (number : HasRowAt v l.number place) (m : Lives Abandoned place v w) (i : IsLeft v t l) where
  same : i.row ≡ m.changes.was
  same = was_at v w l.number place i.place i.row m.changes number i.at

  pub abandoned_rest : IsRest w (record { number = l.number; serial = None; apps = l.started; instances = l.made })
  abandoned_rest =
      let f : Follows l m.changes.was = subst (λ z. Follows l z) same i.follows in
      let app_none = f.unended.1 in
      let none = f.unended.0 in
      let apps_is = ap (λ z. z.ended) m.apps in
      let modules_is = ap (λ z. z.ended) m.modules in
      let apps_were = ap (λ z. z.opened) m.apps in
      let modules_were = ap (λ z. z.opened) m.modules in
      let started = f.started in
      let made = f.made in
      record {
        place = place;
        row = m.changes.is;
        at = now_at v w l.number place m.changes number;
        life = m.life;
        apps = omega (arith, app_none, apps_is, apps_were, started);
        instances = omega (arith, none, modules_is, modules_were, made);
      }

or_true : (b : Bool) → (true || b) ≡ true
or_true b = refl

pub abandoned_may : (v w : Books) (d place : ℕ) → HasRowAt v d place → (m : Lives Abandoned place v w) → MayClean w d
abandoned_may v w d place number m other r at =
    let same : r ≡ m.changes.is = row_same w d other place r m.changes.is at (now_at v w d place m.changes number) in
    ap may_clean_row same ∙ ap (λ (z : Life). is_abandoned z || m.changes.is.retired) m.life
