-- What is known of a draft after one more is opened.
use Rattle.std.proofs.Common.{◌≡◌, ℕ, ◌+◌, ◌<◌, false, Option, Result, refl, sym, ap, ◌∙◌, arith, List, length, slice_get, subst, is_err}
use Rattle.std.proofs.lemmas.List.{length-set}
use Rattle.cd_tree.specs.declared.tree.Tree.{Tree}
use Rattle.cd_outside.specs.declared.key.Key.{Key}
use Rattle.cd_outside.specs.declared.fixtures.FixtureCall.{FixtureCall}
use Rattle.cd_legal.specs.declared.part.Part.{Part}
use Rattle.cd_legal.specs.declared.part.Part.TheVariants.{Instance, App}
use Rattle.cd_desk.specs.declared.row.Row.{Row}
use Rattle.cd_desk.specs.declared.books.Books.{Books}
use Rattle.cd_desk.specs.declared.left.Left.{Left}
use Rattle.cd_desk.specs.Books.{RowAt, HasRowAt, Changes, Opens}
use Rattle.cd_legal.specs.declared.entry.Entry.TheVariants.{Made, Started}
use Rattle.cd_desk.specs.declared.desk.Desk.{Desk}
use Rattle.cd_desk.specs.Instances.{failed_of}
use Rattle.cd_desk.specs.Desks.{AddsTo}
use Rattle.cd_desk.specs.Opening.{CanOpenOf, OpensEntry}
use Rattle.cd_desk.specs.Lefts.{Follows, IsLeft, one_made, one_started}
use Rattle.cd_legal.specs.declared.plan.Plan.{Plan}
use Rattle.cd_legal.specs.State.{part_keys}
use Rattle.cd_desk.specs.Rows.{line_at}
use Rattle.cd_desk.specs.Drafting.{HasNew}
use Rattle.cd_legal.specs.declared.state.Life.TheVariants.{Live}
use Rattle.cd_desk.proofs.Wholes.{live_whole}
use Rattle.cd_desk.proofs.Parts.{line_part, line_plan}
use Rattle.cd_desk.proofs.Openings.{length_map}
use Rattle.cd_desk.proofs.Lists.{get_set_same, same_at}
use Rattle.cd_desk.proofs.Numbers.{at_place, number_of}

-- the row that is at the place afterwards
pub now_at : (v w : Books) (d place : ℕ) (m : Changes place v w) → HasRowAt v d place → RowAt w d place m.is
now_at v w d place m at = record { number = number_of v w d place m at ∙ sym m.number; there = ap (λ z. slice_get z place) m.rows ∙ get_set_same v.rows.items place m.was m.is m.there }

-- the row that was there
pub was_at : (v w : Books) (d place other : ℕ) (r : Row) (m : Changes place v w) → HasRowAt v d place → RowAt v d other r → r ≡ m.was
was_at v w d place other r m at its = same_at v.rows.items place r m.was (at_place v d other place r its at) m.there

pub can_make : (b : Books) (t : Tree) (l : Left) → IsLeft b t l → l.made < l.modules → l.failed ≡ false → CanOpenOf Instance b l.number
can_make b t l i more unfailed =
    let f = i.follows in
    let made = f.made in
    let all = f.modules in
    record { place = i.place; row = i.row; at = i.at; live = f.live; unfailed = f.failed ∙ unfailed; ready = tt; left = omega arith; unended = f.unended.0 }

pub can_start : (b : Books) (t : Tree) (l : Left) → IsLeft b t l → l.made ≡ l.modules → l.started < l.apps → l.failed ≡ false → CanOpenOf App b l.number
can_start b t l i ready more unfailed =
    let f = i.follows in
    let started = f.started in
    let all = f.apps in
    record { place = i.place; row = i.row; at = i.at; live = f.live; unfailed = f.failed ∙ unfailed; ready = f.made ∙ (ready ∙ sym f.modules); left = omega arith; unended = f.unended.1 }

-- what is left of the draft, where its row changes
left_on : (v w : Books) (l k : Left) (place : ℕ) → HasRowAt v l.number place → (m : Changes place v w) → k.number ≡ l.number → (Follows l m.was → Follows k m.is) → (t : Tree) → IsLeft v t l → IsLeft w t k
left_on v w l k place number m same on t i =
    let was : i.row ≡ m.was = was_at v w l.number place i.place i.row m number i.at in
    let now = now_at v w l.number place m number in
    record {
      place = place;
      row = m.is;
      at = record { number = same ∙ now.number; there = now.there };
      follows = on (subst (λ z. Follows l z) was i.follows);
      tree = ap (λ z. z.value) m.tree ∙ (ap (λ z. z.tree.value) (sym was) ∙ i.tree);
    }

module _ (v w : Books) (l : Left) (place : ℕ) (before after : Option (List FixtureCall)) (result : Result (Unit {0}) Key) (number : HasRowAt v l.number place) where
  pub made_left : Opens Instance place v w before after result → (t : Tree) → IsLeft v t l → IsLeft w t (one_made l (is_err result))
  made_left o = left_on v w l (one_made l (is_err result)) place number o.changes refl (λ f. record {
    live = o.life ∙ f.live;
    failed = o.failed;
    made = o.opens.opened ∙ ap (λ (z : ℕ). z + 1) f.made;
    modules = ap length o.opens.parts ∙ (length-set o.changes.was.modules.parts.items o.changes.was.modules.opened o.opens.is ∙ f.modules);
    started = ap (λ z. z.opened) o.others ∙ f.started;
    apps = ap (λ z. length z.parts.items) o.others ∙ f.apps;
    unended = (o.opens.ended ∙ f.unended.0, ap (λ z. z.ended) o.others ∙ f.unended.1);
  })

  pub started_left : Opens App place v w before after result → (t : Tree) → IsLeft v t l → IsLeft w t (one_started l (is_err result))
  started_left o = left_on v w l (one_started l (is_err result)) place number o.changes refl (λ f. record {
    live = o.life ∙ f.live;
    failed = o.failed;
    made = ap (λ z. z.opened) o.others ∙ f.made;
    modules = ap (λ z. length z.parts.items) o.others ∙ f.modules;
    started = o.opens.opened ∙ ap (λ (z : ℕ). z + 1) f.started;
    apps = ap length o.opens.parts ∙ (length-set o.changes.was.apps.parts.items o.changes.was.apps.opened o.opens.is ∙ f.apps);
    unended = (ap (λ z. z.ended) o.others ∙ f.unended.0, o.opens.ended ∙ f.unended.1);
  })

made_place : (v w : Books) (t : Tree) (l : Left) (place : ℕ) (before after : Option (List FixtureCall)) (result : Result (Unit {0}) Key) → HasRowAt v l.number place → (o : Opens Instance place v w before after result) → IsLeft v t l → o.changes.was.modules.opened ≡ l.made
made_place v w t l place before after result number o i = ap (λ z. z.modules.opened) (sym (was_at v w l.number place i.place i.row o.changes number i.at)) ∙ i.follows.made

started_place : (v w : Books) (t : Tree) (l : Left) (place : ℕ) (before after : Option (List FixtureCall)) (result : Result (Unit {0}) Key) → HasRowAt v l.number place → (o : Opens App place v w before after result) → IsLeft v t l → o.changes.was.apps.opened ≡ l.started
started_place v w t l place before after result number o i = ap (λ z. z.apps.opened) (sym (was_at v w l.number place i.place i.row o.changes number i.at)) ∙ i.follows.started

module _ {F : Type 0} (calls : F → Option (List FixtureCall)) (v w : Desk F) (t : Tree) (l : Left) (result : Result (Unit {0}) Key) (failed : Option Key) (is : failed_of result ≡ failed) (i : IsLeft v.books t l) where
  pub made_entry : OpensEntry calls Instance v w l.number result → (taken : ℕ) × AddsTo calls v w (Made l.number l.made taken failed)
  made_entry e = (
    length e.opens.opens.takes.0,
    subst (λ (z : Option Key). AddsTo calls v w (Made l.number l.made (length e.opens.opens.takes.0) z)) is
        (subst (λ (z : ℕ). AddsTo calls v w (Made l.number z (length e.opens.opens.takes.0) (failed_of result))) (made_place v.books w.books t l e.place (calls v.fixtures) (calls w.fixtures) result e.at e.opens i) e.adds),
  )

  pub started_entry : OpensEntry calls App v w l.number result → (taken : ℕ) × AddsTo calls v w (Started l.number l.started taken failed)
  started_entry e = (
    length e.opens.opens.takes.0,
    subst (λ (z : Option Key). AddsTo calls v w (Started l.number l.started (length e.opens.opens.takes.0) z)) is
        (subst (λ (z : ℕ). AddsTo calls v w (Started l.number z (length e.opens.opens.takes.0) (failed_of result))) (started_place v.books w.books t l e.place (calls v.fixtures) (calls w.fixtures) result e.at e.opens i) e.adds),
  )

line_length : (p : Part) (r : Row) (plan : Plan) → r.life ≡ Live → r.plan.value ≡ plan → length (line_at p r).parts.items ≡ length (part_keys p plan)
line_length p r plan live e = sym (live_whole p r live) ∙ (ap (λ z. length (part_keys z (line_at p r).plan.value)) (line_part p r) ∙ ap (λ z. length (part_keys p z)) (line_plan p r ∙ e))

-- a new draft, of which all is left
pub new_is : (b : Books) (d : ℕ) (t : Tree) (p : Plan) (l : Left) → HasNew b d t p → l ≡ record { number = d; made = 0; modules = length p.modules; started = 0; apps = length p.apps; failed = false } → IsLeft b t l
new_is b d t p l h e = subst (λ z. IsLeft b t z) (sym e) (record {
  place = h.place;
  row = h.row;
  at = h.at;
  follows = record {
    live = h.unused.life;
    failed = h.unused.failed;
    made = h.modules.0;
    modules = line_length Instance h.row p h.unused.life h.plan ∙ length_map (λ m. m.keys) p.modules;
    started = h.apps.0;
    apps = line_length App h.row p h.unused.life h.plan ∙ length_map (λ m. m.keys) p.apps;
    unended = (h.modules.1, h.apps.1);
  };
  tree = h.tree;
})
