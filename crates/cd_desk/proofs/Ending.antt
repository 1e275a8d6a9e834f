-- What a desk stands for after a draft is published, or given up.
use Rattle.std.proofs.Common.{◌≡◌, ℕ, ◌+◌, ◌<◌, ◌++◌, Bool, true, false, List, length, refl, sym, ap, ◌∙◌, arith, Some, None, Option, slice_get, subst}
use Rattle.cd_outside.specs.declared.fixtures.FixtureCall.{FixtureCall}
use Rattle.cd_outside.specs.FixtureCall.{CallsGrow}
use Rattle.cd_pool.specs.Pairs.{pairs}
use Rattle.cd_legal.specs.declared.part.Part.{Part}
use Rattle.cd_legal.specs.declared.part.Part.TheVariants.{Instance, App}
use Rattle.cd_legal.specs.declared.plan.Plan.{Plan}
use Rattle.cd_legal.specs.declared.entry.Entry.TheVariants.{Abandon, Publish}
use Rattle.cd_legal.specs.declared.entry.Change.{Change}
use Rattle.cd_legal.specs.declared.state.Drafted.{Drafted}
use Rattle.cd_legal.specs.declared.state.Life.{Life}
use Rattle.cd_legal.specs.declared.state.Life.TheVariants.{Live, Published, Abandoned}
use Rattle.cd_legal.specs.State.{holds, has_number, is_live, change_at, part_keys}
use Rattle.cd_legal.specs.Legal.{allowed, is_complete}
use Rattle.cd_legal.specs.Calls.{entry_calls}
use Rattle.cd_legal.proofs.Places.{length_change}
use Rattle.cd_legal.proofs.Facts.{is_complete-by, allowed-by}
use Rattle.cd_desk.specs.declared.row.Row.{Row}
use Rattle.cd_desk.specs.declared.books.Books.{Books}
use Rattle.cd_desk.specs.declared.desk.Desk.{Desk}
use Rattle.cd_desk.specs.Rows.{Shows, ShowsAt, line_at, is_retired, row_with}
use Rattle.cd_desk.specs.Books.{HasRowAt, Lives}
use Rattle.cd_desk.specs.Publishing.{IsComplete, CanPublish, CanAbandon}
use Rattle.cd_desk.proofs.Lists.{same_at}
use Rattle.cd_desk.proofs.Numbers.{at_place, number_of, none_before}
use Rattle.cd_desk.proofs.Standing.{Steps, Shown, shown_at, rows_after, closed_stays, plain_calls, with_books}
use Rattle.cd_desk.proofs.Openings.{none_is, length_map}
use Rattle.cd_desk.proofs.Parts.{line_part, line_plan}
use Rattle.cd_desk.proofs.Ticketing.{no_calls}
use Rattle.cd_desk.proofs.Wholes.{live_whole}

-- the row of a draft with another life
lives_shows : (retired : List ℕ) (now : Life) (place : ℕ) (v w : Books) (x : Drafted) (m : Lives now place v w) → Shows retired m.changes.was x → is_retired retired now ≡ m.changes.was.retired → Shows retired m.changes.is (record x { life = now })
lives_shows retired now place v w x m sh over = record {
  tree = sh.tree ∙ ap (λ z. z.value) (sym m.changes.tree);
  plan = sh.plan ∙ ap (λ z. z.value) (sym m.changes.plan);
  made = sh.made ∙ ap (λ z. z.opened) (sym m.modules);
  started = sh.started ∙ ap (λ z. z.opened) (sym m.apps);
  failed = sh.failed ∙ sym m.failed;
  life = sym m.life;
  stopped = sh.stopped ∙ ap (λ z. z.ended) (sym m.apps);
  cleaned = sh.cleaned ∙ ap (λ z. z.ended) (sym m.modules);
  over = over ∙ sym m.retired;
}

pub many : (p : Part) (retired : List ℕ) (r : Row) (x : Drafted) → r.life ≡ Live → Shows retired r x → length (part_keys p x.plan) ≡ length (line_at p r).parts.items
many p retired r x live sh = ap (λ (z : Plan). length (part_keys p z)) (sh.plan ∙ sym (line_plan p r)) ∙ (ap (λ z. length (part_keys z (line_at p r).plan.value)) (sym (line_part p r)) ∙ live_whole p r live)

not_there : (b : Bool) → (b ≡ true → ⊥) → b ≡ false
not_there true never = absurd (never refl)
not_there false never = refl

live_unretired : (retired : List ℕ) (r : Row) (x : Drafted) → Shows retired r x → r.life ≡ Live → r.retired ≡ false
live_unretired retired r x sh live = sym sh.over ∙ ap (is_retired retired) (sh.life ∙ live)

module _ {F : Type 0} (calls : F → Option (List FixtureCall)) where
  pub publishes : (v : Desk F) (books : Books) (d place : ℕ) (change : Change) (can : CanPublish v d) → HasRowAt v.books d place → (m : Lives (Published (v.serial + 1)) place v.books books)
      → Steps calls v (record v { books = books; serial = v.serial + 1; begun = 0 }) (Publish d (v.serial + 1) v.serial change)
  publishes v books d place change can at m opening s told count known a =
      let r : Row = m.changes.was in
      let n : ℕ = v.serial + 1 in
      let number : d ≡ r.number = number_of v.books books d place m.changes at in
      let row_is : can.row ≡ r = same_at v.books.rows.items place can.row r (at_place v.books d can.place place can.row can.at at) m.changes.there in
      let sh : Shown s.retired r (slice_get s.drafts d) = shown_at calls opening v s told count a d place r number m.changes.there in
      let x : Drafted = sh.draft in
      let there : slice_get s.drafts d ≡ Some x = sh.is in
      let whole : IsComplete r = subst (λ z. IsComplete z) row_is can.complete in
      let passes : is_complete x ≡ true = is_complete-by x (record {
        opened = record { live = sh.shows.life ∙ whole.live; unfailed = none_is x.failed (sh.shows.failed ∙ whole.unfailed) };
        made = sh.shows.made ∙ (whole.made ∙ (sym (many Instance s.retired r x whole.live sh.shows) ∙ length_map (λ m. m.keys) x.plan.modules));
        started = sh.shows.started ∙ (whole.started ∙ (sym (many App s.retired r x whole.live sh.shows) ∙ length_map (λ m. m.keys) x.plan.apps));
      }) in
      let may : allowed s (Publish d n v.serial change) ≡ true = allowed-by s (Publish d n v.serial change) (record { running = a.halted ∙ can.running; complete = ap (holds is_complete) there ∙ passes; current = sym a.serial; next = refl }) in
      let f : Drafted → Drafted = λ y. record y { life = Published n } in
      let serial : s.serial ≡ v.serial = a.serial in
      let fresh : has_number n s.retired ≡ false = not_there (has_number n s.retired) (λ has. let below = a.retired n has in omega arith) in
      let over : is_retired s.retired (Published n) ≡ r.retired = fresh ∙ sym (live_unretired s.retired r x sh.shows whole.live) in (
        may,
        record {
          serial = refl;
          halted = a.halted;
          begun = refl;
          drafts = length_change f s.drafts d ∙ (a.drafts ∙ sym m.changes.next);
          rows = λ j. subst (λ z. ShowsAt s.retired (row_with j z) (slice_get (change_at f d s.drafts) j)) (sym m.changes.rows)
              (rows_after s.retired v.books.rows.items s.drafts f d v.books.next place r m.changes.is x v.books.numbers m.changes.there m.changes.number number sh.is (lives_shows s.retired (Published n) place v.books books x m sh.shows over) a.rows j);
          closed = λ j lt none. closed_stays s (Publish d n v.serial change) j may
              (a.closed j (subst (λ z. j < z) m.changes.next lt) (none_before j 0 v.books.rows.items v.books.next place r m.changes.is v.books.numbers m.changes.there m.changes.number (subst (λ z. row_with j z ≡ None) m.changes.rows none)));
          retired = λ k has. (let below = a.retired k has in omega arith);
          opening_retired = a.opening_retired;
          pairs = a.pairs ∙ ap (λ z. pairs z.held) (sym m.pool);
          tickets = a.tickets;
          at_serial = a.at_serial;
          callers = a.callers;
          told_on = subst (λ z. CallsGrow (calls opening.fixtures) z (calls v.fixtures)) (no_calls told (entry_calls s (Publish d n v.serial change)) (plain_calls s (Publish d n v.serial change) may known.steady refl)) a.told_on;
        },
      )

  pub abandons : (v : Desk F) (books : Books) (d place : ℕ) (can : CanAbandon v.books d) → HasRowAt v.books d place → (m : Lives Abandoned place v.books books) → Steps calls v (record v { books = books }) (Abandon d)
  abandons v books d place can at m opening s told count known a =
      let r : Row = m.changes.was in
      let number : d ≡ r.number = number_of v.books books d place m.changes at in
      let row_is : can.row ≡ r = same_at v.books.rows.items place can.row r (at_place v.books d can.place place can.row can.at at) m.changes.there in
      let live : r.life ≡ Live = ap (λ z. z.life) (sym row_is) ∙ can.live in
      let sh : Shown s.retired r (slice_get s.drafts d) = shown_at calls opening v s told count a d place r number m.changes.there in
      let x : Drafted = sh.draft in
      let there : slice_get s.drafts d ≡ Some x = sh.is in
      let may : allowed s (Abandon d) ≡ true = ap (holds (λ x. is_live x.life)) there ∙ ap is_live (sh.shows.life ∙ live) in
      let f : Drafted → Drafted = λ y. record y { life = Abandoned } in
      let over : is_retired s.retired Abandoned ≡ r.retired = sym (live_unretired s.retired r x sh.shows live) in (
        may,
        with_books calls opening v s told count a books (change_at f d s.drafts) (told ++ entry_calls s (Abandon d)) (length_change f s.drafts d ∙ (a.drafts ∙ sym m.changes.next))
            (λ j. subst (λ z. ShowsAt s.retired (row_with j z) (slice_get (change_at f d s.drafts) j)) (sym m.changes.rows)
            (rows_after s.retired v.books.rows.items s.drafts f d v.books.next place r m.changes.is x v.books.numbers m.changes.there m.changes.number number sh.is (lives_shows s.retired Abandoned place v.books books x m sh.shows over) a.rows j))
            (λ j lt none. closed_stays s (Abandon d) j may
            (a.closed j (subst (λ z. j < z) m.changes.next lt) (none_before j 0 v.books.rows.items v.books.next place r m.changes.is v.books.numbers m.changes.there m.changes.number (subst (λ z. row_with j z ≡ None) m.changes.rows none))))
            (a.pairs ∙ ap (λ z. pairs z.held) (sym m.pool))
            (subst (λ z. CallsGrow (calls opening.fixtures) z (calls v.fixtures)) (no_calls told (entry_calls s (Abandon d)) (plain_calls s (Abandon d) may known.steady refl)) a.told_on),
      )
