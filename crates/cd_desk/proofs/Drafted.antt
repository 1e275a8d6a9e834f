-- What a desk stands for after a draft is made.
use Rattle.std.proofs.Common.{◌≡◌, ◌≢◌, ℕ, ◌+◌, ◌<◌, ◌++◌, ◌∷◌, [], List, true, false, length, length-append, refl, sym, ap, ◌∙◌, arith, None, Option, subst, slice_get, ⊎_elim}
use Rattle.std.proofs.lemmas.Bool.Decides.{eqb_tells}
use Rattle.cd_tree.specs.declared.tree.Tree.{Tree}
use Rattle.cd_outside.specs.declared.fixtures.FixtureCall.{FixtureCall}
use Rattle.cd_outside.specs.FixtureCall.{CallsGrow}
use Rattle.cd_pool.specs.Pairs.{pairs}
use Rattle.cd_legal.specs.declared.limits.TheConstants.{MAX_DRAFTS}
use Rattle.cd_legal.specs.declared.plan.Plan.{Plan}
use Rattle.cd_legal.specs.declared.entry.Entry.TheVariants.{Draft}
use Rattle.cd_legal.specs.declared.state.Drafted.{Drafted}
use Rattle.cd_legal.specs.State.{new_draft}
use Rattle.cd_legal.specs.declared.state.State.{State}
use Rattle.cd_legal.specs.Legal.{allowed, state_at}
use Rattle.cd_legal.specs.Calls.{entry_calls}
use Rattle.cd_legal.specs.Whole.{is_closed_in}
use Rattle.cd_legal.proofs.Facts.{allowed-by}
use Rattle.cd_desk.specs.declared.row.Row.{Row}
use Rattle.cd_desk.specs.declared.books.Books.{Books}
use Rattle.cd_desk.specs.declared.desk.Desk.{Desk}
use Rattle.cd_desk.specs.Rows.{Shows, ShowsAt, row_with}
use Rattle.cd_desk.specs.Desks.{Keeps}
use Rattle.cd_desk.specs.Drafting.{IsUnused, drafts_in}
use Rattle.cd_desk.proofs.Numbers.{with_none_after, with_push_other, with_push_same}
use Rattle.cd_desk.proofs.Lists.{some_none}
use Rattle.cd_desk.proofs.Standing.{Steps, rows_added, closed_stays, plain_calls, with_books}
use Rattle.cd_desk.proofs.Ticketing.{no_calls}

-- the row of a new draft shows it
pub shows_new : (retired : List ℕ) (r : Row) (t : Tree) (p : Plan) → r.tree.value ≡ t → r.plan.value ≡ p → IsUnused r → (r.modules.opened ≡ 0) × (r.modules.ended ≡ 0) → (r.apps.opened ≡ 0) × (r.apps.ended ≡ 0) → Shows retired r (new_draft t p)
shows_new retired r t p tree plan unused modules apps = record {
  tree = sym tree;
  plan = sym plan;
  made = sym modules.0;
  started = sym apps.0;
  failed = sym unused.failed;
  life = sym unused.life;
  stopped = sym apps.1;
  cleaned = sym modules.1;
  over = sym unused.retired;
}

module _ {F : Type 0} (calls : F → Option (List FixtureCall)) where
  pub drafts : (v : Desk F) (books : Books) (row : Row) (tree : Tree) (plan : Plan) (d : ℕ) → d ≡ drafts_in v.books → d < MAX_DRAFTS → row.number ≡ v.books.next → books.next ≡ v.books.next + 1 → books.rows.items ≡ v.books.rows.items ++ row ∷ [] → books.pool.held ≡ v.books.pool.held
      → ((retired : List ℕ) → Shows retired row (new_draft tree plan)) → Steps calls v (record v { books = books }) (Draft d tree plan)
  drafts v books row tree plan d next bound number more rows held shows opening s told count known a =
      let x : Drafted = new_draft tree plan in
      let may : allowed s (Draft d tree plan) ≡ true = allowed-by s (Draft d tree plan) (record { next = next ∙ sym a.drafts; below = bound }) in
      let longer : length (s.drafts ++ x ∷ []) ≡ length s.drafts + 1 = length-append s.drafts (x ∷ []) in
      let were : length s.drafts ≡ v.books.next = a.drafts in
      let unknown : row_with row.number v.books.rows.items ≡ None = with_none_after row.number 0 v.books.rows.items v.books.next (omega (arith, number)) v.books.numbers in (
        may,
        with_books calls opening v s told count a books (s.drafts ++ x ∷ []) (told ++ entry_calls s (Draft d tree plan)) (omega (arith, longer, more, were))
            (λ j. subst (λ z. ShowsAt s.retired (row_with j z) (slice_get (s.drafts ++ x ∷ []) j)) (sym rows) (rows_added s.retired v.books.rows.items s.drafts v.books.next row x v.books.numbers number were (shows s.retired) a.rows j))
            (λ j lt none. closed_stays s (Draft d tree plan) j may (old j lt unknown (subst (λ z. row_with j z ≡ None) rows none)))
            (a.pairs ∙ ap pairs (sym held))
            (subst (λ z. CallsGrow (calls opening.fixtures) z (calls v.fixtures)) (no_calls told (entry_calls s (Draft d tree plan)) (plain_calls s (Draft d tree plan) may known.steady refl)) a.told_on),
      )
    where
      -- one without a row had none
      old : (j : ℕ) → j < books.next → row_with row.number v.books.rows.items ≡ None → row_with j (v.books.rows.items ++ row ∷ []) ≡ None → is_closed_in s j ≡ true
      old j lt unknown none = ⊎_elim
          (λ q. absurd (let f : false ≡ true = some_none row (sym (with_push_same v.books.rows.items row unknown) ∙ (ap (λ (z : ℕ). row_with z (v.books.rows.items ++ row ∷ [])) (sym q.1) ∙ none)) in cc))
          (λ q. a.closed j (below j lt q.1) (sym (with_push_other j v.books.rows.items row q.1) ∙ none))
          (eqb_tells j row.number)
        where
          below : (j : ℕ) → j < books.next → j ≢ row.number → j < v.books.next
          below j lt ne = grind (arith, lt, more, number)

  -- other books with the same rows and pairs
  pub keeps : (v : Desk F) (books : Books) → books.next ≡ v.books.next → books.rows.items ≡ v.books.rows.items → books.pool.held ≡ v.books.pool.held → Keeps calls v (record v { books = books })
  keeps v books next rows held opening log h =
      let a = h.agrees in
      let s : State = state_at log in record {
        is_legal = h.is_legal;
        agrees = with_books calls opening v s _ _ a books s.drafts _ (a.drafts ∙ sym next) (λ j. subst (λ z. ShowsAt s.retired (row_with j z) (slice_get s.drafts j)) (sym rows) (a.rows j))
            (λ j lt none. a.closed j (subst (λ z. j < z) next lt) (subst (λ z. row_with j z ≡ None) rows none)) (a.pairs ∙ ap pairs (sym held)) a.told_on;
      }
