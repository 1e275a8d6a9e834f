-- What a desk has of what a history leaves for which it stands.
use Rattle.std.proofs.Common.{◌≡◌, ℕ, zero, suc, ◌<◌, Bool, true, false, List, [], ◌∷◌, length, refl, sym, ap, ◌∙◌, arith, Some, None, Option, slice_get, is_some, ◌&&◌, subst}
use Rattle.std.proofs.lemmas.Option.{slice_get_within}
use Rattle.cd_outside.specs.declared.fixtures.FixtureCall.{FixtureCall}
use Rattle.cd_tree.specs.declared.tree.Tree.{Tree}
use Rattle.cd_legal.specs.declared.part.Part.TheVariants.{Instance, App}
use Rattle.cd_legal.specs.declared.entry.Signed.{Signed}
use Rattle.cd_legal.specs.declared.state.State.{State}
use Rattle.cd_legal.specs.declared.state.Drafted.{Drafted}
use Rattle.cd_legal.specs.declared.state.Life.TheVariants.{Live}
use Rattle.cd_legal.specs.Entry.{entries}
use Rattle.cd_legal.specs.State.{has_ticket, opening_state, holds, is_live, may_clean_instances}
use Rattle.cd_legal.specs.Legal.{state_at}
use Rattle.cd_legal.specs.Whole.{is_closed}
use Rattle.cd_legal.proofs.Histories.{first}
use Rattle.cd_legal.proofs.Sound.{is_sound, bound_of, sound_from, sound_at, live_whole}
use Rattle.cd_legal.proofs.Callers.{has-ticket_of}
use Rattle.cd_legal.proofs.Serials.{legal-agree}
use Rattle.cd_desk.specs.declared.row.Row.{Row}
use Rattle.cd_desk.specs.declared.desk.Desk.{Desk}
use Rattle.cd_desk.specs.declared.left.Left.{Left}
use Rattle.cd_desk.specs.Rows.{Shows, ShowsAt, row_with}
use Rattle.cd_desk.specs.Books.{RowAt}
use Rattle.cd_desk.specs.Desks.{Holds, HasTicket, told_ticket}
use Rattle.cd_desk.specs.Lefts.{IsLeft, Follows, left_of}
use Rattle.cd_desk.proofs.Placing.{draft_at}
use Rattle.cd_desk.proofs.Numbers.{row_at_with}
use Rattle.cd_desk.proofs.Standing.{Shown}
use Rattle.cd_desk.proofs.Ending.{many}
use Rattle.cd_desk.proofs.Openings.{length_map}

-- a live draft of which so much is left
pub record LeftDraft (s : State) (t : Tree) (l : Left) : Type 0 where
  pub draft : Drafted
  pub there : slice_get s.drafts l.number ≡ Some draft
  pub live : draft.life ≡ Live
  pub left : l ≡ left_of l.number draft
  pub tree : draft.tree ≡ t

abbrev left_with : ℕ → ℕ → ℕ → ℕ → ℕ → Bool → Left
left_with n made modules started apps failed = record { number = n; made = made; modules = modules; started = started; apps = apps; failed = failed }

same_left : (n a b c d e f g h : ℕ) (i j : Bool) → a ≡ b → c ≡ d → e ≡ f → g ≡ h → i ≡ j → left_with n a c e g i ≡ left_with n b d f h j
same_left n a b c d e f g h i j p q r s t =
    ap (λ (z : ℕ). left_with n z c e g i) p ∙ (ap (λ (z : ℕ). left_with n b z e g i) q ∙ (ap (λ (z : ℕ). left_with n b d z g i) r ∙ (ap (λ (z : ℕ). left_with n b d f z i) s ∙ ap (λ (z : Bool). left_with n b d f h z) t)))

module _ {F : Type 0} (calls : F → Option (List FixtureCall)) (opening b : Desk F) (log : List Signed) (h : Holds calls opening b log) where
  -- a draft that is there in the books is there in the history
  pub left_is : (t : Tree) (l : Left) → IsLeft b.books t l → LeftDraft (state_at log) t l
  left_is t l i =
      let s : State = state_at log in
      let sh : Shown s.retired i.row (slice_get s.drafts i.row.number) = draft_at calls opening b s _ _ (legal-agree (entries log) h.is_legal) h.agrees i.place i.row i.at.there in
      let x : Drafted = sh.draft in
      let f : Follows l i.row = i.follows in
      let w : Shows s.retired i.row x = sh.shows in
      let made : l.made ≡ x.made = sym (w.made ∙ f.made) in
      let started : l.started ≡ x.started = sym (w.started ∙ f.started) in
      let failed : l.failed ≡ is_some x.failed = sym (w.failed ∙ f.failed) in
      let modules : l.modules ≡ length x.plan.modules = sym f.modules ∙ (sym (many Instance s.retired i.row x f.live w) ∙ length_map (λ m. m.keys) x.plan.modules) in
      let apps : l.apps ≡ length x.plan.apps = sym f.apps ∙ (sym (many App s.retired i.row x f.live w) ∙ length_map (λ m. m.keys) x.plan.apps) in
      record {
        draft = x;
        there = ap (slice_get s.drafts) i.at.number ∙ sh.is;
        live = w.life ∙ f.live;
        left = same_left l.number l.made x.made l.modules (length x.plan.modules) l.started x.started l.apps (length x.plan.apps) l.failed (is_some x.failed) made modules started apps failed;
        tree = w.tree ∙ i.tree;
      }

  -- a caller without a ticket may begin
  pub begin_free : (k : ℕ) → has_ticket k (state_at log).tickets ≡ false → k < length opening.tickets.by_caller.items → slice_get b.tickets.by_caller.items k ≡ Some None
  begin_free k free low =
      let none : is_some (told_ticket (slice_get b.tickets.by_caller.items k)) ≡ false = ap is_some (sym (h.agrees.tickets k)) ∙ (sym (has-ticket_of k (state_at log).tickets) ∙ free) in
      let callers = h.agrees.callers in
      at b.tickets.by_caller.items k none (omega (arith, callers, low))
    where
      told : (o : Option ℕ) → is_some o ≡ false → Some o ≡ Some None
      told None e = refl
      told (Some n) e = cc

      at : (os : List (Option ℕ)) (k : ℕ) → is_some (told_ticket (slice_get os k)) ≡ false → k < length os → slice_get os k ≡ Some None
      at [] k e lt = absurd (omega arith)
      at (o ∷ os) zero e lt = told o e
      at (o ∷ os) (suc k) e lt = at os k e (omega arith)

  -- one with a ticket may end it
  pub finish_held : (k : ℕ) → has_ticket k (state_at log).tickets ≡ true → HasTicket b.tickets.by_caller.items k
  finish_held k has = at (slice_get b.tickets.by_caller.items k) refl (ap is_some (sym (h.agrees.tickets k)) ∙ (sym (has-ticket_of k (state_at log).tickets) ∙ has))
    where
      at : (o : Option (Option ℕ)) → slice_get b.tickets.by_caller.items k ≡ o → is_some (told_ticket (slice_get b.tickets.by_caller.items k)) ≡ true → HasTicket b.tickets.by_caller.items k
      at None is e = let f : false ≡ true = ap (λ z. is_some (told_ticket z)) (sym is) ∙ e in cc
      at (Some None) is e = let f : false ≡ true = ap (λ z. is_some (told_ticket z)) (sym is) ∙ e in cc
      at (Some (Some n)) is e = (n, is)

  -- a live draft of the history is there, with what is left of it
  pub left_there : (d : ℕ) (x : Drafted) → slice_get (state_at log).drafts d ≡ Some x → x.life ≡ Live → IsLeft b.books x.tree (left_of d x)
  left_there d x there live =
      let s : State = state_at log in
      let sound = sound_from opening_state (entries log) h.is_legal refl in
      let whole = live_whole (bound_of s) x live (first (is_sound (bound_of s) x) _ (ap (holds (λ y. is_sound (bound_of s) y && is_live y.life)) (sym there) ∙ sound_at s d (λ y. is_live y.life) sound (ap (holds (λ y. is_live y.life)) there ∙ ap is_live live))) in
      by_row d x there live whole (row_with d b.books.rows.items) refl
    where
      not_closed : (s : State) (x : Drafted) → x.life ≡ Live → is_closed s.retired x ≡ true → false ≡ true
      not_closed s x live closed = sym (ap (may_clean_instances s.retired) live) ∙ first (may_clean_instances s.retired x.life) _ closed

      row_left : (d place : ℕ) (x : Drafted) (r : Row) → x.life ≡ Live → (x.stopped ≡ 0) × (x.cleaned ≡ 0) → RowAt b.books d place r → Shows (state_at log).retired r x → IsLeft b.books x.tree (left_of d x)
      row_left d place x r live whole at w = record {
        place = place;
        row = r;
        at = at;
        follows = record {
          live = sym w.life ∙ live;
          failed = sym w.failed;
          made = sym w.made;
          modules = sym (many Instance (state_at log).retired r x (sym w.life ∙ live) w) ∙ length_map (λ m. m.keys) x.plan.modules;
          started = sym w.started;
          apps = sym (many App (state_at log).retired r x (sym w.life ∙ live) w) ∙ length_map (λ m. m.keys) x.plan.apps;
          unended = (sym w.cleaned ∙ whole.1, sym w.stopped ∙ whole.0);
        };
        tree = sym w.tree;
      }

      by_row : (d : ℕ) (x : Drafted) → slice_get (state_at log).drafts d ≡ Some x → x.life ≡ Live → (x.stopped ≡ 0) × (x.cleaned ≡ 0) → (o : Option Row) → row_with d b.books.rows.items ≡ o → IsLeft b.books x.tree (left_of d x)
      by_row d x there live whole None is =
          let low = slice_get_within (state_at log).drafts d x there in
          let all = h.agrees.drafts in
          absurd (let f : false ≡ true = not_closed (state_at log) x live (ap (holds (is_closed (state_at log).retired)) (sym there) ∙ h.agrees.closed d (omega (arith, low, all)) is) in cc)
      by_row d x there live whole (Some r) is =
          let p = row_at_with b.books d r is in
          row_left d p.0 x r live whole p.1 (subst (λ z. ShowsAt (state_at log).retired (Some r) z) there (subst (λ z. ShowsAt (state_at log).retired z (slice_get (state_at log).drafts d)) is (h.agrees.rows d)))
