-- The draft of the start, as the calls tell it that make it.
use Rattle.std.proofs.Common.{◌≡◌, ◌+◌, ◌||◌, ℕ, Bool, cond, eq-eqb, true, false, List, [], ◌∷◌, length, Some, None, refl, ap, sym, ◌∙◌, subst, arith}
use Rattle.cd_outside.specs.declared.key.Key.{Key}
use Rattle.cd_tree.specs.declared.tree.Tree.{Tree}
use Rattle.cd_wire.specs.declared.request.Request.{Request}
use Rattle.cd_legal.specs.declared.plan.Plan.{Plan}
use Rattle.cd_legal.specs.declared.entry.Change.{Change}
use Rattle.cd_legal.specs.declared.entry.Change.TheVariants as change
use Rattle.cd_legal.specs.declared.entry.Entry.{Entry}
use Rattle.cd_legal.specs.declared.entry.Entry.TheVariants.{Draft, Made, Started, Publish, Abandon, Stopped, Begin, Finish, Retire, Cleaned}
use Rattle.cd_legal.specs.declared.entry.Signed.{Signed}
use Rattle.cd_legal.specs.declared.state.State.{State}
use Rattle.cd_legal.specs.Legal.{state_at}
use Rattle.cd_legal.specs.Owing.{Owes, owes_by}
use Rattle.cd_legal.specs.Runs.{Failure, opened, opened_until, stopped_all, cleaned_all, ended_all, undone_after, started_in, made_in, stopped_of, cleaned_of, block_of}
use Rattle.cd_legal.specs.State.{Conf, conf_of, draft_of, has_number}
use Rattle.cd_gate.specs.declared.view.View.{View}
use Rattle.cd_gate.specs.Duties.{without_number}
use Rattle.cd_gate.specs.Growing.{owes_after}
use Rattle.cd_gate.specs.Words.{owed}
use Rattle.cd_life.specs.Fits.{Suits}
use Rattle.cd_life.specs.Shares.{conf_in}
use Rattle.cd_hall.specs.declared.hall.Ticket.{Ticket}
use Rattle.cd_hall.specs.Drafts.{Held, IsWholeDraft, new_held}
use Rattle.cd_hall.specs.Tickets.{IsTicketOf}
use Rattle.cd_hall.specs.Spread.{Spread, Spreads}
use Rattle.cd_hall.specs.Turned.{Turned}
use Rattle.cd_serve.specs.Attempts.{HasMade, Opens, failed_held}
use Rattle.cd_host.specs.declared.start_how.StartHow.TheVariants as how
use Rattle.cd_host.specs.OwnPass.{HasSigned}
use Rattle.cd_host.specs.Starting.{IsTried, HasDrafted}
use Rattle.cd_host.proofs.Beginning.{for-parts}
use Rattle.cd_host.proofs.PartEntries.{is_part, Parts, stopped-parts, cleaned-parts, ended-parts}
use Rattle.cd_host.proofs.Started.{drafted-published, drafted-in-vain, drafted-refused}

-- ---- what a pass owes

part-owes : (o : Owes) (e : Entry) → is_part e ≡ true → owes_by o e ≡ o
part-owes o (Made d i taken failed) is = refl
part-owes o (Started d a taken failed) is = refl
part-owes o (Stopped d a) is = refl
part-owes o (Cleaned d i) is = refl
part-owes o e is = absurd (let f : false ≡ true = is in cc)

-- what is made and started, stopped and cleaned leaves it
parts-owe : (o : Owes) (es : List Entry) → Parts es → owes_after o es ≡ o
parts-owe o [] all = refl
parts-owe o (e ∷ es) all = ap (λ (q : Owes). owes_after q es) (part-owes o e all.0) ∙ parts-owe o es all.1

module _ {T : Type 0} (v w : View T) (found : List Signed) where
  owes-then : (e : Entry) (es : List Entry) → Parts es → Spread v w found (e ∷ es) → owed w ≡ owes_by (owed v) e
  owes-then e es all t = t.grows.owes ∙ parts-owe (owes_by (owed v) e) es all

  pub published-owes : (d n from m : ℕ) (c : Change) (s : State) → Spread v w found (Publish d n from c ∷ stopped_of s m) → (w.ticket ≡ v.ticket) × (w.draft ≡ None)
  published-owes d n from m c s t =
      let is = owes-then (Publish d n from c) (stopped_of s m) (for-parts (λ j. stopped_all j (started_in s j)) (λ j. stopped-parts j (started_in s j)) (draft_of m s.published)) t in
      (ap (λ (o : Owes). o.ticket) is, ap (λ (o : Owes). o.draft) is)

  pub abandoned-owes : (d made started : ℕ) → Spread v w found (Abandon d ∷ ended_all d made started) → (w.ticket ≡ v.ticket) × (w.draft ≡ None)
  abandoned-owes d made started t =
      let is = owes-then (Abandon d) (ended_all d made started) (ended-parts d made started) t in
      (ap (λ (o : Owes). o.ticket) is, ap (λ (o : Owes). o.draft) is)

  pub retired-owes : (s : State) (n : ℕ) → Spread v w found (block_of s n) → (w.ticket ≡ v.ticket) × (w.draft ≡ v.draft)
  retired-owes s n t =
      let is = owes-then (Retire n) (cleaned_of s n) (for-parts (λ j. cleaned_all j (made_in s j)) (λ j. cleaned-parts j (made_in s j)) (draft_of n s.published)) t in
      (ap (λ (o : Owes). o.ticket) is, ap (λ (o : Owes). o.draft) is)

  pub finished-owes : (k : ℕ) → Turned v w found (Finish k ∷ []) → (w.ticket ≡ None) × (w.draft ≡ v.draft)
  finished-owes k t = (ap (λ (o : Owes). o.ticket) t.grows.owes, ap (λ (o : Owes). o.draft) t.grows.owes)

  pub drafted-owes : (d : ℕ) (tree : Tree) (plan : Plan) → Turned v w found (Draft d tree plan ∷ []) → w.ticket ≡ v.ticket
  drafted-owes d tree plan t = ap (λ (o : Owes). o.ticket) t.grows.owes

  pub begun-owes : (k n : ℕ) → Turned v w found (Begin k n ∷ []) → w.draft ≡ v.draft
  begun-owes k n t = ap (λ (o : Owes). o.draft) t.grows.owes

  pub nothing-owes : Turned v w found [] → (w.ticket ≡ v.ticket) × (w.draft ≡ v.draft)
  nothing-owes t = (ap (λ (o : Owes). o.ticket) t.grows.owes, ap (λ (o : Owes). o.draft) t.grows.owes)

-- ---- the ticket at serial 0

pub ticket-at-zero : {T A B : Type 0} {g : _} (v w : View T) (t : Ticket A B g) → IsTicketOf v t → t.serial ≡ 0 → w.ticket ≡ v.ticket → IsTicketOf w t
ticket-at-zero v w t is zero same = record {
  own = same ∙ is.own;
  has = record {
    there = omega (arith, zero);
    conf = is.has.conf ∙ ap (conf_of (state_at v.seen)) zero ∙ sym (ap (conf_of (state_at w.seen)) zero);
  };
}

-- the first configuration suits it, whatever its tree
pub first-suits : {T A B : Type 0} {g : _} (makes : Tree → Request → _) (v : View T) (t : Ticket A B g) (tree : Tree) → IsTicketOf v t → t.serial ≡ 0 → Suits makes (conf_in t.share) change.First tree
first-suits makes v t tree is zero = subst (λ (c : Conf). Suits makes c change.First tree) (sym (is.has.conf ∙ ap (conf_of (state_at v.seen)) zero)) tt

-- ---- the draft

pub failed-ends : (d : ℕ) (tree : Tree) (plan : Plan) (h : Held) → h ≡ new_held d tree plan → (f : Failure) → ended_all d (failed_held h f).made (failed_held h f).started ≡ undone_after d plan f
failed-ends d tree plan h is (Failure.InModule i taken) = ap (λ (x : Held). ended_all d (i + 1) x.started) is
failed-ends d tree plan h is (Failure.InApp a taken) = ap (λ (x : Held). ended_all d (length x.plan.modules) (a + 1)) is

failed-number : (h : Held) (f : Failure) → (failed_held h f).number ≡ h.number
failed-number h (Failure.InModule i taken) = refl
failed-number h (Failure.InApp a taken) = refl

module _ {T : Type 0} (tree : Tree) (plan : Plan) (serial d : ℕ) (v w x y : View T) (h g : Held) (m : (found : List Signed) × Turned v w found (Draft d tree plan ∷ [])) (is : h ≡ new_held d tree plan) where
  -- what was made of it, as one list
  signs : (entries made : List Entry) → HasMade w x entries → entries ≡ made → HasSigned w x made
  signs entries made o e = (o.work, o.works.places, o.are ∙ e)

  whole-plan : (entries : List Entry) → entries ≡ opened h.number h.plan → entries ≡ opened d plan
  whole-plan entries e = e ∙ ap (λ (z : Held). opened z.number z.plan) is

  pub has-published : (entries : List Entry) → HasMade w x entries → Opens h g entries None → IsTried g.number true x y → HasDrafted tree plan how.Published serial v y
  has-published entries o opens tried =
      drafted-published tree plan serial v d w x y m.0 m.1 (signs entries (opened d plan) o (whole-plan entries opens.0))
      (subst (λ (n : ℕ). IsTried n true x y) (ap (λ (z : Held). z.number) opens.1 ∙ ap (λ (z : Held). z.number) is) tried)

  pub has-tried : (entries : List Entry) → HasMade w x entries → Opens h g entries None → IsTried g.number false x y → HasDrafted tree plan how.Unpublished serial v y
  has-tried entries o opens tried =
      drafted-in-vain tree plan serial v d w x y m.0 m.1 (signs entries (opened d plan) o (whole-plan entries opens.0))
      (subst (λ (n : ℕ). IsTried n false x y) (ap (λ (z : Held). z.number) opens.1 ∙ ap (λ (z : Held). z.number) is) tried)

  pub has-refused : (key : Key) (entries : List Entry) → HasMade w x entries → Opens h g entries (Some key) → Spreads x y (λ s. Abandon g.number ∷ ended_all g.number g.made g.started)
      → HasDrafted tree plan (how.FirstRefused key) serial v y
  has-refused key entries o opens gives =
      let f : Failure = opens.0 in
      drafted-refused tree plan serial v d w x y m.0 m.1 f key g.number g.made g.started gives.0
      (signs entries (opened_until d plan f key) o (opens.1 ∙ ap (λ (z : Held). opened_until z.number z.plan f key) is))
      (ap (λ (z : Held). z.number) opens.2 ∙ failed-number h f ∙ ap (λ (z : Held). z.number) is)
      (ap (λ (z : Held). ended_all d z.made z.started) opens.2 ∙ failed-ends d tree plan h is f)
      gives.1

  pub is-whole : (entries : List Entry) → Opens h g entries None → IsWholeDraft g
  is-whole entries opens = subst IsWholeDraft (sym opens.1) (record { made = refl; started = refl; unfailed = ap (λ (z : Held). z.failed) is })

-- ---- the only duty

pub only-duty : (duties : List ℕ) (n : ℕ) → duties ≡ n ∷ [] → has_number n duties ≡ true
only-duty duties n is = ap (has_number n) is ∙ ap (λ (b : Bool). b || false) (eq-eqb n n refl)

pub none-left : (n : ℕ) → without_number n (n ∷ []) ≡ []
none-left n = ap (λ (b : Bool). cond b [] (n ∷ [])) (eq-eqb n n refl)
