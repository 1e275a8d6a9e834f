-- What an attempt comes to, from the calls that it makes.
use Rattle.std.proofs.Common.{◌≡◌, ◌≤◌, inl, inr, ℕ, zero, suc, ◌+◌, ◌==◌, Bool, true, false, cond, if◌then◌else◌, List, [], ◌∷◌, ◌++◌, length, Option, Some, None, Result, Ok, refl, sym, ap, subst, ◌∙◌, arith}
use Rattle.std.specs.Prelude.{nat_lt}
use Rattle.std.proofs.lemmas.Bool.{ltb-true, ltb-false}
use mathlib.Core.List.{IsPrefix}
use Rattle.cd_outside.specs.declared.key.Key.{Key}
use Rattle.cd_tree.specs.declared.tree.Tree.{Tree}
use Rattle.cd_wire.specs.declared.request.Request.{Request}
use Rattle.cd_legal.specs.declared.limits.TheConstants.{MAX_DRAFTS, LAST_SERIAL}
use Rattle.cd_legal.specs.declared.entry.Change.{Change}
use Rattle.cd_legal.specs.declared.entry.Change.TheVariants as change
use Rattle.cd_legal.specs.declared.entry.Entry.{Entry}
use Rattle.cd_legal.specs.declared.entry.Entry.TheVariants.{Draft, Publish, Abandon}
use Rattle.cd_legal.specs.declared.entry.Signed.{Signed}
use Rattle.cd_legal.specs.declared.plan.Plan.{Plan}
use Rattle.cd_legal.specs.declared.state.State.{State}
use Rattle.cd_legal.specs.State.{Conf, draft_of}
use Rattle.cd_legal.specs.Legal.{state_at}
use Rattle.cd_legal.specs.Owing.{Owes}
use Rattle.cd_legal.specs.Placed.{Placed, through}
use Rattle.cd_legal.specs.Runs.{Failure, opened, opened_until, stopped_all, cleaned_all, ended_all, undone_after, entries_for, started_in, stopped_of}
use Rattle.cd_legal.specs.Signing.{IsHistory}
use Rattle.cd_legal.proofs.Logs.{prefix_trans}
use Rattle.cd_legal.proofs.Serials.{serial-rises}
use Rattle.cd_gate.specs.declared.view.View.{View}
use Rattle.cd_gate.specs.Growing.{owes_after}
use Rattle.cd_gate.specs.Words.{owed}
use Rattle.cd_desk.specs.declared.drafts.DraftFault.{DraftFault}
use Rattle.cd_desk.specs.declared.drafts.DraftFault.TheVariants as undrafted
use Rattle.cd_hall.specs.declared.hall.Ticket.{Ticket}
use Rattle.cd_hall.specs.Drafts.{Held, new_held, IsWholeDraft}
use Rattle.cd_hall.specs.Publishing.{Refusal, refusal}
use Rattle.cd_hall.specs.Room.{oldest_before, is_full}
use Rattle.cd_hall.specs.Tickets.{IsTicketOf}
use Rattle.cd_hall.specs.Spread.{Spread}
use Rattle.cd_hall.specs.Turned.{Turned}
use Rattle.cd_hall.proofs.Requested.{ticket_stays}
use Rattle.cd_hall.proofs.Spreading.{spread_history}
use Rattle.cd_life.specs.Fits.{Suits}
use Rattle.cd_module.specs.declared.fault.LoadFault.{LoadFault}
use Rattle.cd_serve.specs.declared.attempting.Attempt.{Attempt}
use Rattle.cd_serve.specs.declared.fault.ChangeFault.{ChangeFault}
use Rattle.cd_serve.specs.declared.fault.ChangeFault.TheVariants.{StillInUse, NoSerialLeft}
use Rattle.cd_serve.specs.Meanings.{Meaning}
use Rattle.cd_serve.specs.Changes.{no_room, IsPublished, IsGivenUp, IsUndone}
use Rattle.cd_serve.specs.Attempts.{Works, HasMade, IsNewDraft, IsDrafted, Opens, Asks, Attempted, Publishes, Concludes, refused_by, undrafted_by, failed_held}
use Rattle.cd_serve.proofs.Works.{works-turned, works-spread, works-both, made-turned, made-spread, made-both, headed}

-- ---- what entries leave of what a pass owes

stops-owe : (o : Owes) (d n : ℕ) → owes_after o (stopped_all d n) ≡ o
stops-owe o d zero = refl
stops-owe o d (suc n) = stops-owe o d n

pub cleans-owe : (o : Owes) (d n : ℕ) → owes_after o (cleaned_all d n) ≡ o
cleans-owe o d zero = refl
cleans-owe o d (suc n) = cleans-owe o d n

pub owes-append : (o : Owes) (es fs : List Entry) → owes_after o (es ++ fs) ≡ owes_after (owes_after o es) fs
owes-append o [] fs = refl
owes-append o (e ∷ es) fs = owes-append _ es fs

pub ends-owe : (o : Owes) (d made started : ℕ) → owes_after o (ended_all d made started) ≡ o
ends-owe o d made started = owes-append o (stopped_all d started) (cleaned_all d made) ∙ (ap (λ (p : Owes). owes_after p (cleaned_all d made)) (stops-owe o d started) ∙ cleans-owe o d made)

stopped-for-owe : (o : Owes) (s : State) (d : Option ℕ) → owes_after o (entries_for (λ d. stopped_all d (started_in s d)) d) ≡ o
stopped-for-owe o s None = refl
stopped-for-owe o s (Some d) = stops-owe o d (started_in s d)

pub stopped-owe : (o : Owes) (s : State) (n : ℕ) → owes_after o (stopped_of s n) ≡ o
stopped-owe o s n = stopped-for-owe o s (draft_of n s.published)

-- ---- tickets

module _ {T : Type 0} where
  -- the pass has seen more, and has its ticket still
  pub record Goes (v w : View T) : Type 0 where
    pub seen : IsPrefix v.seen w.seen
    pub history : IsHistory w.seen
    pub ticket : w.ticket ≡ v.ticket

  pub goes-turned : (v w : View T) (found : List Signed) (es : List Entry) → Turned v w found es → (owes_after (owed v) es).ticket ≡ v.ticket → Goes v w
  goes-turned v w found es t stays = record { seen = t.grows.seen; history = t.grows.history; ticket = ap (λ (o : Owes). o.ticket) t.grows.owes ∙ stays }

  pub goes-spread : (v w : View T) (found : List Signed) (es : List Entry) → Spread v w found es → (owes_after (owed v) es).ticket ≡ v.ticket → Goes v w
  goes-spread v w found es s stays = record { seen = s.grows.seen; history = s.grows.history; ticket = ap (λ (o : Owes). o.ticket) s.grows.owes ∙ stays }

  pub goes-made : (v w : View T) (es : List Entry) → HasMade v w es → Goes v w
  goes-made v w es m = record { seen = m.works.places.seen; history = m.works.places.history; ticket = m.works.ticket }

  pub goes-both : (v w x : View T) → Goes v w → Goes w x → Goes v x
  goes-both v w x a b = record { seen = prefix_trans v.seen w.seen x.seen a.seen b.seen; history = b.history; ticket = b.ticket ∙ a.ticket }

  pub goes-given-up : (v w : View T) (found : List Signed) (d made started : ℕ) → Spread v w found (Abandon d ∷ ended_all d made started) → Goes v w
  goes-given-up v w found d made started t = goes-spread v w found (Abandon d ∷ ended_all d made started) t (ap (λ (o : Owes). o.ticket) (ends-owe _ d made started))

  pub goes-concluded : (v w : View T) (h : Held) (serial : ℕ) (by : Change) (a : Attempt) → Concludes v w h serial by a → Goes v w
  goes-concluded v w h serial by a (inl p) = goes-spread v w p.1.0 (Publish h.number (serial + 1) serial by ∷ stopped_of (state_at p.1.0) serial) p.1.1 (ap (λ (o : Owes). o.ticket) (stopped-owe _ (state_at p.1.0) serial))
  goes-concluded v w h serial by a (inr u) = goes-both v u.between w (goes-turned v u.between u.asked [] u.turned refl) (goes-given-up u.between w u.found h.number h.made h.started u.gave_up)

  -- neither a draft that was published is there any more, nor one that was given up
  pub free-published : (v w : View T) (d serial : ℕ) (by : Change) → Publishes v w d serial by → w.draft ≡ None
  free-published v w d serial by p = ap (λ (o : Owes). o.draft) p.1.grows.owes ∙ ap (λ (o : Owes). o.draft) (stopped-owe _ (state_at p.0) serial)

  pub free-given-up : (v w : View T) (found : List Signed) (d made started : ℕ) → Spread v w found (Abandon d ∷ ended_all d made started) → w.draft ≡ None
  free-given-up v w found d made started t = ap (λ (o : Owes). o.draft) t.grows.owes ∙ ap (λ (o : Owes). o.draft) (ends-owe _ d made started)

module _ {T A B : Type 0} {g : _} where
  -- a ticket stays when the pass has seen more
  pub ticket-goes : (v w : View T) (t : Ticket A B g) → IsTicketOf v t → Goes v w → IsTicketOf w t
  ticket-goes v w t is goes = ticket_stays v w t is goes.seen goes.history goes.ticket

-- ---- refusals

-- what a refusal says of the tests
abbrev pub Says : Bool → Option ChangeFault → Refusal → Type 0
Says low room (Refusal.superseded n) = low ≡ true
Says low room (Refusal.full n) = (low ≡ false) × (room ≡ Some (StillInUse n))
Says low room Refusal.exhausted = (low ≡ false) × (room ≡ Some NoSerialLeft)

some-is : {A : Type 0} (x y : A) → Some x ≡ Some y → x ≡ y
some-is x y is = cc

says : (late room : ℕ) (low full last : Bool) (r : Refusal)
    → Some r ≡ cond low (Some (Refusal.superseded late)) (cond full (Some (Refusal.full room)) (cond last (Some Refusal.exhausted) None))
    → Says low (if full then Some (StillInUse room) else if last then Some NoSerialLeft else None) r
says late room true full last r is = subst (λ (z : Refusal). Says true (if full then Some (StillInUse room) else if last then Some NoSerialLeft else None) z) (sym (some-is r (Refusal.superseded late) is)) refl
says late room false true last r is = subst (λ (z : Refusal). Says false (Some (StillInUse room)) z) (sym (some-is r (Refusal.full room) is)) (refl, refl)
says late room false false true r is = subst (λ (z : Refusal). Says false (Some NoSerialLeft) z) (sym (some-is r Refusal.exhausted is)) (refl, refl)
says late room false false false r is = absurd (let h : Some r ≡ None = is in cc)

pub refusal-says : (s : State) (serial : ℕ) (r : Refusal) → Some r ≡ refusal s serial → Says (nat_lt serial s.serial) (no_room s) r
refusal-says s serial r is = says s.serial (oldest_before s.serial) (nat_lt serial s.serial) (is_full s s.serial) (s.serial == LAST_SERIAL) r is

-- ---- attempts

-- what a draft that was opened in part leaves to be ended
numbered : (d : ℕ) (tree : Tree) (plan : Plan) (f : Failure)
    → Abandon (failed_held (new_held d tree plan) f).number ∷ ended_all (failed_held (new_held d tree plan) f).number (failed_held (new_held d tree plan) f).made (failed_held (new_held d tree plan) f).started ≡ Abandon d ∷ undone_after d plan f
numbered d tree plan (Failure.InModule i taken) = refl
numbered d tree plan (Failure.InApp i taken) = refl

module _ {T : Type 0} (m : Meaning) (tree : Tree) (q : Request) (serial d : ℕ) (plan : Plan) (planned : m.plan tree ≡ Ok plan) where
  -- the draft was made, and opened by these entries
  abbrev Opening : View T → View T → Type 0
  Opening v w = HasMade v w (Draft d tree plan ∷ opened d plan)

  pub opening-is : (v w x : View T) (found : List Signed) (es : List Entry) → Turned v w found (Draft d tree plan ∷ []) → w.duties ≡ v.duties → HasMade w x es → es ≡ opened d plan → Opening v x
  opening-is v w x found es t duties made is =
      subst (λ (l : List Entry). HasMade v x (Draft d tree plan ∷ l)) is (made-both v w x (Draft d tree plan ∷ []) es (made-turned v w found (Draft d tree plan ∷ []) t refl duties) made)

  pub published : (v x y : View T) (o : Opening v x) → Publishes x y d serial (change.Request q) → y.duties ≡ x.duties → (work : List Placed) × Works v y work × IsPublished m tree q serial work
  published v x y o p duties =
      let s = state_at p.0 in
      let e : Entry = Publish d (serial + 1) serial (change.Request q) in
      let h = headed x y p.0 e (stopped_of s serial) p.1 in (
        o.work ++ p.1.added,
        works-both v x y o.work p.1.added o.works (works-spread x y p.0 (e ∷ stopped_of s serial) p.1 (ap (λ (z : Owes). z.ticket) (stopped-owe _ s serial)) duties),
        record {
          draft = d;
          plan = plan;
          opening = o.work;
          publish = record { before = p.0; entry = e };
          stopping = h.rest;
          whole = ap (λ (l : List Placed). o.work ++ l) h.whole;
          planned = planned;
          opens = o.are;
          publishes = refl;
          stops = h.are;
        },
      )

  -- the draft was opened, and then given up
  pub record Undone (v x y z : View T) : Type 0 where
    pub work : List Placed
    pub works : Works v z work
    pub given_up : IsGivenUp m tree work
    pub after : IsPrefix (through v.number given_up.opening) y.seen
    pub before : IsPrefix y.seen given_up.abandon.before
    pub history : IsHistory given_up.abandon.before

  pub undone : (v x y z : View T) (made started : ℕ) (asked found : List Signed) → Opening v x → made ≡ length plan.modules → started ≡ length plan.apps → Turned x y asked [] → y.duties ≡ x.duties
      → Spread y z found (Abandon d ∷ ended_all d made started) → z.duties ≡ y.duties → Undone v x y z
  undone v x y z made started asked found o all_made all_started t same u later =
      let e : Entry = Abandon d in
      let es : List Entry = ended_all d made started in
      let h = headed y z found e es u in
      record {
        work = o.work ++ u.added;
        works = works-both v x z o.work u.added o.works (works-both x y z [] u.added (works-turned x y asked [] t refl same) (works-spread y z found (e ∷ es) u (ap (λ (p : Owes). p.ticket) (ends-owe _ d made started)) later));
        given_up = record {
          draft = d;
          plan = plan;
          opening = o.work;
          abandon = record { before = found; entry = e };
          ending = h.rest;
          whole = ap (λ (l : List Placed). o.work ++ l) h.whole;
          planned = planned;
          opens = o.are;
          abandons = refl;
          ends = h.are ∙ (ap (λ (n : ℕ). ended_all d n started) all_made ∙ ap (λ (n : ℕ). ended_all d (length plan.modules) n) all_started);
        };
        after = prefix_trans (through v.number o.work) x.seen y.seen o.works.places.last t.grows.seen;
        before = u.seen;
        history = spread_history y z found (e ∷ es) u;
      }

  -- by what the refusal says
  kept : (v x y z : View T) → Undone v x y z → serial ≤ (state_at y.seen).serial → (r : Refusal) → Says (nat_lt serial (state_at y.seen).serial) (no_room (state_at y.seen)) r
      → (work : List Placed) × Works v z work × Attempted m tree q v.number serial (state_at z.seen) work (refused_by r)
  kept v x y z u low (Refusal.superseded n) says = (u.work, u.works, record { given_up = u.given_up; later = omega (arith, ltb-true serial (state_at y.seen).serial says, serial-rises y.seen u.given_up.abandon.before u.before u.history.is_legal) })
  kept v x y z u low (Refusal.full n) says =
      (u.work, u.works, record { given_up = u.given_up; place = y.seen; after = u.after; before = u.before; current = omega (arith, low, ltb-false serial (state_at y.seen).serial says.0); refused = says.1 })
  kept v x y z u low Refusal.exhausted says =
      (u.work, u.works, record { given_up = u.given_up; place = y.seen; after = u.after; before = u.before; current = omega (arith, low, ltb-false serial (state_at y.seen).serial says.0); refused = says.1 })

  -- the draft was opened whole, and then it was published or given up
  pub concluded : (v x z : View T) (h : Held) (a : Attempt) → Opening v x → h.number ≡ d → h.made ≡ length plan.modules → h.started ≡ length plan.apps → Concludes x z h serial (change.Request q) a
      → ((y : View T) → IsPrefix x.seen y.seen → IsHistory y.seen → serial ≤ (state_at y.seen).serial)
      → (work : List Placed) × Works v z work × Attempted m tree q v.number serial (state_at z.seen) work a
  concluded v x z h a o number made started (inl p) low =
      let one : Publishes x z d serial (change.Request q) = subst (λ (n : ℕ). Publishes x z n serial (change.Request q)) number p.1 in
      let all = published v x z o one p.2 in
      subst (λ (b : Attempt). (work : List Placed) × Works v z work × Attempted m tree q v.number serial (state_at z.seen) work b) (sym p.0) all
  concluded v x z h a o number made started (inr u) low =
      let gave : Spread u.between z u.found (Abandon d ∷ ended_all d h.made h.started) = subst (λ (n : ℕ). Spread u.between z u.found (Abandon n ∷ ended_all n h.made h.started)) number u.gave_up in
      let all = undone v x u.between z h.made h.started u.asked u.found o made started u.turned u.same gave u.later in
      subst (λ (b : Attempt). (work : List Placed) × Works v z work × Attempted m tree q v.number serial (state_at z.seen) work b) (sym u.is)
      (kept v x u.between z all (low u.between u.turned.grows.seen u.turned.grows.history) u.why (refusal-says (state_at u.between.seen) serial u.why u.refused))

  -- a key could not be opened
  pub undone-at : (v w x z : View T) (h f : Held) (key : Key) (drafted found : List Signed) (es : List Entry) → Turned v w drafted (Draft d tree plan ∷ []) → w.duties ≡ v.duties → HasMade w x es → Opens h f es (Some key)
      → h ≡ new_held d tree plan → Spread x z found (Abandon f.number ∷ ended_all f.number f.made f.started) → z.duties ≡ x.duties
      → (work : List Placed) × Works v z work × IsUndone m tree key work
  undone-at v w x z h f key drafted found es t duties made opens new u later =
      let e : List Entry = Draft d tree plan ∷ [] in
      let now : f ≡ failed_held (new_held d tree plan) opens.0 = opens.2 ∙ ap (λ (z : Held). failed_held z opens.0) new in
      let until : es ≡ opened_until d plan opens.0 key = opens.1 ∙ ap (λ (z : Held). opened_until z.number z.plan opens.0 key) new in
      let same : Abandon f.number ∷ ended_all f.number f.made f.started ≡ Abandon d ∷ undone_after d plan opens.0 =
      ap (λ (z : Held). Abandon z.number ∷ ended_all z.number z.made z.started) now ∙ numbered d tree plan opens.0 in
      let last : HasMade x z (Abandon f.number ∷ ended_all f.number f.made f.started) = made-spread x z found _ u (ap (λ (p : Owes). p.ticket) (ends-owe _ f.number f.made f.started)) later in
      let all : HasMade v z (e ++ (es ++ (Abandon f.number ∷ ended_all f.number f.made f.started))) =
      made-both v w z e _ (made-turned v w drafted e t refl duties) (made-both w x z es _ made last) in (
        all.work,
        all.works,
        record {
          draft = d;
          plan = plan;
          failure = opens.0;
          planned = planned;
          whole = all.are ∙ (ap (λ (l : List Entry). Draft d tree plan ∷ (l ++ (Abandon f.number ∷ ended_all f.number f.made f.started))) until ∙ ap (λ (l : List Entry). Draft d tree plan ∷ (opened_until d plan opens.0 key ++ l)) same);
        },
      )

-- ---- a draft that is new, and then opened

new-is : (h : Held) → IsNewDraft h → h ≡ new_held h.number h.tree h.plan
new-is h n = λ i. record h { made = n.made i; started = n.started i; failed = n.unfailed i }

module _ {T : Type 0} (m : Meaning) (q : Request) (serial : ℕ) (h : Held) (planned : m.plan h.tree ≡ Ok h.plan) where
  pub opened-whole : (u v x z : View T) (found : List Signed) (g : Held) (a : Attempt) → IsDrafted u v found h → ((es : List Entry) × HasMade v x es × Opens h g es None) → serial ≤ (state_at x.seen).serial
      → Concludes x z g serial (change.Request q) a → (work : List Placed) × Works u z work × Attempted m h.tree q u.number serial (state_at z.seen) work a
  opened-whole u v x z found g a drafted opens low c =
      let is = opens.2.1 in
      concluded m h.tree q serial h.number h.plan planned u x z g a
      (opening-is m h.tree q serial h.number h.plan planned u v x found opens.0 drafted.made drafted.duties opens.1 opens.2.0)
      (ap (λ (z : Held). z.number) is) (ap (λ (z : Held). z.made) is) (ap (λ (z : Held). z.started) is) c
      (λ y front history. omega (arith, low, serial-rises x.seen y.seen front history.is_legal))

  pub opened-in-part : (u v x z : View T) (drafted found : List Signed) (g : Held) (key : Key) → IsNewDraft h → IsDrafted u v drafted h → ((es : List Entry) × HasMade v x es × Opens h g es (Some key))
      → Spread x z found (Abandon g.number ∷ ended_all g.number g.made g.started) → z.duties ≡ x.duties → (work : List Placed) × Works u z work × IsUndone m h.tree key work
  opened-in-part u v x z drafted found g key new made opens gone later =
      undone-at m h.tree q serial h.number h.plan planned u v x z h g key drafted found opens.0 made.made made.duties opens.1 opens.2 (new-is h new) gone later

-- the whole draft, and that its tree is the one that is asked for
pub whole-is : (h g : Held) (es : List Entry) → IsNewDraft h → Opens h g es None → IsWholeDraft g
whole-is h g es new opens =
    let is = opens.1 in
    record {
      made = ap (λ (z : Held). z.made) is ∙ ap (λ (z : Held). length z.plan.modules) (sym is);
      started = ap (λ (z : Held). z.started) is ∙ ap (λ (z : Held). length z.plan.apps) (sym is);
      unfailed = ap (λ (z : Held). z.failed) is ∙ new.unfailed;
    }

pub suits : (makes : Tree → Request → Option Tree) (conf : Conf) (q : Request) (tree other : Tree) → Asks makes conf q tree → other ≡ tree → Suits makes conf (change.Request q) other
suits makes conf q tree other a is = subst (λ (c : Conf). Suits makes c (change.Request q) other) (sym a.1) (a.2 ∙ ap (λ (t : Tree). Some t) (sym is))

-- ---- a draft that is made

module _ {T : Type 0} where
  pub drafted-as : (v w : View T) (found : List Signed) (h : Held) (n : ℕ) (tree : Tree) (plan : Plan) → h ≡ new_held n tree plan → Turned v w found (Draft n tree plan ∷ []) → w.duties ≡ v.duties → IsDrafted v w found h
  drafted-as v w found h n tree plan is t duties = record { made = subst (λ (z : Held). Turned v w found (Draft z.number z.tree z.plan ∷ [])) (sym is) t; duties = duties }

  -- none was made
  pub undrafted-as : (m : Meaning) (tree : Tree) (q : Request) (serial : ℕ) (v w : View T) (found : List Signed) (f : DraftFault) → Turned v w found [] → w.duties ≡ v.duties → (f ≡ undrafted.Spent → length (state_at w.seen).drafts ≡ MAX_DRAFTS)
      → (work : List Placed) × Works v w work × Attempted m tree q v.number serial (state_at w.seen) work (undrafted_by f)
  undrafted-as m tree q serial v w found undrafted.Spent t duties spent = ([], works-turned v w found [] t refl duties, (refl, spent refl))
  undrafted-as m tree q serial v w found undrafted.NoMemory t duties spent = ([], works-turned v w found [] t refl duties, refl)

pub planned-as : (plans : Tree → Result Plan LoadFault) (h : Held) (n : ℕ) (tree : Tree) (plan : Plan) → h ≡ new_held n tree plan → plans tree ≡ Ok plan → plans h.tree ≡ Ok h.plan
planned-as plans h n tree plan is planned = subst (λ (z : Held). plans z.tree ≡ Ok z.plan) (sym is) planned
