-- The start of the program, step by step.
use Rattle.std.proofs.Common.{◌≡◌, inl, inr, ℕ, ◌+◌, ◌==◌, ◌&&◌, nat_lt, Bool, true, false, cond, List, [], ◌∷◌, ◌++◌, length, Option, Some, None, refl, ap, sym, ◌∙◌, subst}
use Rattle.std.proofs.lemmas.List.{append-nil, append_assoc}
use Rattle.cd_outside.specs.declared.key.Key.{Key}
use Rattle.cd_tree.specs.declared.tree.Tree.{Tree}
use Rattle.cd_legal.specs.declared.plan.Plan.{Plan}
use Rattle.cd_legal.specs.declared.entry.Change.TheVariants as change
use Rattle.cd_legal.specs.declared.entry.Entry.{Entry}
use Rattle.cd_legal.specs.declared.entry.Entry.TheVariants.{Draft, Made, Started, Publish, Abandon, Stopped, Begin, Finish, Retire, Cleaned}
use Rattle.cd_legal.specs.declared.entry.Signed.{Signed}
use Rattle.cd_legal.specs.declared.state.State.{State}
use Rattle.cd_legal.specs.declared.state.OpenTicket.{OpenTicket}
use Rattle.cd_legal.specs.Entry.{entries}
use Rattle.cd_legal.specs.Legal.{allowed, after, legal_from, state_from, state_of, state_at}
use Rattle.cd_legal.specs.Signing.{IsHistory}
use Rattle.cd_legal.specs.Runs.{Failure, opened, opened_until, ended_all, undone_after, stopped_of, block_of}
use Rattle.cd_legal.specs.State.{opening_state, open_at}
use Rattle.cd_legal.proofs.Facts.{can}
use Rattle.cd_legal.proofs.Histories.{first as one-holds, state_from-append}
use Rattle.cd_legal.proofs.Logs.{legal-back, state-append}
use Rattle.cd_gate.specs.declared.view.View.{View}
use Rattle.cd_gate.specs.Growing.{all_signed}
use Rattle.cd_hall.specs.Publishing.{Refusal, refusal}
use Rattle.cd_hall.specs.Dues.{is_last_at, is_before_halt, DueBy, DueThen}
use Rattle.cd_hall.specs.Spread.{Spread}
use Rattle.cd_hall.specs.Turned.{Turned}
use Rattle.cd_host.specs.declared.start_how.StartHow.{StartHow}
use Rattle.cd_host.specs.declared.start_how.StartHow.TheVariants as how
use Rattle.cd_host.specs.OwnPass.{HasSigned}
use Rattle.cd_host.specs.Parts.{IsAlone}
use Rattle.cd_host.specs.Program.{Start, start_entries}
use Rattle.cd_host.specs.Starting.{IsDrafted, IsHow, first_entries, IsTried, HasDrafted, HasFinished, HasStarted}
use Rattle.cd_host.proofs.Going.{alone-front, signs-none, signs-both, number-stays, seen-alone}
use Rattle.cd_host.proofs.PartEntries.{is_part, Parts, opened-parts, until-parts, undone-parts}
use Rattle.cd_host.proofs.Signing.{entries-all}
use Rattle.cd_host.proofs.Turning.{signs-turned, found-alone, signs-spread}

-- ---- states

-- what is made, started, stopped and cleaned leaves the serial and the tickets, and halts nothing
record Keeps (s t : State) : Type 0 where
  serial : t.serial ≡ s.serial
  tickets : t.tickets ≡ s.tickets
  halted : t.halted ≡ s.halted

part-keeps : (s : State) (e : Entry) → is_part e ≡ true → Keeps s (after s e)
part-keeps s (Made d i taken failed) is = record { serial = refl; tickets = refl; halted = refl }
part-keeps s (Started d a taken failed) is = record { serial = refl; tickets = refl; halted = refl }
part-keeps s (Stopped d a) is = record { serial = refl; tickets = refl; halted = refl }
part-keeps s (Cleaned d i) is = record { serial = refl; tickets = refl; halted = refl }
part-keeps s e is = absurd (let f : false ≡ true = is in cc)

parts-keep : (s : State) (es : List Entry) → Parts es → Keeps s (state_from s es)
parts-keep s [] all = record { serial = refl; tickets = refl; halted = refl }
parts-keep s (e ∷ es) all =
    let one : Keeps s (after s e) = part-keeps s e all.0 in
    let more : Keeps (after s e) (state_from (after s e) es) = parts-keep (after s e) es all.1 in
    record { serial = more.serial ∙ one.serial; tickets = more.tickets ∙ one.tickets; halted = more.halted ∙ one.halted }

-- nothing is refused while serial 0 is current
unrefused : (s : State) → s.serial ≡ 0 → refusal s 0 ≡ None
unrefused s is = ap (λ (n : ℕ). refusal (record s { serial = n }) 0) is

state-all : (k : ℕ) (es : List Entry) → state_at (all_signed k es) ≡ state_of es
state-all k es = ap state_of (entries-all k es)

state-more : (log : List Signed) (k : ℕ) (es : List Entry) → state_at (log ++ all_signed k es) ≡ state_from (state_at log) es
state-more log k es = state-append log (all_signed k es) ∙ ap (state_from (state_at log)) (entries-all k es)

-- ---- the publishing

some-none : (r : Refusal) (o : Option Refusal) → Some r ≡ o → o ≡ None → true ≡ false
some-none r o is none = absurd (let e : Some r ≡ None = is ∙ none in cc)

module _ {T : Type 0} where
  pub tried-published : (d serial : ℕ) (v w : View T) (found : List Signed) → serial ≡ 0 → Spread v w found (Publish d (serial + 1) serial change.First ∷ stopped_of (state_at found) serial) → IsTried d true v w
  tried-published d serial v w found zero t = record {
    made = Publish d (serial + 1) serial change.First ∷ stopped_of (state_at found) serial;
    signed = signs-spread v w found _ t;
    alone = λ number alone state. (refl, ap (λ (n : ℕ). Publish d (n + 1) n change.First ∷ stopped_of (state_at found) n) zero);
  }

  pub tried-in-vain : (d serial : ℕ) (r : Refusal) (v w x : View T) (found then : List Signed) (more : List Entry) → serial ≡ 0 → Turned v w found [] → Some r ≡ refusal (state_at w.seen) serial → Spread w x then more → IsTried d false v x
  tried-in-vain d serial r v w x found then more zero t why u = record {
    made = [] ++ more;
    signed = signs-both v w x [] more (signs-turned v w found [] t) (signs-spread w x then more u);
    alone = λ number alone state.
        let own : found ≡ v.seen = found-alone v w found [] t number (alone-front w.seen x.seen u.grows.seen alone) in
        let seen : w.seen ≡ v.seen = t.is ∙ append-nil found ∙ own in
        let none : refusal (state_at w.seen) serial ≡ None = ap (refusal (state_at w.seen)) zero ∙ unrefused (state_at w.seen) (ap (λ (l : List Signed). (state_at l).serial) seen ∙ state) in
        absurd (let e : true ≡ false = some-none r (refusal (state_at w.seen) serial) why none in cc);
  }

-- ---- the draft

-- the state that the draft of the start leaves
abbrev drafted : Tree → Plan → State
drafted tree plan = after (after opening_state (Begin 0 0)) (Draft 0 tree plan)

module _ {T : Type 0} (tree : Tree) (plan : Plan) (serial : ℕ) (v : View T) where
  pub undrafted-here : IsHistory v.seen → HasDrafted tree plan how.Unpublished serial v v
  undrafted-here history = record { made = []; signed = signs-none v history; start = Start.undrafted; is = refl; alone = λ number alone zero begun. refl }

  pub undrafted : (w : View T) (found : List Signed) → Turned v w found [] → HasDrafted tree plan how.Unpublished serial v w
  undrafted w found t = record { made = []; signed = signs-turned v w found [] t; start = Start.undrafted; is = refl; alone = λ number alone zero begun. refl }

  -- it is the first draft
  number-is : (d : ℕ) (w : View T) (found : List Signed) → Turned v w found (Draft d tree plan ∷ []) → v.number ≡ 0 → IsAlone w.seen → v.seen ≡ all_signed 0 (Begin 0 0 ∷ []) → d ≡ 0
  number-is d w found t number alone begun =
      let own : found ≡ all_signed 0 (Begin 0 0 ∷ []) = found-alone v w found _ t number alone ∙ begun in
      let back : legal_from (state_at found) (entries (all_signed v.number (Draft d tree plan ∷ []))) ≡ true = legal-back found (all_signed v.number (Draft d tree plan ∷ [])) (ap (λ (l : List Signed). legal_from opening_state (entries l)) (sym t.is) ∙ t.grows.history.is_legal) in
      let may : allowed (state_at found) (Draft d tree plan) ≡ true = one-holds (allowed (state_at found) (Draft d tree plan)) true back in
      (can (state_at found) (Draft d tree plan) may).next ∙ ap (λ (l : List Signed). length (state_at l).drafts) own

  -- the serial is 0 until the publishing
  serial-is : (d : ℕ) (w x : View T) (es : List Entry) → HasSigned v w (Draft d tree plan ∷ []) → HasSigned w x es → Parts es → v.number ≡ 0 → IsAlone x.seen → v.seen ≡ all_signed 0 (Begin 0 0 ∷ []) → (state_at x.seen).serial ≡ 0
  serial-is d w x es one two all number alone begun =
      let both = signs-both v w x (Draft d tree plan ∷ []) es one two in
      let state : state_at x.seen ≡ state_from (after (after opening_state (Begin 0 0)) (Draft d tree plan)) es =
      ap state_at (seen-alone v x (Draft d tree plan ∷ es) both number alone) ∙ state-more v.seen 0 (Draft d tree plan ∷ es) ∙ ap (λ (l : List Signed). state_from (state_at l) (Draft d tree plan ∷ es)) begun in
      ap (λ (s : State). s.serial) state ∙ (parts-keep (after (after opening_state (Begin 0 0)) (Draft d tree plan)) es all).serial

  module _ (d : ℕ) (w x y : View T) (found : List Signed) (t : Turned v w found (Draft d tree plan ∷ [])) where
    -- before the last of these calls nobody else has signed anything either
    first-alone : (es : List Entry) → HasSigned w x es → (fs : List Entry) → HasSigned x y fs → IsAlone y.seen → IsAlone w.seen
    first-alone es one fs two alone = alone-front w.seen x.seen one.1.seen (alone-front x.seen y.seen two.1.seen alone)

    all-signs : (es fs : List Entry) → HasSigned w x es → HasSigned x y fs → HasSigned v y ((Draft d tree plan ∷ []) ++ (es ++ fs))
    all-signs es fs one two = signs-both v w y (Draft d tree plan ∷ []) (es ++ fs) (signs-turned v w found _ t) (signs-both w x y es fs one two)

    pub drafted-published : HasSigned w x (opened d plan) → IsTried d true x y → HasDrafted tree plan how.Published serial v y
    drafted-published opens tried = record {
      made = (Draft d tree plan ∷ []) ++ (opened d plan ++ tried.made);
      signed = all-signs (opened d plan) tried.made opens tried.signed;
      start = Start.published;
      is = refl;
      alone = λ number alone zero begun.
          let first : d ≡ 0 = number-is d w found t number (first-alone (opened d plan) opens tried.made tried.signed alone) begun in
          let draft = signs-turned v w found _ t in
          let done = tried.alone (number-stays w x _ opens (number-stays v w _ draft number)) alone (serial-is d w x (opened d plan) draft opens (opened-parts d plan) number (alone-front x.seen y.seen tried.signed.1.seen alone) begun) in
          ap (λ (es : List Entry). Draft d tree plan ∷ (opened d plan ++ es)) done.1
          ∙ ap (λ (n : ℕ). Draft n tree plan ∷ (opened n plan ++ Publish n 1 0 change.First ∷ [])) first;
    }

    pub drafted-in-vain : HasSigned w x (opened d plan) → IsTried d false x y → HasDrafted tree plan how.Unpublished serial v y
    drafted-in-vain opens tried = record {
      made = (Draft d tree plan ∷ []) ++ (opened d plan ++ tried.made);
      signed = all-signs (opened d plan) tried.made opens tried.signed;
      start = Start.undrafted;
      is = refl;
      alone = λ number alone zero begun.
          let draft = signs-turned v w found _ t in
          let done = tried.alone (number-stays w x _ opens (number-stays v w _ draft number)) alone (serial-is d w x (opened d plan) draft opens (opened-parts d plan) number (alone-front x.seen y.seen tried.signed.1.seen alone) begun) in
          absurd (let e : false ≡ true = done.0 in cc);
    }

    pub drafted-refused : (failure : Failure) (key : Key) (n made started : ℕ) (then : List Signed) → HasSigned w x (opened_until d plan failure key) → n ≡ d → ended_all d made started ≡ undone_after d plan failure
        → Spread x y then (Abandon n ∷ ended_all n made started) → HasDrafted tree plan (how.FirstRefused key) serial v y
    drafted-refused failure key n made started then opens same ends u = record {
      made = (Draft d tree plan ∷ []) ++ (opened_until d plan failure key ++ Abandon n ∷ ended_all n made started);
      signed = all-signs (opened_until d plan failure key) (Abandon n ∷ ended_all n made started) opens (signs-spread x y then _ u);
      start = Start.refused failure key;
      is = (failure, refl);
      alone = λ number alone zero begun.
          let first : d ≡ 0 = number-is d w found t number (first-alone (opened_until d plan failure key) opens _ (signs-spread x y then _ u) alone) begun in
          ap (λ (m : ℕ). Draft d tree plan ∷ (opened_until d plan failure key ++ Abandon m ∷ ended_all m made started)) same
          ∙ ap (λ (es : List Entry). Draft d tree plan ∷ (opened_until d plan failure key ++ Abandon d ∷ es)) ends
          ∙ ap (λ (m : ℕ). Draft m tree plan ∷ (opened_until m plan failure key ++ Abandon m ∷ undone_after m plan failure)) first;
    }

-- ---- the end of the request

-- while nobody has halted
due-none : (b : Bool) (n : ℕ) → DueBy b false n [] → b ≡ false
due-none true n is = absurd (let e : [] ≡ n ∷ [] = is in cc)
due-none false n is = refl

due-some : (b : Bool) (m n : ℕ) → DueBy b false n (m ∷ []) → (b ≡ true) × (m ≡ n)
due-some true m n is = (refl, cc)
due-some false m n is = absurd (let e : m ∷ [] ≡ [] = is in cc)

due-by : (s : State) (n : ℕ) (duties : List ℕ) → s.halted ≡ false → DueThen s n duties → DueBy (is_last_at s n) false n duties
due-by s n duties running due = subst (λ (b : Bool). DueBy (is_last_at s n) b n duties) (ap (λ (b : Bool). b && (n + 1 == s.serial)) running) due

module _ {T : Type 0} (serial : ℕ) (v w : View T) (found : List Signed) (t : Turned v w found (Finish v.number ∷ [])) where
  -- what the Finish met, where nobody else has signed anything
  due-here : (duties : List ℕ) → DueThen (state_at found) serial duties → v.number ≡ 0 → IsAlone w.seen → serial ≡ 0 → (state_at v.seen).halted ≡ false → DueBy (is_last_at (state_at v.seen) 0) false 0 duties
  due-here duties due number alone zero running =
      due-by (state_at v.seen) 0 duties running
      (subst (λ (n : ℕ). DueThen (state_at v.seen) n duties) zero (subst (λ (l : List Signed). DueThen (state_at l) serial duties) (found-alone v w found _ t number alone) due))

  pub finished-only : DueThen (state_at found) serial [] → HasFinished serial v w
  finished-only due = record {
    made = Finish v.number ∷ [];
    signed = signs-turned v w found _ t;
    alone = λ number alone zero running.
        let undue : is_last_at (state_at v.seen) 0 ≡ false = due-none (is_last_at (state_at v.seen) 0) 0 (due-here [] due number alone zero running) in
        ap (λ (n : ℕ). Finish n ∷ []) number ∙ ap (λ (b : Bool). Finish 0 ∷ cond b (Retire 0 ∷ []) []) (sym undue);
  }

  pub finished-and-retired : (duty : ℕ) (x : View T) (then : List Signed) → DueThen (state_at found) serial (duty ∷ []) → Spread w x then (block_of (state_at then) duty) → HasFinished serial v x
  finished-and-retired duty x then due u = record {
    made = (Finish v.number ∷ []) ++ block_of (state_at then) duty;
    signed = signs-both v w x _ _ (signs-turned v w found _ t) (signs-spread w x then _ u);
    alone = λ number alone zero running.
        let is = due-some (is_last_at (state_at v.seen) 0) duty 0 (due-here (duty ∷ []) due number (alone-front w.seen x.seen u.grows.seen alone) zero running) in
        ap (λ (n : ℕ). Finish n ∷ block_of (state_at then) duty) number
        ∙ ap (λ (n : ℕ). Finish 0 ∷ block_of (state_at then) n) is.1
        ∙ ap (λ (b : Bool). Finish 0 ∷ cond b (Retire 0 ∷ []) []) (sym is.0);
  }

-- ---- the whole

-- after the request of the start serial 0 may be retired where another followed it
abbrev followed : Start → Bool
followed Start.published = true
followed (Start.refused failure key) = false
followed Start.undrafted = false
followed Start.unbegun = false

record Ended (s : State) (serial : ℕ) : Type 0 where
  serial_is : s.serial ≡ serial
  tickets_are : s.tickets ≡ record { caller = 0; serial = 0 } ∷ []
  halted_is : s.halted ≡ false

retires-by : (s : State) (n : ℕ) → Ended s n → is_last_at s 0 ≡ nat_lt 0 n
retires-by s n e =
    ap (λ (m : ℕ). nat_lt 0 m && (open_at 0 s.tickets == 1)) e.serial_is
    ∙ ap (λ (ts : List OpenTicket). nat_lt 0 n && (open_at 0 ts == 1)) e.tickets_are
    ∙ both-true (nat_lt 0 n)
  where
    both-true : (b : Bool) → (b && true) ≡ b
    both-true true = refl
    both-true false = refl

kept-so : (s t : State) → Keeps s t → Ended s 0 → Ended t 0
kept-so s t k e = record { serial_is = k.serial ∙ e.serial_is; tickets_are = k.tickets ∙ e.tickets_are; halted_is = k.halted ∙ e.halted_is }

module _ (first : Tree) (plan : Plan) where
  drafted-ended : Ended (drafted first plan) 0
  drafted-ended = record { serial_is = refl; tickets_are = refl; halted_is = refl }

  -- the state that the start's entries leave before its Finish
  abbrev at-finish : Start → State
  at-finish start = state_of (Begin 0 0 ∷ first_entries first plan start)

  ended-is : (start : Start) → Ended (at-finish start) (cond (followed start) 1 0)
  ended-is Start.published =
      let s : State = state_from (drafted first plan) (opened 0 plan) in
      let e : Ended s 0 = kept-so (drafted first plan) s (parts-keep (drafted first plan) (opened 0 plan) (opened-parts 0 plan)) drafted-ended in
      subst (λ (t : State). Ended t 1) (sym (state_from-append (drafted first plan) (opened 0 plan) (Publish 0 1 0 change.First ∷ [])))
      (record { serial_is = refl; tickets_are = e.tickets_are; halted_is = e.halted_is })
  ended-is (Start.refused failure key) =
      let s : State = state_from (drafted first plan) (opened_until 0 plan failure key) in
      let e : Ended s 0 = kept-so (drafted first plan) s (parts-keep (drafted first plan) (opened_until 0 plan failure key) (until-parts 0 plan failure key)) drafted-ended in
      let t : State = after s (Abandon 0) in
      let f : Ended t 0 = record { serial_is = e.serial_is; tickets_are = e.tickets_are; halted_is = e.halted_is } in
      subst (λ (u : State). Ended u 0) (sym (state_from-append (drafted first plan) (opened_until 0 plan failure key) (Abandon 0 ∷ undone_after 0 plan failure)))
      (kept-so t (state_from t (undone_after 0 plan failure)) (parts-keep t (undone_after 0 plan failure) (undone-parts 0 plan failure)) f)
  ended-is Start.undrafted = record { serial_is = refl; tickets_are = refl; halted_is = refl }
  ended-is Start.unbegun = record { serial_is = refl; tickets_are = refl; halted_is = refl }

  follows-is : (start : Start) → is_last_at (at-finish start) 0 ≡ followed start
  follows-is start = retires-by (at-finish start) (cond (followed start) 1 0) (ended-is start) ∙ by (followed start)
    where
      by : (b : Bool) → nat_lt 0 (cond b 1 0) ≡ b
      by true = refl
      by false = refl

  -- with its Begin and its Finish
  around : (start : Start) → ¬ (start ≡ Start.unbegun) → (Begin 0 0 ∷ []) ++ (first_entries first plan start ++ Finish 0 ∷ cond (followed start) (Retire 0 ∷ []) []) ≡ start_entries first plan start
  around Start.published begun = ap (λ (es : List Entry). Begin 0 0 ∷ Draft 0 first plan ∷ es) (append_assoc (opened 0 plan) (Publish 0 1 0 change.First ∷ []) (Finish 0 ∷ Retire 0 ∷ []))
  around (Start.refused failure key) begun = ap (λ (es : List Entry). Begin 0 0 ∷ Draft 0 first plan ∷ es) (append_assoc (opened_until 0 plan failure key) (Abandon 0 ∷ undone_after 0 plan failure) (Finish 0 ∷ []))
  around Start.undrafted begun = refl
  around Start.unbegun begun = absurd (begun refl)

  is-how : (h : StartHow) (start : Start) → IsDrafted h start → IsHow h start
  is-how how.Published start is = is
  is-how (how.FirstRefused key) start is = is
  is-how how.Unpublished start is = inl is

  has-begun : (h : StartHow) (start : Start) → IsDrafted h start → ¬ (start ≡ Start.unbegun)
  has-begun how.Published start is none = absurd (let e : Start.published ≡ Start.unbegun = sym is ∙ none in cc)
  has-begun (how.FirstRefused key) start is none = absurd (let e : Start.refused is.0 key ≡ Start.unbegun = sym is.1 ∙ none in cc)
  has-begun how.Unpublished start is none = absurd (let e : Start.undrafted ≡ Start.unbegun = sym is ∙ none in cc)

  module _ {T : Type 0} where
    pub unbegun : (v w : View T) (found : List Signed) → Turned v w found [] → HasStarted first plan how.Unpublished v w
    unbegun v w found t = record {
      made = [];
      signed = signs-turned v w found [] t;
      start = Start.unbegun;
      is = inr refl;
      alone = λ number alone none. refl;
    }

    pub started : (h : StartHow) (serial : ℕ) (v w x y : View T) (found : List Signed) → Turned v w found (Begin v.number serial ∷ []) → serial ≡ (state_at found).serial → HasDrafted first plan h serial w x → HasFinished serial x y → HasStarted first plan h v y
    started h serial v w x y found t current d f = record {
      made = (Begin v.number serial ∷ []) ++ (d.made ++ f.made);
      signed = signs-both v w y _ _ (signs-turned v w found _ t) (signs-both w x y _ _ d.signed f.signed);
      start = d.start;
      is = is-how h d.start d.is;
      alone = λ number alone none.
          let begins = signs-turned v w found _ t in
          let x_alone : IsAlone x.seen = alone-front x.seen y.seen f.signed.1.seen alone in
          let w_alone : IsAlone w.seen = alone-front w.seen x.seen d.signed.1.seen x_alone in
          let zero : serial ≡ 0 = current ∙ ap (λ (l : List Signed). (state_at l).serial) (found-alone v w found _ t number w_alone ∙ none) in
          let w_number : w.number ≡ 0 = number-stays v w _ begins number in
          let x_number : x.number ≡ 0 = number-stays w x _ d.signed w_number in
          let begun : w.seen ≡ all_signed 0 (Begin 0 0 ∷ []) =
          seen-alone v w _ begins number w_alone ∙ ap (λ (l : List Signed). l ++ all_signed 0 (Begin v.number serial ∷ [])) none
          ∙ ap (λ (n : ℕ). all_signed 0 (Begin n serial ∷ [])) number ∙ ap (λ (n : ℕ). all_signed 0 (Begin 0 n ∷ [])) zero in
          let drafts : d.made ≡ first_entries first plan d.start = d.alone w_number x_alone zero begun in
          let x_state : state_at x.seen ≡ state_of (Begin 0 0 ∷ first_entries first plan d.start) =
          ap state_at (seen-alone w x d.made d.signed w_number x_alone) ∙ state-more w.seen 0 d.made ∙ ap (λ (l : List Signed). state_from (state_at l) d.made) begun ∙ ap (λ (es : List Entry). state_from (after opening_state (Begin 0 0)) es) drafts in
          let ends : f.made ≡ Finish 0 ∷ cond (followed d.start) (Retire 0 ∷ []) [] =
          f.alone x_number alone zero (ap (λ (s : State). s.halted) x_state ∙ (ended-is d.start).halted_is) ∙ ap (λ (b : Bool). Finish 0 ∷ cond b (Retire 0 ∷ []) []) (ap (λ (s : State). is_last_at s 0) x_state ∙ follows-is d.start) in
          ap (λ (n : ℕ). (Begin n serial ∷ []) ++ (d.made ++ f.made)) number
          ∙ ap (λ (n : ℕ). (Begin 0 n ∷ []) ++ (d.made ++ f.made)) zero
          ∙ ap (λ (es : List Entry). (Begin 0 0 ∷ []) ++ (es ++ f.made)) drafts
          ∙ ap (λ (es : List Entry). (Begin 0 0 ∷ []) ++ (first_entries first plan d.start ++ es)) ends
          ∙ around d.start (has-begun h d.start d.is);
    }
