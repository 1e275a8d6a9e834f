-- To a draft that is closed nothing more happens.
use Rattle.std.proofs.Common.{◌≡◌, ◌<◌, ℕ, ◌+◌, Bool, true, false, List, length, slice_get, Option, Some, None, refl, sym, ap, ◌∙◌, arith}
use Rattle.std.proofs.lemmas.Bool.{eqb-true}
use Rattle.cd_legal.specs.declared.part.Part.TheVariants.{Instance, App}
use Rattle.cd_legal.specs.declared.entry.Entry.{Entry}
use Rattle.cd_legal.specs.declared.entry.Entry.TheVariants.{Draft, Made, Started, Publish, Abandon, Stopped, Cleaned}
use Rattle.cd_legal.specs.declared.state.State.{State}
use Rattle.cd_legal.specs.declared.state.Drafted.{Drafted}
use Rattle.cd_legal.specs.declared.state.Life.{Life}
use Rattle.cd_legal.specs.declared.state.Life.TheVariants.{Live, Published, Abandoned}
use Rattle.cd_legal.specs.State.{holds, is_live, may_clean_instances, all_stopped}
use Rattle.cd_legal.specs.Legal.{allowed, may_open, may_stop, may_clean, is_complete}
use Rattle.cd_legal.specs.Whole.{is_closed, is_closed_in}
use Rattle.cd_legal.specs.Abandoned.{is_entry_of}
use Rattle.cd_legal.proofs.Histories.{first, second}
use Rattle.cd_legal.proofs.Facts.{opens, completes, stops, cleans, can}
use Rattle.cd_legal.proofs.Places.{holds_within}

-- a draft that passes a test passes none that excludes it
clash : {A : Type 0} (may other : A → Bool) → ((x : A) → may x ≡ true → other x ≡ true → false ≡ true) → (o : Option A) → holds may o ≡ true → holds other o ≡ true → false ≡ true
clash may other apart None m c = m
clash may other apart (Some x) m c = apart x m c

-- none is live and done with
done_life : (retired : List ℕ) (l : Life) → is_live l ≡ true → may_clean_instances retired l ≡ true → false ≡ true
done_life retired Live live done = done
done_life retired (Published n) live done = live
done_life retired Abandoned live done = live

live_none : (retired : List ℕ) (x : Drafted) → is_live x.life ≡ true → is_closed retired x ≡ true → false ≡ true
live_none retired x live closed = done_life retired x.life live (first (may_clean_instances retired x.life) _ closed)

one_more : (a e m : ℕ) → a + 1 + e ≡ m → e ≡ m → false ≡ true
one_more a e m next all = absurd (omega arith)

stop_none : (retired : List ℕ) (a serial : ℕ) (x : Drafted) → may_stop a serial x ≡ true → is_closed retired x ≡ true → false ≡ true
stop_none retired a serial x m closed =
    one_more a x.stopped x.started (stops a serial x m).next (eqb-true x.stopped x.started (first (all_stopped x) _ (second (may_clean_instances retired x.life) _ closed)))

clean_none : (retired : List ℕ) (i : ℕ) (x : Drafted) → may_clean i retired x ≡ true → is_closed retired x ≡ true → false ≡ true
clean_none retired i x m closed =
    one_more i x.cleaned x.made (cleans i retired x m).next (eqb-true x.cleaned x.made (second (all_stopped x) _ (second (may_clean_instances retired x.life) _ closed)))

past_end : (d n : ℕ) → d ≡ n → d < n → false ≡ true
past_end d n same low = absurd (omega arith)

-- none of its entries is allowed
pub closed-ends : (s : State) (d : ℕ) (e : Entry) → is_closed_in s d ≡ true → is_entry_of d e ≡ true → allowed s e ≡ true → false ≡ true
closed-ends s d (Draft j tree plan) closed is may =
    past_end d (length s.drafts) (sym (eqb-true j d is) ∙ (can s (Draft j tree plan) may).next) (holds_within (is_closed s.retired) s.drafts d closed)
closed-ends s d (Made j i taken failed) closed is may =
    clash (may_open Instance i taken failed s.pairs) (is_closed s.retired) (λ x m c. live_none s.retired x (ap is_live (opens Instance i taken failed s.pairs x m).opened.live) c) (slice_get s.drafts d) (ap (λ (z : ℕ). holds (may_open Instance i taken failed s.pairs) (slice_get s.drafts z)) (sym (eqb-true j d is)) ∙ may) closed
closed-ends s d (Started j a taken failed) closed is may =
    clash (may_open App a taken failed s.pairs) (is_closed s.retired) (λ x m c. live_none s.retired x (ap is_live (opens App a taken failed s.pairs x m).opened.live) c) (slice_get s.drafts d) (ap (λ (z : ℕ). holds (may_open App a taken failed s.pairs) (slice_get s.drafts z)) (sym (eqb-true j d is)) ∙ may) closed
closed-ends s d (Publish j n from c) closed is may =
    clash is_complete (is_closed s.retired) (λ x m c. live_none s.retired x (ap is_live (completes x m).opened.live) c) (slice_get s.drafts d) (ap (λ (z : ℕ). holds is_complete (slice_get s.drafts z)) (sym (eqb-true j d is)) ∙ (can s (Publish j n from c) may).complete) closed
closed-ends s d (Abandon j) closed is may = clash (λ x. is_live x.life) (is_closed s.retired) (λ x m c. live_none s.retired x m c) (slice_get s.drafts d) (ap (λ (z : ℕ). holds (λ (x : Drafted). is_live x.life) (slice_get s.drafts z)) (sym (eqb-true j d is)) ∙ may) closed
closed-ends s d (Stopped j a) closed is may = clash (may_stop a s.serial) (is_closed s.retired) (λ x m c. stop_none s.retired a s.serial x m c) (slice_get s.drafts d) (ap (λ (z : ℕ). holds (may_stop a s.serial) (slice_get s.drafts z)) (sym (eqb-true j d is)) ∙ may) closed
closed-ends s d (Cleaned j i) closed is may = clash (may_clean i s.retired) (is_closed s.retired) (λ x m c. clean_none s.retired i x m c) (slice_get s.drafts d) (ap (λ (z : ℕ). holds (may_clean i s.retired) (slice_get s.drafts z)) (sym (eqb-true j d is)) ∙ may) closed
closed-ends s d e closed is may = is

refused : (b : Bool) → (b ≡ true → false ≡ true) → b ≡ false
refused true never = sym (never refl)
refused false never = refl

pub closed-refuses : (s : State) (d : ℕ) (e : Entry) → is_closed_in s d ≡ true → is_entry_of d e ≡ true → allowed s e ≡ false
closed-refuses s d e closed is = refused (allowed s e) (closed-ends s d e closed is)
