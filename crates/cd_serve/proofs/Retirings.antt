-- The block of a serial stays as it is: its draft, and how many instances of it are made, are the same once it is published.
use Rattle.std.proofs.Common.{◌≡◌, ◌<◌, ◌≤◌, ℕ, zero, suc, ◌==◌, Bool, true, false, List, [], ◌∷◌, ◌++◌, length, slice_get, Option, Some, None, refl, sym, ap, subst, ◌∙◌, arith, eq-eqb}
use Rattle.std.specs.Prelude.{◌&&◌}
use Rattle.std.proofs.lemmas.Bool.{eqb-true}
use mathlib.Core.List.{IsPrefix}
use Rattle.cd_legal.specs.declared.entry.Entry.{Entry}
use Rattle.cd_legal.specs.declared.entry.Entry.TheVariants.{Draft, Made, Started, Publish, Abandon, Stopped, Retire, Cleaned}
use Rattle.cd_legal.specs.declared.entry.Signed.{Signed}
use Rattle.cd_legal.specs.declared.part.Part.TheVariants.{Instance, App}
use Rattle.cd_legal.specs.declared.state.State.{State}
use Rattle.cd_legal.specs.declared.state.Drafted.{Drafted}
use Rattle.cd_legal.specs.Entry.{entries}
use Rattle.cd_legal.specs.State.{holds, is_live}
use Rattle.cd_legal.specs.Legal.{allowed, after, state_at, state_from, IsLegal, is_open, is_complete, may_open, may_stop, may_clean}
use Rattle.cd_legal.specs.Runs.{count_in, made_in, entries_for, cleaned_all, block_of}
use Rattle.cd_legal.specs.Serials.{has_serial, has_serial_in}
use Rattle.cd_legal.proofs.Histories.{both, first, second, along}
use Rattle.cd_legal.proofs.Lives.{complete}
use Rattle.cd_legal.proofs.Logs.{state-append, legal-back, legal-front}
use Rattle.cd_legal.proofs.Places.{holds_kept, holds_push}
use Rattle.cd_legal.proofs.Serials.{live_none, get_stays, legal-agree}

-- it was published with the serial, and has so many instances
abbrev is_so : ℕ → ℕ → Drafted → Bool
is_so n c x = has_serial n x.life && (x.made == c)

-- a live draft was not
not-live : (n c : ℕ) (x : Drafted) → is_live x.life ≡ true → is_so n c x ≡ true → ⊥
not-live n c x live so = absurd (let h : false ≡ true = sym (live_none x.life n live) ∙ first (has_serial n x.life) _ so in cc)

opens : (x : Drafted) (rest : Bool) → (is_open x && rest) ≡ true → is_live x.life ≡ true
opens x rest is = first (is_live x.life) _ (first (is_open x) rest is)

so-stays : (n c d : ℕ) (s : State) (e : Entry) → allowed s e ≡ true → holds (is_so n c) (slice_get s.drafts d) ≡ true → holds (is_so n c) (slice_get (after s e).drafts d) ≡ true
so-stays n c d s (Draft j tree plan) may so = holds_push (is_so n c) _ s.drafts d so
so-stays n c d s (Made j i taken failed) may so = holds_kept (is_so n c) (may_open Instance i taken failed s.pairs) _ (λ x m u. absurd (not-live n c x (opens x _ m) u)) s.drafts j d may so
so-stays n c d s (Started j i taken failed) may so = holds_kept (is_so n c) (may_open App i taken failed s.pairs) _ (λ x m u. u) s.drafts j d may so
so-stays n c d s (Publish j m from by) may so = holds_kept (is_so n c) is_complete _ (λ x m u. absurd (not-live n c x (opens x _ m) u)) s.drafts j d (complete s j m from by may) so
so-stays n c d s (Abandon j) may so = holds_kept (is_so n c) (λ x. is_live x.life) _ (λ x m u. absurd (not-live n c x m u)) s.drafts j d may so
so-stays n c d s (Stopped j i) may so = holds_kept (is_so n c) (may_stop i s.serial) _ (λ x m u. u) s.drafts j d may so
so-stays n c d s (Cleaned j i) may so = holds_kept (is_so n c) (may_clean i s.retired) _ (λ x m u. u) s.drafts j d may so
so-stays n c d s e may so = so

published-stays : (n d : ℕ) (s : State) (e : Entry) → slice_get s.published n ≡ Some d → slice_get (after s e).published n ≡ Some d
published-stays n d s (Publish j m from by) is = get_stays s.published (j ∷ []) d n is
published-stays n d s e is = is

-- the draft with the serial after n, and how much of it is made
pub record IsSo (n d c : ℕ) (s : State) : Type 0 where
  pub published : slice_get s.published n ≡ Some d
  pub so : holds (is_so (suc n) c) (slice_get s.drafts d) ≡ true

stays : (n d c : ℕ) (s : State) (e : Entry) → allowed s e ≡ true → IsSo n d c s → IsSo n d c (after s e)
stays n d c s e may is = record { published = published-stays n d s e is.published; so = so-stays (suc n) c d s e may is.so }

made-is : (n c : ℕ) (o : Option Drafted) → holds (is_so n c) o ≡ true → count_in (λ x. x.made) o ≡ c
made-is n c None so = cc
made-is n c (Some x) so = eqb-true x.made c (second (has_serial n x.life) _ so)

so-now : (n : ℕ) (o : Option Drafted) → holds (λ x. has_serial n x.life) o ≡ true → holds (is_so n (count_in (λ x. x.made) o)) o ≡ true
so-now n None is = is
so-now n (Some x) is = both (has_serial n x.life) _ is (eq-eqb x.made x.made refl)

block-is : (n d c : ℕ) (s : State) → IsSo n d c s → block_of s (suc n) ≡ Retire (suc n) ∷ cleaned_all d c
block-is n d c s is =
    ap (λ (o : Option ℕ). Retire (suc n) ∷ entries_for (λ j. cleaned_all j (made_in s j)) o) is.published
    ∙ ap (λ (m : ℕ). Retire (suc n) ∷ cleaned_all d m) (made-is (suc n) c (slice_get s.drafts d) is.so)

none-there : (xs : List ℕ) (n : ℕ) → n < length xs → slice_get xs n ≡ None → ⊥
none-there [] n low is = absurd (omega (arith, low))
none-there (x ∷ xs) zero low is = cc
none-there (x ∷ xs) (suc n) low is = none-there xs n (omega (arith, low)) is

by-draft : (front log : List Signed) (n : ℕ) (o : Option ℕ) → slice_get (state_at front).published n ≡ o → IsPrefix front log → IsLegal log → n < length (state_at front).published → block_of (state_at log) (suc n) ≡ block_of (state_at front) (suc n)
by-draft front log n None is prefix legal low = absurd (none-there (state_at front).published n low is)
by-draft front log n (Some d) is prefix legal low =
    let c : ℕ = made_in (state_at front) d in
    let has : has_serial_in (state_at front) (suc n) d ≡ true = (legal-agree (entries front) (legal-front front log prefix legal)).lives (suc n) d is in
    let now : IsSo n d c (state_at front) = record { published = is; so = so-now (suc n) (slice_get (state_at front).drafts d) has } in
    let whole : IsLegal (front ++ prefix.0) = subst (λ (l : List Signed). IsLegal l) (sym prefix.1) legal in
    let then : IsSo n d c (state_from (state_at front) (entries prefix.0)) = along (IsSo n d c) (stays n d c) (state_at front) (entries prefix.0) (legal-back front prefix.0 whole) now in
    let later : IsSo n d c (state_at log) = subst (λ (s : State). IsSo n d c s) (sym (state-append front prefix.0) ∙ ap (λ (l : List Signed). state_at l) prefix.1) then in
    block-is n d c (state_at log) later ∙ sym (block-is n d c (state_at front) now)

-- once a serial is published its block is the same in each longer history
pub block-stays : (front log : List Signed) (n : ℕ) → IsPrefix front log → IsLegal log → n ≤ length (state_at front).published → block_of (state_at log) n ≡ block_of (state_at front) n
block-stays front log zero prefix legal low = refl
block-stays front log (suc n) prefix legal low = by-draft front log n (slice_get (state_at front).published n) refl prefix legal (omega (arith, low))
