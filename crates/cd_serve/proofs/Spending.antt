-- Once as many drafts were made as a history may have, no more are.
use Rattle.std.proofs.Common.{◌≡◌, ◌<◌, ◌==◌, true, List, ◌++◌, length, sym, ap, subst, ◌∙◌, arith}
use Rattle.std.proofs.lemmas.Bool.{eqb-true, ltb-true}
use mathlib.Core.List.{IsPrefix}
use Rattle.cd_legal.specs.declared.limits.TheConstants.{MAX_DRAFTS}
use Rattle.cd_legal.specs.declared.entry.Entry.{Entry}
use Rattle.cd_legal.specs.declared.entry.Entry.TheVariants.{Draft, Made, Started, Publish, Abandon, Stopped, Cleaned}
use Rattle.cd_legal.specs.declared.entry.Signed.{Signed}
use Rattle.cd_legal.specs.declared.state.State.{State}
use Rattle.cd_legal.specs.Entry.{entries}
use Rattle.cd_legal.specs.Legal.{allowed, after, state_at, state_from, IsLegal}
use Rattle.cd_legal.proofs.Histories.{first, second, along}
use Rattle.cd_legal.proofs.Logs.{state-append, legal-back}
use Rattle.cd_legal.proofs.Places.{length_change}

full-stays : (s : State) (e : Entry) → allowed s e ≡ true → length s.drafts ≡ MAX_DRAFTS → length (after s e).drafts ≡ MAX_DRAFTS
full-stays s (Draft d tree plan) may full = absurd (
    let is : d ≡ length s.drafts = eqb-true d (length s.drafts) (first (d == length s.drafts) _ may) in
    let low : d < MAX_DRAFTS = ltb-true d MAX_DRAFTS (second (d == length s.drafts) _ may) in
    omega (arith, is, low, full))
full-stays s (Made d i taken failed) may full = length_change _ s.drafts d ∙ full
full-stays s (Started d i taken failed) may full = length_change _ s.drafts d ∙ full
full-stays s (Publish d n from by) may full = length_change _ s.drafts d ∙ full
full-stays s (Abandon d) may full = length_change _ s.drafts d ∙ full
full-stays s (Stopped d i) may full = length_change _ s.drafts d ∙ full
full-stays s (Cleaned d i) may full = length_change _ s.drafts d ∙ full
full-stays s e may full = full

pub drafts-stay-spent : (front log : List Signed) → IsPrefix front log → IsLegal log → length (state_at front).drafts ≡ MAX_DRAFTS → length (state_at log).drafts ≡ MAX_DRAFTS
drafts-stay-spent front log prefix legal full =
    let whole : IsLegal (front ++ prefix.0) = subst (λ (l : List Signed). IsLegal l) (sym prefix.1) legal in
    let later : length (state_from (state_at front) (entries prefix.0)).drafts ≡ MAX_DRAFTS = along (λ (s : State). length s.drafts ≡ MAX_DRAFTS) full-stays (state_at front) (entries prefix.0) (legal-back front prefix.0 whole) full in
    ap (λ (l : List Signed). length (state_at l).drafts) (sym prefix.1) ∙ (ap (λ (s : State). length s.drafts) (state-append front prefix.0) ∙ later)
