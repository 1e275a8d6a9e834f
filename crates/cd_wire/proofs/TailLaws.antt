-- An input has one list of requests, and one tail.
use Rattle.std.proofs.Common.{inl, inr, ◌≡◌, ℕ, Bool, true, false, List, [], ◌∷◌, length, refl, sym, ap, ◌∙◌, subst, arith, Result, Ok, Err}
use Rattle.cd_wire.specs.declared.request.Request.{Request}
use Rattle.cd_wire.specs.declared.fault.WireFault.{WireFault}
use Rattle.cd_wire.specs.declared.framing.Framing.{Framing}
use Rattle.cd_wire.specs.Heads.{BeginsHead}
use Rattle.cd_wire.specs.Bodies.{RefusesBody}
use Rattle.cd_wire.specs.Requests.{BeginsRequest, Splits, HasNoRequest, HasRequests, Tail, HasTail, RefusesAfterHead, EndsInBody, clean, cut, refused, more_may_come}
use Rattle.cd_wire.proofs.RequestLaws.{BeginsRequest-unique}
use Rattle.cd_wire.proofs.BodyLemmas.{one_body_fault}
use Rattle.cd_wire.proofs.TakingLemmas.{empty_no_head, same_verdict}

-- ---- requests

pub Splits-unique : (input : List ℕ) (requests others : List Request) (rest left : List ℕ)
    → Splits input requests rest → Splits input others left → HasNoRequest rest → HasNoRequest left
    → (requests ≡ others) × (rest ≡ left)
Splits-unique input [] [] rest left s t none nothing = (refl, sym s ∙ t)
Splits-unique input [] (other ∷ others) rest left s t none nothing =
    absurd (none other t.0 (subst (λ i. BeginsRequest i other t.0) s t.1))
Splits-unique input (request ∷ requests) [] rest left s t none nothing =
    absurd (nothing request s.0 (subst (λ i. BeginsRequest i request s.0) t s.1))
Splits-unique input (request ∷ requests) (other ∷ others) rest left s t none nothing =
    let first = BeginsRequest-unique input request other s.0 t.0 s.1 t.1 in
    let there : Splits t.0 requests rest = subst (λ i. Splits i requests rest) first.1 s.2 in
    let later = Splits-unique t.0 requests others rest left there t.2 none nothing in
    (cc (first.0, later.0), later.1)

-- ---- tails

-- at the end of an input there is no body
no_body_at_end : (rest : List ℕ) → EndsInBody rest → rest ≡ [] → ⊥
no_body_at_end rest b e = empty_no_head b.head b.after (subst (λ r. BeginsHead r b.head b.after) e b.begins)

-- and no fault
no_fault_at_end : (rest : List ℕ) (ended : Bool) (fault : WireFault) → HasTail rest ended (refused fault) → rest ≡ [] → ⊥
no_fault_at_end rest ended fault t e =
    elim t [
      | inl r ↦ empty_no_head r.0 r.1 (subst (λ input. BeginsHead input r.0 r.1) e r.2)
      | inr h ↦ omega (arith, ap length e, h.1.0)
    ]

both_ways : (ended : Bool) → ended ≡ true → ended ≡ false → ⊥
both_ways ended is is_not = cc

-- a head is refused or not
not_both : {f : WireFault} {g : Framing} → ◌≡◌ {A = Result Framing WireFault} (Err f) (Ok g) → ⊥
not_both {f} {g} e = cc

err_same : {f g : WireFault} → ◌≡◌ {A = Result Framing WireFault} (Err f) (Err g) → f ≡ g
err_same {f} {g} e = cc

ok_same : {f g : Framing} → ◌≡◌ {A = Result Framing WireFault} (Ok f) (Ok g) → f ≡ g
ok_same {f} {g} e = cc

one_fault : (rest : List ℕ) (fault other : WireFault) → RefusesAfterHead rest fault → RefusesAfterHead rest other → fault ≡ other
one_fault rest fault other r q =
    let same = same_verdict rest r.0 q.0 r.1 q.1 r.2 q.2 in
    elim r.3 [
      | inl head ↦ elim q.3 [
        | inl head-too ↦ err_same (sym head ∙ same.0 ∙ head-too)
        | inr body ↦ absurd (not_both (sym head ∙ same.0 ∙ body.1))
      ]
      | inr body ↦ elim q.3 [
        | inl head ↦ absurd (not_both (sym head ∙ sym same.0 ∙ body.1))
        | inr body-too ↦
            let framings : body.0 ≡ body-too.0 = ok_same (sym body.1 ∙ same.0 ∙ body-too.1) in
            one_body_fault body-too.0 q.1 fault other
            (subst (λ f. RefusesBody f q.1 fault) framings (subst (λ t. RefusesBody body.0 t fault) same.1 body.2)) body-too.2
      ]
    ]

same_refusal : (rest : List ℕ) (ended : Bool) (fault other : WireFault)
    → HasTail rest ended (refused fault) → HasTail rest ended (refused other) → fault ≡ other
same_refusal rest ended fault other t u =
    elim t [
      | inl r ↦ elim u [ inl q ↦ one_fault rest fault other r q | inr h ↦ absurd (h.1.1 r.0 r.1 r.2) ]
      | inr h ↦ elim u [ inl q ↦ absurd (h.1.1 q.0 q.1 q.2) | inr k ↦ h.0 ∙ sym k.0 ]
    ]

-- what ends in a body is not refused
cut_or_refused : (rest : List ℕ) (ended : Bool) (fault : WireFault) → EndsInBody rest → HasTail rest ended (refused fault) → ⊥
cut_or_refused rest ended fault b t =
    elim t [ inl r ↦ b.faultless fault r | inr h ↦ h.1.1 b.head b.after b.begins ]

-- what may go on is not refused
more_or_refused : (rest : List ℕ) (ended : Bool) (fault : WireFault) → HasTail rest ended more_may_come → HasTail rest ended (refused fault) → ⊥
more_or_refused rest ended fault m t =
    elim t [
      | inl r ↦ elim m.1 [ inl none ↦ none.0 r.0 r.1 r.2 | inr b ↦ b.faultless fault r ]
      | inr h ↦ elim h.1.2 [
        | inl over ↦ both_ways ended over m.0
        | inr never ↦ elim m.1 [ inl none ↦ none.1 never | inr b ↦ h.1.1 b.head b.after b.begins ]
      ]
    ]

pub tail_unique : (rest : List ℕ) (ended : Bool) (tail end : Tail) → HasTail rest ended tail → HasTail rest ended end → tail ≡ end
tail_unique rest ended clean clean t u = refl
tail_unique rest ended clean cut t u = absurd (no_body_at_end rest u.1 t.1)
tail_unique rest ended clean more_may_come t u = absurd (both_ways ended t.0 u.0)
tail_unique rest ended clean (refused fault) t u = absurd (no_fault_at_end rest ended fault u t.1)
tail_unique rest ended cut clean t u = absurd (no_body_at_end rest t.1 u.1)
tail_unique rest ended cut cut t u = refl
tail_unique rest ended cut more_may_come t u = absurd (both_ways ended t.0 u.0)
tail_unique rest ended cut (refused fault) t u = absurd (cut_or_refused rest ended fault t.1 u)
tail_unique rest ended more_may_come clean t u = absurd (both_ways ended u.0 t.0)
tail_unique rest ended more_may_come cut t u = absurd (both_ways ended u.0 t.0)
tail_unique rest ended more_may_come more_may_come t u = refl
tail_unique rest ended more_may_come (refused fault) t u = absurd (more_or_refused rest ended fault t u)
tail_unique rest ended (refused fault) clean t u = absurd (no_fault_at_end rest ended fault t u.1)
tail_unique rest ended (refused fault) cut t u = absurd (cut_or_refused rest ended fault u.1 t)
tail_unique rest ended (refused fault) more_may_come t u = absurd (more_or_refused rest ended fault u t)
tail_unique rest ended (refused fault) (refused other) t u = ap refused (same_refusal rest ended fault other t u)

pub same_requests : (input : List ℕ) (ended : Bool) (requests others : List Request) (tail end : Tail)
    → HasRequests input ended requests tail → HasRequests input ended others end → requests ≡ others
same_requests input ended requests others tail end one other =
    (Splits-unique input requests others one.rest other.rest one.splits other.splits one.no_more other.no_more).0

pub same_tail : (input : List ℕ) (ended : Bool) (requests others : List Request) (tail end : Tail)
    → HasRequests input ended requests tail → HasRequests input ended others end → tail ≡ end
same_tail input ended requests others tail end one other =
    let same = Splits-unique input requests others one.rest other.rest one.splits other.splits one.no_more other.no_more in
    tail_unique other.rest ended tail end (subst (λ r. HasTail r ended tail) same.1 one.tail_is) other.tail_is
