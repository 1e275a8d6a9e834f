-- Each relation where it holds, and a near miss.
use Rattle.std.proofs.Common.{◌≡◌, ℕ, true, false, [], Option, None, Some, inl, inr, refl, ap}
use Rattle.cd_outside.specs.declared.past.Past.{Past}
use Rattle.cd_wire.specs.declared.fault.WireFault.{WireFault}
use Rattle.cd_wire.specs.Requests.{Tail}
use Rattle.cd_wire.proofs.TakingLemmas.{nothing_no_request}
use Rattle.cd_session.specs.declared.cause.Cause.TheVariants as cause
use Rattle.cd_session.specs.declared.connection_end.ConnectionEnd.{ConnectionEnd}
use Rattle.cd_session.specs.Ends.{CausedBy, ended_by}
use Rattle.cd_session.specs.Reading.{IsRefused, ReadsOn}
use Rattle.cd_session.specs.Ways.{Interruption, Way, IsTail, finds_halt, is_faulted, is_interrupted}

-- ---- ways to end

of_ways : (is_interrupted (Way.interrupted Interruption.reading) ≡ true) × (is_interrupted (Way.interrupted Interruption.wearing) ≡ true) × (is_interrupted Way.clean ≡ false) × (is_interrupted Way.dropped ≡ false) × (is_interrupted Way.worn ≡ false)
    × (is_interrupted Way.halted ≡ false) × (finds_halt Way.halted ≡ true) × (finds_halt Way.dropped ≡ false)
of_ways = (refl, refl, refl, refl, refl, refl, refl, refl)

-- a fault alone cuts an answer short, or one of its lines; bytes that can't be read may lack memory
of_faults : (is_faulted (Way.interrupted Interruption.answering) ≡ true) × (is_faulted (Way.interrupted Interruption.logging) ≡ true) × (is_faulted (Way.interrupted Interruption.wearing) ≡ true)
    × (is_faulted (Way.interrupted Interruption.lacking) ≡ false) × (is_faulted (Way.interrupted Interruption.reading) ≡ false) × (is_faulted (Way.interrupted Interruption.beginning) ≡ false) × (is_faulted Way.closed ≡ false)
of_faults = (refl, refl, refl, refl, refl, refl, refl)

of_lacking : CausedBy cause.Lacking (Way.interrupted Interruption.reading)
of_lacking = (refl, refl)

-- memory alone can't have cut an answer short
of_answering : CausedBy cause.Lacking (Way.interrupted Interruption.answering) → ⊥
of_answering caused = let h : true ≡ false = caused.1 in cc

of_tail : IsTail [] true Tail.clean
of_tail = (nothing_no_request, (refl, refl))

-- more may come
of_open : IsTail [] false Tail.clean → ⊥
of_open tail = let h : false ≡ true = tail.1.0 in cc

-- ---- reads

-- its end was seen
of_end : ReadsOn None [] [] false true 0 0 None None
of_end = (refl, inr (record { left_is = refl; ended_is = refl; told = refl }))

-- the lane has failed after two answers
of_failed : ReadsOn (Some (ended_by cause.Failed 2)) [] [] false false 2 2 None None
of_failed = inr (record { end_is = refl; told = refl })

-- it is over, and nothing has failed
of_whole : ReadsOn (Some (ended_by cause.Whole 2)) [] [] false false 2 2 None None → ⊥
of_whole reads = elim reads as (λ _. ⊥) [
  | inl lacks ↦ let h : cause.Whole ≡ cause.Lacking = ap (λ (e : ConnectionEnd). e.cause) lacks.end_is in cc
  | inr failed ↦ let h : cause.Whole ≡ cause.Failed = ap (λ (e : ConnectionEnd). e.cause) failed.end_is in cc
]

-- a refusal takes no memory
of_refusal : (fault : WireFault) (n : ℕ) (before now : Option Past) → IsRefused fault n (ended_by cause.Lacking n) before now → ⊥
of_refusal fault n before now r = elim r.is as (λ _. ⊥) [
  | inl whole ↦ let h : cause.Lacking ≡ cause.Whole = ap (λ (e : ConnectionEnd). e.cause) whole.1 in cc
  | inr some ↦ let h : cause.Lacking ≡ cause.Failed = ap (λ (e : ConnectionEnd). e.cause) some.1 in cc
]
