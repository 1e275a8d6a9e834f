-- No bytes are no response.
use Rattle.std.proofs.Common.{◌≡◌, ℕ, List, [], length, length-append, refl, ap, subst, sym, arith, false, Bool}
use Rattle.httparse.specs.Grammar.{print_response}
use Rattle.cd_proxy.specs.declared.limits.TheConstants.{MAX_INFORMATIONAL}
use Rattle.cd_proxy.specs.declared.reading.Reading.TheVariants as reading
use Rattle.cd_proxy.specs.Reading.{HasNoHead}
use Rattle.cd_proxy.specs.Responses.{IsReading}
use Rattle.cd_proxy.proofs.FinalLemmas.{no_head_no_final}
use Rattle.cd_proxy.proofs.ResponseLemmas.{no_final_no_response}

-- nothing is no head: it has three digits
pub empty_no_head : HasNoHead []
unfolding print_response
empty_no_head head rest b =
    let some = b.reads.0.digits.0 in
    let e = ap length b.reads.1 in
    absurd (omega (arith, some, simp length-append at e))

pub nothing_read : (taken : List ℕ) (head : Bool) → taken ≡ [] → IsReading taken false head reading.More
nothing_read taken head is =
    subst (λ (t : List ℕ). IsReading t false head reading.More) (sym is)
    (refl, no_final_no_response [] false head (no_head_no_final MAX_INFORMATIONAL [] empty_no_head))
