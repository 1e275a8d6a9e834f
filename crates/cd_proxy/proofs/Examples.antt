-- Each relation where it holds, and a near miss.
use Rattle.std.proofs.Common.{◌≡◌, ℕ, Bool, true, false, List, [], ◌∷◌, Some, None, inl, refl, sym}
use Rattle.cd_outside.specs.declared.address.Address.{Address}
use Rattle.cd_wire.specs.declared.answer.Answer.{Answer}
use Rattle.cd_wire.specs.declared.request.Request.{Request}
use Rattle.cd_peers.specs.declared.dialled.Dialled.{Dialled}
use Rattle.cd_proxy.specs.declared.answering.How.TheVariants as how
use Rattle.cd_proxy.specs.declared.exchanges.Outcome.TheVariants as outcome
use Rattle.cd_proxy.specs.declared.limits.TheConstants.{MAX_INFORMATIONAL}
use Rattle.cd_proxy.specs.declared.reading.Reading.TheVariants as reading
use Rattle.cd_proxy.specs.Answers.{bad_gateway, is_good, sent, Sends}
use Rattle.cd_proxy.specs.Exchanges.{IsOutcome}
use Rattle.cd_proxy.specs.Forward.{forward}
use Rattle.cd_proxy.specs.Replies.{IsReply}
use Rattle.cd_proxy.specs.Responses.{IsReading}
use Rattle.cd_proxy.proofs.EmptyLemmas.{empty_no_head, nothing_read}
use Rattle.cd_proxy.proofs.FinalLemmas.{no_head_no_final}
use Rattle.cd_proxy.proofs.ResponseLemmas.{no_final_no_response}

-- ---- readings

-- no bytes are no response yet
of_nothing : IsReading [] false false reading.More
of_nothing = nothing_read [] false refl

-- and none at all where the input has ended
of_end : IsReading [] true false reading.Bad
of_end = (no_final_no_response [] true false (no_head_no_final MAX_INFORMATIONAL [] empty_no_head), inl refl)

-- no more comes after the end
of_more : IsReading [] true false reading.More → ⊥
of_more r = let h : true ≡ false = r.0 in cc

-- ---- exchanges

module _ (q : Request) (to from : Address) where
  -- all was put, and memory was lacking for what came
  abbrev whole_put : Address → Dialled
  whole_put at = record { address = at; put = forward q to; taken = []; ended = false }

  of_put : IsOutcome q to outcome.NoMemory (Some (whole_put to))
  of_put = record { address = refl; is = inl (refl, tt) }

  -- it was dialled elsewhere
  of_elsewhere : (from ≡ to → ⊥) → IsOutcome q to outcome.NoMemory (Some (whole_put from)) → ⊥
  of_elsewhere other is = other is.address

  -- a dial that failed is no exchange, and no upstream has answered
  of_failed : IsOutcome q to outcome.Failed None
  of_failed = tt

  of_unasked : (answer : Answer) → IsOutcome q to (outcome.Passed answer) None → ⊥
  of_unasked answer is = is

-- ---- answers

of_good : (answer : Answer) → (is_good (outcome.Passed answer) ≡ true) × (is_good outcome.Bad ≡ false) × (is_good outcome.Failed ≡ false) × (is_good outcome.NoMemory ≡ false)
of_good answer = (refl, refl, refl, refl)

module _ (q : Request) (close : Bool) where
  of_sent : q.close ≡ close → Sends (how.Answered close) q bad_gateway (sent q bad_gateway)
  of_sent is = (refl, sym is)

  -- where memory was lacking, no byte was sent
  of_lacking : Sends how.NoMemory q bad_gateway (72 ∷ []) → ⊥
  of_lacking is = cc

-- ---- requests

-- where memory was lacking for the response, no part of a 502 is sent
of_part : (upstreams : List Address) (q : Request) (to : Address) (put : List ℕ)
    → IsReply upstreams (record { request = q; to = to; exchange = None; came = outcome.NoMemory; done = how.Failed; put = put }) → ⊥
of_part upstreams q to put r = let h : how.Failed ≡ how.NoMemory = r.lacking refl in cc
