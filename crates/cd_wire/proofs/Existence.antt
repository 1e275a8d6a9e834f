-- No input that has ended is without requests and a tail.
use Rattle.std.proofs.Common.{inl, inr, ◌≡◌, ℕ, zero, suc, ◌<◌, ◌≤◌, true, List, [], ◌∷◌, ◌++◌, length, refl, ap, arith, length-append, Result, Ok, Err}
use Rattle.httparse.specs.Grammar.{print_request, print_chunk_line}
use Rattle.httparse.specs.Ascii.{crlf_bytes}
use Rattle.cd_wire.specs.declared.head.Head.{Head}
use Rattle.cd_wire.specs.declared.request.Request.{Request}
use Rattle.cd_wire.specs.declared.fault.WireFault.{WireFault}
use Rattle.cd_wire.specs.declared.fault.WireFault.TheVariants.{BadHead}
use Rattle.cd_wire.specs.declared.framing.Framing.{Framing}
use Rattle.cd_wire.specs.declared.framing.Framing.TheVariants.{Length, Chunked}
use Rattle.cd_wire.specs.Heads.{BeginsHead, HasNoHead}
use Rattle.cd_wire.specs.Framing.{judge}
use Rattle.cd_wire.specs.Bodies.{BeginsLine, BeginsChunks, BeginsBody, RefusesBody}
use Rattle.cd_wire.specs.Requests.{BeginsRequest, HasNoRequest, HasRequests, Tail, clean, cut, refused}
use Rattle.cd_wire.proofs.TakingLemmas.{ends_in_body}

-- no requests and no tail are those of the input
abbrev pub IsWithout : List ℕ → Type 0
IsWithout input = (requests : List Request) (tail : Tail) → ¬ (HasRequests input true requests tail)

-- ---- a request has some bytes

less_after_head : (input : List ℕ) (head : Head) (rest : List ℕ) → BeginsHead input head rest → length rest < length input
unfolding print_request
less_after_head input head rest b =
    let some = b.reads.0.method.0 in
    let whole = ap length b.reads.1 in
    omega (arith, simp length-append at whole)

after_line : (text : List ℕ) (size : ℕ) (rest : List ℕ) → BeginsLine text size rest → length rest ≤ length text
after_line text size rest b = omega (arith, ap length b.reads.1, length-append (print_chunk_line b.line) rest)

after_chunks : (text : List ℕ) (pieces : List (List ℕ)) (rest : List ℕ) → BeginsChunks text pieces rest
    → length rest ≤ length text
after_chunks text [] rest b =
    omega (arith, after_line text 0 (crlf_bytes ++ rest) b, length-append crlf_bytes rest)
after_chunks text (piece ∷ pieces) rest b =
    omega (
      arith,
      after_line text (length piece) b.1.after b.1.line,
      ap length b.1.is,
      length-append piece (crlf_bytes ++ b.0),
      length-append crlf_bytes b.0,
      after_chunks b.0 pieces rest b.2,
    )

after_body : (framing : Framing) (text body rest : List ℕ) → BeginsBody framing text body rest → length rest ≤ length text
after_body (Length size) text body rest b = omega (arith, ap length b.0, length-append body rest)
after_body Chunked text body rest b = after_chunks text b.0 rest b.1

less_after_request : (input : List ℕ) (request : Request) (rest : List ℕ) → BeginsRequest input request rest
    → length rest < length input
less_after_request input request rest b =
    omega (arith, less_after_head input b.head b.after b.begins, after_body b.framing b.after b.body rest b.delimited)

-- ---- what begins with no request has a tail

-- it begins with a head
not_with_head : (input : List ℕ) (head : Head) (after : List ℕ) → BeginsHead input head after → HasNoRequest input
    → IsWithout input → (verdict : Result Framing WireFault) → judge head ≡ verdict → ⊥
not_with_head input head after b none without (Err fault) is =
    without [] (refused fault) (record {
      rest = input;
      splits = refl;
      no_more = none;
      tail_is = inl (head, after, b, inl is);
    })
not_with_head input head after b none without (Ok framing) is =
    let faultless : (fault : WireFault) → ¬ (RefusesBody framing after fault) = λ fault refuses.
    without [] (refused fault) (record {
      rest = input;
      splits = refl;
      no_more = none;
      tail_is = inl (head, after, b, inr (framing, is, refuses));
    }) in
    without [] cut (record {
      rest = input;
      splits = refl;
      no_more = none;
      tail_is = (refl, ends_in_body input head after framing b is faultless none);
    })

-- or it has no bytes, or some and no head
not_at_end : (input : List ℕ) → HasNoRequest input → ¬ (IsWithout input)
not_at_end [] none without =
    without [] clean (record { rest = []; splits = refl; no_more = none; tail_is = (refl, refl) })
not_at_end (byte ∷ bytes) none without =
    let no_head : HasNoHead (byte ∷ bytes) = λ head after b.
    not_with_head (byte ∷ bytes) head after b none without (judge head) refl in
    without [] (refused BadHead) (record {
      rest = byte ∷ bytes;
      splits = refl;
      no_more = none;
      tail_is = inr (refl, (omega arith, no_head, inl refl));
    })

-- ---- each request is followed by those of what is left

one_more : (input : List ℕ) (request : Request) (after : List ℕ) (requests : List Request) (tail : Tail)
    → BeginsRequest input request after → HasRequests after true requests tail
    → HasRequests input true (request ∷ requests) tail
one_more input request after requests tail b h = record {
  rest = h.rest;
  splits = (after, b, h.splits);
  no_more = h.no_more;
  tail_is = h.tail_is;
}

never_without : (most : ℕ) (input : List ℕ) → length input ≤ most → ¬ (IsWithout input)
never_without zero input within without =
    not_at_end input (λ request rest b. absurd (omega (arith, less_after_request input request rest b))) without
never_without (suc most) input within without =
    not_at_end input (λ request rest b. never_without most rest (omega (arith, less_after_request input request rest b))
    (λ requests tail h. without (request ∷ requests) tail (one_more input request rest requests tail b h))) without

pub requests_exist : (input : List ℕ) → ¬ (IsWithout input)
requests_exist input = never_without (length input) input (omega arith)
