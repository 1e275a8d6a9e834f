-- The response that bytes begin with, and what is passed on of it (RFC 9112, section 6.3).
use Rattle.std.specs.Prelude.{◌≡◌, ℕ, ◌≤◌, ◌⊎◌, Bool, false, ◌||◌, ◌==◌, List, [], ◌∷◌, ◌++◌, length, codes, if◌then◌else◌, Option, Some, None, Result, Ok, Err, IsTrue, IsFalse}
use Rattle.cd_wire.specs.declared.limits.TheConstants.{MAX_BODY_BYTES}
use Rattle.cd_wire.specs.declared.answer.Answer.{Answer}
use Rattle.cd_wire.specs.declared.framing.Framing.{Framing}
use Rattle.cd_wire.specs.declared.framing.Framing.TheVariants.{Length}
use Rattle.cd_wire.specs.declared.fault.WireFault.{WireFault}
use Rattle.cd_wire.specs.Fields.{values}
use Rattle.cd_wire.specs.Framing.{framing_by}
use Rattle.cd_wire.specs.Bodies.{BeginsBody}
use Rattle.cd_proxy.specs.declared.head.Head.{Head}
use Rattle.cd_proxy.specs.declared.delimiting.Extent.{Extent}
use Rattle.cd_proxy.specs.declared.delimiting.Extent.TheVariants.{Framed, ToEnd}
use Rattle.cd_proxy.specs.declared.limits.TheConstants.{MAX_INFORMATIONAL}
use Rattle.cd_proxy.specs.Heads.{BeginsFinal}
use Rattle.cd_proxy.specs.Removed.{passed_on}
use Rattle.cd_proxy.specs.declared.reading.Reading.{Reading}
use Rattle.cd_proxy.specs.declared.reading.Reading.TheVariants as reading

-- ---- the body

-- no body follows, whatever the fields say: the request was HEAD, or the status is 204 or 304 (RFC 9112, section 6.3, item 1)
abbrev pub has_no_body : Bool → ℕ → Bool
has_no_body head status = head || (status == 204) || (status == 304)

-- a framing that is not refused
abbrev pub framed : Result Framing WireFault → Option Extent
framed (Ok framing) = Some (Framed framing)
framed (Err fault) = None

-- by the values of Transfer-Encoding and Content-Length: where there are none, the body goes up to the end (RFC 9112, section
-- 6.3, item 8); else as the body of a request
abbrev pub extent_by : ℕ → List (List ℕ) → List (List ℕ) → Option Extent
extent_by minor [] [] = Some ToEnd
extent_by minor [] (length ∷ lengths) = framed (framing_by minor [] (length ∷ lengths))
extent_by minor (coding ∷ codings) lengths = framed (framing_by minor (coding ∷ codings) lengths)

-- how far the body goes, or nothing where the fields are refused
unfoldable pub extent_of : Bool → Head → Option Extent
extent_of head response =
    if has_no_body head response.status then Some (Framed (Length 0))
    else extent_by response.minor (values (codes "transfer-encoding") response.fields) (values (codes "content-length") response.fields)

-- the text, after which more may come unless it has ended, begins with the body, and then comes this rest
abbrev pub BeginsContent : Extent → Bool → List ℕ → List ℕ → List ℕ → Type 0
BeginsContent (Framed framing) ended text body rest = BeginsBody framing text body rest
BeginsContent ToEnd ended text body rest = IsTrue ended × (body ≡ text) × (rest ≡ []) × (length text ≤ MAX_BODY_BYTES)

-- ---- the response

-- what is passed on
abbrev pub passed : Head → List ℕ → Answer
passed head body = record { status = head.status; fields = passed_on head.fields; body = body; close = false }

-- the input, after which more may come unless it has ended, begins with a response of which this is passed on, and then comes
-- this rest. `head` says that the request was HEAD
pub record BeginsResponse (input : List ℕ) (ended head : Bool) (answer : Answer) (rest : List ℕ) : Type 0 where
  pub response : Head
  pub after : List ℕ
  pub begins : BeginsFinal MAX_INFORMATIONAL input response after
  pub extent : Extent
  pub delimited : extent_of head response ≡ Some extent
  pub body : List ℕ
  pub content : BeginsContent extent ended after body rest
  pub is : answer ≡ passed response body

-- the input begins with no response
abbrev pub HasNoResponse : List ℕ → Bool → Bool → Type 0
HasNoResponse input ended head = (answer : Answer) (rest : List ℕ) → ¬ (BeginsResponse input ended head answer rest)

-- no input that begins so begins with one, whether it has ended or not
abbrev pub NeverHasResponse : List ℕ → Bool → Type 0
NeverHasResponse input head = (more : List ℕ) (ended : Bool) → HasNoResponse (input ++ more) ended head

-- what a reading finds
abbrev pub IsReading : List ℕ → Bool → Bool → Reading → Type 0
IsReading input ended head (reading.Whole answer) = (rest : List ℕ) × BeginsResponse input ended head answer rest
IsReading input ended head reading.More = IsFalse ended × HasNoResponse input ended head
IsReading input ended head reading.Bad = HasNoResponse input ended head × (IsTrue ended ⊎ NeverHasResponse input head)
