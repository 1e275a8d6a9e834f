-- For the clauses of private functions: what is read at the front of the bytes of an upstream, and what is kept of it.
use Rattle.std.specs.Prelude.{⊤, ◌≡◌, ℕ, ◌≤◌, Bool, true, false, List, [], ◌++◌, length, take, drop, Some}
use Rattle.cd_proxy.specs.declared.head.Head.{Head}
use Rattle.cd_proxy.specs.declared.limits.TheConstants.{MAX_INFORMATIONAL}
use Rattle.cd_proxy.specs.declared.reading.Reading.TheVariants as reading
use Rattle.cd_proxy.specs.declared.taking.Front.{Front}
use Rattle.cd_proxy.specs.declared.taking.Known.{Known}
use Rattle.cd_proxy.specs.declared.taking.Known.TheVariants as known
use Rattle.cd_proxy.specs.declared.taking.Pause.{Pause}
use Rattle.cd_proxy.specs.declared.taking.Pause.TheVariants as pause
use Rattle.cd_proxy.specs.declared.taking.Found.{Found}
use Rattle.cd_proxy.specs.declared.taking.Found.TheVariants as found
use Rattle.cd_proxy.specs.declared.taking.Taken.{Taken}
use Rattle.cd_proxy.specs.declared.taking.Taken.TheVariants as taken
use Rattle.cd_proxy.specs.Heads.{BeginsFinal}
use Rattle.cd_proxy.specs.Reading.{Skips, extent_kept, IsContentKept}
use Rattle.cd_proxy.specs.Responses.{BeginsResponse, IsReading, extent_of, passed}

-- these bytes are a final head that is not refused, after informational ones, and the part of its body that was read, and this is
-- known of the response
pub record HasFront (head : Bool) (read : List ℕ) (front : Front) : Type 0 where
  pub response : Head
  pub part : List ℕ
  pub begins : BeginsFinal MAX_INFORMATIONAL read response part
  pub delimited : extent_of head response ≡ Some (extent_kept front.content)
  pub is : front.answer ≡ passed response []
  pub kept : IsContentKept part front.content

-- this is known of the response of which these bytes were read
abbrev pub IsKept : Bool → List ℕ → Known → Type 0
IsKept head before (known.Search most) = Skips MAX_INFORMATIONAL before most
IsKept head before (known.Front front) = HasFront head before front

-- why the input begins with no response
abbrev pub IsPause : Bool → List ℕ → Bool → Pause → Type 0
IsPause head input ended pause.More = IsReading input ended head reading.More
IsPause head input ended pause.Bad = IsReading input ended head reading.Bad
IsPause head input ended pause.NoMemory = ⊤

-- where a whole one is not there, more may come, unless the input has ended
abbrev pub pause_cut : Bool → Pause
pause_cut true = pause.Bad
pause_cut false = pause.More

-- a final head that ends at a place and is not refused, of an input of which these bytes are not kept and those are left; or no
-- response, for the reason given, and then this is known of the bytes that were read
abbrev pub IsFound : Bool → List ℕ → List ℕ → Bool → Known → Found → Type 0
IsFound head before left ended after (found.Front at) =
    (at ≤ length left) × (front : Front) × (after ≡ known.Front front) × HasFront head (before ++ take at left) front
IsFound head before left ended after (found.None pause len) =
    (len ≤ length left) × IsPause head (before ++ left) ended pause × IsKept head (before ++ take len left) after

-- a response; or none, for the reason given. Then this is known of the bytes that come after the response, or that were read
abbrev pub IsTaken : Bool → List ℕ → List ℕ → Bool → Known → Taken → Type 0
IsTaken head before left ended after (taken.Response answer len) =
    (len ≤ length left) × BeginsResponse (before ++ left) ended head answer (drop len left) × IsKept head [] after
IsTaken head before left ended after (taken.None pause len) =
    (len ≤ length left) × IsPause head (before ++ left) ended pause × IsKept head (before ++ take len left) after
