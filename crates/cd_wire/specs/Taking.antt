-- Part of the main theorem.
-- For the clauses of private functions: what is read at the front of an input, and what is kept of it.
use Rattle.std.specs.Prelude.{⊤, ◌≡◌, ℕ, ◌≤◌, ◌<◌, Bool, List, [], ◌++◌, length, take, drop, IsTrue, IsFalse, Ok}
use Rattle.std.specs.List.{list_any}
use Rattle.httparse.specs.Grammar.{MayBecomeRequest}
use Rattle.cd_wire.specs.declared.limits.TheConstants.{MAX_HEAD_BYTES}
use Rattle.cd_wire.specs.declared.head.Head.{Head}
use Rattle.cd_wire.specs.declared.head.HeadRead.{HeadRead}
use Rattle.cd_wire.specs.declared.head.HeadRead.TheVariants as head
use Rattle.cd_wire.specs.declared.scanning.Line.TheVariants.{Blank}
use Rattle.cd_wire.specs.declared.scanning.Scanned.{Scanned}
use Rattle.cd_wire.specs.declared.taking.Front.{Front}
use Rattle.cd_wire.specs.declared.taking.Search.{Search}
use Rattle.cd_wire.specs.declared.taking.Known.{Known}
use Rattle.cd_wire.specs.declared.taking.Known.TheVariants as known
use Rattle.cd_wire.specs.declared.taking.Begun.{Begun}
use Rattle.cd_wire.specs.declared.taking.Begun.TheVariants as begun
use Rattle.cd_wire.specs.declared.taking.Pause.{Pause}
use Rattle.cd_wire.specs.declared.taking.Pause.TheVariants as pause
use Rattle.cd_wire.specs.declared.taking.Taken.{Taken}
use Rattle.cd_wire.specs.declared.taking.Taken.TheVariants as taken
use Rattle.cd_wire.specs.Scanning.{scan}
use Rattle.cd_wire.specs.Heads.{BeginsHead, HasNoHead, NeverHasHead}
use Rattle.cd_wire.specs.Framing.{judge, is_closing, request_of}
use Rattle.cd_wire.specs.Reading.{framing_of, IsBodyKept}
use Rattle.cd_wire.specs.Requests.{BeginsRequest, HasNoRequest, EndsInBody, HasTail, refused}
use Rattle.cd_wire.specs.Intake.{WantsMore}

-- ---- what is read

-- a head and its length; or none yet; or none ever
abbrev pub IsHeadRead : List ℕ → HeadRead → Type 0
IsHeadRead bytes (head.Whole read len) = (len ≤ length bytes) × BeginsHead bytes read (drop len bytes)
IsHeadRead bytes head.Partial = HasNoHead bytes × MayBecomeRequest bytes
IsHeadRead bytes head.Hopeless = NeverHasHead bytes

-- the same of an input that may be longer than a head: there is none yet only where it is shorter
abbrev pub IsFrontRead : List ℕ → HeadRead → Type 0
IsFrontRead input (head.Whole read len) = (len ≤ length input) × BeginsHead input read (drop len input)
IsFrontRead input head.Partial = (length input < MAX_HEAD_BYTES) × HasNoHead input × MayBecomeRequest input
IsFrontRead input head.Hopeless = NeverHasHead input

-- ---- what is kept of an input was read from it

-- where its first bytes end was found byte by byte
pub record IsScanned (input : List ℕ) (scanned : Scanned) : Type 0 where
  pub within : scanned.count ≤ length input
  pub stands : scanned.line ≡ scan Blank (take scanned.count input)

-- so was how far its head was looked for
pub record IsSearch (input : List ℕ) (search : Search) : Type 0 where
  pub scanned : IsScanned input search.scanned
  pub within : search.parsed ≤ length input
  pub may : MayBecomeRequest (take search.parsed input)

-- these bytes are a head that is not refused and the part of its body that was read, and this is known of the request
pub record HasFront (read : List ℕ) (front : Front) : Type 0 where
  pub head : Head
  pub part : List ℕ
  pub begins : BeginsHead read head part
  pub judged : judge head ≡ Ok (framing_of front.body)
  pub is : front.request ≡ request_of head []
  pub kept : IsBodyKept part front.body

-- what is known of an input after these bytes, which are not kept, and of those that are left: where its head is looked for, all
-- of them are
abbrev pub IsKept : List ℕ → List ℕ → Known → Type 0
IsKept before left (known.Search search) = (before ≡ []) × IsSearch left search
IsKept before left (known.Front front) = HasFront before front
IsKept before left (known.Whole request) = BeginsRequest before request []

-- ---- what the input begins with

-- a head that is not refused, whether it closes the connection, and a body of which nothing was read; or none, for the reason given
abbrev pub IsBegun : List ℕ → Bool → Begun → Type 0
IsBegun input ended (begun.Head head closing body len) =
    (len ≤ length input) × BeginsHead input head (drop len input) × (judge head ≡ Ok (framing_of body)) × IsBodyKept [] body
    × (closing ≡ list_any is_closing head.fields)
IsBegun input ended (begun.More search) = IsFalse ended × WantsMore input × IsSearch input search
IsBegun input ended begun.End = IsTrue ended × (input ≡ [])
IsBegun input ended (begun.Refused fault) = HasNoRequest input × HasTail input ended (refused fault)

-- why the input begins with no request
abbrev pub IsPause : List ℕ → Bool → Pause → Type 0
IsPause input ended pause.More = IsFalse ended × WantsMore input
IsPause input ended pause.End = IsTrue ended × (input ≡ [])
IsPause input ended pause.Cut = IsTrue ended × HasNoRequest input × EndsInBody input
IsPause input ended (pause.Refused fault) = HasNoRequest input × HasTail input ended (refused fault)
IsPause input ended pause.NoMemory = ⊤

-- a request, of an input of which these bytes are not kept and those are left; or none, for the reason given. Then this is known
-- of the bytes that come after the request, or that are left when so many of them were read
abbrev pub IsTaken : List ℕ → List ℕ → Bool → Known → Taken → Type 0
IsTaken before left ended known (taken.Request request len) =
    (len ≤ length left) × BeginsRequest (before ++ left) request (drop len left) × IsKept [] (drop len left) known
IsTaken before left ended known (taken.None pause len) =
    (len ≤ length left) × IsPause (before ++ left) ended pause × IsKept (before ++ take len left) (drop len left) known
