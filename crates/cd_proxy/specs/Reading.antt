-- For the clauses of private functions: what is read of a response.
use Rattle.std.specs.Prelude.{◌≡◌, ℕ, ◌≤◌, Bool, List, [], ◌++◌, length, take, drop}
use Rattle.cd_wire.specs.Reading.{framing_of, IsBodyKept}
use Rattle.cd_proxy.specs.declared.head.Head.{Head}
use Rattle.cd_proxy.specs.declared.head.HeadRead.{HeadRead}
use Rattle.cd_proxy.specs.declared.head.HeadRead.TheVariants as head
use Rattle.cd_proxy.specs.declared.finals.FinalRead.{FinalRead}
use Rattle.cd_proxy.specs.declared.finals.FinalRead.TheVariants as final
use Rattle.cd_proxy.specs.declared.delimiting.Extent.{Extent}
use Rattle.cd_proxy.specs.declared.delimiting.Extent.TheVariants as extent
use Rattle.cd_proxy.specs.declared.content.Content.{Content}
use Rattle.cd_proxy.specs.declared.content.Content.TheVariants as kept
use Rattle.cd_proxy.specs.declared.content.ContentRead.{ContentRead}
use Rattle.cd_proxy.specs.declared.content.ContentRead.TheVariants as content
use Rattle.cd_proxy.specs.Responses.{BeginsContent}
use Rattle.cd_proxy.specs.Heads.{BeginsHead, BeginsFinal}

-- the input begins with no head
abbrev pub HasNoHead : List ℕ → Type 0
HasNoHead input = (head : Head) (rest : List ℕ) → ¬ (BeginsHead input head rest)

-- no input that begins so begins with a head
abbrev pub NeverHasHead : List ℕ → Type 0
NeverHasHead input = (more : List ℕ) → HasNoHead (input ++ more)

-- a head and its length; or none yet; or none ever
abbrev pub IsHeadRead : List ℕ → HeadRead → Type 0
IsHeadRead bytes (head.Whole read len) = (len ≤ length bytes) × BeginsHead bytes read (drop len bytes)
IsHeadRead bytes head.Partial = HasNoHead bytes
IsHeadRead bytes head.Hopeless = NeverHasHead bytes

-- no final head at the front, after so many informational ones at most
abbrev pub HasNoFinal : ℕ → List ℕ → Type 0
HasNoFinal most input = (head : Head) (rest : List ℕ) → ¬ (BeginsFinal most input head rest)

-- nor whatever follows
abbrev pub NeverHasFinal : ℕ → List ℕ → Type 0
NeverHasFinal most input = (more : List ℕ) → HasNoFinal most (input ++ more)

-- these bytes are passed over where a final head is looked for: after them so many informational heads may come, where before
-- them it was so many
pub record Skips (most : ℕ) (before : List ℕ) (left : ℕ) : Type 0 where
  pub there : (text : List ℕ) (head : Head) (rest : List ℕ) → BeginsFinal left text head rest → BeginsFinal most (before ++ text) head rest
  pub back : (text : List ℕ) (head : Head) (rest : List ℕ) → BeginsFinal most (before ++ text) head rest → BeginsFinal left text head rest

-- a final head, which ends at a place; or none yet, and how far informational heads go; or none ever
abbrev pub IsFinalRead : ℕ → List ℕ → FinalRead → Type 0
IsFinalRead most input (final.Whole read at) = (at ≤ length input) × BeginsFinal most (take at input) read []
IsFinalRead most input (final.Partial at left) = (at ≤ length input) × Skips most (take at input) left × HasNoFinal most input
IsFinalRead most input final.Hopeless = NeverHasFinal most input

-- ---- the body

-- no body at the front of the text
abbrev pub HasNoContent : Extent → Bool → List ℕ → Type 0
HasNoContent extent ended text = (body rest : List ℕ) → ¬ (BeginsContent extent ended text body rest)

-- nor whatever follows
abbrev pub NeverHasContent : Extent → List ℕ → Type 0
NeverHasContent extent text = (more : List ℕ) (ended : Bool) → HasNoContent extent ended (text ++ more)

-- how far the body goes of which this is known
abbrev pub extent_kept : Content → Extent
extent_kept (kept.Framed body) = extent.Framed (framing_of body)
extent_kept kept.ToEnd = extent.ToEnd

-- these bytes of a body were read, and this is known of them
abbrev pub IsContentKept : List ℕ → Content → Type 0
IsContentKept before (kept.Framed body) = IsBodyKept before body
IsContentKept before kept.ToEnd = before ≡ []

-- a body that has not come whole, of which these bytes were read before. So many bytes of the text were read now, and what is
-- known of the body afterwards is known of all that were read
pub record IsContentGoing (extent : Extent) (ended : Bool) (before text : List ℕ) (len : ℕ) (after : Content) : Type 0 where
  pub none : HasNoContent extent ended (before ++ text)
  pub same : extent ≡ extent_kept after
  pub within : len ≤ length text
  pub kept : IsContentKept (before ++ take len text) after

-- the same for each outcome: the whole body, and what follows it; no end of it; or nothing that can become one, which changes
-- nothing
abbrev pub IsContentReadAfter : List ℕ → Bool → Content → List ℕ → Content → ContentRead → Type 0
IsContentReadAfter before ended known text after (content.Whole found len) =
    (len ≤ length text) × BeginsContent (extent_kept known) ended (before ++ text) found (drop len text)
IsContentReadAfter before ended known text after (content.Going len) = IsContentGoing (extent_kept known) ended before text len after
IsContentReadAfter before ended known text after content.Refused =
    (after ≡ known) × NeverHasContent (extent_kept known) (before ++ text)

-- what is read is right after whichever bytes this is known of
abbrev pub IsContentRead : Bool → Content → List ℕ → Content → ContentRead → Type 0
IsContentRead ended known text after found =
    (before : List ℕ) → IsContentKept before known → IsContentReadAfter before ended known text after found
