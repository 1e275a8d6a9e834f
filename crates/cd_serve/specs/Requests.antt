-- What serving one request does, call by call.
use Rattle.std.specs.Prelude.{◌≡◌, ◌++◌, ◌∷◌, ℕ, Bool, true, false, List, [], Option, Some, None, option_map, ◌≤◌, ◌<◌, if◌then◌else◌, length, ◌+◌, IfSome}
use mathlib.Core.List.{IsPrefix}
use Rattle.cd_text.specs.Steps.{joined}
use Rattle.cd_outside.specs.declared.address.Address.{Address}
use Rattle.cd_outside.specs.declared.given.Given.{Given}
use Rattle.cd_outside.specs.declared.given.Given.TheVariants as given
use Rattle.cd_outside.specs.declared.limits.TheConstants.{MAX_KEPT_BYTES}
use Rattle.cd_outside.specs.declared.past.KeepRecord.{KeepRecord}
use Rattle.cd_outside.specs.declared.past.Logged.{Logged}
use Rattle.cd_outside.specs.declared.past.Past.{Past}
use Rattle.cd_outside.specs.Past.{with_connection}
use Rattle.cd_tree.specs.declared.tree.Tree.{Tree}
use Rattle.cd_tree.specs.Tree.{text}
use Rattle.cd_admin.specs.Admin.{persists}
use Rattle.cd_wire.specs.declared.answer.Answer.{Answer}
use Rattle.cd_wire.specs.declared.request.Request.{Request}
use Rattle.cd_legal.specs.declared.entry.Entry.TheVariants.{Begin, Finish}
use Rattle.cd_legal.specs.declared.entry.Signed.{Signed}
use Rattle.cd_legal.specs.Entry.{signed, mine, entries}
use Rattle.cd_legal.specs.State.{Conf}
use Rattle.cd_legal.specs.Legal.{IsLegal}
use Rattle.cd_legal.specs.Placed.{Placed, met}
use Rattle.cd_legal.specs.Serials.{publishings}
use Rattle.cd_legal.specs.Signing.{IsHistory}
use Rattle.cd_gate.specs.declared.pass.Pass.{Pass}
use Rattle.cd_gate.specs.declared.view.View.{View}
use Rattle.cd_gate.specs.Growing.{Places}
use Rattle.cd_gate.specs.Passes.{view}
use Rattle.cd_life.specs.declared.board.Board.{Board}
use Rattle.cd_life.specs.Shares.{conf_in}
use Rattle.cd_hall.specs.declared.cache.Cache.{Cache}
use Rattle.cd_hall.specs.declared.hall.Hall.{Hall}
use Rattle.cd_hall.specs.declared.hall.Ticket.{Ticket}
use Rattle.cd_hall.specs.Caches.{IsCacheOf}
use Rattle.cd_hall.specs.Calls.{IsPassOf}
use Rattle.cd_hall.specs.Tickets.{IsTicketOf, BeganWith}
pub use Rattle.cd_session.specs.Keeping.{KeepsConnection}
use Rattle.cd_serve.specs.declared.keeping.Acknowledgement.{Acknowledgement}
use Rattle.cd_serve.specs.declared.how.How.{How}
use Rattle.cd_serve.specs.declared.how.How.TheVariants as how
use Rattle.cd_serve.specs.Meanings.{Meaning, Sent, sent, says_close, IsProperPrefix, nothing_sent, answer_sent, BreaksOff, after_sending}
use Rattle.cd_serve.specs.Retirements.{due, IsRetirement}
use Rattle.cd_serve.specs.Episodes.{Outcome, Episode, IsAgain, Ends}
use Rattle.cd_serve.specs.Replies.{AllAgain}
use Rattle.cd_serve.specs.Serving.{Replied, NotBegun}

-- the outcome of a request that was begun
abbrev pub outcome_of : How → Option Outcome
outcome_of (how.Answered close) = Some (Outcome.answered close)
outcome_of how.Unlogged = Some Outcome.unlogged
outcome_of how.Failed = Some Outcome.broken
outcome_of how.NoMemory = Some Outcome.lacking
outcome_of how.Dropped = Some Outcome.dropped
outcome_of how.Halted = Some Outcome.halted
outcome_of how.Worn = None

-- the lane failed
abbrev pub is_fault : How → Bool
is_fault (how.Answered close) = false
is_fault how.Unlogged = true
is_fault how.Failed = true
is_fault how.NoMemory = false
is_fault how.Dropped = false
is_fault how.Halted = false
is_fault how.Worn = false

-- where the request is to be decided again it did not
abbrev pub is_fault_in : Option How → Bool
is_fault_in (Some h) = is_fault h
is_fault_in None = false

-- a pass has no ticket, no draft and no duty
abbrev pub OwesNothing : {T : Type 0} → View T → Type 0
OwesNothing v = (v.ticket ≡ None) × (v.draft ≡ None) × (v.duties ≡ [])

-- it has a ticket at this serial, and neither of the others
abbrev pub OwesTicket : {T : Type 0} → View T → ℕ → Type 0
OwesTicket v serial = (v.ticket ≡ Some serial) × (v.draft ≡ None) × (v.duties ≡ [])

-- between two moments with these views a pass has published nothing
abbrev pub PublishedNothing : {T : Type 0} → View T → View T → Type 0
PublishedNothing v w = publishings (entries w.mine) ≡ publishings (entries v.mine)

-- ---- sending

-- what was sent of an answer with these lines, before which these configurations are kept
abbrev pub Sends : How → Request → Answer → List Logged → List KeepRecord → Sent → Type 0
Sends (how.Answered close) q r all keeps s = (s ≡ answer_sent q r all keeps) × (close ≡ says_close q r)
Sends how.Unlogged q r all keeps s = (lines : List Logged) × IsProperPrefix lines all × (s ≡ answer_sent q r lines keeps)
Sends how.Failed q r all keeps s = BreaksOff q r keeps s
Sends how.NoMemory q r all keeps s = s ≡ nothing_sent
Sends how.Dropped q r all keeps s = ⊥
Sends how.Halted q r all keeps s = ⊥
Sends how.Worn q r all keeps s = ⊥

pub record IsSent (h : How) (q : Request) (r : Answer) (all : List Logged) (keeps : List KeepRecord) (old new : Option Past) : Type 0 where
  pub what : Sent
  pub past : new ≡ option_map (with_connection (after_sending what)) old
  pub is : Sends h q r all keeps what

-- lines that were logged, and nothing else
abbrev pub only_lines : List Logged → Sent
only_lines lines = record { put = []; lines = lines; keeps = [] }

-- some of these lines were logged, from the first one on: all of them, or fewer
pub record IsLogged (whole : Bool) (all : List Logged) (old new : Option Past) : Type 0 where
  pub lines : List Logged
  pub past : new ≡ option_map (with_connection (after_sending (only_lines lines))) old
  pub all_are : whole ≡ true → lines ≡ all
  pub fewer : whole ≡ false → IsProperPrefix lines all

-- ---- keeping

-- the text that is to be kept of a configuration, where it is to be kept
abbrev pub text_to_keep : Tree → Option (List ℕ)
text_to_keep tree = if persists tree then Some (text tree) else None

-- what is kept by this text as a serial, before anything is put
abbrev pub keeps_as : ℕ → Option (List ℕ) → List KeepRecord
keeps_as serial None = []
keeps_as serial (Some bytes) = record { put = 0; serial = serial; text = bytes } ∷ []

-- what acknowledges the change to this tree, by this answer to a request under a serial, was written out
pub record IsReady (a : Acknowledgement) (serial : ℕ) (tree : Tree) (q : Request) (r : Answer) : Type 0 where
  pub bytes : a.bytes ≡ sent q r
  pub serial_is : a.serial ≡ serial + 1
  pub text_is : a.text ≡ text_to_keep tree
  pub short : IfSome a.text (λ bytes. length bytes ≤ MAX_KEPT_BYTES)

-- configurations that were kept, and nothing else
abbrev pub only_keeps : List KeepRecord → Sent
only_keeps keeps = record { put = []; lines = []; keeps = keeps }

-- these were kept; or there are some, and nothing is told
abbrev pub Keeps : Given → List KeepRecord → Option Past → Option Past → Type 0
Keeps given.All keeps old new = new ≡ option_map (with_connection (after_sending (only_keeps keeps))) old
Keeps given.Failed keeps old new = (0 < length keeps) × (new ≡ old)

-- ---- under a ticket

-- the request of the ticket began by this entry of the pass, which met what the ticket has, and since then the pass has signed nothing
pub record IsBegun {T A B : Type 0} {g : _} (v : View T) (t : Ticket A B g) : Type 0 where
  pub history : IsHistory v.seen
  pub ticket : IsTicketOf v t
  pub begin : Placed
  pub begins : begin.entry ≡ Begin v.number t.serial
  pub with_ticket : BeganWith (conf_in t.share) t.serial begin
  pub since : List Signed
  pub stands : v.seen ≡ begin.before ++ signed v.number begin.entry ∷ since
  pub alone : mine v.number since ≡ []

-- a Finish stands in a legal history, after what was seen
pub record FinishesAfter (seen : List Signed) (finish : Placed) : Type 0 where
  pub after : IsPrefix seen finish.before
  pub legal : IsLegal finish.before

module _ (m : Meaning) (k : ℕ) (at : Address) (q : Request) where
  -- this work, and what was sent, ends the request with the outcome, where its Begin and its Finish are these
  abbrev pub EndsIn : Option Outcome → Placed → List Placed → Placed → Sent → Type 0
  EndsIn (Some outcome) begin work finish s = Ends m k at q outcome begin work finish s
  EndsIn None begin work finish s = ⊥

  -- so wherever they stand; where there is no outcome yet, it is to be decided again
  abbrev pub ActsBetween : Conf → ℕ → List Signed → Option How → List Placed → Sent → Type 0
  ActsBetween conf serial seen (Some h) work s =
      (begin finish : Placed) → BeganWith conf serial begin → FinishesAfter seen finish → EndsIn (outcome_of h) begin work finish s
  ActsBetween conf serial seen None work s =
      ((begin finish : Placed) → BeganWith conf serial begin → FinishesAfter seen finish → IsAgain m k at q begin work finish) × (s ≡ nothing_sent)

-- what was done for a request under a ticket of this configuration and serial, between two moments with these views
pub record Acted {T : Type 0} (m : Meaning) (at : Address) (q : Request) (conf : Conf) (serial : ℕ) (result : Option How) (v w : View T) (old new : Option Past) : Type 0 where
  pub work : List Placed
  pub what : Sent
  pub places : Places v w work
  pub past : new ≡ option_map (with_connection (after_sending what)) old
  pub is : ActsBetween m v.number at q conf serial w.seen result work what

-- the same of what makes no entry, whatever its pass and whatever that has seen
pub record ActedQuietly (m : Meaning) (at : Address) (q : Request) (conf : Conf) (serial : ℕ) (h : How) (old new : Option Past) : Type 0 where
  pub what : Sent
  pub past : new ≡ option_map (with_connection (after_sending what)) old
  pub is : (k : ℕ) (seen : List Signed) → ActsBetween m k at q conf serial seen (Some h) [] what

-- a further request may be served: the pass of the hall owes nothing, the cache has a configuration that is there, if any, and the
-- connection is there
pub record MayServe {A F B : Type 0} {g : _} (h : Hall A F B g) (p : Pass (Board A F B g)) (c : Cache A B g) (connected : Bool) : Type 0 where
  pub pass : IsPassOf h p
  pub free : OwesNothing (view p)
  pub cache : IsCacheOf (view p) c
  pub busy : connected ≡ true

-- a request may be acted on: the pass of the hall has its ticket, under which it has begun, and owes nothing else; and its connection
-- is there
pub record MayAct {A F B : Type 0} {g : _} (h : Hall A F B g) (p : Pass (Board A F B g)) (t : Ticket A B g) (connected : Bool) : Type 0 where
  pub pass : IsPassOf h p
  pub ticket : IsBegun (view p) t
  pub owes : OwesTicket (view p) t.serial
  pub busy : connected ≡ true

-- it was acted on, and the pass still has its ticket, and owes nothing else
pub record HasActed {A F B : Type 0} {g : _} (m : Meaning) (h : Hall A F B g) (t : Ticket A B g) (at : Address) (q : Request) (result : Option How) (p p' : Pass (Board A F B g)) (old new : Option Past) : Type 0 where
  pub pass : IsPassOf h p'
  pub owes : OwesTicket (view p') t.serial
  pub acted : Acted m at q (conf_in t.share) t.serial result (view p) (view p') old new

-- the request was ended, and its serial was retired where that was due
pub record Concluded {T : Type 0} (v w : View T) : Type 0 where
  pub finish : Placed
  pub block : List Placed
  pub places : Places v w (finish ∷ block)
  pub finishes : finish.entry ≡ Finish v.number
  pub retires : IsRetirement (met finish) (due (met finish) v.number) block
  pub stands : FinishesAfter v.seen finish

-- ---- a request

-- it was replied to, or was not begun
abbrev pub RepliedWith : Meaning → ℕ → Address → Request → Option Outcome → List Placed → Option Past → Option Past → Type 0
RepliedWith m k at q (Some outcome) own old new = Replied m k at q outcome own old new
RepliedWith m k at q None own old new = NotBegun m k at q own old new

-- the request was served so, between two moments with these views of its pass
pub record RequestServed {T : Type 0} (m : Meaning) (at : Address) (q : Request) (h : How) (v w : View T) (old new : Option Past) : Type 0 where
  pub own : List Placed
  pub places : Places v w own
  pub served : RepliedWith m v.number at q (outcome_of h) own old new

-- by one episode the request is to be decided again, and nothing was sent
pub record DecidesAgain {T : Type 0} (m : Meaning) (at : Address) (q : Request) (v w : View T) (old new : Option Past) : Type 0 where
  pub own : List Placed
  pub places : Places v w own
  pub episode : Episode v.number own
  pub again : IsAgain m v.number at q episode.begin episode.work episode.finish
  pub past : new ≡ old

-- one attempt to serve it: it was served, or is to be decided again
abbrev pub ServedOnce : {T : Type 0} → Meaning → Address → Request → Option How → View T → View T → Option Past → Option Past → Type 0
ServedOnce m at q (Some h) v w old new = RequestServed m at q h v w old new
ServedOnce m at q None v w old new = DecidesAgain m at q v w old new

-- it was decided again and again, and nothing was sent
pub record Repeats {T : Type 0} (m : Meaning) (at : Address) (q : Request) (v w : View T) (old new : Option Past) : Type 0 where
  pub again : List (List Placed)
  pub agains : AllAgain m v.number at q again
  pub number : w.number ≡ v.number
  -- what the pass does next stands after these episodes
  pub goes_on : (x : View T) (own : List Placed) → Places w x own → Places v x (joined again ++ own)
  pub past : new ≡ old
