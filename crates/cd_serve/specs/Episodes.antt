-- Part of the main theorem.
-- Episodes: what a pass does in the history for a request, from its Begin to its Finish, and how the request is answered for it.
use Rattle.std.specs.Prelude.{◌≡◌, ◌⊎◌, ℕ, ◌+◌, ◌==◌, ◌&&◌, ◌||◌, not, Bool, true, false, List, [], ◌∷◌, ◌++◌, length, IsTrue}
use Rattle.cd_outside.specs.declared.address.Address.{Address}
use Rattle.cd_outside.specs.declared.key.Key.{Key}
use Rattle.cd_outside.specs.declared.past.KeepRecord.{KeepRecord}
use Rattle.cd_outside.specs.declared.past.Logged.{Logged}
use Rattle.cd_tree.specs.declared.tree.Tree.{Tree}
use Rattle.cd_wire.specs.declared.answer.Answer.{Answer}
use Rattle.cd_wire.specs.declared.request.Request.{Request}
use Rattle.cd_legal.specs.declared.limits.TheConstants.{MAX_DRAFTS}
use Rattle.cd_legal.specs.declared.entry.Entry.{Entry}
use Rattle.cd_legal.specs.declared.entry.Entry.TheVariants.{Begin, Finish, Halt}
use Rattle.cd_legal.specs.declared.entry.Signed.{Signed}
use Rattle.cd_legal.specs.State.{Conf, conf_of}
use Rattle.cd_legal.specs.Placed.{Placed, met}
use Rattle.cd_legal.specs.Serials.{is_halted}
use Rattle.cd_admin.specs.Answers.{done}
use Rattle.cd_admin.specs.Deciding.{replace, halt}
use Rattle.cd_serve.specs.declared.fault.ChangeFault.{ChangeFault}
use Rattle.cd_serve.specs.declared.fault.ChangeFault.TheVariants.{CannotOpen, NoDraftLeft}
use Rattle.cd_serve.specs.Meanings.{Meaning, Sent, says_close, IsProperPrefix, nothing_sent, answer_sent, BreaksOff, keeps_of, IsForNobody, Decides, IsAnswer}
use Rattle.cd_serve.specs.Faults.{fault_answer, halted_answer}
use Rattle.cd_serve.specs.Retirements.{due, IsRetirement}
use Rattle.cd_serve.specs.Changes.{IsPublished, IsUndone, IsKept, IsSuperseded, IsHalting}

-- pass k begins a request under the current serial, does this work, finishes it, and makes the block that follows
pub record Episode (k : ℕ) (own : List Placed) : Type 0 where
  pub begin : Placed
  pub work : List Placed
  pub finish : Placed
  pub block : List Placed
  pub whole : own ≡ begin ∷ (work ++ finish ∷ block)
  pub begins : begin.entry ≡ Begin k (met begin).serial
  pub finishes : finish.entry ≡ Finish k
  pub retires : IsRetirement (met finish) (due (met finish) k) block

-- the configuration that is current where an entry stands
abbrev pub conf_met : Placed → Conf
conf_met p = conf_of (met p) (met p).serial

-- ---- the kinds of answers

-- how a request is answered: by an app, or by the admin API without a change; by a change that was made; since a key could not
-- be opened; since no configuration may follow; by the halt; since no draft is left
pub data Kind : Type 0 where
  served changed unopened kept halting spent : Kind

-- a request that came to an address: which answer and which lines an episode with this Begin, work and Finish gives it, and which
-- configurations are kept before that
module _ (m : Meaning) (k : ℕ) (at : Address) (q : Request) where
  -- the admin API replaces the tree of the configuration by another one, which its modules find without a fault
  abbrev pub Replaces : Placed → Tree → Type 0
  Replaces begin tree = Decides m (conf_met begin) at q (replace tree)

  -- it halts
  abbrev pub Halts : Placed → Type 0
  Halts begin = Decides m (conf_met begin) at q halt

  abbrev pub Answers : Kind → Placed → List Placed → Placed → Answer → List Logged → List KeepRecord → Type 0
  Answers Kind.served begin work finish r lines keeps = IsAnswer m (conf_met begin) at q r lines × (work ≡ []) × (keeps ≡ [])
  Answers Kind.changed begin work finish r lines keeps =
      ((tree : Tree) × Replaces begin tree × IsPublished m tree q (met begin).serial work × (keeps ≡ keeps_of ((met begin).serial + 1) tree))
      × (r ≡ done) × (lines ≡ [])
  Answers Kind.unopened begin work finish r lines keeps =
      ((tree : Tree) × (key : Key) × Replaces begin tree × IsUndone m tree key work × (r ≡ fault_answer (CannotOpen key)))
      × (lines ≡ []) × (keeps ≡ [])
  Answers Kind.kept begin work finish r lines keeps =
      ((tree : Tree) × (why : ChangeFault) × Replaces begin tree × IsKept m tree k (met begin).serial why work × (r ≡ fault_answer why))
      × (lines ≡ []) × (keeps ≡ [])
  Answers Kind.halting begin work finish r lines keeps =
      Halts begin × IsHalting work × (r ≡ halted_answer) × (lines ≡ []) × (keeps ≡ [])
  Answers Kind.spent begin work finish r lines keeps =
      ((tree : Tree) × Replaces begin tree) × (work ≡ []) × (length (met finish).drafts ≡ MAX_DRAFTS)
      × (r ≡ fault_answer NoDraftLeft) × (lines ≡ []) × (keeps ≡ [])

-- ---- requests that are decided again

-- the entry is a Halt
abbrev pub is_halt : Entry → Bool
is_halt (Halt n) = true
is_halt e = false

-- another pass has signed a Halt
abbrev pub another_halted : ℕ → List Signed → Bool
another_halted k [] = false
another_halted k (x ∷ xs) = (is_halt x.entry && not (x.by == k)) || another_halted k xs

module _ (m : Meaning) (k : ℕ) (at : Address) (q : Request) where
  -- nothing is answered and the request is decided again, since another pass was first: it published before the draft was given
  -- up, or it halted before the Finish
  abbrev pub IsAgain : Placed → List Placed → Placed → Type 0
  IsAgain begin work finish =
      ((tree : Tree) × Replaces m k at q begin tree × IsSuperseded m tree (met begin).serial work)
      ⊎ (Halts m k at q begin × (work ≡ []) × IsTrue (another_halted k finish.before))

-- ---- how the last episode of a request ends it

-- answered, and whether the connection closes then; answered, but a line was not logged; broken off, since the lane failed before all
-- of its answer was sent, or before it was begun, as its configuration was to be kept, or as the connection had seen a later one; not answered for want of memory; or dropped, since nobody answers there, or since the host has halted
pub data Outcome : Type 0 where
  answered : Bool → Outcome
  unlogged broken lacking dropped halted : Outcome

-- an answer of this kind stands for a change that was made
abbrev pub makes_change : Kind → Bool
makes_change Kind.served = false
makes_change Kind.changed = true
makes_change Kind.unopened = false
makes_change Kind.kept = false
makes_change Kind.halting = true
makes_change Kind.spent = false

module _ (m : Meaning) (k : ℕ) (at : Address) (q : Request) where
  -- what is sent; where memory lacks no change was made
  abbrev pub Ends : Outcome → Placed → List Placed → Placed → Sent → Type 0
  Ends (Outcome.answered close) begin work finish s =
      (kind : Kind) × (r : Answer) × (lines : List Logged) × (keeps : List KeepRecord) × Answers m k at q kind begin work finish r lines keeps
      × (s ≡ answer_sent q r lines keeps) × (close ≡ says_close q r)
  Ends Outcome.unlogged begin work finish s =
      (kind : Kind) × (r : Answer) × (all : List Logged) × (lines : List Logged) × (keeps : List KeepRecord) × Answers m k at q kind begin work finish r all keeps
      × IsProperPrefix lines all × (s ≡ answer_sent q r lines keeps)
  Ends Outcome.broken begin work finish s =
      ((kind : Kind) × (r : Answer) × (all : List Logged) × (keeps : List KeepRecord) × Answers m k at q kind begin work finish r all keeps
      × BreaksOff q r keeps s)
      ⊎ ((work ≡ []) × (s ≡ nothing_sent))
  Ends Outcome.lacking begin work finish s =
      (((kind : Kind) × (r : Answer) × (all : List Logged) × (keeps : List KeepRecord) × Answers m k at q kind begin work finish r all keeps × (makes_change kind ≡ false))
      ⊎ (work ≡ [])) × (s ≡ nothing_sent)
  Ends Outcome.dropped begin work finish s =
      IsForNobody m (conf_met begin) at q × (is_halted (conf_met begin) ≡ false) × (work ≡ []) × (s ≡ nothing_sent)
  Ends Outcome.halted begin work finish s =
      IsForNobody m (conf_met begin) at q × (is_halted (conf_met begin) ≡ true) × (work ≡ []) × (s ≡ nothing_sent)
