-- Part of the main theorem.
-- What configurations mean to those who serve requests under them.
use Rattle.std.specs.Prelude.{◌≡◌, ℕ, ◌+◌, ◌⊎◌, ◌||◌, Bool, List, [], ◌++◌, length, map, Option, None, Some, Result, if◌then◌else◌, ◌∷◌}
use Rattle.cd_outside.specs.declared.address.Address.{Address}
use Rattle.cd_outside.specs.declared.past.Connection.{Connection}
use Rattle.cd_outside.specs.declared.past.KeepRecord.{KeepRecord}
use Rattle.cd_outside.specs.declared.past.Logged.{Logged}
use Rattle.cd_tree.specs.declared.tree.Tree.{Tree}
use Rattle.cd_tree.specs.Tree.{text}
use Rattle.cd_wire.specs.declared.answer.Answer.{Answer}
use Rattle.cd_wire.specs.declared.request.Request.{Request}
use Rattle.cd_wire.specs.Render.{is_head, render}
use Rattle.cd_module.specs.declared.fault.LoadFault.{LoadFault}
use Rattle.cd_legal.specs.declared.plan.Plan.{Plan}
use Rattle.cd_legal.specs.State.{Conf}
use Rattle.cd_module_set.specs.Acts.{Acts, conf_acts}
use Rattle.cd_module_set.specs.declared.target.Line.{Line}
use Rattle.cd_module_set.specs.declared.target.Target.TheVariants as who
use Rattle.cd_admin.specs.Admin.{persists}
use Rattle.cd_admin.specs.Deciding.{Outcome as Decision, reply, decided}
pub use Rattle.cd_session.specs.Ways.{IsProperPrefix}

-- what a set of modules means
pub record Meaning : Type 0 where
  -- what a configuration with this tree does
  pub acts : Tree → Acts
  -- the modules and apps that a tree comes to as a configuration, or its first fault
  pub plan : Tree → Result Plan LoadFault

-- ---- what is sent for an answer

-- the bytes of an answer to the request
abbrev pub sent : Request → Answer → List ℕ
sent q r = render r (is_head q) q.close

-- the answer or the request says that the connection closes
abbrev pub says_close : Request → Answer → Bool
says_close q r = r.close || q.close

-- a line of an access log, as a lane gives it to its writer
abbrev pub logged : Line → Logged
logged l = record { key = l.key; line = l.text }

-- ---- what is sent on a connection

-- bytes, with the lines that were logged and the configurations that were kept meanwhile; each of these counts the bytes before it
pub record Sent : Type 0 where
  pub put : List ℕ
  pub lines : List Logged
  pub keeps : List KeepRecord

-- bytes alone
abbrev pub only_bytes : List ℕ → Sent
only_bytes bytes = record { put = bytes; lines = []; keeps = [] }

abbrev pub nothing_sent : Sent
nothing_sent = only_bytes []

-- these configurations were kept, an answer to the request was put, and these lines of it were logged
abbrev pub answer_sent : Request → Answer → List Logged → List KeepRecord → Sent
answer_sent q r lines keeps = record { put = sent q r; lines = lines; keeps = keeps }

-- less than all of an answer was put before which these were to be kept: not all of them were, and nothing was put; or all of them
-- were, and a part was put
abbrev pub BreaksOff : Request → Answer → List KeepRecord → Sent → Type 0
BreaksOff q r keeps s =
    ((some : List KeepRecord) × IsProperPrefix some keeps × (s ≡ record { put = []; lines = []; keeps = some }))
    ⊎ ((part : List ℕ) × IsProperPrefix part (sent q r) × (s ≡ record { put = part; lines = []; keeps = keeps }))

-- what is kept of a configuration that was published as this serial, before its answer: its compact text, unless it is not to be kept
abbrev pub keeps_of : ℕ → Tree → List KeepRecord
keeps_of serial tree = if persists tree then record { put = 0; serial = serial; text = text tree } ∷ [] else []

-- what was kept, after so many more bytes
abbrev pub kept_after : ℕ → List KeepRecord → List KeepRecord
kept_after n keeps = map {A = KeepRecord} (λ keep. record keep { put = n + keep.put }) keeps

-- one after another
abbrev pub both_sent : Sent → Sent → Sent
both_sent s t = record {
  put = s.put ++ t.put;
  lines = s.lines ++ t.lines;
  keeps = s.keeps ++ kept_after (length s.put) t.keeps;
}

-- what was sent on a connection
abbrev pub sent_on : Connection → Sent
sent_on c = record { put = c.put; lines = c.lines; keeps = c.keeps }

-- the connection after more was sent
abbrev pub after_sending : Sent → Connection → Connection
after_sending s c =
    let all = both_sent (sent_on c) s in
    record c { put = all.put; lines = all.lines; keeps = all.keeps }

-- ---- a request under a configuration

-- a request that came to an address, under a configuration
module _ (m : Meaning) (conf : Conf) (at : Address) (q : Request) where
  -- nobody answers there
  abbrev pub IsForNobody : Type 0
  IsForNobody = (conf_acts m.acts conf).target at ≡ who.Nobody

  -- an app answers there, so and with these lines
  pub record AppAnswers (r : Answer) (lines : List Logged) : Type 0 where
    pub there : (conf_acts m.acts conf).target at ≡ who.App
    pub answer : r ≡ (conf_acts m.acts conf).answer at q
    pub logs : lines ≡ map logged ((conf_acts m.acts conf).lines at q r)

  -- what the responder there comes to: an answer with its lines where it is an app, and none where it is none
  abbrev pub Responds : Option (Answer × List Logged) → Type 0
  Responds None = ¬ ((conf_acts m.acts conf).target at ≡ who.App)
  Responds (Some one) = AppAnswers one.0 one.1

  -- the admin API answers there, and comes to this decision under the tree of the configuration
  pub record Decides (decision : Decision) : Type 0 where
    pub tree : Tree
    pub runs : conf ≡ Conf.Of tree
    pub there : (conf_acts m.acts conf).target at ≡ who.Admin
    pub comes_to : decided m.plan tree q ≡ decision

  -- what is answered where nothing changes: by an app with its lines, or by the admin API, which logs none
  abbrev pub IsAnswer : Answer → List Logged → Type 0
  IsAnswer r lines = AppAnswers r lines ⊎ (Decides (reply r) × (lines ≡ []))
