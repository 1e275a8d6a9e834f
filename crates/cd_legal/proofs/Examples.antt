-- Each condition, where it holds and where it does not, computed.
use Rattle.std.proofs.Common.{◌≡◌, true, false, List, [], ◌∷◌, ◌++◌, refl, Some, None}
use Rattle.std.specs.Prelude.{codes}
use Rattle.cd_outside.specs.declared.key.Key.{Key}
use Rattle.cd_outside.specs.declared.key.Key.TheVariants.{Writer}
use Rattle.cd_tree.specs.declared.tree.Tree.{Tree}
use Rattle.cd_legal.specs.declared.part.Part.TheVariants.{Instance, App}
use Rattle.cd_legal.specs.declared.plan.Plan.{Plan}
use Rattle.cd_legal.specs.declared.entry.Change.{Change}
use Rattle.cd_legal.specs.declared.entry.Entry.{Entry}
use Rattle.cd_legal.specs.declared.entry.Entry.TheVariants.{Draft, Made, Started, Publish, Abandon, Stopped, Begin, Finish, Retire, Cleaned, Halt}
use Rattle.cd_legal.specs.declared.entry.Signed.{Signed}
use Rattle.cd_legal.specs.declared.state.State.{State}
use Rattle.cd_legal.specs.declared.state.Drafted.{Drafted}
use Rattle.cd_legal.specs.declared.state.Life.TheVariants.{Live, Published, Abandoned}
use Rattle.cd_legal.specs.declared.state.OpenTicket.{OpenTicket}
use Rattle.cd_legal.specs.Entry.{signed, mine}
use Rattle.cd_legal.specs.State.{opening_state, holds, holds_if_there, has_number, is_app, instances_ready, is_live, may_stop_apps, may_clean_instances, all_stopped, all_cleaned, of_draft, apps_stopped, has_ticket, is_ticketed, ticket_of, open_by, open_at, new_draft, Conf, conf_of}
use Rattle.cd_legal.specs.Steps.{may_end}
use Rattle.cd_legal.specs.Legal.{keys_fit, is_open, may_open, is_complete, may_stop, may_clean, may_retire, allowed, legal}
use Rattle.cd_legal.specs.Laws.{core, core_at, is_core, bare, tickets_allow, tickets_fit}
use Rattle.cd_legal.specs.Calls.{is_shut, failures}
use Rattle.cd_legal.specs.Whole.{nothing_left_of, is_closed, is_closed_in, all_apps_stopped, nothing_left, all_retired}
use Rattle.cd_legal.specs.Placed.{Placed, placed, through}
use Rattle.cd_legal.specs.Fresh.{is_fresh_at, is_fresh}
use Rattle.cd_legal.specs.Owing.{Owes, owes_nothing, owes_of}
use Rattle.cd_legal.specs.Signing.{owes_draft, is_live_in, may_sign, are_signed}
use Rattle.cd_legal.specs.Begins.{begins_at, begins_now}
use Rattle.cd_legal.specs.Serials.{has_serial, has_serial_in, times, is_halted, publishings}
use Rattle.cd_legal.specs.Abandoned.{is_entry_of, is_draft, is_abandoned, is_abandoned_in}

abbrev x_key : Key
x_key = Writer (codes "x")

abbrev y_key : Key
y_key = Writer (codes "y")

-- a module and an app with a key each
abbrev small : Plan
small = record { modules = record { name = codes "m"; at = record { parts = [] }; keys = x_key ∷ [] } ∷ []; apps = record { name = codes "a"; keys = y_key ∷ [] } ∷ [] }

-- ---- lists and tickets

of_options : (holds is_live (Some Live) ≡ true) × (holds is_live None ≡ false) × (holds_if_there is_live None ≡ true) × (holds_if_there is_live (Some Abandoned) ≡ false)
of_options = (refl, refl, refl, refl)

of_numbers : (has_number 2 (1 ∷ 2 ∷ []) ≡ true) × (has_number 3 (1 ∷ 2 ∷ []) ≡ false) × (times 2 (2 ∷ 1 ∷ 2 ∷ []) ≡ 2) × (times 3 (1 ∷ 2 ∷ []) ≡ 0)
of_numbers = (refl, refl, refl, refl)

abbrev tickets : List OpenTicket
tickets = record { caller = 7; serial = 1 } ∷ record { caller = 8; serial = 2 } ∷ record { caller = 9; serial = 2 } ∷ []

of_callers : (has_ticket 8 tickets ≡ true) × (has_ticket 2 tickets ≡ false) × (is_ticketed 1 tickets ≡ true) × (is_ticketed 7 tickets ≡ false)
of_callers = (refl, refl, refl, refl)

of_tickets : (ticket_of 8 tickets ≡ Some 2) × (ticket_of 2 tickets ≡ None) × (open_by 9 tickets ≡ 1) × (open_by 2 tickets ≡ 0) × (open_at 2 tickets ≡ 2) × (open_at 7 tickets ≡ 0)
of_tickets = (refl, refl, refl, refl, refl, refl)

-- ---- lives

lives : (is_live Live ≡ true) × (is_live (Published 1) ≡ false) × (is_live Abandoned ≡ false) × (is_abandoned Abandoned ≡ true) × (is_abandoned Live ≡ false) × (is_abandoned (Published 1) ≡ false)
lives = (refl, refl, refl, refl, refl, refl)

ends : (may_stop_apps 2 (Published 1) ≡ true) × (may_stop_apps 2 (Published 2) ≡ false) × (may_stop_apps 2 Live ≡ false) × (may_stop_apps 0 Abandoned ≡ true) × (may_clean_instances (1 ∷ []) (Published 1) ≡ true) × (may_clean_instances (1 ∷ []) (Published 2) ≡ false) × (may_clean_instances (1 ∷ []) Live ≡ false) × (may_clean_instances [] Abandoned ≡ true)
ends = (refl, refl, refl, refl, refl, refl, refl, refl)

serials : (has_serial 1 (Published 1) ≡ true) × (has_serial 2 (Published 1) ≡ false) × (has_serial 0 Live ≡ false) × (has_serial 0 Abandoned ≡ false)
serials = (refl, refl, refl, refl)

-- ---- keys

keys : (keys_fit [] (x_key ∷ y_key ∷ []) 2 None ≡ true) × (keys_fit [] (x_key ∷ y_key ∷ []) 1 None ≡ false) × (keys_fit [] (x_key ∷ y_key ∷ []) 1 (Some y_key) ≡ true)
    × (keys_fit [] (x_key ∷ y_key ∷ []) 0 (Some y_key) ≡ false) × (keys_fit (y_key ∷ []) (x_key ∷ y_key ∷ []) 1 (Some y_key) ≡ false) × (keys_fit [] (x_key ∷ x_key ∷ []) 1 (Some x_key) ≡ false)
keys = (refl, refl, refl, refl, refl, refl)

module _ (t : Tree) (c : Change) where
  -- a draft of which nothing is made, one whose instance is made, and one that is complete
  abbrev fresh : Drafted
  fresh = new_draft t small

  abbrev made : Drafted
  made = record fresh { made = 1 }

  abbrev whole : Drafted
  whole = record made { started = 1 }

  abbrev ran : Drafted
  ran = record whole { life = Published 1 }

  opens : (is_open fresh ≡ true) × (is_open (record fresh { failed = Some x_key }) ≡ false) × (is_open (record fresh { life = Abandoned }) ≡ false)
  opens = (refl, refl, refl)

  parts : (is_app App ≡ true) × (is_app Instance ≡ false) × (instances_ready App made ≡ true) × (instances_ready App fresh ≡ false) × (instances_ready Instance fresh ≡ true)
  parts = (refl, refl, refl, refl, refl)

  makes : (may_open Instance 0 1 None [] fresh ≡ true) × (may_open Instance 1 1 None [] made ≡ false) × (may_open Instance 0 0 None [] fresh ≡ false) × (may_open Instance 0 1 None [] ran ≡ false)
  makes = (refl, refl, refl, refl)

  starts : (may_open App 0 1 None [] made ≡ true) × (may_open App 0 1 None [] fresh ≡ false) × (may_open App 1 1 None [] made ≡ false) × (may_open App 0 0 None [] made ≡ false)
  starts = (refl, refl, refl, refl)

  completes : (is_complete whole ≡ true) × (is_complete made ≡ false) × (is_complete fresh ≡ false) × (is_complete (record whole { failed = Some y_key }) ≡ false) × (is_complete ran ≡ false)
  completes = (refl, refl, refl, refl, refl)

  stops : (may_stop 0 2 ran ≡ true) × (may_stop 0 1 ran ≡ false) × (may_stop 0 2 (record ran { stopped = 1 }) ≡ false) × (all_stopped ran ≡ false) × (all_stopped (record ran { stopped = 1 }) ≡ true)
  stops = (refl, refl, refl, refl, refl)

  cleans : (may_clean 0 (1 ∷ []) (record ran { stopped = 1 }) ≡ true) × (may_clean 0 (1 ∷ []) ran ≡ false) × (may_clean 0 [] (record ran { stopped = 1 }) ≡ false) × (all_cleaned ran ≡ false) × (all_cleaned (record ran { cleaned = 1 }) ≡ true)
  cleans = (refl, refl, refl, refl, refl)

  ends_parts : (may_end App 0 (record opening_state { serial = 2 }) ran ≡ true) × (may_end App 0 opening_state ran ≡ false)
      × (may_end Instance 0 (record opening_state { retired = 1 ∷ [] }) (record ran { stopped = 1 }) ≡ true) × (may_end Instance 0 opening_state (record ran { stopped = 1 }) ≡ false)
  ends_parts = (refl, refl, refl, refl)

  finishes : (nothing_left_of [] whole ≡ true) × (nothing_left_of (1 ∷ []) ran ≡ false) × (nothing_left_of (1 ∷ []) (record ran { stopped = 1; cleaned = 1 }) ≡ true) × (nothing_left_of [] (record whole { life = Abandoned; stopped = 1 }) ≡ false)
  finishes = (refl, refl, refl, refl)

  retirings : (all_retired 2 (1 ∷ 0 ∷ []) ≡ true) × (all_retired 2 (1 ∷ []) ≡ false) × (all_retired 2 (2 ∷ 0 ∷ []) ≡ false) × (all_retired 0 [] ≡ true)
  retirings = (refl, refl, refl, refl)

  -- ---- states

  -- serial 1 is current, and a request runs under it
  abbrev running : State
  running = record { serial = 1; halted = false; published = 0 ∷ []; drafts = ran ∷ []; tickets = record { caller = 7; serial = 1 } ∷ []; retired = []; pairs = [] }

  -- the host has halted
  abbrev halted : State
  halted = record running { serial = 2; halted = true }

  abbrev stopped : State
  stopped = record halted { drafts = record ran { stopped = 1 } ∷ [] }

  drafts : (of_draft all_stopped (ran ∷ []) None ≡ true) × (of_draft all_stopped (ran ∷ []) (Some 0) ≡ false) × (of_draft all_stopped (ran ∷ []) (Some 1) ≡ true)
      × (apps_stopped running 0 ≡ true) × (apps_stopped running 1 ≡ false) × (apps_stopped stopped 1 ≡ true)
  drafts = (refl, refl, refl, refl, refl, refl)

  has : (has_serial_in running 1 0 ≡ true) × (has_serial_in running 0 0 ≡ false) × (has_serial_in running 1 1 ≡ false) × (is_abandoned_in running 0 ≡ false) × (is_abandoned_in (record running { drafts = record ran { life = Abandoned } ∷ [] }) 0 ≡ true) × (is_abandoned_in running 1 ≡ false)
  has = (refl, refl, refl, refl, refl, refl)

  retires : (may_retire running 0 ≡ true) × (may_retire running 1 ≡ false) × (may_retire (record running { retired = 0 ∷ [] }) 0 ≡ false) × (may_retire halted 1 ≡ false) × (may_retire stopped 1 ≡ false) × (may_retire (record stopped { tickets = [] }) 1 ≡ true)
  retires = (refl, refl, refl, refl, refl, refl)

  shut : (is_shut opening_state ≡ false) × (is_shut (record opening_state { halted = true }) ≡ true) × (is_shut halted ≡ false) × (is_shut stopped ≡ true) × (is_shut (record stopped { halted = false }) ≡ false)
  shut = (refl, refl, refl, refl, refl)

  confs : (conf_of opening_state 0 ≡ Conf.Opening) × (conf_of opening_state 9 ≡ Conf.Opening) × (conf_of halted 0 ≡ Conf.Opening) × (conf_of halted 1 ≡ Conf.Of t) × (conf_of halted 2 ≡ Conf.Halted) × (conf_of halted 3 ≡ Conf.Opening) × (conf_of running 2 ≡ Conf.Opening)
  confs = (refl, refl, refl, refl, refl, refl, refl)

  allows : (allowed running (Halt 2) ≡ true) × (allowed running (Halt 3) ≡ false) × (allowed halted (Halt 3) ≡ false) × (legal [] ≡ true) × (legal (Halt 1 ∷ []) ≡ true) × (legal (Halt 2 ∷ []) ≡ false) × (legal (Halt 1 ∷ Halt 2 ∷ []) ≡ false)
  allows = (refl, refl, refl, refl, refl, refl, refl)

  closed : (is_closed (1 ∷ []) (record ran { stopped = 1; cleaned = 1 }) ≡ true) × (is_closed (1 ∷ []) (record ran { stopped = 1 }) ≡ false) × (is_closed [] (record ran { stopped = 1; cleaned = 1 }) ≡ false) × (is_closed_in running 0 ≡ false) × (is_closed_in running 1 ≡ false)
      × (is_closed_in (record stopped { drafts = record ran { stopped = 1; cleaned = 1 } ∷ []; retired = 1 ∷ [] }) 0 ≡ true)
  closed = (refl, refl, refl, refl, refl, refl)

  left : (all_apps_stopped halted 1 ≡ true) × (all_apps_stopped halted 2 ≡ false) × (nothing_left running ≡ true) × (nothing_left halted ≡ false) × (nothing_left stopped ≡ true) × (nothing_left (record stopped { retired = 1 ∷ [] }) ≡ false)
  left = (refl, refl, refl, refl, refl, refl)

  live_in : (is_live_in running 0 ≡ false) × (is_live_in (record running { drafts = whole ∷ [] }) 0 ≡ true) × (is_live_in running 1 ≡ false)
  live_in = (refl, refl, refl)

  halts : (is_halted Conf.Halted ≡ true) × (is_halted Conf.Opening ≡ false) × (is_halted (Conf.Of t) ≡ false) × (publishings (Publish 0 1 0 c ∷ Abandon 1 ∷ Publish 2 2 1 c ∷ []) ≡ 2) × (failures (Made 0 0 0 (Some x_key) ∷ Started 0 0 1 None ∷ Started 0 1 0 (Some y_key) ∷ Made 1 0 1 None ∷ []) ≡ 2)
  halts = (refl, refl, refl, refl, refl)

  cores : (is_core (Begin 1 0) ≡ false) × (is_core (Finish 1) ≡ false) × (is_core (Retire 0) ≡ true) × (core_at (signed 1 (Begin 1 0) ∷ signed 2 (Halt 1) ∷ []) ≡ signed 2 (Halt 1) ∷ []) × ((bare running).tickets ≡ [])
  cores = (refl, refl, refl, refl, refl)

  -- ---- tickets apart

  apart : (tickets_allow running (Begin 8 1) ≡ true) × (tickets_allow running (Begin 7 1) ≡ false) × (tickets_allow running (Begin 8 0) ≡ false) × (tickets_allow running (Finish 7) ≡ true) × (tickets_allow running (Finish 8) ≡ false)
      × (tickets_allow running (Retire 1) ≡ false) × (tickets_allow running (Retire 0) ≡ true) × (tickets_allow running (Halt 9) ≡ true)
  apart = (refl, refl, refl, refl, refl, refl, refl, refl)

  fit : (tickets_fit opening_state (Begin 7 0 ∷ Finish 7 ∷ []) ≡ true) × (tickets_fit opening_state (Begin 7 0 ∷ Finish 8 ∷ []) ≡ false) × (tickets_fit opening_state (Begin 7 0 ∷ Retire 0 ∷ []) ≡ false) × (core (Begin 7 0 ∷ Halt 1 ∷ Finish 7 ∷ []) ≡ Halt 1 ∷ [])
  fit = (refl, refl, refl, refl)

  begins : (begins_at 0 (Begin 7 0 ∷ Begin 8 0 ∷ Halt 1 ∷ Begin 9 1 ∷ []) ≡ 2) × (begins_at 1 (Begin 7 0 ∷ Begin 8 0 ∷ Halt 1 ∷ Begin 9 1 ∷ []) ≡ 1) × (begins_now (Begin 7 0 ∷ Begin 8 0 ∷ []) ≡ 2) × (begins_now (Begin 7 0 ∷ Begin 8 0 ∷ Halt 1 ∷ Begin 9 1 ∷ []) ≡ 1)
      × (begins_now (Begin 7 0 ∷ Publish 0 1 0 c ∷ []) ≡ 0)
  begins = (refl, refl, refl, refl, refl)

  -- ---- entries of a draft

  entries_of : (is_entry_of 3 (Draft 3 t small) ≡ true) × (is_entry_of 3 (Made 3 0 0 None) ≡ true) × (is_entry_of 3 (Started 3 0 0 None) ≡ true) × (is_entry_of 3 (Publish 3 1 0 c) ≡ true) × (is_entry_of 3 (Abandon 3) ≡ true) × (is_entry_of 3 (Stopped 3 0) ≡ true) × (is_entry_of 3 (Cleaned 3 0) ≡ true)
  entries_of = (refl, refl, refl, refl, refl, refl, refl)

  entries_else : (is_entry_of 3 (Draft 2 t small) ≡ false) × (is_entry_of 3 (Made 2 3 0 None) ≡ false) × (is_entry_of 3 (Started 2 3 0 None) ≡ false) × (is_entry_of 3 (Publish 2 3 3 c) ≡ false) × (is_entry_of 3 (Abandon 2) ≡ false) × (is_entry_of 3 (Stopped 2 3) ≡ false)
      × (is_entry_of 3 (Cleaned 2 3) ≡ false) × (is_entry_of 3 (Begin 3 3) ≡ false) × (is_entry_of 3 (Finish 3) ≡ false) × (is_entry_of 3 (Retire 3) ≡ false) × (is_entry_of 3 (Halt 3) ≡ false)
  entries_else = (refl, refl, refl, refl, refl, refl, refl, refl, refl, refl, refl)

  drafting : (is_draft (Draft 0 t small) ≡ true) × (is_draft (Abandon 0) ≡ false)
  drafting = (refl, refl)

  -- ---- what passes have seen

  fresh_at : (is_fresh_at 1 2 (Begin 7 2) ≡ true) × (is_fresh_at 1 2 (Begin 7 1) ≡ false) × (is_fresh_at 3 2 (Begin 7 2) ≡ false) × (is_fresh_at 3 2 (Finish 7) ≡ true)
  fresh_at = (refl, refl, refl, refl)

  -- an entry that meets serial 0
  abbrev at_first : Entry → Placed
  at_first e = record { before = []; entry = e }

  seen : (is_fresh (at_first (Begin 7 0) ∷ []) ≡ true) × (is_fresh (at_first (Begin 7 1) ∷ []) ≡ false) × (is_fresh (at_first (Halt 2) ∷ at_first (Begin 7 0) ∷ []) ≡ false) × (is_fresh (at_first (Retire 1) ∷ at_first (Begin 7 0) ∷ []) ≡ false)
      × (is_fresh (at_first (Begin 7 0) ∷ at_first (Publish 0 1 0 c) ∷ at_first (Begin 7 0) ∷ []) ≡ false) × (is_fresh (at_first (Publish 0 0 1 c) ∷ at_first (Begin 7 0) ∷ []) ≡ false) × (is_fresh (at_first (Abandon 5) ∷ at_first (Begin 7 0) ∷ []) ≡ true)
  seen = (refl, refl, refl, refl, refl, refl, refl)

  -- two passes, one of which loads a configuration while the other serves
  abbrev both : List Signed
  both = signed 1 (Begin 1 0) ∷ signed 2 (Begin 2 0) ∷ signed 1 (Draft 0 t small) ∷ signed 2 (Finish 2) ∷ signed 1 (Abandon 0) ∷ signed 2 (Begin 2 0) ∷ []

  of_each : (mine 1 both ≡ signed 1 (Begin 1 0) ∷ signed 1 (Draft 0 t small) ∷ signed 1 (Abandon 0) ∷ []) × (through 1 (placed 1 both) ≡ signed 1 (Begin 1 0) ∷ signed 2 (Begin 2 0) ∷ signed 1 (Draft 0 t small) ∷ signed 2 (Finish 2) ∷ signed 1 (Abandon 0) ∷ []) × (through 2 (placed 2 both) ≡ both) × (through 3 (placed 3 both) ≡ [])
  of_each = (refl, refl, refl, refl)

  abbrev with_draft : List Signed
  with_draft = signed 1 (Begin 1 0) ∷ signed 2 (Begin 2 0) ∷ signed 1 (Draft 0 t small) ∷ signed 2 (Finish 2) ∷ []

  owed : (owes_of 1 with_draft ≡ record { ticket = Some 0; draft = Some 0 }) × (owes_of 2 with_draft ≡ owes_nothing) × (owes_of 1 both ≡ record { ticket = Some 0; draft = None }) × (owes_of 2 both ≡ record { ticket = Some 0; draft = None }) × (owes_of 3 both ≡ owes_nothing)
      × (owes_of 1 (with_draft ++ signed 1 (Publish 0 1 0 c) ∷ []) ≡ record { ticket = Some 0; draft = None })
  owed = (refl, refl, refl, refl, refl, refl)

  -- ---- signatures

  abbrev holder : Owes
  holder = record { ticket = None; draft = Some 3 }

  of_drafts : (owes_draft 3 holder ≡ true) × (owes_draft 2 holder ≡ false) × (owes_draft 3 owes_nothing ≡ false)
  of_drafts = (refl, refl, refl)

  signs : (may_sign 1 owes_nothing (Draft 3 t small) ≡ true) × (may_sign 1 holder (Made 3 0 0 None) ≡ true) × (may_sign 1 holder (Started 3 0 0 None) ≡ true) × (may_sign 1 holder (Publish 3 1 0 c) ≡ true) × (may_sign 1 holder (Abandon 3) ≡ true) × (may_sign 1 holder (Begin 1 0) ≡ true) × (may_sign 1 holder (Finish 1) ≡ true)
      × (may_sign 1 owes_nothing (Stopped 3 0) ≡ true) × (may_sign 1 owes_nothing (Retire 0) ≡ true) × (may_sign 1 owes_nothing (Cleaned 3 0) ≡ true) × (may_sign 1 owes_nothing (Halt 1) ≡ true)
  signs = (refl, refl, refl, refl, refl, refl, refl, refl, refl, refl, refl)

  signs_not : (may_sign 1 holder (Draft 4 t small) ≡ false) × (may_sign 1 owes_nothing (Made 3 0 0 None) ≡ false) × (may_sign 1 holder (Made 2 0 0 None) ≡ false) × (may_sign 1 owes_nothing (Started 3 0 0 None) ≡ false) × (may_sign 1 owes_nothing (Publish 3 1 0 c) ≡ false) × (may_sign 1 holder (Publish 2 1 0 c) ≡ false)
      × (may_sign 1 owes_nothing (Abandon 3) ≡ false) × (may_sign 1 holder (Begin 2 0) ≡ false) × (may_sign 1 holder (Finish 2) ≡ false)
  signs_not = (refl, refl, refl, refl, refl, refl, refl, refl, refl)

  signed_lists : (are_signed both ≡ true) × (are_signed (with_draft ++ signed 2 (Abandon 0) ∷ []) ≡ false) × (are_signed (with_draft ++ signed 1 (Draft 1 t small) ∷ []) ≡ false) × (are_signed (signed 2 (Begin 5 0) ∷ []) ≡ false) × (are_signed (with_draft ++ signed 2 (Draft 1 t small) ∷ []) ≡ true)
  signed_lists = (refl, refl, refl, refl, refl)
