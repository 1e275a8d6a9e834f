-- Worked lists, computed: one configuration is replaced by another while two requests run.
use Rattle.std.proofs.Common.{◌≡◌, ℕ, true, List, [], ◌∷◌, ◌++◌, take, refl, None, Some, Ok, Err, arith}
use Rattle.std.specs.Prelude.{codes}
use Rattle.cd_outside.specs.declared.key.Key.{Key}
use Rattle.cd_outside.specs.declared.key.Key.TheVariants.{Listen, Writer}
use Rattle.cd_outside.specs.declared.fixtures.FixtureCall.TheVariants.{Opened, NotOpened, Closed, Shut}
use Rattle.cd_tree.specs.declared.tree.Tree.{Tree}
use Rattle.cd_legal.specs.declared.part.Part.TheVariants.{Instance}
use Rattle.cd_legal.specs.declared.fault.ReplayFault.TheVariants.{NotAllowed}
use Rattle.cd_legal.specs.declared.plan.Plan.{Plan}
use Rattle.cd_legal.specs.declared.entry.Change.{Change}
use Rattle.cd_legal.specs.declared.entry.Change.TheVariants as change
use Rattle.cd_legal.specs.declared.entry.Entry.{Entry}
use Rattle.cd_legal.specs.declared.entry.Entry.TheVariants.{Draft, Made, Started, Publish, Abandon, Stopped, Begin, Finish, Retire, Cleaned, Halt}
use Rattle.cd_legal.specs.State.{opening_state, Conf, conf_of, part_of}
use Rattle.cd_legal.specs.Legal.{legal, state_of, replayed}
use Rattle.cd_legal.specs.Calls.{count, fixture_calls, shuts}
use Rattle.cd_legal.specs.Whole.{ended, IsWhole, IsOver}
use Rattle.cd_legal.specs.Abandoned.{is_abandoned_in, without_draft, pairs_of_others, Leaves}
use Rattle.cd_legal.specs.Serials.{last_conf}
use Rattle.cd_legal.specs.Runs.{all_made, all_started, opened, Failure, opened_until, undone_after, stopped_of, cleaned_of, ended_all, block_of}
use Rattle.cd_legal.proofs.Leaving.{leaving}
use Rattle.cd_legal.proofs.Undone.{no_trace}
use Rattle.cd_legal.proofs.Over.{over-whole}

abbrev admin_key : Key
admin_key = Listen record { host = codes "localhost"; port = 2019 }

abbrev http_key : Key
http_key = Listen record { host = []; port = 8080 }

-- two modules without keys and two apps with one key each
abbrev plan : Plan
plan = record {
  modules = record { name = codes "http"; at = record { parts = [] }; keys = [] } ∷ record { name = codes "http.handlers.static_response"; at = record { parts = [] }; keys = [] } ∷ [];
  apps = record { name = codes "admin"; keys = admin_key ∷ [] } ∷ record { name = codes "http"; keys = http_key ∷ [] } ∷ [];
}

module _ (t u : Tree) (c : Change) where
  abbrev up_to_finish : List Entry
  up_to_finish = Draft 0 t plan ∷ Made 0 0 0 None ∷ Made 0 1 0 None ∷ Started 0 0 1 None ∷ Started 0 1 1 None ∷ Publish 0 1 0 change.First
      ∷ Begin 1 1 ∷ Begin 2 1
      ∷ Draft 1 u plan ∷ Made 1 0 0 None ∷ Made 1 1 0 None ∷ Started 1 0 1 None ∷ Started 1 1 1 None ∷ Publish 1 2 1 c
      ∷ Stopped 0 1 ∷ Stopped 0 0 ∷ Finish 2 ∷ []

  abbrev replaced : List Entry
  replaced = up_to_finish ++ Finish 1 ∷ Retire 1 ∷ Cleaned 0 1 ∷ Cleaned 0 0 ∷ []

  abbrev retired_early : List Entry
  retired_early = up_to_finish ++ Retire 1 ∷ Finish 1 ∷ Cleaned 0 1 ∷ Cleaned 0 0 ∷ []

  is_legal : legal (replaced) ≡ true
  is_legal = refl

  gives : replayed replaced ≡ Ok (state_of replaced)
  gives = refl

  serial : (state_of replaced).serial ≡ 2
  serial = refl

  tickets : (state_of replaced).tickets ≡ []
  tickets = refl

  retired : (state_of replaced).retired ≡ 1 ∷ []
  retired = refl

  configurations : conf_of (state_of replaced) 2 ≡ Conf.Of u
  configurations = refl

  one : count (take 5 replaced) http_key ≡ 1
  one = refl

  two : count (take 13 replaced) http_key ≡ 2
  two = refl

  one_again : count (take 15 replaced) http_key ≡ 1
  one_again = refl

  calls : fixture_calls replaced ≡ Opened admin_key ∷ Opened http_key ∷ []
  calls = refl

  refused : replayed retired_early ≡ Err (NotAllowed 17)
  refused = refl

  out_of_order : replayed (Draft 0 t plan ∷ Made 0 1 0 None ∷ []) ≡ Err (NotAllowed 1)
  out_of_order = refl

nothing : replayed [] ≡ Ok opening_state
nothing = refl

-- ---- keys

abbrev x_key : Key
x_key = Writer (codes "x")

abbrev y_key : Key
y_key = Writer (codes "y")

-- so many modules with these keys, and no app
abbrev modules_plan : List (List Key) → Plan
modules_plan [] = record { modules = []; apps = [] }
modules_plan (keys ∷ rest) = record { modules = record { name = codes "m"; at = record { parts = [] }; keys = keys } ∷ (modules_plan rest).modules; apps = [] }

module _ (t : Tree) where
  -- the second opening fails
  abbrev second_fails : List Entry
  second_fails = Draft 0 t (modules_plan ((x_key ∷ y_key ∷ []) ∷ [])) ∷ Made 0 0 1 (Some y_key) ∷ Abandon 0 ∷ Cleaned 0 0 ∷ []

  fails_legal : legal second_fails ≡ true
  fails_legal = refl

  fails_calls : fixture_calls second_fails ≡ Opened x_key ∷ NotOpened y_key ∷ Closed x_key ∷ []
  fails_calls = refl

  -- the same module twice
  abbrev same_twice : List Entry
  same_twice = Draft 0 t (modules_plan ((x_key ∷ y_key ∷ []) ∷ (x_key ∷ y_key ∷ []) ∷ [])) ∷ Made 0 0 2 None ∷ Made 0 1 2 None ∷ Abandon 0 ∷ Cleaned 0 1 ∷ Cleaned 0 0 ∷ []

  twice_legal : legal same_twice ≡ true
  twice_legal = refl

  twice_calls : fixture_calls same_twice ≡ Opened x_key ∷ Opened y_key ∷ Closed y_key ∷ Closed x_key ∷ []
  twice_calls = refl

  twice_count : count (take 3 same_twice) x_key ≡ 2
  twice_count = refl

  -- one configuration is published, and the host halts
  abbrev whole_run : List Entry
  whole_run = Draft 0 t plan ∷ Made 0 0 0 None ∷ Made 0 1 0 None ∷ Started 0 0 1 None ∷ Started 0 1 1 None ∷ Publish 0 1 0 change.First
      ∷ Retire 0 ∷ Halt 2 ∷ Stopped 0 1 ∷ Stopped 0 0 ∷ Retire 1 ∷ Cleaned 0 1 ∷ Cleaned 0 0 ∷ []

  run_legal : legal whole_run ≡ true
  run_legal = refl

  run_conf : conf_of (state_of whole_run) 2 ≡ Conf.Halted
  run_conf = refl

  run_calls : fixture_calls whole_run ≡ Opened admin_key ∷ Opened http_key ∷ Closed http_key ∷ Closed admin_key ∷ Shut ∷ []
  run_calls = refl

  run_over : IsOver (state_of whole_run)
  run_over = record { halted = refl; drafts = refl; retired = refl; finished = refl }

  run_whole : IsWhole whole_run
  run_whole = over-whole whole_run refl run_over

  -- the last instance is not cleaned before the last entry
  before_the_last : ended (part_of Instance 0 0) (take 12 whole_run) ≡ 0
  before_the_last = refl

  not_before : IsWhole (take 12 whole_run) → ⊥
  not_before whole = let e : ◌≡◌ {A = ℕ} 0 1 = whole.ended (part_of Instance 0 0) in omega (arith, e)

  -- it is what opens the draft, and what ends its serial after the halt
  whole_entries : whole_run ≡ Draft 0 t plan ∷ Made 0 0 0 None ∷ Made 0 1 0 None ∷ all_started 0 plan ++ Publish 0 1 0 change.First
      ∷ block_of (state_of (take 6 whole_run)) 0 ++ Halt 2 ∷ stopped_of (state_of (take 8 whole_run)) 1 ++ block_of (state_of (take 10 whole_run)) 1
  whole_entries = refl

  whole_opens : all_made 0 plan ≡ Made 0 0 0 None ∷ Made 0 1 0 None ∷ []
  whole_opens = refl

  whole_ends : stopped_of (state_of (take 6 whole_run)) 1 ++ cleaned_of (state_of (take 6 whole_run)) 1 ≡ ended_all 0 2 2
  whole_ends = refl

  last_of_run : last_conf (take 7 whole_run) ≡ Conf.Of t
  last_of_run = refl

  last_of_halt : last_conf whole_run ≡ Conf.Halted
  last_of_halt = refl

  last_of_none : last_conf (take 5 whole_run) ≡ Conf.Opening
  last_of_none = refl

  -- the host halts before anything is published
  halted_first : fixture_calls (Halt 1 ∷ []) ≡ Shut ∷ []
  halted_first = refl

-- a module and an app, with a key each
abbrev pair_plan : Plan
pair_plan = record { modules = (modules_plan ((x_key ∷ []) ∷ [])).modules; apps = record { name = codes "a"; keys = y_key ∷ [] } ∷ [] }

module _ (t u : Tree) (c : Change) where
  -- the app's key can't be opened, and the host halts
  abbrev start_fails : List Entry
  start_fails = Draft 0 t pair_plan ∷ opened_until 0 pair_plan (Failure.InApp 0 0) y_key ++ Abandon 0 ∷ undone_after 0 pair_plan (Failure.InApp 0 0) ++ Halt 1 ∷ []

  start_entries : start_fails ≡ Draft 0 t pair_plan ∷ Made 0 0 1 None ∷ Started 0 0 0 (Some y_key) ∷ Abandon 0 ∷ Stopped 0 0 ∷ Cleaned 0 0 ∷ Halt 1 ∷ []
  start_entries = refl

  start_legal : legal start_fails ≡ true
  start_legal = refl

  start_calls : fixture_calls start_fails ≡ Opened x_key ∷ NotOpened y_key ∷ Closed x_key ∷ Shut ∷ []
  start_calls = refl

  -- a module's key can't be opened
  make_fails : opened_until 0 pair_plan (Failure.InModule 0 0) x_key ++ undone_after 0 pair_plan (Failure.InModule 0 0) ≡ Made 0 0 0 (Some x_key) ∷ Cleaned 0 0 ∷ []
  make_fails = refl

  -- one configuration replaces another, and the apps of both are stopped after the halt: the last ones shut
  abbrev two_serials : List Entry
  two_serials = Draft 0 t pair_plan ∷ opened 0 pair_plan ++ Publish 0 1 0 change.First ∷ Draft 1 u pair_plan ∷ opened 1 pair_plan ++ Publish 1 2 1 c ∷ Halt 3 ∷ Stopped 0 0 ∷ Stopped 1 0 ∷ []

  two_legal : legal two_serials ≡ true
  two_legal = refl

  two_calls : fixture_calls two_serials ≡ Opened x_key ∷ Opened y_key ∷ Closed y_key ∷ Shut ∷ []
  two_calls = refl

  two_shuts : shuts (fixture_calls two_serials) ≡ 1
  two_shuts = refl

-- ---- a load that fails while a request runs

module _ (t u : Tree) where
  abbrev published : List Entry
  published = Draft 0 t plan ∷ Made 0 0 0 None ∷ Made 0 1 0 None ∷ Started 0 0 1 None ∷ Started 0 1 1 None ∷ Publish 0 1 0 change.First ∷ Begin 1 1 ∷ []

  -- the second draft takes the key of the first one's last app too, and then cannot open another
  abbrev load_fails : List Entry
  load_fails = published ++ Draft 1 u (modules_plan ((http_key ∷ y_key ∷ []) ∷ [])) ∷ Made 1 0 1 (Some y_key) ∷ Abandon 1 ∷ Cleaned 1 0 ∷ Finish 1 ∷ []

  load_legal : legal load_fails ≡ true
  load_legal = refl

  load_abandoned : is_abandoned_in (state_of load_fails) 1 ≡ true
  load_abandoned = refl

  load_tree : conf_of (state_of load_fails) (state_of load_fails).serial ≡ Conf.Of t
  load_tree = refl

  load_calls : fixture_calls load_fails ≡ Opened admin_key ∷ Opened http_key ∷ NotOpened y_key ∷ []
  load_calls = refl

  -- its instance takes and gives back a key
  taken_apart : pairs_of_others 1 (state_of (take 9 load_fails)).pairs ≡ (state_of published).pairs
  taken_apart = refl

  made_leaves : Leaves 1 (state_of (take 8 load_fails)) (state_of (take 9 load_fails))
  made_leaves = leaving 1 (take 8 load_fails) (Made 1 0 1 (Some y_key)) (Abandon 1 ∷ Cleaned 1 0 ∷ Finish 1 ∷ []) refl refl refl

  cleaned_leaves : Leaves 1 (state_of (take 10 load_fails)) (state_of (take 11 load_fails))
  cleaned_leaves = leaving 1 (take 10 load_fails) (Cleaned 1 0) (Finish 1 ∷ []) refl refl refl

  -- without it, but for the entry that makes its draft
  without_it : without_draft 1 load_fails ≡ published ++ Draft 1 u (modules_plan ((http_key ∷ y_key ∷ []) ∷ [])) ∷ Finish 1 ∷ []
  without_it = refl

  load_leaves : Leaves 1 (state_of (without_draft 1 load_fails)) (state_of load_fails)
  load_leaves = (no_trace load_fails refl 1 refl).1

  same_pairs : (state_of load_fails).pairs ≡ (state_of (without_draft 1 load_fails)).pairs
  same_pairs = refl
