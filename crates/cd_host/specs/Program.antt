-- Part of the main theorem.
-- What the program itself does in the history of a run, by its own pass of number 0: it starts with the first configuration, and it
-- halts in the end.
use Rattle.std.specs.Prelude.{◌+◌, List, [], ◌∷◌, ◌++◌}
use Rattle.cd_outside.specs.declared.key.Key.{Key}
use Rattle.cd_tree.specs.declared.tree.Tree.{Tree}
use Rattle.cd_legal.specs.declared.plan.Plan.{Plan}
use Rattle.cd_legal.specs.declared.entry.Change.TheVariants as change
use Rattle.cd_legal.specs.declared.entry.Entry.{Entry}
use Rattle.cd_legal.specs.declared.entry.Entry.TheVariants.{Draft, Publish, Abandon, Begin, Finish, Retire, Halt}
use Rattle.cd_legal.specs.declared.state.State.{State}
use Rattle.cd_legal.specs.Runs.{Failure, opened, opened_until, undone_after, stopped_of, block_of}

-- how the start goes: the first configuration is published; a key of it could not be opened; or memory was lacking, for its draft,
-- or even to begin
pub data Start : Type 0 where
  published : Start
  refused : Failure → Key → Start
  undrafted unbegun : Start

-- The entries of the start. The first configuration, with its plan, is drafted and opened under serial 0, and published as serial 1;
-- then serial 0 is retired. Where a key could not be opened, the draft is given up and what there was of it is ended.
abbrev pub start_entries : Tree → Plan → Start → List Entry
start_entries first plan Start.published =
    Begin 0 0 ∷ Draft 0 first plan ∷ (opened 0 plan ++ Publish 0 1 0 change.First ∷ Finish 0 ∷ Retire 0 ∷ [])
start_entries first plan (Start.refused failure key) =
    Begin 0 0 ∷ Draft 0 first plan ∷ (opened_until 0 plan failure key ++ Abandon 0 ∷ (undone_after 0 plan failure ++ Finish 0 ∷ []))
start_entries first plan Start.undrafted = Begin 0 0 ∷ Finish 0 ∷ []
start_entries first plan Start.unbegun = []

-- The entries of the halt, in the state that it meets: the apps that ran are stopped, and their configuration is retired.
abbrev pub halt_entries : State → List Entry
halt_entries s = Halt (s.serial + 1) ∷ (stopped_of s s.serial ++ block_of s s.serial)
