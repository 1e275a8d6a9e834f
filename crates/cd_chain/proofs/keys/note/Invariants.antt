use Rattle.std.proofs.Common.{◌≡◌, ◌≤◌, ◌⊎◌, true, drop}
use Rattle.std.specs.List.{list_any}
use Rattle.cd_fill.specs.declared.scene.Scene.{Scene}
use Rattle.cd_index.specs.Tables.{IsCandidate, Keeps}
use Rattle.cd_match.specs.Holds.{set_holds}
use Rattle.cd_chain.proofs.keys.note.Given as goal

abbrev pub invariant-loop-set : goal.invariant-loop-set
invariant-loop-set l = record {
  top : l.table.top ≤ l.n;
  kept : Keeps l.fn.table l.table;
  noted : (x : Scene) → list_any (set_holds x) l.set-items ≡ true → IsCandidate l.table x.current.path l.n ⊎ (list_any (set_holds x) (drop l.set-index l.set-items) ≡ true);
}
