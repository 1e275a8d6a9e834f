use Rattle.std.proofs.Common.{◌≡◌, ◌≤◌, ◌⊎◌, ℕ, true, List, drop}
use Rattle.std.specs.List.{list_any}
use Rattle.cd_index.specs.Tables.{IsCandidate, Keeps}
use Rattle.cd_match.specs.declared.path.PathPattern.{PathPattern}
use Rattle.cd_module.specs.Patterns.{fits_in_any_case}
use Rattle.cd_chain.proofs.keys.note_patterns.Given as goal

abbrev pub invariant-loop-wanted : goal.invariant-loop-wanted
invariant-loop-wanted l = record {
  top : l.table.top ≤ l.n;
  kept : Keeps l.fn.table l.table;
  noted : (path : List ℕ) → list_any (λ (wanted : PathPattern). fits_in_any_case wanted.pattern path) l.patterns ≡ true →
      IsCandidate l.table path l.n ⊎ (list_any (λ (wanted : PathPattern). fits_in_any_case wanted.pattern path) (drop l.wanted-index l.patterns) ≡ true);
}
