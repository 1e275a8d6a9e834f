-- A history has its parts.
use Rattle.std.proofs.Common.{◌≡◌, ◌≤◌, ℕ, Bool, true, false, cond, List, [], ◌++◌, refl, ap, sym, ◌∙◌, subst}
use Rattle.std.specs.List.{list_any}
use Rattle.std.proofs.lemmas.List.{append-nil, append_cancel_left}
use mathlib.Core.List.{IsPrefix}
use Rattle.cd_tree.specs.declared.tree.Tree.{Tree}
use Rattle.cd_legal.specs.declared.plan.Plan.{Plan}
use Rattle.cd_legal.specs.declared.entry.Entry.{Entry}
use Rattle.cd_legal.specs.declared.entry.Signed.{Signed}
use Rattle.cd_legal.specs.Entry.{entries, mine}
use Rattle.cd_legal.specs.Legal.{state_at}
use Rattle.cd_legal.proofs.Logs.{mine-append}
use Rattle.cd_gate.specs.Growing.{all_signed}
use Rattle.cd_serve.specs.Episodes.{is_halt, another_halted}
use Rattle.cd_serve.proofs.Halts.{halted-by-another}
use Rattle.cd_serve.proofs.Longer.{none-after}
use Rattle.cd_host.specs.Parts.{HasParts, end_entries}
use Rattle.cd_host.specs.Program.{Start, start_entries, halt_entries}
use Rattle.cd_host.proofs.Signing.{own-alone, mine-all, entries-all, all-append}
use Rattle.cd_host.proofs.Halts.{nobody-halted}
use Rattle.cd_host.proofs.PartEntries.{no-halt-at-start}

module _ (first : Tree) (plan : Plan) (start : Start) where
  abbrev begun : List Signed
  begun = all_signed 0 (start_entries first plan start)

  -- nothing of the program's follows its start where it has signed no more
  lanes-only : (more found : List Signed) → begun ++ more ≡ found → mine 0 found ≡ begun → mine 0 more ≡ []
  lanes-only more found is own = none-after 0 begun more (ap (mine 0) is ∙ own ∙ sym (mine-all 0 (start_entries first plan start)))

  pub parted-by-halt : (found log : List Signed) → IsPrefix (all_signed 0 (start_entries first plan start)) found → IsPrefix found log → (state_at found).halted ≡ false
      → mine 0 found ≡ all_signed 0 (start_entries first plan start) → mine 0 log ≡ mine 0 found ++ all_signed 0 (halt_entries (state_at found))
      → ((k : ℕ) → 1 ≤ k → mine k log ≡ mine k found) → HasParts first plan start log
  parted-by-halt found log p q running own all others =
      let ending : List Signed = all_signed 0 (halt_entries (state_at found)) in
      let none : (k : ℕ) → 1 ≤ k → mine k q.0 ≡ [] = λ k pos. none-after k found q.0 (ap (mine k) q.1 ∙ others k pos) in
      let last : mine 0 q.0 ≡ ending = append_cancel_left (mine 0 found) (mine 0 q.0) ending (sym (mine-append 0 found q.0) ∙ ap (mine 0) q.1 ∙ all) in
      let is : q.0 ≡ ending = sym (own-alone q.0 none) ∙ last in
      let ends : end_entries found ≡ halt_entries (state_at found) = ap (λ (b : Bool). cond b [] (halt_entries (state_at found))) (nobody-halted 0 found running) in
      let whole : log ≡ found ++ all_signed 0 (end_entries found) = sym q.1 ∙ ap (λ (l : List Signed). found ++ l) (is ∙ ap (all_signed 0) (sym ends)) in
      record {
        lanes = p.0;
        others = lanes-only p.0 found p.1 own;
        whole = subst (λ (l : List Signed). log ≡ l ++ all_signed 0 (end_entries l)) (sym p.1) whole;
      }

  pub parted-by-lane : (log : List Signed) → IsPrefix (all_signed 0 (start_entries first plan start)) log → (state_at log).halted ≡ true → mine 0 log ≡ all_signed 0 (start_entries first plan start)
      → HasParts first plan start log
  parted-by-lane log p halted own =
      let none : list_any is_halt (entries (mine 0 log)) ≡ false = ap (λ (l : List Signed). list_any is_halt (entries l)) own ∙ ap (list_any is_halt) (entries-all 0 (start_entries first plan start)) ∙ no-halt-at-start first plan start in
      let other : another_halted 0 log ≡ true = halted-by-another 0 [] log refl halted none in
      let ends : end_entries log ≡ [] = ap (λ (b : Bool). cond b [] (halt_entries (state_at log))) other in
      let whole : log ≡ log ++ all_signed 0 (end_entries log) = sym (ap (λ (es : List Entry). log ++ all_signed 0 es) ends ∙ append-nil log) in
      record {
        lanes = p.0;
        others = lanes-only p.0 log p.1 own;
        whole = subst (λ (l : List Signed). log ≡ l ++ all_signed 0 (end_entries l)) (sym p.1) whole;
      }

  pub program-signs : (history : List Signed) → (parts : HasParts first plan start history)
      → mine 0 history ≡ all_signed 0 (start_entries first plan start ++ end_entries (all_signed 0 (start_entries first plan start) ++ parts.lanes))
  program-signs history parts =
      let ends : List Entry = end_entries (begun ++ parts.lanes) in
      ap (mine 0) parts.whole
      ∙ mine-append 0 (begun ++ parts.lanes) (all_signed 0 ends)
      ∙ ap (λ (l : List Signed). l ++ mine 0 (all_signed 0 ends)) (mine-append 0 begun parts.lanes ∙ ap (λ (l : List Signed). mine 0 begun ++ l) parts.others ∙ append-nil (mine 0 begun) ∙ mine-all 0 (start_entries first plan start))
      ∙ ap (λ (l : List Signed). begun ++ l) (mine-all 0 ends)
      ∙ sym (all-append 0 (start_entries first plan start) ends)
