-- From what is known when all passes have come together to the parts of the history.
use Rattle.std.proofs.Common.{◌≡◌, ◌≤◌, ℕ, true, false, List, [], ◌++◌, ap, sym, ◌∙◌, subst, ⊎_elim}
use Rattle.std.specs.List.{list_any}
use Rattle.std.proofs.lemmas.List.{append-nil, append_assoc, append_cancel_left, map-append}
use mathlib.Core.List.{IsPrefix}
use Rattle.cd_tree.specs.declared.tree.Tree.{Tree}
use Rattle.cd_legal.specs.declared.plan.Plan.{Plan}
use Rattle.cd_legal.specs.declared.entry.Entry.{Entry}
use Rattle.cd_legal.specs.declared.entry.Signed.{Signed}
use Rattle.cd_legal.specs.Entry.{entries, mine}
use Rattle.cd_legal.specs.Legal.{state_at}
use Rattle.cd_legal.specs.Placed.{Placed, placed, placed_entries}
use Rattle.cd_legal.proofs.Logs.{prefix_trans, mine-append, entries-append}
use Rattle.cd_legal.proofs.Placed.{placed-entries}
use Rattle.cd_gate.specs.declared.view.View.{View}
use Rattle.cd_gate.specs.Growing.{all_signed, Places}
use Rattle.cd_serve.specs.Changes.{IsHalting}
use Rattle.cd_serve.specs.Episodes.{is_halt, another_halted}
use Rattle.cd_host.specs.OwnPass.{IsJoined, AreBetween}
use Rattle.cd_host.specs.Parts.{HasParts, IsAlone}
use Rattle.cd_host.specs.Program.{Start, start_entries, halt_entries}
use Rattle.cd_host.proofs.Ending.{program-halts}
use Rattle.cd_host.proofs.Gathered.{first-empty}
use Rattle.cd_host.proofs.Halts.{halted-stays, another-halted}
use Rattle.cd_host.proofs.PartEntries.{no-halt-at-start}
use Rattle.cd_host.proofs.Parted.{parted-by-halt, parted-by-lane}
use Rattle.cd_host.proofs.Signing.{mine-all, entries-all, entries-none}
use Rattle.cd_host.proofs.Going.{seen-alone}

module _ {T : Type 0} (first : Tree) (plan : Plan) (start : Start) (v w y z : View T) (made : List Entry) (log : List Signed) (j : IsJoined v w y z made log) (between : AreBetween w.seen y.seen log) where
  pub start-alone : IsAlone w.seen
  start-alone = λ k pos. (between k pos).0

  module _ (is : made ≡ start_entries first plan start) where
    abbrev begun : List Signed
    begun = all_signed 0 (start_entries first plan start)

    w-seen : w.seen ≡ begun
    w-seen = seen-alone v w made j.starts j.number start-alone ∙ ap (λ (l : List Signed). l ++ all_signed 0 made) j.new_seen ∙ ap (all_signed 0) is

    w-mine : w.mine ≡ begun
    w-mine =
        j.starts.1.adds ∙ ap (λ (l : List Signed). l ++ all_signed v.number (placed_entries j.starts.0)) j.new_mine
        ∙ ap (λ (n : ℕ). all_signed n (placed_entries j.starts.0)) j.number ∙ ap (all_signed 0) (j.starts.2 ∙ is)

    y-mine : y.mine ≡ begun
    y-mine = ap (λ (u : View T). u.mine) j.same ∙ w-mine

    y-number : y.number ≡ 0
    y-number = ap (λ (u : View T). u.number) j.same ∙ (j.starts.1.number ∙ j.number)

    -- all that the program has signed is what it signed in its start and then
    log-own : (work : List Placed) → Places y z work → mine 0 log ≡ begun ++ all_signed 0 (placed_entries work)
    log-own work p =
        j.own ∙ p.adds ∙ ap (λ (l : List Signed). l ++ all_signed y.number (placed_entries work)) y-mine ∙ ap (λ (n : ℕ). begun ++ all_signed n (placed_entries work)) y-number

    -- so before its halt it had signed its start alone
    y-own : (work : List Placed) → Places y z work → mine 0 y.seen ≡ begun
    y-own work p =
        let a : List Signed = j.told.0 in
        let c : List Signed = j.seen.0 in
        let mid : mine 0 y.seen ≡ mine 0 w.seen ++ mine 0 a = ap (mine 0) (sym j.told.1) ∙ mine-append 0 w.seen a in
        let start_own : entries (mine 0 w.seen) ≡ entries begun = ap (λ (l : List Signed). entries (mine 0 l)) w-seen ∙ ap entries (mine-all 0 (start_entries first plan start)) in
        let z_own : entries (mine 0 z.seen) ≡ entries (mine 0 y.seen) ++ placed_entries work =
        sym (placed-entries 0 z.seen)
        ∙ ap placed_entries (subst (λ (n : ℕ). placed n z.seen ≡ placed n y.seen ++ work) y-number p.placed_is)
        ∙ map-append (λ (q : Placed). q.entry) (placed 0 y.seen) work ∙ ap (λ (es : List Entry). es ++ placed_entries work) (placed-entries 0 y.seen) in
        let y_entries : entries (mine 0 y.seen) ≡ entries begun ++ entries (mine 0 a) = ap entries mid ∙ entries-append (mine 0 w.seen) (mine 0 a) ∙ ap (λ (es : List Entry). es ++ entries (mine 0 a)) start_own in
        let whole : entries (mine 0 log) ≡ entries begun ++ ((entries (mine 0 a) ++ placed_entries work) ++ entries (mine 0 c)) =
        ap (λ (l : List Signed). entries (mine 0 l)) (sym j.seen.1) ∙ ap entries (mine-append 0 z.seen c) ∙ entries-append (mine 0 z.seen) (mine 0 c)
        ∙ ap (λ (es : List Entry). es ++ entries (mine 0 c)) (z_own ∙ ap (λ (es : List Entry). es ++ placed_entries work) y_entries ∙ append_assoc (entries begun) (entries (mine 0 a)) (placed_entries work))
        ∙ append_assoc (entries begun) (entries (mine 0 a) ++ placed_entries work) (entries (mine 0 c)) in
        let said : entries (mine 0 log) ≡ entries begun ++ placed_entries work = ap entries (log-own work p) ∙ entries-append begun (all_signed 0 (placed_entries work)) ∙ ap (λ (es : List Entry). entries begun ++ es) (entries-all 0 (placed_entries work)) in
        let rest : placed_entries work ≡ (entries (mine 0 a) ++ placed_entries work) ++ entries (mine 0 c) = append_cancel_left (entries begun) (placed_entries work) _ (sym said ∙ whole) in
        let none : mine 0 a ≡ [] = entries-none (mine 0 a) (first-empty (entries (mine 0 a)) (placed_entries work) (entries (mine 0 c)) rest) in
        mid ∙ ap (λ (l : List Signed). mine 0 w.seen ++ l) none ∙ append-nil (mine 0 w.seen) ∙ ap (mine 0) w-seen ∙ mine-all 0 (start_entries first plan start)

    y-begun : IsPrefix begun y.seen
    y-begun = subst (λ (l : List Signed). IsPrefix l y.seen) w-seen j.told

    others : (k : ℕ) → 1 ≤ k → mine k log ≡ mine k y.seen
    others k pos = (between k pos).1

    -- it halted a host that ran, and its entries end the history
    halts-then : (work : List Placed) → Places y z work → IsHalting work → ((state_at y.seen).halted ≡ false) × (mine 0 log ≡ mine 0 y.seen ++ all_signed 0 (halt_entries (state_at y.seen)))
    halts-then work p h =
        program-halts y z work log y-number p h j.legal j.seen (log-own work p ∙ ap (λ (l : List Signed). l ++ all_signed 0 (placed_entries work)) (sym (y-own work p))) others j.retired

    halts-itself : (work : List Placed) → Places y z work → IsHalting work → HasParts first plan start log
    halts-itself work p h =
        let end = halts-then work p h in
        parted-by-halt first plan start y.seen log y-begun (prefix_trans y.seen z.seen log p.seen j.seen) end.0 (y-own work p) end.1 others

    finds-it : Places y z [] → (state_at z.seen).halted ≡ true → HasParts first plan start log
    finds-it p halted =
        parted-by-lane first plan start log (prefix_trans begun y.seen log y-begun (prefix_trans y.seen z.seen log p.seen j.seen)) (halted-stays z.seen log j.seen halted) (log-own [] p ∙ append-nil begun)

    pub joined-parts : HasParts first plan start log
    joined-parts = ⊎_elim (λ own. halts-itself own.0 own.1 own.2) (λ other. finds-it other.0 other.1) j.halts

    -- where no lane has halted, the host ran until the program's own halt
    pub joined-running : another_halted 0 log ≡ false → (state_at y.seen).halted ≡ false
    joined-running nobody = ⊎_elim (λ own. runs own.0 own.1 own.2) (λ other. absurd (let f : true ≡ false = sym (by-lane other.0 other.1) ∙ nobody in cc)) j.halts
      where
        runs : (work : List Placed) → Places y z work → IsHalting work → (state_at y.seen).halted ≡ false
        runs work p h = (halts-then work p h).0

        by-lane : Places y z [] → (state_at z.seen).halted ≡ true → another_halted 0 log ≡ true
        by-lane p halted = another-halted 0 log (halted-stays z.seen log j.seen halted)
            (ap (λ (l : List Signed). list_any is_halt (entries l)) (log-own [] p ∙ append-nil begun) ∙ ap (list_any is_halt) (entries-all 0 (start_entries first plan start)) ∙ no-halt-at-start first plan start)
