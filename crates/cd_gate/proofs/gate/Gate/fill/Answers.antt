use Rattle.std.proofs.Common.{rules, ℕ, ◌<◌, ◌≤◌, length, [], ◌∷◌, set, sym, ap, ◌∙◌, subst, arith, length-append, length-set}
use Rattle.atomic_table.proofs.Lists.{at_index}
use Rattle.cd_legal.specs.declared.limits.TheConstants.{MAX_PASSES, MAX_SEATS}
use Rattle.cd_gate.specs.Ends.{IsRow, AreNew}
use Rattle.cd_gate.proofs.Rows.{row_more}
use Rattle.cd_gate.proofs.gate.Gate.fill.Goals as goal

fits : (n seats : ℕ) → n < seats → seats ≤ MAX_SEATS → n < MAX_PASSES
fits n seats low le = omega arith

pub hand_out-other-requires-clause-pass : goal.hand_out-other-requires-clause-pass
hand_out-other-requires-clause-pass g c =
    let row = c.loop-number.invariant.3 in
    row.each 0 c.index_mut.result.now (at_index c.loop-number.passes.items 0 c.index_mut.result.now row.some_pass c.index_mut.ensures.value)

pub hand_out-other-requires-clause-number : goal.hand_out-other-requires-clause-number
hand_out-other-requires-clause-number g c =
    let row = c.loop-number.invariant.3 in
    let root = row.root c.index_mut.result.now (at_index c.loop-number.passes.items 0 c.index_mut.result.now row.some_pass c.index_mut.ensures.value) in
    let count = c.loop-number.invariant.0 in
    (sym (root.0 ∙ count), fits _ _ c.loop-number-test.true c.requires.seats.1)

pub loop-number-preserved : goal.loop-number-preserved
loop-number-preserved g c =
    let row = c.loop-number.invariant.3 in
    let f = c.index_mut.result.now in
    let at = at_index c.loop-number.passes.items 0 f row.some_pass c.index_mut.ensures.value in
    let items = c.push_reserved.ensures.items in
    let more = row_more _ _ c.loop-number.passes.items f c.hand_out-other.new.first c.hand_out-other.result at c.hand_out-other.ensures.first.0 c.hand_out-other.ensures.first.1 c.hand_out-other.ensures.other.0 c.hand_out-other.ensures.other.1 row c.loop-number.invariant.4 in (
      ap length items ∙ (let a = length-append (set c.loop-number.passes.items 0 c.hand_out-other.new.first) (c.hand_out-other.result ∷ []) in let b = length-set c.loop-number.passes.items 0 c.hand_out-other.new.first in let d = c.loop-number.invariant.0 in omega arith),
      search rules,
      search rules,
      subst (λ ps. IsRow c.args.self.now.table.shared.table_id c.args.self.now.table.shared.key.value ps) (sym items) more.0,
      subst (λ ps. AreNew ps) (sym items) more.1,
    )
