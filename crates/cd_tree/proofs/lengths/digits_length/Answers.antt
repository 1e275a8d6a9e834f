use Rattle.std.proofs.Common.{◌≤◌, ◌/◌, ◌%◌, ◌+◌, [], ◌∷◌, arith, ap, length, decimal, length-append}
use Rattle.std.proofs.lemmas.Fmt.{decimal_digit, decimal_step, decimal_nonempty, length-decimal-le}
use Rattle.cd_tree.proofs.lengths.digits_length.Goals as goal

pub loop-left-preserved : goal.loop-left-preserved
loop-left-preserved c =
    let l = c.loop-left in
    let short : length (decimal c.args.number) ≤ 20 = length-decimal-le 20 c.args.number (omega arith) (omega arith) (omega arith) in
    let step = ap length (decimal_step l.left (omega arith) l.invariant.below) in
    let split = length-append (decimal (l.left / 10)) ((48 + l.left % 10) ∷ []) in
    let some = decimal_nonempty (l.left / 10) (omega (arith, l.invariant.below)) in
    record {
      below = omega (arith, l.invariant.below);
      so_far = omega (arith, short, step, split, some, l.invariant.so_far);
    }

pub returns-clause-exact : goal.returns-clause-exact
returns-clause-exact c =
    let l = c.loop-left in
    let one = ap length (decimal_digit l.left (omega arith)) in
    omega (arith, one, l.invariant.so_far)

pub returns-clause-short : goal.returns-clause-short
returns-clause-short c =
    let l = c.loop-left in
    let one = ap length (decimal_digit l.left (omega arith)) in
    let short : length (decimal c.args.number) ≤ 20 = length-decimal-le 20 c.args.number (omega arith) (omega arith) (omega arith) in
    omega (arith, one, short, l.invariant.so_far)
