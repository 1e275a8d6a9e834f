use Rattle.std.proofs.Common.{arith, sym, ◌≡◌, true, get_or, ◌-◌, ◌<◌, length}
use Rattle.cd_fill.specs.Filling.{open_brace}
use Rattle.cd_fill.proofs.Braces.{last_before, last_after, some_open, none_open}
use Rattle.cd_fill.proofs.filling.last_open.Goals as goal

pub returns-then-piece-end-eq123 : goal.returns-then-piece-end-eq123
returns-then-piece-end-eq123 c =
    let here : open_brace (get_or c.args.piece.now (c.loop-end.end - 1) 0) ≡ true = rw c.if-piece-end-eq123.true in
    let within : c.loop-end.end - 1 < length c.args.piece.now = omega arith in
    let later = c.loop-end.invariant.1 in (
      within,
      some_open c.args.piece.now (c.loop-end.end - 1) within here,
      sym (last_before c.args.piece.now c.loop-end.end c.loop-end-test.true c.loop-end.invariant.0 later here),
      sym (last_after c.args.piece.now c.loop-end.end c.loop-end-test.true c.loop-end.invariant.0 later here),
    )

pub returns : goal.returns
returns c = none_open c.args.piece.now (λ k _ h. c.loop-end.invariant.1 k (omega arith) h)
