use Rattle.std.proofs.Common.{rules, ◌≡◌, ◌++◌, arith}
use Rattle.cd_fill.specs.Filling.{filled_as}
use Rattle.cd_fill.proofs.Pieces.{piece_written, too_long, last_written, gives_that}
use Rattle.cd_fill.proofs.filling.fill_as.Goals as goal

pub returns-then-len-gt-MAX_FILLED_BYTES : goal.returns-then-len-gt-MAX_FILLED_BYTES
returns-then-len-gt-MAX_FILLED_BYTES c =
    let form = c.args.form in
    let x = c.args.scene.now in
    let step : filled_as form x c.args.text.now ≡ c.put_closed.new.out ++ filled_as form x c.in-Some.behind.now =
    piece_written form x _ c.loop-piece.out c.loop-piece.rest.now c.in-Some.piece.now _ _ c.loop-piece.invariant c.in-Some.ensures.0 c.in-Some.ensures.1 c.in-Some.ensures.2 c.in_ok-put_closed.ensures in
    λ _. too_long form x c.args.text.now c.put_closed.new.out (filled_as form x c.in-Some.behind.now) step (omega arith)

pub loop-piece-preserved : goal.loop-piece-preserved
loop-piece-preserved c =
    piece_written c.args.form c.args.scene.now _ c.loop-piece.out c.loop-piece.rest.now c.in-Some.piece.now _ _ c.loop-piece.invariant c.in-Some.ensures.0 c.in-Some.ensures.1 c.in-Some.ensures.2 c.in_ok-put_closed.ensures

pub returns : goal.returns
returns c = search (rules, last_written, gives_that)
