use Rattle.std.proofs.Common.{◌<◌, ◌++◌, ℕ, List, length, sym, ap, arith}
use Rattle.std.proofs.lemmas.Bool.Decides.{nat_tests}
use Rattle.cd_tcp.proofs.held.Held.begin.Goals as goal

-- some bytes have come, and are handed over
pub returns : goal.returns
returns g c =
    let has : 0 < length c.args.self.now.connection.waiting.intake = grind (arith, nat_tests, c.is_empty.ensures, c.if-is_empty.false) in
    let piece = c.hand_over-self.new.into in
    (piece, (c.hand_over-self.ensures.some has, sym (ap (λ (t : List ℕ). t ++ piece) c.requires)))
