use Rattle.std.proofs.Common.{arith}
use Rattle.cd_chain.proofs.Indexes.{skips}
use Rattle.cd_chain.proofs.index.Index.skip.Goals as goal

pub returns-clause-meaning : goal.returns-clause-meaning
returns-clause-meaning c places back x sound same =
    skips places c.args.self.now back x c.args.path.now c.args.position c.candidate-found.result c.args.n c.number-2.result sound same
    (omega (arith, c.if-position-len.false, c.len.ensures)) (omega (arith, c.number.ensures, c.if-number-n.false)) c.number-2.ensures
    c.candidate-found.ensures.at_most c.candidate-found.ensures.greatest
