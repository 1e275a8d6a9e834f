use Rattle.std.proofs.Common.{arith}
use Rattle.cd_index.specs.Tables.{IsCandidate}
use Rattle.cd_match.specs.declared.path.PathPattern.{PathPattern}
use Rattle.cd_module.specs.Patterns.{fits_in_any_case}
use Rattle.cd_chain.proofs.Noted.{last_noted, one_noted}
use Rattle.cd_chain.proofs.keys.note_patterns.Goals as goal

pub loop-wanted-preserved : goal.loop-wanted-preserved
loop-wanted-preserved c = record {
  top = omega (arith, c.in_ok-note_pattern.ensures.top);
  kept = λ text n before. c.in_ok-note_pattern.ensures.kept text n (c.loop-wanted.invariant.kept text n before);
  noted = λ path some.
      one_noted (λ (wanted : PathPattern). fits_in_any_case wanted.pattern path) c.args.patterns.now c.loop-wanted.wanted-index c.wanted-item.result
      (IsCandidate c.loop-wanted.table path c.args.n) (IsCandidate c.note_pattern.new.table path c.args.n)
      c.loop-wanted-test.true c.wanted-item.is (c.in_ok-note_pattern.ensures.kept path c.args.n) (c.in_ok-note_pattern.ensures.noted path) (c.loop-wanted.invariant.noted path some);
}

pub returns-clause-noted : goal.returns-clause-noted
returns-clause-noted c path some =
    last_noted (λ (wanted : PathPattern). fits_in_any_case wanted.pattern path) c.args.patterns.now c.loop-wanted.wanted-index (IsCandidate c.loop-wanted.table path c.args.n)
    c.loop-wanted-test.false (c.loop-wanted.invariant.noted path some)
