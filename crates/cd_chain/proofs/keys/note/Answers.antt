use Rattle.std.proofs.Common.{◌≡◌, true, ℕ, List, sym, subst, arith}
use Rattle.std.specs.List.{list_any}
use Rattle.cd_fill.specs.declared.scene.Scene.{Scene}
use Rattle.cd_index.specs.Tables.{IsCandidate}
use Rattle.cd_match.specs.Holds.{holds, set_holds}
use Rattle.cd_match.specs.declared.matcher.MatcherSet.{MatcherSet}
use Rattle.cd_chain.proofs.Noted.{holds_some, last_noted, ok_more, one_noted}
use Rattle.cd_chain.proofs.keys.note.Goals as goal

pub returns-then-is_empty-clause-noted : goal.returns-then-is_empty-clause-noted
returns-then-is_empty-clause-noted c =
    ok_more c.add_free.result ((text : List ℕ) → IsCandidate c.add_free.new.self text c.args.n)
    ((x : Scene) → holds c.args.matching.now x ≡ true → IsCandidate c.add_free.new.self x.current.path c.args.n) (λ all x held. all x.current.path) c.add_free.ensures.added

pub loop-set-preserved : goal.loop-set-preserved
loop-set-preserved c = record {
  top = omega (arith, c.in_ok-note_set.ensures.top);
  kept = λ text n before. c.in_ok-note_set.ensures.kept text n (c.loop-set.invariant.kept text n before);
  noted = λ x some.
      one_noted (set_holds x) c.as_slice-set-items.result.now c.loop-set.set-index c.set-item.result
      (IsCandidate c.loop-set.table x.current.path c.args.n) (IsCandidate c.note_set.new.table x.current.path c.args.n)
      c.loop-set-test.true c.set-item.is (c.in_ok-note_set.ensures.kept x.current.path c.args.n) (c.in_ok-note_set.ensures.noted x) (c.loop-set.invariant.noted x some);
}

pub returns-clause-noted : goal.returns-clause-noted
returns-clause-noted c x held =
    last_noted (set_holds x) c.as_slice-set-items.result.now c.loop-set.set-index (IsCandidate c.loop-set.table x.current.path c.args.n) c.loop-set-test.false
    (c.loop-set.invariant.noted x
    (subst (λ (all : List MatcherSet). list_any (set_holds x) all ≡ true) (sym c.as_slice-set-items.ensures)
    (holds_some c.args.matching.now x (λ none. let filled : c.is_empty.result ≡ true = c.is_empty.ensures.1 none in cc) held)))
