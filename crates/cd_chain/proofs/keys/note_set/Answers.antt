use Rattle.std.proofs.Common.{◌≡◌, true, ℕ, List, sym, subst}
use Rattle.std.specs.List.{list_any}
use Rattle.cd_fill.specs.declared.scene.Scene.{Scene}
use Rattle.cd_index.specs.Tables.{IsCandidate}
use Rattle.cd_match.specs.Holds.{set_holds}
use Rattle.cd_match.specs.declared.path.PathPattern.{PathPattern}
use Rattle.cd_module.specs.Patterns.{fits_in_any_case}
use Rattle.cd_chain.proofs.Noted.{ok_more}
use Rattle.cd_chain.proofs.keys.note_set.Goals as goal

pub returns-in-None-clause-noted : goal.returns-in-None-clause-noted
returns-in-None-clause-noted c =
    ok_more c.add_free.result ((text : List ℕ) → IsCandidate c.add_free.new.self text c.args.n)
    ((x : Scene) → set_holds x c.args.set.now ≡ true → IsCandidate c.add_free.new.self x.current.path c.args.n) (λ all x held. all x.current.path) c.add_free.ensures.added

pub returns-in-Some-clause-noted : goal.returns-in-Some-clause-noted
returns-in-Some-clause-noted c =
    ok_more c.note_patterns.result
    ((path : List ℕ) → list_any (λ (wanted : PathPattern). fits_in_any_case wanted.pattern path) c.as_slice.result.now ≡ true → IsCandidate c.note_patterns.new.table path c.args.n)
    ((x : Scene) → set_holds x c.args.set.now ≡ true → IsCandidate c.note_patterns.new.table x.current.path c.args.n)
    (λ all x held. all x.current.path
    (subst (λ (ps : List PathPattern). list_any (λ (wanted : PathPattern). fits_in_any_case wanted.pattern x.current.path) ps ≡ true) (sym c.as_slice.ensures) (c.in-Some.ensures x held)))
    c.note_patterns.ensures.noted
