use Rattle.std.proofs.Common.{rules, ◌≡◌, [], ◌∷◌, Some, sym, subst}
use Rattle.atomic_table.specs.Table.{opening}
use Rattle.cd_gate.specs.Steps.{first_view}
use Rattle.cd_gate.specs.Tables.{Holds, first_words}
use Rattle.cd_gate.proofs.SeatSteps.{starts}
use Rattle.cd_gate.proofs.gate.Gate.new.Goals as goal

pub new-requires : goal.new-requires
new-requires g c =
    let said = c.of-opening.ensures in
    let items : c.push_reserved.new.self.items ≡ Some c.args.value ∷ [] = search rules in
    let words : c.opening_words.result ≡ first_words = search rules in
    subst (λ ws. Holds g.T.Stands.stands c.of-opening.result.value (opening ws c.push_reserved.new.self.items (first_view c.of-opening.result.value))) (sym words)
    (subst (λ o. Holds g.T.Stands.stands o (opening first_words c.push_reserved.new.self.items (first_view o))) (sym said)
    (subst (λ xs. Holds g.T.Stands.stands c.args.value (opening first_words xs (first_view c.args.value))) (sym items) (starts g.T.Stands.stands c.args.value c.requires.value)))
