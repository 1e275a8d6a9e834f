use Rattle.std.proofs.Common.{◌≡◌, Some, None, sym, ◌∙◌, rules}
use Rattle.cd_stdio.proofs.TakingOut.{none_found, all_left, one_found, others_left}
use Rattle.cd_stdio.proofs.open_writers.OpenWriters.take.Goals as goal

pub returns-in_err-at-clause-taken : goal.returns-in_err-at-clause-taken
returns-in_err-at-clause-taken g c =
    let none : c.place_of.result ≡ None = search rules in
    let nothing : c.from_residual.result ≡ None = search rules in
    nothing ∙ sym (none_found c.args.name.now c.args.self.now.list (sym c.place_of.ensures ∙ none))

pub returns-in_err-at-clause-left : goal.returns-in_err-at-clause-left
returns-in_err-at-clause-left g c =
    let none : c.place_of.result ≡ None = search rules in
    all_left c.args.name.now c.args.self.now.list (sym c.place_of.ensures ∙ none)

pub returns-clause-taken : goal.returns-clause-taken
returns-clause-taken g c =
    let there : c.place_of.result ≡ Some c.in_ok-at.at = search rules in
    sym (one_found c.args.name.now c.args.self.now.list c.in_ok-at.at c.remove.result (sym c.place_of.ensures ∙ there) c.remove.ensures.element)

pub returns-clause-left : goal.returns-clause-left
returns-clause-left g c =
    let there : c.place_of.result ≡ Some c.in_ok-at.at = search rules in
    c.remove.ensures.rest ∙ others_left c.args.name.now c.args.self.now.list c.in_ok-at.at (sym c.place_of.ensures ∙ there)
