use Rattle.std.proofs.Common.{◌≡◌, None, sym, ap, ◌∙◌}
use Rattle.std.proofs.lemmas.Option.{unwrap_or-slice_get}
use Rattle.std.specs.List.{slice_get}
use Rattle.std.specs.Option.{option_copied, unwrap_or}
use Rattle.cd_chain.proofs.index.Index.number.Goals as goal

pub returns-in-None : goal.returns-in-None
returns-in-None c =
    let none : slice_get c.args.self.now.numbers c.args.position ≡ None = sym c.get.ensures.value ∙ ap option_copied c.in-None.is in
    ap (λ found. unwrap_or found 0) (sym none) ∙ unwrap_or-slice_get c.args.self.now.numbers c.args.position 0
