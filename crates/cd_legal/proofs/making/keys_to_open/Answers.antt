use Rattle.std.proofs.Common.{◌∙◌, ap, sym}
use Rattle.std.specs.Option.{option_copied}
use Rattle.cd_legal.specs.State.{keys_for}
use Rattle.cd_legal.proofs.Parts.{keys_there, keys_nowhere}
use Rattle.cd_legal.proofs.making.keys_to_open.Goals as goal

pub returns-in-Some-keys_at : goal.returns-in-Some-keys_at
returns-in-Some-keys_at c =
    let draft = sym c.get.ensures.value ∙ ap option_copied c.in-Some.is in
    let keys = sym c.keys_at.ensures ∙ ap option_copied c.in-Some-keys_at.is in
    sym (keys_there _ c.args.place _ keys) ∙ ap (keys_for c.args.part c.args.place) (sym draft)

pub returns-in-None : goal.returns-in-None
returns-in-None c =
    let draft = sym c.get.ensures.value ∙ ap option_copied c.in-Some.is in
    let none = sym c.keys_at.ensures ∙ ap option_copied c.in-None.is in
    sym (keys_nowhere _ c.args.place none) ∙ ap (keys_for c.args.part c.args.place) (sym draft)
