use Rattle.std.proofs.Common.{List, ℕ, sym, subst}
use Rattle.std.specs.Prelude.{IsUtf8}
use Rattle.std.proofs.lemmas.List.Elements.{All-get_or}
use Rattle.cd_parts.proofs.making.text_list.Goals as goal

pub as_text-requires : goal.as_text-requires
as_text-requires c =
    subst (λ (w : List ℕ). IsUtf8 w) (sym c.as_slice.ensures)
    (subst (λ (w : List ℕ). IsUtf8 w) (sym c.text-item.is) (All-get_or (λ w. IsUtf8 w) c.args.texts.now c.loop-text.text-index c.text-item.result c.loop-text-test.true c.requires))
