use Rattle.std.proofs.Common.{List, ℕ, sym, subst}
use Rattle.std.specs.Prelude.{IsUtf8}
use Rattle.std.proofs.lemmas.List.Elements.{All-get_or}
use Rattle.cd_caddyfile.specs.Sites.{Wanted}
use Rattle.cd_parts.specs.Texts.{AreTexts, IsTextual}
use Rattle.cd_parts.proofs.sets.wanted_entries.Goals as goal

pub text_list-requires : goal.text_list-requires
text_list-requires c =
    let this : IsTextual c.one-item.result = subst (λ (w : Wanted). IsTextual w) (sym c.one-item.is) (All-get_or (λ w. IsTextual w) c.args.all.now c.loop-one.one-index c.one-item.result c.loop-one-test.true c.requires) in
    subst AreTexts (sym c.as_slice.ensures) this.1

pub as_text-requires : goal.as_text-requires
as_text-requires c =
    let this : IsTextual c.one-item.result = subst (λ (w : Wanted). IsTextual w) (sym c.one-item.is) (All-get_or (λ w. IsTextual w) c.args.all.now c.loop-one.one-index c.one-item.result c.loop-one-test.true c.requires) in
    subst (λ (w : List ℕ). IsUtf8 w) (sym c.as_slice-in-loop-one.ensures) this.0
