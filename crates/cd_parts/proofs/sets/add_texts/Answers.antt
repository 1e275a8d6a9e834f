use Rattle.std.proofs.Common.{List, ℕ, sym, subst, Option}
use Rattle.std.specs.Prelude.{IfSome}
use Rattle.cd_parts.specs.Texts.{AreTexts}
use Rattle.cd_parts.proofs.sets.add_texts.Goals as goal

pub text_list-requires : goal.text_list-requires
text_list-requires c =
    subst AreTexts (sym c.as_slice.ensures) (subst (λ (o : Option (List (List ℕ))). IfSome o (λ all. AreTexts all)) c.in-Some.is c.requires)
