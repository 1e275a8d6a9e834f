-- What a write of a line says.
use Rattle.std.proofs.Common.{◌≡◌, ◌++◌, ℕ, List, option_map, inl, inr, ap, refl, subst, ◌∙◌}
use Rattle.cd_outside.specs.declared.given.Given.{Given}
use Rattle.cd_outside.specs.declared.given.Given.TheVariants as given
use Rattle.cd_outside.specs.Given.{IsGivenOf}
use Rattle.cd_outside.specs.Devices.{Device, HasFailed}
use Rattle.cd_outside.specs.Lines.{IsSaid, Says}

pub said-so : (how : Given) (line bytes part : List ℕ) (output : Device (List ℕ)) → bytes ≡ line → IsGivenOf how part bytes → output.told_now ≡ option_map (λ held. held ++ part) output.told_before
    → (how ≡ given.Failed → HasFailed output) → IsSaid how line output
said-so given.All line bytes part output same is told failed = told ∙ ap (λ (p : List ℕ). option_map (λ held. held ++ p) output.told_before) (is ∙ same)
said-so given.Failed line bytes part output same is told failed = (failed refl, (part, subst (λ (b : List ℕ). IsGivenOf given.Failed part b) same is, told))

pub says-so : (how : Given) (line : List ℕ) (output : Device (List ℕ)) → IsSaid how line output → Says line output
says-so given.All line output said = inl said
says-so given.Failed line output said = inr said
