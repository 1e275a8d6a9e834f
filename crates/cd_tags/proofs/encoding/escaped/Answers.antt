use Rattle.std.proofs.Common.{ℕ, false, ◌==◌, Bool, ap, ◌∙◌}
use Rattle.std.specs.Prelude.{if◌then◌else◌}
use Rattle.percent_encoding.specs.AsciiSet.{contains}
use Rattle.percent_encoding.specs.declared.ascii_set.TheConstants.{NON_ALPHANUMERIC}
use Rattle.cd_tags.proofs.Escapes.{without, combined, alphanumeric}
use Rattle.cd_tags.proofs.encoding.escaped.Goals as goal

abbrev unless_at : ℕ → ℕ → Bool → Bool
unless_at b x r = if b == x then false else r

pub returns : goal.returns
returns c b h =
    without (contains c.remove-3.result) (contains c.remove-4.result) 126 c.remove-4.ensures.removed c.remove-4.ensures.others b h
    ∙ ap (unless_at b 126) (without (contains c.remove-2.result) (contains c.remove-3.result) 95 c.remove-3.ensures.removed c.remove-3.ensures.others b h)
    ∙ ap (λ r. unless_at b 126 (unless_at b 95 r)) (without (contains c.remove.result) (contains c.remove-2.result) 46 c.remove-2.ensures.removed c.remove-2.ensures.others b h)
    ∙ ap (λ r. unless_at b 126 (unless_at b 95 (unless_at b 46 r))) (without (contains NON_ALPHANUMERIC) (contains c.remove.result) 45 c.remove.ensures.removed c.remove.ensures.others b h)
    ∙ ap (λ r. unless_at b 126 (unless_at b 95 (unless_at b 46 (unless_at b 45 r)))) (alphanumeric b h)
    ∙ combined (b == 126) (b == 95) (b == 46) (b == 45) _
