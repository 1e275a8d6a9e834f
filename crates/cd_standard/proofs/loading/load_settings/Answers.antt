use Rattle.std.proofs.Common.{◌≡◌, ℕ, List, Ok, sym, ap, ◌∙◌}
use Rattle.cd_standard.specs.Configuration.{configuration}
use Rattle.cd_standard.specs.Plans.{root}
use Rattle.cd_standard.proofs.loading.load_settings.Goals as goal

pub returns : goal.returns
returns c =
    let read : configuration c.args.tree.now root ≡ Ok c.in_ok-configuration.configuration
    = ap (λ (p : List (List ℕ)). configuration c.args.tree.now (record { parts = p })) (sym c.top.ensures) ∙ c.in_ok-configuration.ensures in
    rw read c.accept.ensures
