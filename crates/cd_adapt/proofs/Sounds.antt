-- The configuration of a file is sound.
use Rattle.std.proofs.Common.{◌≡◌, ℕ, List, Result, Ok, Err}
use Rattle.std.specs.Prelude.{IfOk}
use Rattle.cd_text.specs.Gives.{Gives}
use Rattle.cd_tree.specs.Tree.{IsSound}
use Rattle.cd_tree.specs.declared.tree.Tree.{Tree}
use Rattle.cd_caddyfile.specs.Adapting.{out_of_memory, adapted}
use Rattle.cd_caddyfile.specs.declared.fault.CaddyfileFault.{CaddyfileFault}
use Rattle.cd_adapt.proofs.FileParts.{sites_are_fine}
use Rattle.cd_adapt.proofs.ShapeParts.{adapted_is_sound}

pub given_sound : (bytes : List ℕ) (r : Result Tree CaddyfileFault) → Gives out_of_memory r (adapted bytes) → IfOk r IsSound
given_sound bytes (Ok t) gives = adapted_is_sound bytes t (sites_are_fine bytes) gives
given_sound bytes (Err fault) gives = tt
