-- Part of the main theorem.
-- Which configuration a Caddyfile comes to, or its first fault.
use Rattle.std.specs.Prelude.{ℕ, nat_lt, List, length, Option, Some, None, Result, Ok, Err, ⊤}
use Rattle.cd_text.specs.Steps.{◌▷◌, refused_where}
use Rattle.cd_tree.specs.Tree.{depth, text}
use Rattle.cd_tree.specs.declared.limits.TheConstants.{MAX_DEPTH, MAX_TEXT_BYTES}
use Rattle.cd_tree.specs.declared.tree.Tree.{Tree}
use Rattle.cd_caddyfile.specs.Faults.{fault_at, fault_of}
use Rattle.cd_caddyfile.specs.FileSites.{sites}
use Rattle.cd_caddyfile.specs.Shape.{shape}
use Rattle.cd_caddyfile.specs.declared.fault.CaddyfileFault.{CaddyfileFault}
use Rattle.cd_caddyfile.specs.declared.fault.CaddyfileKind.TheVariants.{TooLong, TooDeep, NoMemory}

abbrev pub out_of_memory : CaddyfileFault
out_of_memory = fault_at 0 NoMemory

-- there is no fault
abbrev pub unless_faulty : Option CaddyfileFault → Result ⊤ CaddyfileFault
unless_faulty None = Ok tt
unless_faulty (Some fault) = Err fault

-- the length of a file comes first
abbrev pub checked : List ℕ → Result ⊤ CaddyfileFault
checked bytes = refused_where (nat_lt MAX_TEXT_BYTES (length bytes)) (fault_at 0 TooLong) ▷ λ _. unless_faulty (fault_of bytes)

-- within the limits of trees
abbrev pub within_limits : Tree → Result Tree CaddyfileFault
within_limits t =
    refused_where (nat_lt MAX_TEXT_BYTES (length (text t))) (fault_at 0 TooLong) ▷ λ _.
    refused_where (nat_lt MAX_DEPTH (depth t)) (fault_at 0 TooDeep) ▷ λ _.
    Ok t

-- the limits of its tree come last
unfoldable pub adapted : List ℕ → Result Tree CaddyfileFault
adapted bytes = checked bytes ▷ λ _. within_limits (shape (sites bytes))
