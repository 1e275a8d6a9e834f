-- Bytes that stay as they were shrink by none.
use Rattle.std.proofs.Common.{ℕ, List, [], Option, None, Some, sym}
use Rattle.std.specs.Io.KnownBytes.{Keeps, Consumes}

pub kept_consumes : (a b : Option (List ℕ)) → Keeps a b → Consumes a b []
kept_consumes None b kept = tt
kept_consumes (Some x) None kept = kept
kept_consumes (Some x) (Some y) kept = sym kept
