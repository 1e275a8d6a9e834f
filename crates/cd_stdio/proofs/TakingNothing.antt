-- What is taken after a read that took nothing.
use Rattle.std.proofs.Common.{refl, ℕ, List, [], Option, None, Some, sym, ◌∙◌}
use Rattle.std.specs.Io.KnownBytes.{Keeps, Consumes}

pub kept_then : (a b c : Option (List ℕ)) → Consumes a b [] → Keeps b c → Consumes a c []
kept_then None b c none kept = tt
kept_then (Some x) None c none kept = absurd none
kept_then (Some x) (Some y) None none kept = absurd kept
kept_then (Some x) (Some y) (Some z) none kept = none ∙ sym kept

pub taken_then : (a b c : Option (List ℕ)) (bytes : List ℕ) → Consumes a b [] → Consumes b c bytes → Consumes a c bytes
taken_then None b c bytes none more = tt
taken_then (Some x) None c bytes none more = absurd none
taken_then (Some x) (Some y) None bytes none more = absurd more
taken_then (Some x) (Some y) (Some z) bytes none more = none ∙ more

pub nothing_yet : (a : Option (List ℕ)) → Consumes a a []
nothing_yet None = tt
nothing_yet (Some x) = refl
