-- How many upstreams words give.
use Rattle.std.proofs.Common.{◌≡◌, ℕ, ◌+◌, Bool, true, false, List, [], ◌∷◌, length, Result, Ok, Err, if◌then◌else◌, refl, ap, sym, arith}
use Rattle.std.specs.Prelude.{codes}
use Rattle.std.specs.Str.{bytes_eq}
use Rattle.cd_text.specs.Steps.{◌▷◌}
use Rattle.cd_outside.specs.declared.address.Address.{Address}
use Rattle.cd_reverse_proxy.specs.declared.settings.WordsFault.{WordsFault}
use Rattle.cd_reverse_proxy.specs.declared.settings.WordsFault.TheVariants.{Unknown}
use Rattle.cd_reverse_proxy.specs.Settings.{to_each, upstream}

record OneMore (others : Result (List Address) WordsFault) (us : List Address) : Type 0 where
  first : Address
  found : List Address
  are : others ≡ Ok found
  all : us ≡ first ∷ found

one-more : (b : Bool) (u : Result Address WordsFault) (others : Result (List Address) WordsFault) (us : List Address)
    → (if b then (u ▷ λ first. others ▷ λ found. Ok (first ∷ found)) else Err Unknown) ≡ Ok us → OneMore others us
one-more true (Ok first) (Ok found) us e = record { first = first; found = found; are = refl; all = let h : first ∷ found ≡ us = cc in sym h }
one-more true (Ok first) (Err fault) us e = absurd cc
one-more true (Err fault) others us e = absurd cc
one-more false u others us e = absurd cc

pub each-length : (pairs : List (List ℕ)) (us : List Address) → to_each pairs ≡ Ok us → length us + length us ≡ length pairs
each-length [] us e = let h : [] ≡ us = cc in let n : length {A = Address} [] ≡ length us = ap length h in omega (arith, n)
each-length (option ∷ []) us e = absurd cc
each-length (option ∷ text ∷ others) us e =
    let more = one-more (bytes_eq option (codes "--to")) (upstream text) (to_each others) us e in
    let rest = each-length others more.found more.are in
    let n : length us ≡ length (more.first ∷ more.found) = ap length more.all in
    omega (arith, rest, n)
