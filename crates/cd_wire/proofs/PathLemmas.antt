-- A path without escapes.
use Rattle.std.proofs.Common.{◌≡◌, ℕ, true, List, [], ◌∷◌, ap, ◌∙◌, arith}
use Rattle.std.specs.List.{list_all}
use Rattle.std.proofs.lemmas.Bool.Decides.{nat_tests}
use Rattle.cd_wire.specs.Kept.{is_no_percent}
use Rattle.percent_encoding.specs.Percent.{percent_decode}
use Rattle.percent_encoding.proofs.PercentLemmas.{percent_decode-nil, percent_decode_not_percent}

-- what has no `%` stays as it is
pub no_escapes : (raw : List ℕ) → list_all is_no_percent raw ≡ true → percent_decode raw ≡ raw
no_escapes [] h = percent_decode-nil
no_escapes (byte ∷ raw) h =
    percent_decode_not_percent byte raw (grind (arith, nat_tests)) ∙ ap (λ (t : List ℕ). byte ∷ t) (no_escapes raw (grind (arith, nat_tests)))
