-- A path that fits a pattern without a `*` in front begins with its literal, in any case.
use Rattle.std.proofs.Common.{◌≡◌, ℕ, true, List, length, take, nat_eq, sym, ap, ◌∙◌, arith}
use Rattle.std.proofs.lemmas.List.{take_all}
use Rattle.std.proofs.lemmas.Slice.Eq.{bytes_eq-Decides}
use Rattle.std.specs.List.{starts_with}
use Rattle.std.specs.Str.{bytes_eq, str_to_ascii_lowercase}
use Rattle.cd_module.specs.Patterns.{fits, fits_in_any_case}
use Rattle.cd_module.specs.declared.pattern.Pattern.{Pattern}
use Rattle.cd_module.specs.declared.pattern.Pattern.TheVariants.{Exact, Prefix}

-- equal texts begin with one another
whole : (text key : List ℕ) → bytes_eq text key ≡ true → starts_with nat_eq text key ≡ true
whole text key same =
    let e : text ≡ key = (bytes_eq-Decides text key).0 same in
    let all : take (length key) key ≡ key = take_all (length key) key (omega arith) in
    (bytes_eq-Decides key (take (length key) text)).1 (sym (ap (take (length key)) e ∙ all))

pub exact_begins : (pattern : Pattern) (all text : List ℕ) → pattern ≡ Exact all → fits_in_any_case pattern text ≡ true → starts_with nat_eq (str_to_ascii_lowercase text) (str_to_ascii_lowercase all) ≡ true
unfolding fits
exact_begins pattern all text is fitting = whole (str_to_ascii_lowercase text) (str_to_ascii_lowercase all) (sym (ap (λ p. fits_in_any_case p text) is) ∙ fitting)

pub prefix_begins : (pattern : Pattern) (front text : List ℕ) → pattern ≡ Prefix front → fits_in_any_case pattern text ≡ true → starts_with nat_eq (str_to_ascii_lowercase text) (str_to_ascii_lowercase front) ≡ true
unfolding fits
prefix_begins pattern front text is fitting = sym (ap (λ p. fits_in_any_case p text) is) ∙ fitting
