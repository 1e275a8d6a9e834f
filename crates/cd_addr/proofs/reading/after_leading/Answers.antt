use Rattle.std.proofs.Common.{◌≡◌, ◌≢◌, ◌==◌, ℕ, List, [], ◌∷◌, Bool, true, false, Option, Some, None, ap, sym, refl, eqb-true, eq-eqb, Bor}
use Rattle.std.specs.Prelude.{MatchOption, if◌then◌else◌}
use Rattle.std.specs.Option.{option_copied}
use Rattle.std.proofs.lemmas.Str.Pattern.{strip_prefix_char}
use Rattle.cd_addr.specs.Addresses.{after_leading}
use Rattle.cd_addr.proofs.reading.after_leading.Goals as goal

none_where : (t : Bool) (s : List ℕ) → (t ≡ true → ⊥) → None ≡ (if t then Some s else None)
none_where true s h = absurd (h refl)
none_where false s h = refl

some_where : (t : Bool) (s x : List ℕ) → t ≡ true → s ≡ x → Some x ≡ (if t then Some s else None)
some_where true s x h e = ap (λ y. Some y) (sym e)
some_where false s x h e = cc

stripped : (c : ℕ) (bs : List ℕ) (r : Option (Bor (List ℕ))) → MatchOption r ((rest : List ℕ) → bs ≢ c ∷ rest) (λ x. bs ≡ c ∷ x.now) → option_copied r ≡ after_leading c bs
stripped c [] None h = refl
stripped c (b ∷ s) None h = none_where (b == c) s (λ e. h s (ap (λ z. z ∷ s) (eqb-true b c e)))
stripped c [] (Some x) h = cc
stripped c (b ∷ s) (Some x) h =
    let e : b ≡ c = cc in
    let f : s ≡ x.now = cc in
    some_where (b == c) s x.now (eq-eqb b c e) f

pub returns : goal.returns
returns c = stripped c.args.first c.args.text.now c.strip_prefix.result (strip_prefix_char c.args.first c.args.text.now c.strip_prefix.result c.strip_prefix.ensures.cases c.requires)
