-- The first of faults in two lists is the sooner of the first in each.
use Rattle.std.proofs.Common.{◌≡◌, ℕ, Bool, true, false, ◌&&◌, ◌||◌, ◌==◌, nat_lt, nat_le, if◌then◌else◌, List, [], ◌∷◌, ◌++◌, refl, sym, ap, ◌∙◌, arith, Option, Some, None}
use Rattle.std.proofs.lemmas.Bool.Decides.{nat_tests}
use Rattle.cd_caddyfile.specs.Faults.{precedence, is_sooner, sooner, first_fault}
use Rattle.cd_caddyfile.specs.declared.fault.CaddyfileFault.{CaddyfileFault}

abbrev before : ℕ → ℕ → ℕ → ℕ → Bool
before l p m q = nat_lt l m || (l == m && nat_le p q)

before-trans : (l p m q n r : ℕ) → before l p m q ≡ true → before m q n r ≡ true → before l p n r ≡ true
before-trans l p m q n r one other = grind (arith, nat_tests)

after-trans : (l p m q n r : ℕ) → before l p m q ≡ false → before m q n r ≡ false → before l p n r ≡ false
after-trans l p m q n r one other = grind (arith, nat_tests)

if_true : {A : Type 0} (b : Bool) (x y : A) → b ≡ true → (if b then x else y) ≡ x
if_true true x y is = refl
if_true false x y is = cc

if_false : {A : Type 0} (b : Bool) (x y : A) → b ≡ false → (if b then x else y) ≡ y
if_false true x y is = cc
if_false false x y is = refl

without_third : (f g : CaddyfileFault) (b : Bool) → sooner (if b then Some f else Some g) None ≡ (if b then Some f else Some g)
without_third f g true = refl
without_third f g false = refl

three : (f g h : CaddyfileFault) (b c : Bool) → is_sooner f g ≡ b → is_sooner g h ≡ c →
    sooner (if b then Some f else Some g) (Some h) ≡ sooner (Some f) (if c then Some g else Some h)
three f g h true true one other =
    if_true (is_sooner f h) (Some f) (Some h) (before-trans f.line (precedence f.kind) g.line (precedence g.kind) h.line (precedence h.kind) one other)
    ∙ sym (if_true (is_sooner f g) (Some f) (Some g) one)
three f g h true false one other = refl
three f g h false true one other =
    if_true (is_sooner g h) (Some g) (Some h) other ∙ sym (if_false (is_sooner f g) (Some f) (Some g) one)
three f g h false false one other =
    if_false (is_sooner g h) (Some g) (Some h) other
    ∙ sym (if_false (is_sooner f h) (Some f) (Some h) (after-trans f.line (precedence f.kind) g.line (precedence g.kind) h.line (precedence h.kind) one other))

pub sooner-assoc : (a b c : Option CaddyfileFault) → sooner (sooner a b) c ≡ sooner a (sooner b c)
sooner-assoc None b c = refl
sooner-assoc (Some f) None c = refl
sooner-assoc (Some f) (Some g) None = without_third f g (is_sooner f g)
sooner-assoc (Some f) (Some g) (Some h) = three f g h (is_sooner f g) (is_sooner g h) refl refl

pub first_of_both : (fs gs : List CaddyfileFault) → first_fault (fs ++ gs) ≡ sooner (first_fault fs) (first_fault gs)
first_of_both [] gs = refl
first_of_both (f ∷ fs) gs = ap (λ rest. sooner (Some f) rest) (first_of_both fs gs) ∙ sym (sooner-assoc (Some f) (first_fault fs) (first_fault gs))
