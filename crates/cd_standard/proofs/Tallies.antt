-- Counts of modules, wherever they are.
use Rattle.std.proofs.Common.{◌≡◌, ℕ, ◌+◌, ◌<◌, ◌^◌, ◌-◌, List, ◌∷◌, ◌++◌, length, get_or, sym, ap, ◌∙◌, arith}
use Rattle.std.specs.Prelude.{min}
use Rattle.std.proofs.lemmas.List.{length-append}
use Rattle.cd_tree.specs.Path.{◌▸◌}
use Rattle.cd_tree.specs.declared.path.Path.{Path}
use Rattle.std.specs.Prelude.{decimal}
use Rattle.cd_standard.specs.Plans.{Modules}
use Rattle.cd_standard.specs.Walking.{Counts}
use Rattle.cd_legal.specs.declared.plan.PlanModule.{PlanModule}
use Rattle.cd_standard.proofs.Adding.{elements_left, split_elements}

sums : (a b n m both top : ℕ) → n ≡ min a top → m ≡ min b top → both ≡ min (n + m) top → both ≡ min (a + b) top
sums a b n m both top x y z = grind (arith, x, y, z)

-- two values in a row, each at a path of its own
pub both_counted : (f g : Modules) (p q : Path → Path) (n m both : ℕ) → Counts n f → Counts m g → both ≡ min (n + m) (2 ^ 64 - 1) → Counts both (λ at. f (p at) ++ g (q at))
both_counted f g p q n m both first second is = λ at.
    sums (length (f (p at))) (length (g (q at))) n m both (2 ^ 64 - 1) (first (p at)) (second (q at)) is
    ∙ ap (λ (z : ℕ). min z (2 ^ 64 - 1)) (sym (length-append (f (p at)) (g (q at))))

one_up : (a n more top : ℕ) → n ≡ min a top → more ≡ min (n + 1) top → more ≡ min (a + 1) top
one_up a n more top x y = grind (arith, x, y)

-- a module, and what is inside it
pub inside_counted : (inside : Modules) (m : Path → PlanModule) (p : Path → Path) (n more : ℕ) → Counts n inside → more ≡ min (n + 1) (2 ^ 64 - 1) → Counts more (λ at. m at ∷ inside (p at))
inside_counted inside m p n more counted is = λ at.
    one_up (length (inside (p at))) n more (2 ^ 64 - 1) (counted (p at)) is ∙ ap (λ (z : ℕ). min z (2 ^ 64 - 1)) (omega arith)

-- a count is one of the same modules
pub counted_same : (f g : Modules) (n : ℕ) → ((at : Path) → f at ≡ g at) → Counts n f → Counts n g
counted_same f g n same counted = λ at. counted at ∙ ap (λ ms. min (length ms) (2 ^ 64 - 1)) (same at)

more_end : (found n rest more top : ℕ) → more ≡ min (found + min n top) top → min (more + rest) top ≡ min (found + (n + rest)) top
more_end found n rest more top is = grind (arith, is)

-- after one element more
pub element_counted : {X : Type 0} (f : X → Modules) (xs : List X) (i found n more whole : ℕ) (x : X) (at : Path) → i < length xs → x ≡ get_or xs i x
    → Counts n (f x) → more ≡ min (found + n) (2 ^ 64 - 1) → min (found + length (elements_left f xs i at)) (2 ^ 64 - 1) ≡ whole
    → min (more + length (elements_left f xs (i + 1) at)) (2 ^ 64 - 1) ≡ whole
element_counted f xs i found n more whole x at within is counted added before =
    more_end found (length (f x (at ▸ decimal i))) (length (elements_left f xs (i + 1) at)) more (2 ^ 64 - 1) (added ∙ ap (λ (z : ℕ). min (found + z) (2 ^ 64 - 1)) (counted (at ▸ decimal i)))
    ∙ ap (λ (z : ℕ). min (found + z) (2 ^ 64 - 1)) (sym (ap length (split_elements f xs i x at within is) ∙ length-append (f x (at ▸ decimal i)) (elements_left f xs (i + 1) at)))
    ∙ before
