-- What is noted one after another.
use Rattle.std.proofs.Common.{◌≡◌, ℕ, List, [], ◌∷◌, ◌++◌, Option, Some, None, Result, Ok, Err, refl, sym, ap, ap₂, ◌∙◌, append_assoc, append-nil}
use Rattle.cd_text.specs.Steps.{◌▷◌}
use Rattle.cd_tree.specs.declared.path.Path.{Path}
use Rattle.cd_tree.specs.declared.tree.Tree.{Tree}
use Rattle.cd_ids.specs.Walk.{Mark, named, wrong, walk, marks}
use Rattle.cd_ids.specs.Ids.{ids_among, path_of, or_repeated, first_fault, unless_fault, index_of}
use Rattle.cd_ids.specs.Noting.{with_id, note, noted}
use Rattle.cd_ids.specs.declared.fault.IdFault.{IdFault}

-- ---- two runs

module _ {K : Type 0} (step : K → List ℕ → Path → Result K IdFault) where
  append-stepped : (one : Result K IdFault) (xs ys : List Mark) → ((more : K) → noted step more (xs ++ ys) ≡ (noted step more xs ▷ λ m. noted step m ys))
      → (one ▷ λ more. noted step more (xs ++ ys)) ≡ ((one ▷ λ more. noted step more xs) ▷ λ m. noted step m ys)
  append-stepped (Ok more) xs ys later = later more
  append-stepped (Err fault) xs ys later = refl

  pub noted-append : (known : K) (xs ys : List Mark) → noted step known (xs ++ ys) ≡ (noted step known xs ▷ λ more. noted step more ys)
  noted-append known [] ys = refl
  noted-append known (wrong at ∷ xs) ys = refl
  noted-append known (named name at ∷ xs) ys = append-stepped (step known name at) xs ys (λ more. noted-append more xs ys)

  -- a first run that went well
  pub first_noted : (known more : K) (xs ys : List Mark) → noted step known xs ≡ Ok more → noted step known (xs ++ ys) ≡ noted step more ys
  first_noted known more xs ys e = noted-append known xs ys ∙ ap (λ r. r ▷ λ m. noted step m ys) e

  -- and one that met a fault
  pub first_refused : (known : K) (fault : IdFault) (xs ys : List Mark) → noted step known xs ≡ Err fault → noted step known (xs ++ ys) ≡ Err fault
  first_refused known fault xs ys e = noted-append known xs ys ∙ ap (λ r. r ▷ λ m. noted step m ys) e

-- ---- a whole run

whole-found : (found : Option Path) (known : List (List ℕ × Path)) (name : List ℕ) (at : Path) (rest : List Mark)
    → ((more : List (List ℕ × Path)) → noted note more rest ≡ unless_fault (first_fault more rest) (more ++ ids_among rest))
    → (with_id found known name at ▷ λ more. noted note more rest) ≡ unless_fault (or_repeated found name at (first_fault (known ++ (name, at) ∷ []) rest)) (known ++ (name, at) ∷ ids_among rest)
whole-found None known name at rest later =
    later (known ++ (name, at) ∷ []) ∙ ap (unless_fault (first_fault (known ++ (name, at) ∷ []) rest)) (append_assoc known ((name, at) ∷ []) (ids_among rest))
whole-found (Some first) known name at rest later = refl

whole : (known : List (List ℕ × Path)) (ms : List Mark) → noted note known ms ≡ unless_fault (first_fault known ms) (known ++ ids_among ms)
whole known [] = ap Ok (sym (append-nil known))
whole known (wrong at ∷ rest) = refl
whole known (named name at ∷ rest) = whole-found (path_of name known) known name at rest (λ more. whole more rest)

-- the index of a tree is what was noted of all that the walk meets
index_noted : (t : Tree) → index_of t ≡ noted note [] (marks t)
index_noted t = sym (whole [] (marks t))

-- from an empty index, and the way to the tree itself
pub index_started : (t : Tree) (known : List (List ℕ × Path)) (at : Path) → known ≡ [] → at.parts ≡ [] → index_of t ≡ noted note known ((walk t).inside at)
index_started t known at none root = index_noted t ∙ ap₂ (λ ids (parts : List (List ℕ)). noted note ids ((walk t).inside (record { parts = parts }))) (sym none) (sym root)
