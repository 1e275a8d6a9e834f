-- What a line takes off what is left.
use Rattle.std.proofs.Common.{◌≡◌, ℕ, Bool, true, false, List, [], ◌∷◌, ◌++◌, refl, ap, ◌∙◌, append_assoc, append-nil}
use Rattle.std.specs.Prelude.{codes}
use Rattle.cd_caddyfile.specs.Blocks.{end, Nesting, last, up_to, in_front, opened, outermost, followed_by, left_open}
use Rattle.cd_caddyfile.specs.Left.{innermost, opening_lines, left, left_lines}
use Rattle.cd_caddyfile.specs.Walk.{words_in, inside, walk}
use Rattle.cd_caddyfile.specs.declared.reader.OpenBlock.{OpenBlock}
use Rattle.cd_caddyfile.specs.declared.within.Within.{Within}
use Rattle.cd_caddyfile.specs.declared.within.Within.TheVariants.{File}

abbrev pub open_at : ℕ → Within → OpenBlock
open_at n within = record { line = n; inside = within }

module _ {A : Type 0} (said : Within → Bool → ℕ → List (List ℕ) → List A) where
  -- a line without a block
  pub left-says : (bs : List OpenBlock) (n : ℕ) (ws : List (List ℕ)) (nesting : Nesting) →
      left said bs (in_front n ws nesting) ≡ said (innermost bs) false n (words_in (innermost bs) ws) ++ left said bs nesting
  unfolding walk outermost followed_by
  left-says [] n ws (last ls) = refl
  left-says [] n ws (up_to ls m more) = refl
  left-says (b ∷ bs) n ws (last ls) = refl
  left-says (b ∷ bs) n ws (up_to ls m more) = append_assoc (said b.inside false n (words_in b.inside ws)) (walk said b.inside ls) (left said bs more)

  -- a line that opens a block
  pub left-opens : (bs : List OpenBlock) (n : ℕ) (ws : List (List ℕ)) (nesting : Nesting) →
      left said bs (opened n ws nesting)
      ≡ said (innermost bs) true n (words_in (innermost bs) ws) ++ left said (open_at n (inside (innermost bs) n (words_in (innermost bs) ws)) ∷ bs) nesting
  unfolding walk outermost followed_by
  left-opens [] n ws (last ls) = ap (λ l. said File true n (words_in File ws) ++ l) (append-nil (walk said (inside File n (words_in File ws)) ls))
  left-opens [] n ws (up_to ls m (last after)) = refl
  left-opens [] n ws (up_to ls m (up_to after k more)) = refl
  left-opens (b ∷ bs) n ws (last ls) =
      ap (λ l. said b.inside true n (words_in b.inside ws) ++ l) (append-nil (walk said (inside b.inside n (words_in b.inside ws)) ls))
  left-opens (b ∷ bs) n ws (up_to ls m (last after)) = refl
  left-opens (b ∷ bs) n ws (up_to ls m (up_to after k more)) =
      append_assoc (said b.inside true n (words_in b.inside ws)) (walk said (inside b.inside n (words_in b.inside ws)) ls ++ walk said b.inside after) (left said bs more)
      ∙ ap (λ l. said b.inside true n (words_in b.inside ws) ++ l) (append_assoc (walk said (inside b.inside n (words_in b.inside ws)) ls) (walk said b.inside after) (left said bs more))

  -- a line that closes a block
  pub left-closes : (b : OpenBlock) (bs : List OpenBlock) (n : ℕ) (nesting : Nesting) → left said (b ∷ bs) (up_to end n nesting) ≡ left said bs nesting
  unfolding walk
  left-closes b bs n nesting = refl

  -- a line that closes nothing
  pub left-stray : (n : ℕ) (nesting : Nesting) → left said [] (up_to end n nesting) ≡ said File false n (codes "}" ∷ []) ++ left said [] nesting
  unfolding walk outermost followed_by
  left-stray n nesting = refl

pub lines-says : (bs : List OpenBlock) (n : ℕ) (ws : List (List ℕ)) (nesting : Nesting) → left_lines bs (in_front n ws nesting) ≡ left_lines bs nesting
unfolding left_open outermost followed_by
lines-says [] n ws (last ls) = refl
lines-says [] n ws (up_to ls m more) = refl
lines-says (b ∷ bs) n ws (last ls) = refl
lines-says (b ∷ bs) n ws (up_to ls m more) = refl

pub lines-opens : (bs : List OpenBlock) (n : ℕ) (within : Within) (ws : List (List ℕ)) (nesting : Nesting) →
    left_lines bs (opened n ws nesting) ≡ left_lines (open_at n within ∷ bs) nesting
unfolding left_open outermost followed_by
lines-opens [] n within ws (last ls) = refl
lines-opens [] n within ws (up_to ls m (last after)) = refl
lines-opens [] n within ws (up_to ls m (up_to after k more)) = refl
lines-opens (b ∷ bs) n within ws (last ls) = append_assoc (left_open ls) (n ∷ []) (opening_lines (b ∷ bs))
lines-opens (b ∷ bs) n within ws (up_to ls m (last after)) = append_assoc (left_open ls) (left_open after) (opening_lines (b ∷ bs))
lines-opens (b ∷ bs) n within ws (up_to ls m (up_to after k more)) = append_assoc (left_open ls) (left_open after) (left_lines bs more)

pub lines-closes : (b : OpenBlock) (bs : List OpenBlock) (n : ℕ) (nesting : Nesting) → left_lines (b ∷ bs) (up_to end n nesting) ≡ left_lines bs nesting
unfolding left_open
lines-closes b bs n nesting = refl

pub lines-stray : (n : ℕ) (nesting : Nesting) → left_lines [] (up_to end n nesting) ≡ left_lines [] nesting
unfolding left_open outermost followed_by
lines-stray n nesting = refl
