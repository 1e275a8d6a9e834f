-- What is left to be read of a file's lines, by the blocks that are open.
use Rattle.std.specs.Prelude.{ℕ, Bool, List, [], ◌∷◌, ◌++◌, map}
use Rattle.cd_caddyfile.specs.Blocks.{Nesting, last, up_to, outermost, left_open}
use Rattle.cd_caddyfile.specs.Walk.{walk}
use Rattle.cd_caddyfile.specs.declared.reader.OpenBlock.{OpenBlock}
use Rattle.cd_caddyfile.specs.declared.within.Within.{Within}
use Rattle.cd_caddyfile.specs.declared.within.Within.TheVariants.{File}

-- where the next line is; blocks are listed from the innermost one
abbrev pub innermost : List OpenBlock → Within
innermost [] = File
innermost (b ∷ bs) = b.inside

abbrev pub opening_lines : List OpenBlock → List ℕ
opening_lines bs = map (λ (b : OpenBlock). b.line) bs

-- what the lines that follow say
abbrev pub left : {A : Type 0} → (Within → Bool → ℕ → List (List ℕ) → List A) → List OpenBlock → Nesting → List A
left said [] nesting = walk said File (outermost nesting)
left said (b ∷ bs) (last ls) = walk said b.inside ls
left said (b ∷ bs) (up_to ls n more) = walk said b.inside ls ++ left said bs more

-- the lines whose block is left open at the end
abbrev pub left_lines : List OpenBlock → Nesting → List ℕ
left_lines [] nesting = left_open (outermost nesting)
left_lines (b ∷ bs) (last ls) = left_open ls ++ opening_lines (b ∷ bs)
left_lines (b ∷ bs) (up_to ls n more) = left_open ls ++ left_lines bs more
