-- Part of the main theorem.
-- The blocks that the lines of a file make.
use Rattle.std.specs.Prelude.{ℕ, suc, Bool, true, false, List, [], ◌∷◌, ◌++◌, codes}
use Rattle.cd_caddyfile.specs.Lines.{lines_of, line_of}
use Rattle.cd_caddyfile.specs.declared.line.Line.{Line}
use Rattle.cd_caddyfile.specs.declared.line.Line.TheVariants.{Empty, Closes, Opens, Says, Misplaced}

-- lines with their numbers and words, each with the block that it opens, if it does
pub data Lines : Type 0 where
  end : Lines
  line : ℕ → List (List ℕ) → Lines → Lines
  -- its number, its words, whether it is closed, what is inside, and what follows it
  block : ℕ → List (List ℕ) → Bool → Lines → Lines → Lines

-- lines up to one that closes a block that they do not open, then that line's number and what follows it
pub data Nesting : Type 0 where
  last : Lines → Nesting
  up_to : Lines → ℕ → Nesting → Nesting

-- a line before others
abbrev pub in_front : ℕ → List (List ℕ) → Nesting → Nesting
in_front n ws (last ls) = last (line n ws ls)
in_front n ws (up_to ls m more) = up_to (line n ws ls) m more

-- a line before others that opens a block: it reaches to the next line that closes one, or to the end
abbrev pub opened : ℕ → List (List ℕ) → Nesting → Nesting
opened n ws (last ls) = last (block n ws false ls end)
opened n ws (up_to ls m (last after)) = last (block n ws true ls after)
opened n ws (up_to ls m (up_to after k more)) = up_to (block n ws true ls after) k more

-- a line without words does nothing, and neither does one with a misplaced brace
abbrev pub preceded_by : ℕ → Line → Nesting → Nesting
preceded_by n Empty nesting = nesting
preceded_by n Closes nesting = up_to end n nesting
preceded_by n (Opens ws) nesting = opened n ws nesting
preceded_by n (Says ws) nesting = in_front n ws nesting
preceded_by n Misplaced nesting = nesting

-- the lines from number n on
unfoldable pub nested : ℕ → List (List ℕ) → Nesting
nested n [] = last end
nested n (bytes ∷ more) = preceded_by n (line_of bytes) (nested (suc n) more)

-- these lines, and then those
unfoldable pub followed_by : Lines → Lines → Lines
followed_by end others = others
followed_by (line n ws after) others = line n ws (followed_by after others)
followed_by (block n ws is_closed inside after) others = block n ws is_closed inside (followed_by after others)

-- all lines: one that closes nothing is a line with that word
unfoldable pub outermost : Nesting → Lines
outermost (last ls) = ls
outermost (up_to ls n more) = followed_by ls (line n (codes "}" ∷ []) (outermost more))

-- the lines of a file
abbrev pub file_lines : List ℕ → Lines
file_lines bytes = outermost (nested 1 (lines_of bytes))

-- the lines whose block is left open
unfoldable pub left_open : Lines → List ℕ
left_open end = []
left_open (line n ws after) = left_open after
left_open (block n ws true inside after) = left_open inside ++ left_open after
left_open (block n ws false inside after) = left_open inside ++ (n ∷ left_open after)
