-- Part of the main theorem.
-- What the lines of a file say, each by where it is.
use Rattle.std.specs.Prelude.{ℕ, Bool, true, false, if◌then◌else◌, List, [], ◌∷◌, ◌++◌, map, Option, Some, None}
use Rattle.cd_caddyfile.specs.Blocks.{Lines, end, line, block}
use Rattle.cd_caddyfile.specs.Directives.{directive_named, is_matcher}
use Rattle.cd_caddyfile.specs.Shorthands.{spelled}
use Rattle.cd_caddyfile.specs.declared.directive.Directive.{Directive}
use Rattle.cd_caddyfile.specs.declared.directive.Directive.TheVariants.{Vars, Header, Redir, Rewrite, Handle, Respond}
use Rattle.cd_caddyfile.specs.declared.within.Within.{Within}
use Rattle.cd_caddyfile.specs.declared.within.Within.TheVariants.{File, Directives, Tests, Unread}

-- shorthands are read in each word of a site
abbrev pub words_in : Within → List (List ℕ) → List (List ℕ)
words_in File ws = ws
words_in (Directives site) ws = map spelled ws
words_in (Tests site matcher) ws = map spelled ws
words_in (Unread site) ws = map spelled ws

-- ---- what a block is, by the line that opens it

-- `@NAME` alone has tests
abbrev pub inside_matcher : ℕ → ℕ → List (List ℕ) → Within
inside_matcher site n [] = Tests site n
inside_matcher site n (arg ∷ args) = Unread site

-- `handle` has directives
abbrev pub inside_directive : ℕ → Option Directive → Within
inside_directive site None = Unread site
inside_directive site (Some Vars) = Unread site
inside_directive site (Some Header) = Unread site
inside_directive site (Some Redir) = Unread site
inside_directive site (Some Rewrite) = Unread site
inside_directive site (Some Handle) = Directives site
inside_directive site (Some Respond) = Unread site

abbrev pub inside_of : ℕ → ℕ → List (List ℕ) → Within
inside_of site n [] = Unread site
inside_of site n (name ∷ args) =
    if is_matcher name then inside_matcher site n args else inside_directive site (directive_named name)

-- what the block of a line with this number and these words is; where none may stand, its lines say nothing but the names of matchers
-- that they define, so that no fault depends on another
abbrev pub inside : Within → ℕ → List (List ℕ) → Within
inside File n ws = Directives n
inside (Directives site) n ws = inside_of site n ws
inside (Tests site matcher) n ws = Unread site
inside (Unread site) n ws = Unread site

-- ---- all lines

-- what each line says, by where it is, whether it opens a block, its number and its words
unfoldable pub walk : {A : Type 0} → (Within → Bool → ℕ → List (List ℕ) → List A) → Within → Lines → List A
walk said at end = []
walk said at (line n ws after) = said at false n (words_in at ws) ++ walk said at after
walk said at (block n ws is_closed within after) =
    said at true n (words_in at ws) ++ (walk said (inside at n (words_in at ws)) within ++ walk said at after)
