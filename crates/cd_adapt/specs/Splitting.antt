-- The lines of each site, and what is still to come of a site while its lines are read.
use Rattle.std.specs.Prelude.{◌≡◌, ◌≤◌, ◌<◌, ⊤, IfSome, IsUtf8, ℕ, zero, suc, ◌+◌, ◌-◌, Bool, true, false, List, [], ◌∷◌, length, map, Option, Some, None}
use Rattle.std.specs.List.{All, sum_by}
use Rattle.cd_caddyfile.specs.Blocks.{Lines, end, Nesting, last, up_to, preceded_by, outermost}
use Rattle.cd_caddyfile.specs.FileSites.{block_of, put_site, sites_in}
use Rattle.cd_caddyfile.specs.Shorthands.{spelled}
use Rattle.cd_caddyfile.specs.Sites.{Tests, Site}
use Rattle.cd_caddyfile.specs.declared.address.Address.{Address}
use Rattle.cd_caddyfile.specs.declared.line.Line.{Line}
use Rattle.cd_caddyfile.specs.declared.line.Line.TheVariants.{Empty, Closes, Opens, Says, Misplaced}
use Rattle.cd_parts.specs.Texts.{AreTexts}
use Rattle.cd_adapt.specs.declared.splitting.Numbered.{Numbered}
use Rattle.cd_adapt.specs.declared.splitting.SiteLines.{SiteLines}
use Rattle.cd_adapt.specs.declared.splitting.OpenSite.{OpenSite}
use Rattle.cd_adapt.specs.declared.splitting.Splitter.{Splitter}

-- the words of a line, with their shorthands spelled out
abbrev pub words_spelled : Line → List (List ℕ)
words_spelled Empty = []
words_spelled Closes = []
words_spelled (Opens ws) = map spelled ws
words_spelled (Says ws) = map spelled ws
words_spelled Misplaced = []

-- a line with its number and its words
abbrev pub numbered : ℕ → Line → Numbered
numbered n l = record { number = n; line = l; words = words_spelled l }

-- these lines, and then those
abbrev pub followed : List Numbered → Nesting → Nesting
followed [] nesting = nesting
followed (l ∷ ls) nesting = preceded_by l.number l.line (followed ls nesting)

-- up to the first line that closes a block that none opens
abbrev pub innermost_lines : Nesting → Lines
innermost_lines (last ls) = ls
innermost_lines (up_to ls n more) = ls

-- the lines that these make
abbrev pub lines_made : List Numbered → Lines
lines_made ls = innermost_lines (followed ls (last end))

-- what belongs to the block that is so many levels out
abbrev pub within : ℕ → Nesting → Nesting
within levels (last ls) = last ls
within zero (up_to ls n more) = last ls
within (suc levels) (up_to ls n more) = up_to ls n (within levels more)

-- what follows that block
abbrev pub beyond : ℕ → Nesting → Nesting
beyond levels (last ls) = last end
beyond zero (up_to ls n more) = more
beyond (suc levels) (up_to ls n more) = beyond levels more

-- the site that lines make, where `tests_of` has the tests of a matcher by the line of its site and by its name
abbrev pub site_made : (ℕ → List ℕ → Tests) → SiteLines → Site
site_made tests_of s = record { address = s.address; block = block_of (tests_of s.line) (lines_made s.lines) }

-- the sites that follow what has been read
abbrev pub sites_left : (ℕ → List ℕ → Tests) → Option OpenSite → Nesting → List Site
sites_left tests_of None nesting = sites_in tests_of (outermost nesting)
sites_left tests_of (Some o) nesting =
    put_site o.address (block_of (tests_of o.line) (innermost_lines (followed o.lines (within o.levels nesting)))) (sites_in tests_of (outermost (beyond o.levels nesting)))

abbrev pub closes : Line → Bool
closes Empty = false
closes Closes = true
closes (Opens ws) = false
closes (Says ws) = false
closes Misplaced = false

-- how many blocks in the site's own are open after a line
abbrev pub levels_after : Line → ℕ → ℕ
levels_after Empty levels = levels
levels_after Closes levels = levels - 1
levels_after (Opens ws) levels = suc levels
levels_after (Says ws) levels = levels
levels_after Misplaced levels = levels

-- ---- what is true of all that have been read

-- how many lines close a block that none opens
abbrev pub closings : Nesting → ℕ
closings (last ls) = 0
closings (up_to ls n more) = suc (closings more)

-- its words are texts
abbrev pub IsTextLine : Line → Type 0
IsTextLine Empty = ⊤
IsTextLine Closes = ⊤
IsTextLine (Opens ws) = AreTexts ws
IsTextLine (Says ws) = AreTexts ws
IsTextLine Misplaced = ⊤

-- its words are texts, and are kept spelled out
pub record IsReadLine (l : Numbered) : Type 0 where
  pub texts : IsTextLine l.line
  pub words : l.words ≡ words_spelled l.line

abbrev pub AreReadLines : List Numbered → Type 0
AreReadLines ls = All IsReadLine ls

abbrev pub HasTextHost : Address → Type 0
HasTextHost address = IfSome address.host (λ host. IsUtf8 host)

-- no line closes a block that none opens, and all lines are read
pub record IsWhole (s : SiteLines) : Type 0 where
  pub closed : closings (followed s.lines (last end)) ≡ 0
  pub host : HasTextHost s.address
  pub lines : AreReadLines s.lines

abbrev pub AreTextsOf : OpenSite → Type 0
AreTextsOf o = IfSome o.address HasTextHost × AreReadLines o.lines

-- its lines leave so many blocks open, and all lines are read
abbrev pub IsOpen : Option OpenSite → Type 0
IsOpen None = 0 ≤ 0
IsOpen (Some o) =
    ((o.levels ≤ length o.lines) × ((after : Nesting) → closings (followed o.lines after) ≡ closings after - o.levels)) × AreTextsOf o

-- how many lines sites have, with those that open them
abbrev pub size_of : List SiteLines → ℕ
size_of sites = sum_by (λ s. suc (length s.lines)) sites

abbrev pub open_size : Option OpenSite → ℕ
open_size None = 0
open_size (Some o) = suc (length o.lines)

-- what is true before the line of this number
pub record IsSplit (number : ℕ) (splitter : Splitter) : Type 0 where
  pub whole : All IsWhole splitter.sites
  pub open_site : IsOpen splitter.current
  pub few : size_of splitter.sites + open_size splitter.current < number
