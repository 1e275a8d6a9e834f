-- Part of the main theorem.
-- The sites of a file.
use Rattle.std.specs.Prelude.{ℕ, ◌==◌, ◌&&◌, nat_le, Bool, true, false, if◌then◌else◌, List, [], ◌∷◌, map, Option, Some, None, unwrap_or, codes}
use Rattle.std.specs.Str.{bytes_eq}
use Rattle.cd_caddyfile.specs.Addresses.{address_of}
use Rattle.cd_caddyfile.specs.Blocks.{Lines, end, line, block, file_lines}
use Rattle.cd_caddyfile.specs.Directives.{directive_named, is_matcher, choice_of, own_args, action_of}
use Rattle.cd_caddyfile.specs.Faults.{defined}
use Rattle.cd_caddyfile.specs.Matchers.{with_line}
use Rattle.cd_caddyfile.specs.Shorthands.{spelled}
use Rattle.cd_caddyfile.specs.Sites as says
use Rattle.cd_caddyfile.specs.Sites.{Tests, no_tests, Action, Block, done, act, handle, Site}
use Rattle.cd_caddyfile.specs.Walk.{walk}
use Rattle.cd_caddyfile.specs.declared.address.Address.{Address}
use Rattle.cd_caddyfile.specs.declared.choice.Choice.{Choice}
use Rattle.cd_caddyfile.specs.declared.choice.Choice.TheVariants.{Unmatched, Everything, ByPath, ByName}
use Rattle.cd_caddyfile.specs.declared.directive.Directive.{Directive}
use Rattle.cd_caddyfile.specs.declared.directive.Directive.TheVariants.{Handle}
use Rattle.cd_caddyfile.specs.declared.named.Matchers.{Matchers}
use Rattle.cd_caddyfile.specs.declared.named.Named.{Named}
use Rattle.cd_caddyfile.specs.declared.named.TestLine.{TestLine}
use Rattle.cd_caddyfile.specs.declared.within.Within.{Within}
use Rattle.cd_caddyfile.specs.declared.within.Within.TheVariants as place

-- ---- matchers

-- the words of a test, and the line of its matcher
abbrev pub test_line : ℕ → List (List ℕ) → TestLine
test_line matcher words = record { matcher = matcher; words = words }

-- `@NAME KIND ARGS`
abbrev pub tested_in : ℕ → List (List ℕ) → List TestLine
tested_in n [] = []
tested_in n (name ∷ args) = if is_matcher name then test_line n args ∷ [] else []

-- a test is a line of its matcher, or the line of a matcher's block
abbrev pub tested : Within → Bool → ℕ → List (List ℕ) → List TestLine
tested place.File opens n ws = []
tested (place.Directives site) true n ws = []
tested (place.Directives site) false n ws = tested_in n ws
tested (place.Tests site matcher) opens n ws = test_line matcher ws ∷ []
tested (place.Unread site) opens n ws = []

-- the tests of the matcher at this line; a line that is no test adds nothing
abbrev pub tests_at : ℕ → Tests → List TestLine → Tests
tests_at matcher t [] = t
tests_at matcher t (l ∷ ls) = tests_at matcher (if l.matcher == matcher then unwrap_or (with_line t l.words) t else t) ls

-- the line of a site's matcher
abbrev pub line_of_matcher : ℕ → List ℕ → List Named → Option ℕ
line_of_matcher site name [] = None
line_of_matcher site name (m ∷ ms) = if m.site == site && bytes_eq m.name name then Some m.line else line_of_matcher site name ms

abbrev pub tests_if : List TestLine → Option ℕ → Tests
tests_if ls None = no_tests
tests_if ls (Some n) = tests_at n no_tests ls

-- the tests of a matcher by its site and its name
abbrev pub tests_named : List Named → List TestLine → ℕ → List ℕ → Tests
tests_named ms ls site name = tests_if ls (line_of_matcher site name ms)

-- the matchers of a file
abbrev pub matchers_in : List ℕ → Matchers
matchers_in bytes = record { defined = walk defined place.File (file_lines bytes); tested = walk tested place.File (file_lines bytes) }

-- ---- directives

-- the tests that a directive's arguments choose, where `tests_of` has those of a name
abbrev pub tests_chosen : (List ℕ → Tests) → Choice → List (List ℕ) → Option Tests
tests_chosen tests_of choice [] = None
tests_chosen tests_of Unmatched (arg ∷ args) = None
tests_chosen tests_of Everything (arg ∷ args) = None
tests_chosen tests_of ByPath (arg ∷ args) = Some (record no_tests { path = Some (arg ∷ []) })
tests_chosen tests_of ByName (arg ∷ args) = Some (tests_of arg)

abbrev pub chosen_by : (List ℕ → Tests) → Directive → List (List ℕ) → Option Tests
chosen_by tests_of name args = tests_chosen tests_of (choice_of name args) args

-- the place in the order of directives
abbrev pub rank : Action → ℕ
rank (says.vars name value) = 0
rank (says.set_field field value) = 1
rank (says.add_field field value) = 1
rank (says.delete_field field) = 1
rank (says.redir to code) = 2
rank (says.rewrite to) = 3
rank (says.respond body status) = 5

-- a directive before the first whose place in the order is not before its own
unfoldable pub put : Option Tests → Action → Block → Block
put m a done = act m a done
put m a (act m' a' b) = if nat_le (rank a) (rank a') then act m a (act m' a' b) else act m' a' (put m a b)
put m a (handle m' inside b) = if nat_le (rank a) 4 then act m a (handle m' inside b) else handle m' inside (put m a b)

-- the same of a `handle`
unfoldable pub put_handle : Option Tests → Block → Block → Block
put_handle m i done = handle m i done
put_handle m i (act m' a' b) = if nat_le 4 (rank a') then handle m i (act m' a' b) else act m' a' (put_handle m i b)
put_handle m i (handle m' i' b) = handle m i (handle m' i' b)

abbrev pub put_action : Option Tests → Option Action → Block → Block
put_action m None b = b
put_action m (Some a) b = put m a b

abbrev pub put_directive : (List ℕ → Tests) → Option Directive → List (List ℕ) → Block → Block
put_directive tests_of None args b = b
put_directive tests_of (Some name) args b = put_action (chosen_by tests_of name args) (action_of name (own_args name args)) b

-- a line without a block is a directive, or a matcher, which is no part of the block
abbrev pub with_statement : (List ℕ → Tests) → List (List ℕ) → Block → Block
with_statement tests_of [] b = b
with_statement tests_of (name ∷ args) b = put_directive tests_of (directive_named name) args b

-- a line with a block is a `handle`, or a matcher
abbrev pub with_block : (List ℕ → Tests) → List (List ℕ) → Block → Block → Block
with_block tests_of [] inside b = b
with_block tests_of (name ∷ args) inside b = if bytes_eq name (codes "handle") then put_handle (chosen_by tests_of Handle args) inside b else b

-- the directives of a block in their order
unfoldable pub block_of : (List ℕ → Tests) → Lines → Block
block_of tests_of end = done
block_of tests_of (line n ws after) = with_statement tests_of (map spelled ws) (block_of tests_of after)
block_of tests_of (block n ws is_closed inside after) = with_block tests_of (map spelled ws) (block_of tests_of inside) (block_of tests_of after)

-- ---- sites

abbrev pub put_site : Option Address → Block → List Site → List Site
put_site None b sites = sites
put_site (Some address) b sites = record { address = address; block = b } ∷ sites

-- the sites of lines, where `tests_of` has the tests of a matcher by the line of its site and by its name
unfoldable pub sites_in : (ℕ → List ℕ → Tests) → Lines → List Site
sites_in tests_of end = []
sites_in tests_of (line n ws after) = sites_in tests_of after
sites_in tests_of (block n ws is_closed inside after) = put_site (address_of ws) (block_of (tests_of n) inside) (sites_in tests_of after)

abbrev pub sites : List ℕ → List Site
sites bytes = sites_in (tests_named (walk defined place.File (file_lines bytes)) (walk tested place.File (file_lines bytes))) (file_lines bytes)
