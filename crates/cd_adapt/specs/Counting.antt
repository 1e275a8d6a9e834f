-- The groups that the blocks that are open need, as they are counted from the last line to the first.
use Rattle.std.specs.Prelude.{◌≡◌, ℕ, ◌+◌, ◌==◌, Bool, true, false, if◌then◌else◌, List, [], ◌∷◌, ◌++◌, length, Option, Some, None}
use Rattle.std.specs.List.{sum_by}
use Rattle.cd_caddyfile.specs.Blocks.{Nesting, last, up_to}
use Rattle.cd_caddyfile.specs.Directives.{directive_named, own_args}
use Rattle.cd_caddyfile.specs.FileSites.{block_of}
use Rattle.cd_caddyfile.specs.Shape.{one_if, rewrites, handles, groups_inside}
use Rattle.cd_caddyfile.specs.Sites.{Tests, Block}
use Rattle.cd_caddyfile.specs.declared.directive.Directive.{Directive}
use Rattle.cd_caddyfile.specs.declared.directive.Directive.TheVariants.{Vars, Header, Redir, Rewrite, Handle, Respond}
use Rattle.cd_adapt.specs.Splitting.{innermost_lines}
use Rattle.cd_adapt.specs.declared.counting.Counter.{Counter}
use Rattle.cd_adapt.specs.declared.counting.Needs.{Needs}

abbrev pub no_needs : Needs
no_needs = record { rewrites = false; handles = false; inside = 0 }

-- how many groups these are
abbrev pub weight : Needs → ℕ
weight n = one_if n.rewrites + one_if n.handles + n.inside

abbrev pub needs_of : Block → Needs
needs_of b = record { rewrites = rewrites b; handles = handles b; inside = groups_inside b }

-- those of the blocks around the innermost, from the outermost one
abbrev pub needs_around : (List ℕ → Tests) → Nesting → List Needs
needs_around tests_of (last ls) = []
needs_around tests_of (up_to ls n more) = needs_around tests_of more ++ needs_of (block_of tests_of (innermost_lines more)) ∷ []

pub record IsCounted (tests_of : List ℕ → Tests) (read : Nesting) (counter : Counter) : Type 0 where
  pub around : counter.open ≡ needs_around tests_of read
  pub here : counter.here ≡ needs_of (block_of tests_of (innermost_lines read))

-- all that have been counted
abbrev pub size : Counter → ℕ
size counter = sum_by weight counter.open + weight counter.here

-- a directive with these arguments is a rewrite
abbrev pub is_rewriting : Directive → List (List ℕ) → Bool
is_rewriting Vars args = false
is_rewriting Header args = false
is_rewriting Redir args = false
is_rewriting Rewrite args = length (own_args Rewrite args) == 1
is_rewriting Handle args = false
is_rewriting Respond args = false

abbrev pub is_rewrite_by : Option Directive → List (List ℕ) → Bool
is_rewrite_by None args = false
is_rewrite_by (Some name) args = is_rewriting name args

abbrev pub is_rewrite : List (List ℕ) → Bool
is_rewrite [] = false
is_rewrite (name ∷ args) = is_rewrite_by (directive_named name) args

-- what a line without a block adds
abbrev pub and_words : List (List ℕ) → Needs → Needs
and_words words n = if is_rewrite words then record n { rewrites = true } else n

-- what a block adds, where it is that of a `handle`
abbrev pub and_inside : Bool → Needs → Needs → Needs
and_inside true inside after = record after { handles = true; inside = weight inside + after.inside }
and_inside false inside after = after
