-- The routes of a block, as they are gathered from its last line to its first.
use Rattle.std.specs.Prelude.{ℕ, ◌+◌, ◌==◌, not, Bool, if◌then◌else◌, List, [], ◌∷◌, ◌++◌, length, map, reverse, codes, decimal, Option, Some, None, option_map}
use Rattle.cd_tree.specs.declared.tree.Tree as tree
use Rattle.cd_tree.specs.declared.tree.Tree.{Tree}
use Rattle.cd_caddyfile.specs.Directives.{directive_named, own_args, action_of}
use Rattle.cd_caddyfile.specs.FileSites.{rank}
use Rattle.cd_caddyfile.specs.Shape.{set_of, handler_of, subroute, routes_of, groups_of, groups_inside, one_if}
use Rattle.cd_caddyfile.specs.Sites.{Tests, Block, done, act, handle}
use Rattle.cd_caddyfile.specs.declared.directive.Directive.{Directive}
use Rattle.cd_caddyfile.specs.declared.directive.Directive.TheVariants.{Vars, Header, Redir, Rewrite, Handle, Respond}
pub use Rattle.cd_parts.specs.Matching.{set_chosen, set_by}
use Rattle.cd_parts.specs.Measures.{measured, list_of, object_of}
use Rattle.cd_parts.specs.declared.measured.Measured.{Measured}
use Rattle.cd_parts.specs.declared.measured.Part.{Part}
use Rattle.cd_adapt.specs.declared.steps.Step.{Step}
use Rattle.cd_adapt.specs.declared.steps.Frame.{Frame}

-- ---- measured parts

abbrev pub part : List ℕ → Measured → Part
part key value = record { key = key; value = value }

abbrev pub group_parts : Option ℕ → List Part
group_parts None = []
group_parts (Some n) = part (codes "group") (measured (tree.Text (codes "group" ++ decimal n))) ∷ []

abbrev pub match_parts : Option Measured → List Part
match_parts None = []
match_parts (Some set) = part (codes "match") (list_of (set ∷ [])) ∷ []

-- a route, with the number of its group
abbrev pub route_of : Option ℕ → Step → Measured
route_of g s = object_of (group_parts g ++ (part (codes "handle") (list_of (s.does ∷ [])) ∷ match_parts s.matching))

abbrev pub subroute_of : List Measured → Measured
subroute_of routes = object_of (part (codes "handler") (measured (tree.Text (codes "subroute"))) ∷ part (codes "routes") (list_of routes) ∷ [])

-- ---- the steps of a block

abbrev pub step_of : Option Tests → Tree → Step
step_of m does = record { matching = option_map (λ t. measured (set_of t)) m; does = measured does }

-- those of one name, where `free` is the first number of a group that is free
unfoldable pub steps : ℕ → Block → ℕ → List Step
steps k done free = []
steps k (act m a b) free = if rank a == k then step_of m (handler_of a) ∷ steps k b free else steps k b free
steps k (handle m inside b) free =
    if 4 == k then step_of m (subroute (routes_of inside free)) ∷ steps k b (free + groups_of inside) else steps k b (free + groups_of inside)

-- all, each name by itself and from the last to the first
abbrev pub frame_of : Block → ℕ → Frame
frame_of b free = record {
  vars = reverse (steps 0 b free);
  headers = reverse (steps 1 b free);
  redirs = reverse (steps 2 b free);
  rewrites = reverse (steps 3 b free);
  handles = reverse (steps 4 b free);
  responds = reverse (steps 5 b free);
  end = free + groups_inside b;
}

abbrev pub no_steps : ℕ → Frame
no_steps end = record { vars = []; headers = []; redirs = []; rewrites = []; handles = []; responds = []; end = end }

abbrev pub with_step : Directive → Step → Frame → Frame
with_step Vars s f = record f { vars = f.vars ++ s ∷ [] }
with_step Header s f = record f { headers = f.headers ++ s ∷ [] }
with_step Redir s f = record f { redirs = f.redirs ++ s ∷ [] }
with_step Rewrite s f = record f { rewrites = f.rewrites ++ s ∷ [] }
with_step Handle s f = record f { handles = f.handles ++ s ∷ [] }
with_step Respond s f = record f { responds = f.responds ++ s ∷ [] }

-- the routes of these steps, in their order
abbrev pub routes_by : Option ℕ → List Step → List Measured
routes_by g ss = map (λ s. route_of g s) (reverse ss)

-- all routes, with the numbers of the two groups
abbrev pub routes_in : Frame → ℕ → ℕ → List Measured
routes_in f rewriting handling = ((((routes_by None f.vars ++ routes_by None f.headers) ++ routes_by None f.redirs) ++ routes_by (Some rewriting) f.rewrites)
    ++ routes_by (Some handling) f.handles) ++ routes_by None f.responds

abbrev pub has_some : List Step → Bool
has_some ss = not (length ss == 0)

-- how many groups the routes need themselves
abbrev pub own_groups : Frame → ℕ
own_groups f = one_if (has_some f.rewrites) + one_if (has_some f.handles)

-- ---- what lines add

-- a step, where there is a handler
abbrev pub and_handler : Directive → Option Measured → Option Tree → Frame → Frame
and_handler name set None f = f
and_handler name set (Some does) f = with_step name (record { matching = set; does = measured does }) f

abbrev pub and_directive : (List ℕ → Measured) → Option Directive → List (List ℕ) → Frame → Frame
and_directive sets None args f = f
and_directive sets (Some name) args f = and_handler name (set_by sets name args) (option_map handler_of (action_of name (own_args name args))) f

-- a line without a block
abbrev pub and_statement : (List ℕ → Measured) → List (List ℕ) → Frame → Frame
and_statement sets [] f = f
and_statement sets (name ∷ args) f = and_directive sets (directive_named name) args f
