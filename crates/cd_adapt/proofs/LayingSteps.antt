-- What each line does to the frames of the blocks that are open.
use Rattle.std.proofs.Common.{◌≡◌, ℕ, ◌+◌, ◌-◌, ◌==◌, Bool, true, false, if◌then◌else◌, List, [], ◌∷◌, ◌++◌, length, map, reverse, drop, refl, sym, ap, subst, ◌∙◌, arith, inl, inr, Option, Some, None, option_map, codes, ◌≤◌}
use Rattle.std.proofs.lemmas.List.{reverse-append, reverse-reverse}
use Rattle.std.specs.Str.{bytes_eq}
use Rattle.cd_caddyfile.specs.Addresses.{begins_with}
use Rattle.cd_caddyfile.specs.Blocks.{Lines, end, line, block, Nesting, last, up_to, opened, in_front}
use Rattle.cd_caddyfile.specs.Directives.{directive_named, choice_of, own_args, action_of, vars_args, header_args, redir_args, redir_code, rewrite_args, respond_args, respond_one, code_of}
use Rattle.cd_caddyfile.specs.FileSites.{rank, put, put_handle, put_action, put_directive, with_statement, with_block, block_of, tests_chosen, chosen_by}
use Rattle.cd_caddyfile.specs.Shape.{set_of, handler_of, subroute, groups_inside, groups_of, routes_of}
use Rattle.cd_caddyfile.specs.Shorthands.{spelled}
use Rattle.cd_caddyfile.specs.Sites.{Tests, Action, vars, set_field, add_field, delete_field, redir, respond, Block, done}
use Rattle.cd_caddyfile.specs.declared.choice.Choice.{Choice}
use Rattle.cd_caddyfile.specs.declared.choice.Choice.TheVariants.{Unmatched, Everything, ByPath, ByName}
use Rattle.cd_caddyfile.specs.declared.directive.Directive.{Directive}
use Rattle.cd_caddyfile.specs.declared.directive.Directive.TheVariants.{Vars, Header, Redir, Rewrite, Handle, Respond}
use Rattle.cd_tree.specs.declared.tree.Tree.{Tree}
use Rattle.cd_adapt.specs.Laying.{IsLaid, AreLaid, IsTaken, is_handle, arguments, free_before, routes_at, and_block}
use Rattle.cd_parts.specs.Matching.{Agrees}
use Rattle.cd_parts.specs.Measures.{measured}
use Rattle.cd_adapt.specs.Splitting.{innermost_lines, closings, followed}
use Rattle.cd_adapt.specs.Steps.{subroute_of, step_of, steps, frame_of, no_steps, with_step, own_groups, set_chosen, set_by, and_handler, and_directive, and_statement}
use Rattle.cd_parts.specs.declared.measured.Measured.{Measured}
use Rattle.cd_adapt.specs.declared.splitting.Numbered.{Numbered}
use Rattle.cd_adapt.specs.declared.steps.Frame.{Frame}
use Rattle.cd_adapt.specs.declared.steps.Step.{Step}
use Rattle.cd_adapt.proofs.SplitSteps.{followed_none}
use Rattle.cd_adapt.proofs.FrameSteps.{steps-put, steps-put_handle, groups-put, groups-put_handle, From, from-put, from-put_handle, own-groups, routes-of, subroute-measured}

-- ---- frames by their parts

frame-same : (f g : Frame) → f.vars ≡ g.vars → f.headers ≡ g.headers → f.redirs ≡ g.redirs → f.rewrites ≡ g.rewrites → f.handles ≡ g.handles → f.responds ≡ g.responds → f.end ≡ g.end → f ≡ g
frame-same f g a b c d e h n = λ i. record {
  vars = a i;
  headers = b i;
  redirs = c i;
  rewrites = d i;
  handles = e i;
  responds = h i;
  end = n i;
}

turned : (s : Step) (ss : List Step) → reverse ss ++ s ∷ [] ≡ reverse (s ∷ ss)
turned s ss = sym (reverse-append (s ∷ []) ss)

-- ---- a directive more

abbrev pub number : Directive → ℕ
number Vars = 0
number Header = 1
number Redir = 2
number Rewrite = 3
number Handle = 4
number Respond = 5

at-rank : (k n : ℕ) (m : Option Tests) (a : Action) (b : Block) (free : ℕ) → rank a ≡ n →
    (if n == k then step_of m (handler_of a) ∷ steps k b free else steps k b free) ≡ steps k (put m a b) free
at-rank k n m a b free is = ap (λ r. if r == k then step_of m (handler_of a) ∷ steps k b free else steps k b free) (sym is) ∙ sym (steps-put k m a b free)

frame-put : (d : Directive) (m : Option Tests) (a : Action) (b : Block) (free : ℕ) → rank a ≡ number d →
    with_step d (step_of m (handler_of a)) (frame_of b free) ≡ frame_of (put m a b) free
frame-put Vars m a b free is = frame-same _ _ (turned (step_of m (handler_of a)) (steps 0 b free) ∙ ap reverse (at-rank 0 0 m a b free is)) (ap reverse (at-rank 1 0 m a b free is)) (ap reverse (at-rank 2 0 m a b free is))
    (ap reverse (at-rank 3 0 m a b free is)) (ap reverse (at-rank 4 0 m a b free is)) (ap reverse (at-rank 5 0 m a b free is)) (ap (λ g. free + g) (sym (groups-put m a b)))
frame-put Header m a b free is = frame-same _ _ (ap reverse (at-rank 0 1 m a b free is)) (turned (step_of m (handler_of a)) (steps 1 b free) ∙ ap reverse (at-rank 1 1 m a b free is)) (ap reverse (at-rank 2 1 m a b free is))
    (ap reverse (at-rank 3 1 m a b free is)) (ap reverse (at-rank 4 1 m a b free is)) (ap reverse (at-rank 5 1 m a b free is)) (ap (λ g. free + g) (sym (groups-put m a b)))
frame-put Redir m a b free is = frame-same _ _ (ap reverse (at-rank 0 2 m a b free is)) (ap reverse (at-rank 1 2 m a b free is)) (turned (step_of m (handler_of a)) (steps 2 b free) ∙ ap reverse (at-rank 2 2 m a b free is))
    (ap reverse (at-rank 3 2 m a b free is)) (ap reverse (at-rank 4 2 m a b free is)) (ap reverse (at-rank 5 2 m a b free is)) (ap (λ g. free + g) (sym (groups-put m a b)))
frame-put Rewrite m a b free is = frame-same _ _ (ap reverse (at-rank 0 3 m a b free is)) (ap reverse (at-rank 1 3 m a b free is)) (ap reverse (at-rank 2 3 m a b free is))
    (turned (step_of m (handler_of a)) (steps 3 b free) ∙ ap reverse (at-rank 3 3 m a b free is)) (ap reverse (at-rank 4 3 m a b free is)) (ap reverse (at-rank 5 3 m a b free is)) (ap (λ g. free + g) (sym (groups-put m a b)))
frame-put Handle m a b free is = frame-same _ _ (ap reverse (at-rank 0 4 m a b free is)) (ap reverse (at-rank 1 4 m a b free is)) (ap reverse (at-rank 2 4 m a b free is))
    (ap reverse (at-rank 3 4 m a b free is)) (turned (step_of m (handler_of a)) (steps 4 b free) ∙ ap reverse (at-rank 4 4 m a b free is)) (ap reverse (at-rank 5 4 m a b free is)) (ap (λ g. free + g) (sym (groups-put m a b)))
frame-put Respond m a b free is = frame-same _ _ (ap reverse (at-rank 0 5 m a b free is)) (ap reverse (at-rank 1 5 m a b free is)) (ap reverse (at-rank 2 5 m a b free is))
    (ap reverse (at-rank 3 5 m a b free is)) (ap reverse (at-rank 4 5 m a b free is)) (turned (step_of m (handler_of a)) (steps 5 b free) ∙ ap reverse (at-rank 5 5 m a b free is)) (ap (λ g. free + g) (sym (groups-put m a b)))

frame-put_handle : (m : Option Tests) (i b : Block) (free : ℕ) →
    with_step Handle (step_of m (subroute (routes_of i free))) (frame_of b (free + groups_of i)) ≡ frame_of (put_handle m i b) free
frame-put_handle m i b free = frame-same _ _ (ap reverse (sym (steps-put_handle 0 m i b free))) (ap reverse (sym (steps-put_handle 1 m i b free))) (ap reverse (sym (steps-put_handle 2 m i b free)))
    (ap reverse (sym (steps-put_handle 3 m i b free))) (turned (step_of m (subroute (routes_of i free))) (steps 4 b (free + groups_of i)) ∙ ap reverse (sym (steps-put_handle 4 m i b free))) (ap reverse (sym (steps-put_handle 5 m i b free)))
    (omega (arith, groups-put_handle m i b))

-- ---- each action has the rank of its directive

abbrev pub Ranked : ℕ → Option Action → Type 0
Ranked k None = 0 ≤ 0
Ranked k (Some a) = rank a ≡ k

ranked-if : (b : Bool) (k : ℕ) (x y : Option Action) → Ranked k x → Ranked k y → Ranked k (if b then x else y)
ranked-if true k x y p q = p
ranked-if false k x y p q = q

ranked-map : (k : ℕ) (f : ℕ → Action) (o : Option ℕ) → ((n : ℕ) → rank (f n) ≡ k) → Ranked k (option_map f o)
ranked-map k f None is = omega arith
ranked-map k f (Some n) is = is n

ranked-vars : (args : List (List ℕ)) → Ranked 0 (vars_args args)
ranked-vars [] = omega arith
ranked-vars (n ∷ []) = omega arith
ranked-vars (n ∷ v ∷ []) = ranked-if _ 0 None (Some (vars n v)) (omega arith) refl
ranked-vars (n ∷ v ∷ o ∷ os) = omega arith

ranked-header : (args : List (List ℕ)) → Ranked 1 (header_args args)
ranked-header [] = omega arith
ranked-header (f ∷ []) = ranked-if _ 1 (Some (delete_field (drop 1 f))) None refl (omega arith)
ranked-header (f ∷ v ∷ []) =
    ranked-if (begins_with 45 f) 1 None (if begins_with 43 f then Some (add_field (drop 1 f) v) else Some (set_field f v)) (omega arith) (ranked-if (begins_with 43 f) 1 (Some (add_field (drop 1 f) v)) (Some (set_field f v)) refl refl)
ranked-header (f ∷ v ∷ o ∷ os) = omega arith

ranked-redir : (args : List (List ℕ)) → Ranked 2 (redir_args args)
ranked-redir [] = omega arith
ranked-redir (to ∷ []) = refl
ranked-redir (to ∷ code ∷ []) = ranked-map 2 (λ n. redir to n) (redir_code code) (λ n. refl)
ranked-redir (to ∷ code ∷ o ∷ os) = omega arith

ranked-rewrite : (args : List (List ℕ)) → Ranked 3 (rewrite_args args)
ranked-rewrite [] = omega arith
ranked-rewrite (to ∷ []) = refl
ranked-rewrite (to ∷ o ∷ os) = omega arith

respond-one : (text : List ℕ) (o : Option ℕ) → rank (respond_one text o) ≡ 5
respond-one text None = refl
respond-one text (Some code) = refl

ranked-respond : (args : List (List ℕ)) → Ranked 5 (respond_args args)
ranked-respond [] = refl
ranked-respond (text ∷ []) = respond-one text (code_of text)
ranked-respond (body ∷ status ∷ []) = ranked-map 5 (λ n. respond (Some body) (Some n)) (code_of status) (λ n. refl)
ranked-respond (body ∷ status ∷ o ∷ os) = omega arith

pub ranked : (d : Directive) (args : List (List ℕ)) → Ranked (number d) (action_of d args)
ranked Vars args = ranked-vars args
ranked Header args = ranked-header args
ranked Redir args = ranked-redir args
ranked Rewrite args = ranked-rewrite args
ranked Handle args = omega arith
ranked Respond args = ranked-respond args

-- ---- a line without a block

set-chosen : (sets : List ℕ → Measured) (tests_of : List ℕ → Tests) (c : Choice) (args : List (List ℕ)) → Agrees sets tests_of →
    set_chosen sets c args ≡ option_map (λ t. measured (set_of t)) (tests_chosen tests_of c args)
set-chosen sets tests_of c [] agrees = refl
set-chosen sets tests_of Unmatched (arg ∷ args) agrees = refl
set-chosen sets tests_of Everything (arg ∷ args) agrees = refl
set-chosen sets tests_of ByPath (arg ∷ args) agrees = refl
set-chosen sets tests_of ByName (arg ∷ args) agrees = ap Some (agrees arg)

set-by : (sets : List ℕ → Measured) (tests_of : List ℕ → Tests) (d : Directive) (args : List (List ℕ)) → Agrees sets tests_of →
    set_by sets d args ≡ option_map (λ t. measured (set_of t)) (chosen_by tests_of d args)
set-by sets tests_of d args agrees = set-chosen sets tests_of (choice_of d args) args agrees

handler-on : (d : Directive) (m : Option Tests) (o : Option Action) (b : Block) (free : ℕ) → Ranked (number d) o →
    and_handler d (option_map (λ t. measured (set_of t)) m) (option_map handler_of o) (frame_of b free) ≡ frame_of (put_action m o b) free
handler-on d m None b free is = refl
handler-on d m (Some a) b free is = frame-put d m a b free is

directive-on : (sets : List ℕ → Measured) (tests_of : List ℕ → Tests) (o : Option Directive) (args : List (List ℕ)) (b : Block) (free : ℕ) → Agrees sets tests_of →
    and_directive sets o args (frame_of b free) ≡ frame_of (put_directive tests_of o args b) free
directive-on sets tests_of None args b free agrees = refl
directive-on sets tests_of (Some d) args b free agrees =
    ap (λ s. and_handler d s (option_map handler_of (action_of d (own_args d args))) (frame_of b free)) (set-by sets tests_of d args agrees)
    ∙ handler-on d (chosen_by tests_of d args) (action_of d (own_args d args)) b free (ranked d (own_args d args))

statement-on : (sets : List ℕ → Measured) (tests_of : List ℕ → Tests) (ws : List (List ℕ)) (b : Block) (free : ℕ) → Agrees sets tests_of →
    and_statement sets ws (frame_of b free) ≡ frame_of (with_statement tests_of ws b) free
statement-on sets tests_of [] b free agrees = refl
statement-on sets tests_of (name ∷ args) b free agrees = directive-on sets tests_of (directive_named name) args b free agrees

end-step : (d : Directive) (s : Step) (f : Frame) → (with_step d s f).end ≡ f.end
end-step Vars s f = refl
end-step Header s f = refl
end-step Redir s f = refl
end-step Rewrite s f = refl
end-step Handle s f = refl
end-step Respond s f = refl

end-handler : (d : Directive) (m : Option Measured) (o : Option Tree) (f : Frame) → (and_handler d m o f).end ≡ f.end
end-handler d m None f = refl
end-handler d m (Some does) f = end-step d (record { matching = m; does = measured does }) f

end-directive : (sets : List ℕ → Measured) (o : Option Directive) (args : List (List ℕ)) (f : Frame) → (and_directive sets o args f).end ≡ f.end
end-directive sets None args f = refl
end-directive sets (Some d) args f = end-handler d (set_by sets d args) (option_map handler_of (action_of d (own_args d args))) f

end-statement : (sets : List ℕ → Measured) (ws : List (List ℕ)) (f : Frame) → (and_statement sets ws f).end ≡ f.end
end-statement sets [] f = refl
end-statement sets (name ∷ args) f = end-directive sets (directive_named name) args f

groups-action : (m : Option Tests) (o : Option Action) (b : Block) → groups_inside (put_action m o b) ≡ groups_inside b
groups-action m None b = refl
groups-action m (Some a) b = groups-put m a b

groups-directive : (tests_of : List ℕ → Tests) (o : Option Directive) (args : List (List ℕ)) (b : Block) → groups_inside (put_directive tests_of o args b) ≡ groups_inside b
groups-directive tests_of None args b = refl
groups-directive tests_of (Some d) args b = groups-action (chosen_by tests_of d args) (action_of d (own_args d args)) b

groups-statement : (tests_of : List ℕ → Tests) (ws : List (List ℕ)) (b : Block) → groups_inside (with_statement tests_of ws b) ≡ groups_inside b
groups-statement tests_of [] b = refl
groups-statement tests_of (name ∷ args) b = groups-directive tests_of (directive_named name) args b

-- ---- blocks are in order

from-action : (m : Option Tests) (o : Option Action) (b : Block) → From 0 b → From 0 (put_action m o b)
from-action m None b from = from
from-action m (Some a) b from = from-put 0 m a b from (omega arith)

from-directive : (tests_of : List ℕ → Tests) (o : Option Directive) (args : List (List ℕ)) (b : Block) → From 0 b → From 0 (put_directive tests_of o args b)
from-directive tests_of None args b from = from
from-directive tests_of (Some d) args b from = from-action (chosen_by tests_of d args) (action_of d (own_args d args)) b from

from-statement : (tests_of : List ℕ → Tests) (ws : List (List ℕ)) (b : Block) → From 0 b → From 0 (with_statement tests_of ws b)
from-statement tests_of [] b from = from
from-statement tests_of (name ∷ args) b from = from-directive tests_of (directive_named name) args b from

from-handle-if : (h : Bool) (m : Option Tests) (i b : Block) → From 0 b → From 0 (if h then put_handle m i b else b)
from-handle-if true m i b from = from-put_handle 0 m i b from (omega arith)
from-handle-if false m i b from = from

from-block : (tests_of : List ℕ → Tests) (ws : List (List ℕ)) (i b : Block) → From 0 b → From 0 (with_block tests_of ws i b)
from-block tests_of [] i b from = from
from-block tests_of (name ∷ args) i b from = from-handle-if (bytes_eq name (codes "handle")) (chosen_by tests_of Handle args) i b from

pub in_order : (tests_of : List ℕ → Tests) (ls : Lines) → From 0 (block_of tests_of ls)
unfolding block_of
in_order tests_of end = omega arith
in_order tests_of (line n ws after) = from-statement tests_of (map spelled ws) (block_of tests_of after) (in_order tests_of after)
in_order tests_of (block n ws is_closed inside after) = from-block tests_of (map spelled ws) (block_of tests_of inside) (block_of tests_of after) (in_order tests_of after)

-- ---- a line with a block

says-laid : (sets : List ℕ → Measured) (tests_of : List ℕ → Tests) (ws : List (List ℕ)) (b : Block) (stop free : ℕ) (f f' : Frame) → Agrees sets tests_of →
    IsLaid b stop f free → f' ≡ and_statement sets ws f → IsLaid (with_statement tests_of ws b) stop f' free
says-laid sets tests_of ws b stop free f f' agrees laid is =
    let same = groups-statement tests_of ws b in
    record {
      stops = ap (λ (x : Frame). x.end) is ∙ (end-statement sets ws f ∙ laid.stops);
      steps = λ few. is ∙ (ap (and_statement sets ws) (laid.steps (subst (λ n. n ≤ stop) same few)) ∙ statement-on sets tests_of ws b free agrees);
      groups = λ few. ap (λ n. free + n) same ∙ laid.groups (subst (λ n. n ≤ stop) same few);
    }

none-laid : (stop : ℕ) → IsLaid done stop (no_steps stop) stop
unfolding steps groups_inside
none-laid stop =
    let same : stop ≡ stop + 0 = omega arith in
    record { stops = refl; steps = λ few. ap no_steps same; groups = λ few. sym same }

-- a `handle`, where its block is not too large
handle-steps : (sets : List ℕ → Measured) (tests_of : List ℕ → Tests) (args : List (List ℕ)) (i b : Block) (inside after : Frame) (free first taken : ℕ) →
    Agrees sets tests_of → From 0 i → inside ≡ frame_of i free → after ≡ frame_of b taken → taken ≡ first + groups_of i → first + own_groups (frame_of i free) ≡ free →
    and_block true sets args inside free after ≡ frame_of (put_handle (chosen_by tests_of Handle args) i b) first
handle-steps sets tests_of args i b inside after free first taken agrees from inside-is after-is taken-is begins =
    let does : subroute_of (routes_at inside free) ≡ measured (subroute (routes_of i first)) =
    ap (λ f. subroute_of (routes_at f free)) inside-is ∙ (ap subroute_of (routes-of i free first from begins) ∙ subroute-measured (routes_of i first)) in
    ap (λ m. with_step Handle (record { matching = m; does = subroute_of (routes_at inside free) }) after) (set-by sets tests_of Handle args agrees)
    ∙ (ap (λ d. with_step Handle (record { matching = option_map (λ t. measured (set_of t)) (chosen_by tests_of Handle args); does = d }) after) does
    ∙ (ap (λ f. with_step Handle (step_of (chosen_by tests_of Handle args) (subroute (routes_of i first))) f) (after-is ∙ ap (λ n. frame_of b n) taken-is)
    ∙ frame-put_handle (chosen_by tests_of Handle args) i b first))

handle-laid : (sets : List ℕ → Measured) (tests_of : List ℕ → Tests) (args : List (List ℕ)) (i b : Block) (inside after : Frame) (stop taken free : ℕ) →
    Agrees sets tests_of → From 0 i → IsLaid i taken inside free → IsLaid b stop after taken →
    IsLaid (put_handle (chosen_by tests_of Handle args) i b) stop (and_block true sets args inside free after) (free - own_groups inside)
handle-laid sets tests_of args i b inside after stop taken free agrees from laid others =
    let m = chosen_by tests_of Handle args in
    let total = groups-put_handle m i b in
    let begins : groups_inside (put_handle m i b) ≤ stop → (free - own_groups inside) + own_groups (frame_of i free) ≡ free =
    λ few. let few-b : groups_inside b ≤ stop = omega (arith, few, total) in
    let left = others.groups few-b in
    let few-i : groups_inside i ≤ taken = omega (arith, few, total, left) in
    let own = own-groups i free in
    let same : own_groups inside ≡ own_groups (frame_of i free) = ap own_groups (laid.steps few-i) in
    omega (arith, few, total, left, laid.groups few-i, own, same) in
    record {
      stops = others.stops;
      steps = λ few.
          let few-b : groups_inside b ≤ stop = omega (arith, few, total) in
          let left = others.groups few-b in
          let few-i : groups_inside i ≤ taken = omega (arith, few, total, left) in
          handle-steps sets tests_of args i b inside after free (free - own_groups inside) taken agrees from (laid.steps few-i) (others.steps few-b)
          (omega (arith, begins few, own-groups i free, laid.groups few-i)) (begins few);
      groups = λ few.
          let few-b : groups_inside b ≤ stop = omega (arith, few, total) in
          let left = others.groups few-b in
          let few-i : groups_inside i ≤ taken = omega (arith, few, total, left) in
          omega (arith, begins few, own-groups i free, laid.groups few-i, left, total);
    }

block-laid-if : (h : Bool) (sets : List ℕ → Measured) (tests_of : List ℕ → Tests) (args : List (List ℕ)) (i b : Block) (inside after : Frame) (stop taken free : ℕ) →
    Agrees sets tests_of → From 0 i → IsLaid i taken inside free → IsLaid b stop after taken →
    IsLaid (if h then put_handle (chosen_by tests_of Handle args) i b else b) stop (and_block h sets args inside free after) (free_before h inside free)
block-laid-if true sets tests_of args i b inside after stop taken free agrees from laid others = handle-laid sets tests_of args i b inside after stop taken free agrees from laid others
block-laid-if false sets tests_of args i b inside after stop taken free agrees from laid others = subst (λ n. IsLaid b stop after n) (sym laid.stops) others

block-laid-by : (sets : List ℕ → Measured) (tests_of : List ℕ → Tests) (ws : List (List ℕ)) (i b : Block) (inside after : Frame) (stop taken free : ℕ) →
    Agrees sets tests_of → From 0 i → IsLaid i taken inside free → IsLaid b stop after taken →
    IsLaid (with_block tests_of ws i b) stop (and_block (is_handle ws) sets (arguments ws) inside free after) (free_before (is_handle ws) inside free)
block-laid-by sets tests_of [] i b inside after stop taken free agrees from laid others = block-laid-if false sets tests_of [] i b inside after stop taken free agrees from laid others
block-laid-by sets tests_of (name ∷ args) i b inside after stop taken free agrees from laid others =
    block-laid-if (bytes_eq name (codes "handle")) sets tests_of args i b inside after stop taken free agrees from laid others

block-laid : (sets : List ℕ → Measured) (tests_of : List ℕ → Tests) (ws : List (List ℕ)) (i b : Block) (inside after made : Frame) (stop taken free first : ℕ) →
    Agrees sets tests_of → From 0 i → IsLaid i taken inside free → IsLaid b stop after taken →
    made ≡ and_block (is_handle ws) sets (arguments ws) inside free after → first ≡ free_before (is_handle ws) inside free → IsLaid (with_block tests_of ws i b) stop made first
block-laid sets tests_of ws i b inside after made stop taken free first agrees from laid others made-is first-is =
    subst (λ f. IsLaid (with_block tests_of ws i b) stop f first) (sym made-is)
    (subst (λ n. IsLaid (with_block tests_of ws i b) stop (and_block (is_handle ws) sets (arguments ws) inside free after) n) (sym first-is)
    (block-laid-by sets tests_of ws i b inside after stop taken free agrees from laid others))

-- ---- lists by their last elements

tail_same : {A : Type 0} (x y : A) (xs ys : List A) → x ∷ xs ≡ y ∷ ys → xs ≡ ys
tail_same x y xs ys is = ap (λ l. drop 1 l) is

abbrev head_or : {A : Type 0} → A → List A → A
head_or x [] = x
head_or x (y ∷ ys) = y

head_same : {A : Type 0} (x y : A) (xs ys : List A) → x ∷ xs ≡ y ∷ ys → x ≡ y
head_same x y xs ys is = ap (head_or x) is

both_turned : {A : Type 0} (xs ys : List A) (x y : A) → xs ++ x ∷ [] ≡ ys ++ y ∷ [] → x ∷ reverse xs ≡ y ∷ reverse ys
both_turned xs ys x y is = sym (reverse-append xs (x ∷ [])) ∙ (ap reverse is ∙ reverse-append ys (y ∷ []))

pub last_same : {A : Type 0} (xs ys : List A) (x y : A) → xs ++ x ∷ [] ≡ ys ++ y ∷ [] → x ≡ y
last_same xs ys x y is = head_same x y (reverse xs) (reverse ys) (both_turned xs ys x y is)

pub others_same : {A : Type 0} (xs ys : List A) (x y : A) → xs ++ x ∷ [] ≡ ys ++ y ∷ [] → xs ≡ ys
others_same xs ys x y is = sym (reverse-reverse xs) ∙ (ap reverse (tail_same x y (reverse xs) (reverse ys) (both_turned xs ys x y is)) ∙ reverse-reverse ys)

pub not_empty : {A : Type 0} (xs : List A) (x : A) → xs ++ x ∷ [] ≡ [] → ⊥
not_empty [] x is = absurd (omega (arith, ap length is))
not_empty (y ∷ ys) x is = absurd (omega (arith, ap length is))

-- ---- all blocks that are open

pub says_laid : (sets : List ℕ → Measured) (tests_of : List ℕ → Tests) (next n : ℕ) (ws : List (List ℕ)) (N : Nesting) (outer : List Frame) (f f' : Frame) (free : ℕ) → Agrees sets tests_of →
    f' ≡ and_statement sets (map spelled ws) f → AreLaid tests_of next N outer f free → AreLaid tests_of next (in_front n ws N) outer f' free
unfolding block_of
says_laid sets tests_of next n ws (last ls) outer f f' free agrees is (none, laid) = (none, says-laid sets tests_of (map spelled ws) (block_of tests_of ls) next free f f' agrees laid is)
says_laid sets tests_of next n ws (up_to ls m more) outer f f' free agrees is (others, (around, (taken, (outer-is, (before, laid))))) =
    (others, (around, (taken, (outer-is, (before, says-laid sets tests_of (map spelled ws) (block_of tests_of ls) taken free f f' agrees laid is)))))

pub closes_laid : (tests_of : List ℕ → Tests) (next n : ℕ) (N : Nesting) (outer outer' : List Frame) (f f' : Frame) (free free' : ℕ) →
    outer' ≡ outer ++ f ∷ [] → f' ≡ no_steps free → free' ≡ free → AreLaid tests_of next N outer f free → AreLaid tests_of next (up_to end n N) outer' f' free'
unfolding block_of
closes_laid tests_of next n N outer outer' f f' free free' outer-is f-is free-is laid =
    (outer, (f, (free, (outer-is, (laid, subst (λ x. IsLaid done free x free') (sym f-is) (subst (λ k. IsLaid done free (no_steps free) k) (sym free-is) (none-laid free)))))))

pub same_laid : (tests_of : List ℕ → Tests) (next : ℕ) (N : Nesting) (outer outer' : List Frame) (f f' : Frame) (free free' : ℕ) →
    outer' ≡ outer → f' ≡ f → free' ≡ free → AreLaid tests_of next N outer f free → AreLaid tests_of next N outer' f' free'
same_laid tests_of next N outer outer' f f' free free' a b c laid =
    subst (λ x. AreLaid tests_of next N x f' free') (sym a) (subst (λ x. AreLaid tests_of next N outer x free') (sym b) (subst (λ x. AreLaid tests_of next N outer f x) (sym c) laid))

module _ (sets : List ℕ → Measured) (tests_of : List ℕ → Tests) (agrees : Agrees sets tests_of) (next n : ℕ) (ws : List (List ℕ)) where
  -- the lines after the block are those of the innermost one that goes on
  opens-inside : (ls : Lines) (m : ℕ) (R : Nesting) (others : List Frame) (inside after made : Frame) (taken free first : ℕ) →
      AreLaid tests_of next R others after taken → IsLaid (block_of tests_of ls) taken inside free →
      made ≡ and_block (is_handle (map spelled ws)) sets (arguments (map spelled ws)) inside free after → first ≡ free_before (is_handle (map spelled ws)) inside free →
      AreLaid tests_of next (opened n ws (up_to ls m R)) others made first
  unfolding block_of
  opens-inside ls m (last ls') others inside after made taken free first (none, before) laid made-is first-is =
      (none, block-laid sets tests_of (map spelled ws) (block_of tests_of ls) (block_of tests_of ls') inside after made next taken free first agrees (in_order tests_of ls) laid before made-is first-is)
  opens-inside ls m (up_to ls' k more) others inside after made taken free first (outmost, (around, (stop, (outer-is, (rest, before))))) laid made-is first-is = (
    outmost,
    (
      around,
      (
        stop,
        (
          outer-is,
          (
            rest,
            block-laid sets tests_of (map spelled ws) (block_of tests_of ls) (block_of tests_of ls') inside after made stop taken free first agrees (in_order tests_of ls) laid before made-is first-is,
          ),
        ),
      ),
    ),
  )

  opens-last : (ls : Lines) (outer outer' : List Frame) (inside after made : Frame) (free first : ℕ) → IsTaken (no_steps inside.end) outer outer' after →
      (outer ≡ []) × IsLaid (block_of tests_of ls) next inside free →
      made ≡ and_block (is_handle (map spelled ws)) sets (arguments (map spelled ws)) inside free after → first ≡ free_before (is_handle (map spelled ws)) inside free →
      AreLaid tests_of next (last (block n ws false ls end)) outer' made first
  unfolding block_of
  opens-last ls outer outer' inside after made free first (inl some) (none, laid) made-is first-is = absurd (not_empty outer' after (sym some ∙ none))
  opens-last ls outer outer' inside after made free first (inr (was, (none, after-is))) (nothing, laid) made-is first-is = (
    none,
    block-laid sets tests_of (map spelled ws) (block_of tests_of ls) done inside after made next next free first agrees (in_order tests_of ls) laid
        (subst (λ x. IsLaid done next x next) (sym (after-is ∙ ap no_steps laid.stops)) (none-laid next)) made-is first-is,
  )

  opens-more : (ls : Lines) (m : ℕ) (R : Nesting) (outer outer' : List Frame) (inside after made : Frame) (free first : ℕ) → IsTaken (no_steps inside.end) outer outer' after →
      AreLaid tests_of next (up_to ls m R) outer inside free →
      made ≡ and_block (is_handle (map spelled ws)) sets (arguments (map spelled ws)) inside free after → first ≡ free_before (is_handle (map spelled ws)) inside free →
      AreLaid tests_of next (opened n ws (up_to ls m R)) outer' made first
  opens-more ls m R outer outer' inside after made free first (inl some) (others, (around, (taken, (outer-is, (rest, laid))))) made-is first-is =
      let whole : outer' ++ after ∷ [] ≡ others ++ around ∷ [] = sym some ∙ outer-is in
      opens-inside ls m R outer' inside after made taken free first
      (same_laid tests_of next R others outer' around after taken taken (others_same outer' others after around whole) (last_same outer' others after around whole) refl rest) laid made-is first-is
  opens-more ls m R outer outer' inside after made free first (inr (was, none)) (others, (around, (taken, (outer-is, rest)))) made-is first-is =
      absurd (not_empty others around (sym outer-is ∙ was))

  pub opens_laid : (N : Nesting) (outer outer' : List Frame) (inside after made : Frame) (free first : ℕ) → IsTaken (no_steps inside.end) outer outer' after →
      AreLaid tests_of next N outer inside free →
      made ≡ and_block (is_handle (map spelled ws)) sets (arguments (map spelled ws)) inside free after → first ≡ free_before (is_handle (map spelled ws)) inside free →
      AreLaid tests_of next (opened n ws N) outer' made first
  opens_laid (last ls) outer outer' inside after made free first popped laid made-is first-is = opens-last ls outer outer' inside after made free first popped laid made-is first-is
  opens_laid (up_to ls m R) outer outer' inside after made free first popped laid made-is first-is = opens-more ls m R outer outer' inside after made free first popped laid made-is first-is

pub block_same : (sets : List ℕ → Measured) (ws ws' : List (List ℕ)) (inside inside' after after' : Frame) (free free' : ℕ) → ws ≡ ws' → inside ≡ inside' → free ≡ free' → after ≡ after' →
    and_block (is_handle ws) sets (arguments ws) inside free after ≡ and_block (is_handle ws') sets (arguments ws') inside' free' after'
block_same sets ws ws' inside inside' after after' free free' a b c d = λ i. and_block (is_handle (a i)) sets (arguments (a i)) (b i) (c i) (d i)

pub free_same : (ws ws' : List (List ℕ)) (inside inside' : Frame) (free free' : ℕ) → ws ≡ ws' → inside ≡ inside' → free ≡ free' → free_before (is_handle ws) inside free ≡ free_before (is_handle ws') inside' free'
free_same ws ws' inside inside' free free' a b c = λ i. free_before (is_handle (a i)) (b i) (c i)

-- ---- the start and the end

pub starts_laid : (tests_of : List ℕ → Tests) (next : ℕ) (all : List Numbered) (outer : List Frame) (f : Frame) (free : ℕ) → outer ≡ [] → f ≡ no_steps next → free ≡ next →
    AreLaid tests_of next (followed (drop (length all) all) (last end)) outer f free
unfolding block_of
starts_laid tests_of next all outer f free none f-is free-is =
    subst (λ N. AreLaid tests_of next N outer f free) (sym (followed_none all (last end)))
    (none, subst (λ x. IsLaid done next x free) (sym f-is) (subst (λ k. IsLaid done next (no_steps next) k) (sym free-is) (none-laid next)))

pub all_routes : (tests_of : List ℕ → Tests) (N : Nesting) (outer : List Frame) (f : Frame) (free first next : ℕ) (routes : List Measured) → closings N ≡ 0 →
    AreLaid tests_of next N outer f free → first + groups_of (block_of tests_of (innermost_lines N)) ≡ next → routes ≡ routes_at f free →
    routes ≡ map measured (routes_of (block_of tests_of (innermost_lines N)) first)
all_routes tests_of (last ls) outer f free first next routes none (nothing, laid) is routes-is =
    let b = block_of tests_of ls in
    let few : groups_inside b ≤ next = omega (arith, is) in
    routes-is ∙ (ap (λ x. routes_at x free) (laid.steps few) ∙ routes-of b free first (in_order tests_of ls) (omega (arith, own-groups b free, laid.groups few, is)))
all_routes tests_of (up_to ls n more) outer f free first next routes none laid is routes-is = absurd (omega (arith, none))
