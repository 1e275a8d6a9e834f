-- What each line does to the groups that the blocks that are open need.
use Rattle.std.proofs.Common.{◌≡◌, ℕ, suc, ◌+◌, ◌≤◌, ◌==◌, Bool, true, false, if◌then◌else◌, List, [], ◌∷◌, ◌++◌, length, map, drop, refl, sym, ap, subst, ◌∙◌, arith, inl, inr, Option, Some, None, codes}
use Rattle.std.specs.List.{sum_by}
use Rattle.std.proofs.lemmas.Bool.{eqb-true}
use Rattle.std.proofs.lemmas.List.Sums.{sum_by-append}
use Rattle.std.specs.Str.{bytes_eq}
use Rattle.cd_caddyfile.specs.Blocks.{Lines, end, Nesting, last, up_to, opened, in_front}
use Rattle.cd_caddyfile.specs.Directives.{directive_named, own_args, action_of, rewrite_args}
use Rattle.cd_caddyfile.specs.FileSites.{rank, put, put_handle, put_action, put_directive, with_statement, with_block, block_of, chosen_by}
use Rattle.cd_caddyfile.specs.Shape as shape
use Rattle.cd_caddyfile.specs.Shape.{handler_of, subroute, rewrites, handles, groups_inside, groups_of, one_if, routes_of}
use Rattle.cd_caddyfile.specs.Shorthands.{spelled}
use Rattle.cd_caddyfile.specs.Sites.{Tests, Action, vars, set_field, add_field, delete_field, redir, rewrite, respond, Block, done}
use Rattle.cd_caddyfile.specs.declared.directive.Directive.{Directive}
use Rattle.cd_caddyfile.specs.declared.directive.Directive.TheVariants.{Vars, Header, Redir, Rewrite, Handle, Respond}
use Rattle.cd_adapt.specs.Counting.{no_needs, weight, needs_of, needs_around, IsCounted, size, is_rewriting, is_rewrite_by, is_rewrite, and_words, and_inside}
use Rattle.cd_adapt.specs.Laying.{IsTaken, is_handle}
use Rattle.cd_adapt.specs.Splitting.{innermost_lines, followed}
use Rattle.cd_adapt.specs.Steps.{step_of, steps, has_some}
use Rattle.cd_adapt.specs.declared.counting.Counter.{Counter}
use Rattle.cd_adapt.specs.declared.counting.Needs.{Needs}
use Rattle.cd_adapt.specs.declared.splitting.Numbered.{Numbered}
use Rattle.cd_adapt.specs.declared.steps.Step.{Step}
use Rattle.cd_adapt.proofs.FrameSteps.{steps-put, steps-put_handle, groups-put, groups-put_handle, has-one, has-rewrites, has-handles}
use Rattle.cd_adapt.proofs.SplitSteps.{followed_none}
use Rattle.cd_adapt.proofs.LayingSteps.{Ranked, ranked, not_empty, others_same, last_same}

-- ---- which groups a block with one directive more needs

has-one-more : (p : Bool) (s : Step) (ss : List Step) → has_some (if p then s ∷ ss else ss) ≡ (if p then true else has_some ss)
has-one-more true s ss = has-one s ss
has-one-more false s ss = refl

rewrite-rank : (a : Action) → (rank a == 3) ≡ shape.is_rewrite a
rewrite-rank (vars n v) = refl
rewrite-rank (set_field n v) = refl
rewrite-rank (add_field n v) = refl
rewrite-rank (delete_field n) = refl
rewrite-rank (redir to code) = refl
rewrite-rank (rewrite to) = refl
rewrite-rank (respond body code) = refl

no-handle-rank : (a : Action) → (rank a == 4) ≡ false
no-handle-rank (vars n v) = refl
no-handle-rank (set_field n v) = refl
no-handle-rank (add_field n v) = refl
no-handle-rank (delete_field n) = refl
no-handle-rank (redir to code) = refl
no-handle-rank (rewrite to) = refl
no-handle-rank (respond body code) = refl

rewrites-put : (m : Option Tests) (a : Action) (b : Block) → rewrites (put m a b) ≡ (if rank a == 3 then true else rewrites b)
rewrites-put m a b =
    sym (has-rewrites (put m a b) 0) ∙ (ap has_some (steps-put 3 m a b 0) ∙ (has-one-more (rank a == 3) (step_of m (handler_of a)) (steps 3 b 0)
    ∙ ap (λ r. if rank a == 3 then true else r) (has-rewrites b 0)))

handles-put : (m : Option Tests) (a : Action) (b : Block) → handles (put m a b) ≡ handles b
handles-put m a b =
    sym (has-handles (put m a b) 0) ∙ (ap has_some (steps-put 4 m a b 0)
    ∙ (ap (λ p. has_some (if p then step_of m (handler_of a) ∷ steps 4 b 0 else steps 4 b 0)) (no-handle-rank a) ∙ has-handles b 0))

rewrites-put_handle : (m : Option Tests) (i b : Block) → rewrites (put_handle m i b) ≡ rewrites b
rewrites-put_handle m i b = sym (has-rewrites (put_handle m i b) 0) ∙ (ap has_some (steps-put_handle 3 m i b 0) ∙ has-rewrites b (0 + groups_of i))

handles-put_handle : (m : Option Tests) (i b : Block) → handles (put_handle m i b) ≡ true
handles-put_handle m i b = sym (has-handles (put_handle m i b) 0) ∙ (ap has_some (steps-put_handle 4 m i b 0) ∙ has-one (step_of m (subroute (routes_of i 0))) (steps 4 b (0 + groups_of i)))

needs-same : (m n : Needs) → m.rewrites ≡ n.rewrites → m.handles ≡ n.handles → m.inside ≡ n.inside → m ≡ n
needs-same m n a b c = λ i. record { rewrites = a i; handles = b i; inside = c i }

needs-put : (k : Bool) (m : Option Tests) (a : Action) (b : Block) → (rank a == 3) ≡ k → needs_of (put m a b) ≡ (if k then record (needs_of b) { rewrites = true } else needs_of b)
needs-put true m a b is = needs-same _ _ (rewrites-put m a b ∙ ap (λ k. if k then true else rewrites b) is) (handles-put m a b) (groups-put m a b)
needs-put false m a b is = needs-same _ _ (rewrites-put m a b ∙ ap (λ k. if k then true else rewrites b) is) (handles-put m a b) (groups-put m a b)

-- ---- a line without a block

-- a directive that is no rewrite
needs-other : (k : ℕ) (m : Option Tests) (o : Option Action) (b : Block) → (k == 3) ≡ false → Ranked k o → needs_of (put_action m o b) ≡ needs_of b
needs-other k m None b other is = refl
needs-other k m (Some a) b other is = needs-put false m a b (ap (λ r. r == 3) is ∙ other)

differs : (a b : ℕ) (same : Bool) → (a == b) ≡ same → (a ≡ b → ⊥) → same ≡ false
differs a b true e apart = absurd (apart (eqb-true a b e))
differs a b false e apart = refl

needs-rewrite : (m : Option Tests) (args : List (List ℕ)) (b : Block) →
    needs_of (put_action m (rewrite_args args) b) ≡ (if length args == 1 then record (needs_of b) { rewrites = true } else needs_of b)
needs-rewrite m [] b = refl
needs-rewrite m (to ∷ []) b = needs-put true m (rewrite to) b refl
needs-rewrite m (to ∷ o ∷ os) b = sym (ap (λ k. if k then record (needs_of b) { rewrites = true } else needs_of b) (differs (suc (suc (length os))) 1 _ refl (λ e. omega (arith, e))))

needs-directive : (m : Option Tests) (d : Directive) (args : List (List ℕ)) (b : Block) →
    needs_of (put_action m (action_of d (own_args d args)) b) ≡ (if is_rewriting d args then record (needs_of b) { rewrites = true } else needs_of b)
needs-directive m Vars args b = needs-other 0 m (action_of Vars (own_args Vars args)) b refl (ranked Vars (own_args Vars args))
needs-directive m Header args b = needs-other 1 m (action_of Header (own_args Header args)) b refl (ranked Header (own_args Header args))
needs-directive m Redir args b = needs-other 2 m (action_of Redir (own_args Redir args)) b refl (ranked Redir (own_args Redir args))
needs-directive m Rewrite args b = needs-rewrite m (own_args Rewrite args) b
needs-directive m Handle args b = refl
needs-directive m Respond args b = needs-other 5 m (action_of Respond (own_args Respond args)) b refl (ranked Respond (own_args Respond args))

needs-by : (tests_of : List ℕ → Tests) (o : Option Directive) (args : List (List ℕ)) (b : Block) →
    needs_of (put_directive tests_of o args b) ≡ (if is_rewrite_by o args then record (needs_of b) { rewrites = true } else needs_of b)
needs-by tests_of None args b = refl
needs-by tests_of (Some d) args b = needs-directive (chosen_by tests_of d args) d args b

needs-statement : (tests_of : List ℕ → Tests) (ws : List (List ℕ)) (b : Block) → needs_of (with_statement tests_of ws b) ≡ and_words ws (needs_of b)
needs-statement tests_of [] b = refl
needs-statement tests_of (name ∷ args) b = needs-by tests_of (directive_named name) args b

-- ---- a line with a block

needs-block-if : (h : Bool) (m : Option Tests) (i b : Block) → needs_of (if h then put_handle m i b else b) ≡ and_inside h (needs_of i) (needs_of b)
needs-block-if true m i b = needs-same _ _ (rewrites-put_handle m i b) (handles-put_handle m i b) (groups-put_handle m i b)
needs-block-if false m i b = refl

needs-block : (tests_of : List ℕ → Tests) (ws : List (List ℕ)) (i b : Block) → needs_of (with_block tests_of ws i b) ≡ and_inside (is_handle ws) (needs_of i) (needs_of b)
needs-block tests_of [] i b = refl
needs-block tests_of (name ∷ args) i b = needs-block-if (bytes_eq name (codes "handle")) (chosen_by tests_of Handle args) i b

needs-done : needs_of done ≡ no_needs
unfolding rewrites handles groups_inside
needs-done = refl

-- ---- all blocks that are open

pub says_counted : (tests_of : List ℕ → Tests) (n : ℕ) (ws : List (List ℕ)) (N : Nesting) (c c' : Counter) →
    c'.open ≡ c.open → c'.here ≡ and_words (map spelled ws) c.here → IsCounted tests_of N c → IsCounted tests_of (in_front n ws N) c'
unfolding block_of
says_counted tests_of n ws (last ls) c c' same is counted = record {
  around = same ∙ counted.around;
  here = is ∙ (ap (and_words (map spelled ws)) counted.here ∙ sym (needs-statement tests_of (map spelled ws) (block_of tests_of ls)));
}
says_counted tests_of n ws (up_to ls m more) c c' same is counted = record {
  around = same ∙ counted.around;
  here = is ∙ (ap (and_words (map spelled ws)) counted.here ∙ sym (needs-statement tests_of (map spelled ws) (block_of tests_of ls)));
}

pub closes_counted : (tests_of : List ℕ → Tests) (n : ℕ) (N : Nesting) (c c' : Counter) →
    c'.open ≡ c.open ++ c.here ∷ [] → c'.here ≡ no_needs → IsCounted tests_of N c → IsCounted tests_of (up_to end n N) c'
unfolding block_of
closes_counted tests_of n N c c' open-is here-is counted = record {
  around = open-is ∙ (ap (λ l. l ++ c.here ∷ []) counted.around ∙ ap (λ h. needs_around tests_of N ++ h ∷ []) counted.here);
  here = here-is ∙ sym needs-done;
}

opens-inside : (tests_of : List ℕ → Tests) (n m : ℕ) (ws : List (List ℕ)) (ls : Lines) (R : Nesting) (inside after : Needs) (c : Counter) →
    inside ≡ needs_of (block_of tests_of ls) → after ≡ needs_of (block_of tests_of (innermost_lines R)) → c.open ≡ needs_around tests_of R →
    c.here ≡ and_inside (is_handle (map spelled ws)) inside after → IsCounted tests_of (opened n ws (up_to ls m R)) c
unfolding block_of
opens-inside tests_of n m ws ls (last ls') inside after c inside-is after-is open-is is = record {
  around = open-is;
  here = is ∙ (ap (λ x. and_inside (is_handle (map spelled ws)) x after) inside-is ∙ (ap (λ x. and_inside (is_handle (map spelled ws)) (needs_of (block_of tests_of ls)) x) after-is
      ∙ sym (needs-block tests_of (map spelled ws) (block_of tests_of ls) (block_of tests_of ls'))));
}
opens-inside tests_of n m ws ls (up_to ls' k more) inside after c inside-is after-is open-is is = record {
  around = open-is;
  here = is ∙ (ap (λ x. and_inside (is_handle (map spelled ws)) x after) inside-is ∙ (ap (λ x. and_inside (is_handle (map spelled ws)) (needs_of (block_of tests_of ls)) x) after-is
      ∙ sym (needs-block tests_of (map spelled ws) (block_of tests_of ls) (block_of tests_of ls'))));
}

pub opens_counted : (tests_of : List ℕ → Tests) (n : ℕ) (ws : List (List ℕ)) (N : Nesting) (after : Needs) (c c' : Counter) → IsTaken no_needs c.open c'.open after →
    c'.here ≡ and_inside (is_handle (map spelled ws)) c.here after → IsCounted tests_of N c → IsCounted tests_of (opened n ws N) c'
unfolding block_of
opens_counted tests_of n ws (last ls) after c c' (inl some) is counted = absurd (not_empty c'.open after (sym some ∙ counted.around))
opens_counted tests_of n ws (last ls) after c c' (inr (was, (none, after-is))) is counted = record {
  around = none;
  here = is ∙ (ap (λ x. and_inside (is_handle (map spelled ws)) x after) counted.here
      ∙ (ap (λ x. and_inside (is_handle (map spelled ws)) (needs_of (block_of tests_of ls)) x) (after-is ∙ sym needs-done)
      ∙ sym (needs-block tests_of (map spelled ws) (block_of tests_of ls) done)));
}
opens_counted tests_of n ws (up_to ls m R) after c c' (inl some) is counted =
    let whole : c'.open ++ after ∷ [] ≡ needs_around tests_of R ++ needs_of (block_of tests_of (innermost_lines R)) ∷ [] = sym some ∙ counted.around in
    opens-inside tests_of n m ws ls R c.here after c' counted.here (last_same c'.open (needs_around tests_of R) after _ whole) (others_same c'.open (needs_around tests_of R) after _ whole) is
opens_counted tests_of n ws (up_to ls m R) after c c' (inr (was, none)) is counted = absurd (not_empty (needs_around tests_of R) _ (sym counted.around ∙ was))

-- ---- how many there are

more-words : (r : Bool) (n : Needs) → weight (if r then record n { rewrites = true } else n) ≤ weight n + 1
more-words true n = omega arith
more-words false n = omega arith

pub size_says : (ws : List (List ℕ)) (c c' : Counter) → c'.open ≡ c.open → c'.here ≡ and_words ws c.here → size c' ≤ size c + 1
size_says ws c c' same is = omega (arith, ap (sum_by weight) same, ap weight is, more-words (is_rewrite ws) c.here)

pub size_closes : (c c' : Counter) → c'.open ≡ c.open ++ c.here ∷ [] → c'.here ≡ no_needs → size c' ≤ size c + 1
size_closes c c' open-is here-is = omega (arith, ap (sum_by weight) open-is, sum_by-append weight c.open (c.here ∷ []), ap weight here-is)

-- what is taken off is no more than there was
pub size_taken : (old new : List Needs) (after : Needs) → IsTaken no_needs old new after → sum_by weight new + weight after ≡ sum_by weight old
size_taken old new after (inl some) = omega (arith, ap (sum_by weight) some, sum_by-append weight new (after ∷ []))
size_taken old new after (inr (was, (none, after-is))) = omega (arith, ap (sum_by weight) was, ap (sum_by weight) none, ap weight after-is)

pub size_handle : (h : Bool) (inside after : Needs) → weight (and_inside h inside after) ≤ weight inside + weight after + 1
size_handle true inside after = omega arith
size_handle false inside after = omega arith

pub all_groups : (tests_of : List ℕ → Tests) (N : Nesting) (c : Counter) → IsCounted tests_of N c → weight c.here ≡ groups_of (block_of tests_of (innermost_lines N))
all_groups tests_of N c counted = ap weight counted.here

-- ---- the start

pub starts_counted : (tests_of : List ℕ → Tests) (all : List Numbered) (c : Counter) → c.open ≡ [] → c.here ≡ no_needs → IsCounted tests_of (followed (drop (length all) all) (last end)) c
unfolding block_of
starts_counted tests_of all c none here-is =
    subst (λ N. IsCounted tests_of N c) (sym (followed_none all (last end))) (record { around = none; here = here-is ∙ sym needs-done })

pub starts_size : (c : Counter) → c.open ≡ [] → c.here ≡ no_needs → size c ≡ 0
starts_size c none here-is = omega (arith, ap (sum_by weight) none, ap weight here-is)
