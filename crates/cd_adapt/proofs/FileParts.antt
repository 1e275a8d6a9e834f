-- The sites of a file want no name twice in a matcher, and set no variable that is named as the member that names its handler.
use Rattle.std.proofs.Common.{◌≡◌, ℕ, Bool, true, false, ◌==◌, ◌||◌, if◌then◌else◌, List, [], ◌∷◌, ◌++◌, map, Option, Some, None, option_map, refl, IfSome}
use Rattle.std.specs.Prelude.{All, ⊤, codes, drop, nat_le, unwrap_or}
use Rattle.std.specs.List.{list_any, before_first, after_first}
use Rattle.std.specs.Str.{bytes_eq}
use Rattle.std.proofs.lemmas.List.Elements.{All-nil, All-cons, All-head, All-tail}
use Rattle.cd_caddyfile.specs.Addresses.{begins_with, address_of}
use Rattle.cd_caddyfile.specs.Blocks.{Lines, end, line, block, file_lines}
use Rattle.cd_caddyfile.specs.Directives.{directive_named, code_of, redir_code, respond_one, choice_of, own_args, action_of}
use Rattle.cd_caddyfile.specs.Faults.{defined}
use Rattle.cd_caddyfile.specs.FileSites.{tested, tests_at, line_of_matcher, tests_if, tests_named, tests_chosen, chosen_by, rank, put, put_handle, put_action, put_directive, with_statement, with_block, block_of, put_site, sites_in, sites}
use Rattle.cd_caddyfile.specs.Matchers.{with_value, some_more, field_test, is_equals, key_test, kind_and_args, with_line}
use Rattle.cd_caddyfile.specs.Shorthands.{spelled}
use Rattle.cd_caddyfile.specs.Sites.{Wanted, Tests, no_tests, Action, vars, set_field, add_field, delete_field, redir, respond, Block, done, act, handle, Site}
use Rattle.cd_caddyfile.specs.Walk.{walk}
use Rattle.cd_caddyfile.specs.declared.address.Address.{Address}
use Rattle.cd_caddyfile.specs.declared.choice.Choice.{Choice}
use Rattle.cd_caddyfile.specs.declared.choice.Choice.TheVariants.{Unmatched, Everything, ByPath, ByName}
use Rattle.cd_caddyfile.specs.declared.directive.Directive.{Directive}
use Rattle.cd_caddyfile.specs.declared.directive.Directive.TheVariants.{Vars, Header, Redir, Rewrite, Handle, Respond}
use Rattle.cd_caddyfile.specs.declared.named.TestLine.{TestLine}
use Rattle.cd_caddyfile.specs.declared.within.Within.TheVariants as place
use Rattle.cd_adapt.proofs.Fine.{AreNamedOnce, AreFine, AreFineIf, IsFine, IsFineBlock, AreFineSites}

-- ---- what holds of each case

either : {A : Type 0} (P : A → Type 0) (t : Bool) (x y : A) → P x → P y → P (if t then x else y)
either P true x y one two = one
either P false x y one two = two

mapped : {A B : Type 0} (P : Option B → Type 0) (f : A → B) (o : Option A) → P None → ((a : A) → P (Some (f a))) → P (option_map f o)
mapped P f None none some = none
mapped P f (Some a) none some = some a

-- ---- any facts of the matchers and of the actions of a block

module _ (P : Option Tests → Type 0) (Q : Action → Type 0) where
  -- each matcher has the one, and each action the other
  unfoldable pub HoldIn : Block → Type 0
  HoldIn done = ⊤
  HoldIn (act m a b) = P m × (Q a × HoldIn b)
  HoldIn (handle m inside b) = P m × (HoldIn inside × HoldIn b)

  pub hold_in_put : (m : Option Tests) (a : Action) (b : Block) → P m → Q a → HoldIn b → HoldIn (put m a b)
  unfolding put HoldIn
  hold_in_put m a done p q all = (p, (q, tt))
  hold_in_put m a (act m' a' b) p q all = by (nat_le (rank a) (rank a')) (hold_in_put m a b p q all.1.1)
    where
      by : (t : Bool) → HoldIn (put m a b) → HoldIn (if t then act m a (act m' a' b) else act m' a' (put m a b))
      by true rest = (p, (q, all))
      by false rest = (all.0, (all.1.0, rest))
  hold_in_put m a (handle m' inside b) p q all = by (nat_le (rank a) 4) (hold_in_put m a b p q all.1.1)
    where
      by : (t : Bool) → HoldIn (put m a b) → HoldIn (if t then act m a (handle m' inside b) else handle m' inside (put m a b))
      by true rest = (p, (q, all))
      by false rest = (all.0, (all.1.0, rest))

  pub hold_in_put_handle : (m : Option Tests) (i b : Block) → P m → HoldIn i → HoldIn b → HoldIn (put_handle m i b)
  unfolding put_handle HoldIn
  hold_in_put_handle m i done p inner all = (p, (inner, tt))
  hold_in_put_handle m i (act m' a' b) p inner all = by (nat_le 4 (rank a')) (hold_in_put_handle m i b p inner all.1.1)
    where
      by : (t : Bool) → HoldIn (put_handle m i b) → HoldIn (if t then handle m i (act m' a' b) else act m' a' (put_handle m i b))
      by true rest = (p, (inner, all))
      by false rest = (all.0, (all.1.0, rest))
  hold_in_put_handle m i (handle m' i' b) p inner all = (p, (inner, all))

  hold_in_put_action : (m : Option Tests) (o : Option Action) (b : Block) → P m → IfSome o Q → HoldIn b → HoldIn (put_action m o b)
  hold_in_put_action m None b p q all = all
  hold_in_put_action m (Some a) b p q all = hold_in_put m a b p q all

  module _ (tests_of : List ℕ → Tests) (matchers : (name : Directive) (args : List (List ℕ)) → P (chosen_by tests_of name args))
      (actions : (name : Directive) (args : List (List ℕ)) → IfSome (action_of name args) Q) where
    hold_in_put_directive : (o : Option Directive) (args : List (List ℕ)) (b : Block) → HoldIn b → HoldIn (put_directive tests_of o args b)
    hold_in_put_directive None args b all = all
    hold_in_put_directive (Some name) args b all =
        hold_in_put_action (chosen_by tests_of name args) (action_of name (own_args name args)) b (matchers name args) (actions name (own_args name args)) all

    hold_with_statement : (ws : List (List ℕ)) (b : Block) → HoldIn b → HoldIn (with_statement tests_of ws b)
    hold_with_statement [] b all = all
    hold_with_statement (name ∷ args) b all = hold_in_put_directive (directive_named name) args b all

    hold_with_block : (ws : List (List ℕ)) (inside b : Block) → HoldIn inside → HoldIn b → HoldIn (with_block tests_of ws inside b)
    hold_with_block [] inside b inner all = all
    hold_with_block (name ∷ args) inside b inner all =
        either HoldIn (bytes_eq name (codes "handle")) (put_handle (chosen_by tests_of Handle args) inside b) b
        (hold_in_put_handle (chosen_by tests_of Handle args) inside b (matchers Handle args) inner all) all

    -- where the facts hold of what lines choose and say, they hold in the block of any lines
    pub hold_in_block_of : (ls : Lines) → HoldIn (block_of tests_of ls)
    unfolding block_of HoldIn
    hold_in_block_of end = tt
    hold_in_block_of (line n ws after) = hold_with_statement (map spelled ws) (block_of tests_of after) (hold_in_block_of after)
    hold_in_block_of (block n ws is_closed inside after) =
        hold_with_block (map spelled ws) (block_of tests_of inside) (block_of tests_of after) (hold_in_block_of inside) (hold_in_block_of after)

fine-from_parts : (b : Block) → HoldIn AreFineIf IsFine b → IsFineBlock b
unfolding HoldIn IsFineBlock
fine-from_parts done all = tt
fine-from_parts (act m a b) all = (all.0, (all.1.0, fine-from_parts b all.1.1))
fine-from_parts (handle m inside b) all = (all.0, (fine-from_parts inside all.1.0, fine-from_parts b all.1.1))

-- ---- names that are wanted

abbrev Differs : List ℕ → Wanted → Type 0
Differs k w = bytes_eq k w.name ≡ false

differ-with_value : (k name value : List ℕ) (ws : List Wanted) → bytes_eq k name ≡ false → All (λ (o : Wanted). Differs k o) ws →
    All (λ (o : Wanted). Differs k o) (with_value name value ws)
differ-with_value k name value [] differs all = All-cons (λ (o : Wanted). Differs k o) (record { name = name; values = value ∷ [] }) [] differs all
differ-with_value k name value (w ∷ ws) differs all = by (bytes_eq w.name name) (differ-with_value k name value ws differs (All-tail (λ (o : Wanted). Differs k o) w ws all))
  where
    by : (t : Bool) → All (λ (o : Wanted). Differs k o) (with_value name value ws) →
        All (λ (o : Wanted). Differs k o) (if t then record w { values = w.values ++ value ∷ [] } ∷ ws else w ∷ with_value name value ws)
    by true rest =
        All-cons (λ (o : Wanted). Differs k o) (record w { values = w.values ++ value ∷ [] }) ws (All-head (λ (o : Wanted). Differs k o) w ws all) (All-tail (λ (o : Wanted). Differs k o) w ws all)
    by false rest = All-cons (λ (o : Wanted). Differs k o) w (with_value name value ws) (All-head (λ (o : Wanted). Differs k o) w ws all) rest

once-with_value : (name value : List ℕ) (ws : List Wanted) → AreNamedOnce ws → AreNamedOnce (with_value name value ws)
once-with_value name value [] once = (All-nil (λ (o : Wanted). Differs name o), tt)
once-with_value name value (w ∷ ws) once = by (bytes_eq w.name name) refl (once-with_value name value ws once.1)
  where
    by : (t : Bool) → bytes_eq w.name name ≡ t → AreNamedOnce (with_value name value ws) →
        AreNamedOnce (if t then record w { values = w.values ++ value ∷ [] } ∷ ws else w ∷ with_value name value ws)
    by true is rest = once
    by false is rest = (differ-with_value w.name name value ws is once.0, rest)

-- ---- matchers

fine-field_test : (t : Tests) (args : List (List ℕ)) → AreFine t → AreFineIf (field_test t args)
fine-field_test t [] fine = tt
fine-field_test t (name ∷ []) fine = tt
fine-field_test t (name ∷ value ∷ []) fine = (once-with_value name value t.header fine.0, fine.1)
fine-field_test t (name ∷ value ∷ other ∷ others) fine = tt

fine-key_test : (t : Tests) (args : List (List ℕ)) → AreFine t → AreFineIf (key_test t args)
fine-key_test t [] fine = tt
fine-key_test t (pair ∷ []) fine =
    either AreFineIf (list_any is_equals pair) (Some (record t { query = with_value (before_first is_equals pair) (after_first is_equals pair) t.query })) None
    (fine.0, once-with_value (before_first is_equals pair) (after_first is_equals pair) t.query fine.1) tt
fine-key_test t (pair ∷ other ∷ others) fine = tt

fine-kind_and_args : (t : Tests) (kind : List ℕ) (args : List (List ℕ)) → AreFine t → AreFineIf (kind_and_args t kind args)
fine-kind_and_args t kind args fine =
    either AreFineIf (bytes_eq kind (codes "path")) _ _ (mapped AreFineIf (λ all. record t { path = Some all }) (some_more t.path args) tt (λ all. fine))
    (either AreFineIf (bytes_eq kind (codes "method")) _ _ (mapped AreFineIf (λ all. record t { method = Some all }) (some_more t.method args) tt (λ all. fine))
    (either AreFineIf (bytes_eq kind (codes "host")) _ _ (mapped AreFineIf (λ all. record t { host = Some all }) (some_more t.host args) tt (λ all. fine))
    (either AreFineIf (bytes_eq kind (codes "header")) _ _ (fine-field_test t args fine)
    (either AreFineIf (bytes_eq kind (codes "query")) _ _ (fine-key_test t args fine) tt))))

fine-with_line : (t : Tests) (ws : List (List ℕ)) → AreFine t → AreFineIf (with_line t ws)
fine-with_line t [] fine = tt
fine-with_line t (kind ∷ args) fine = fine-kind_and_args t kind args fine

fine-unwrapped : (o : Option Tests) (t : Tests) → AreFineIf o → AreFine t → AreFine (unwrap_or o t)
fine-unwrapped None t is fine = fine
fine-unwrapped (Some u) t is fine = is

fine-tests_at : (matcher : ℕ) (t : Tests) (ls : List TestLine) → AreFine t → AreFine (tests_at matcher t ls)
fine-tests_at matcher t [] fine = fine
fine-tests_at matcher t (l ∷ ls) fine =
    fine-tests_at matcher (if l.matcher == matcher then unwrap_or (with_line t l.words) t else t) ls
    (either AreFine (l.matcher == matcher) (unwrap_or (with_line t l.words) t) t (fine-unwrapped (with_line t l.words) t (fine-with_line t l.words fine) fine) fine)

fine-no_tests : AreFine no_tests
fine-no_tests = (tt, tt)

fine-tests_if : (ls : List TestLine) (o : Option ℕ) → AreFine (tests_if ls o)
fine-tests_if ls None = fine-no_tests
fine-tests_if ls (Some n) = fine-tests_at n no_tests ls fine-no_tests

fine-tests_chosen : (tests_of : List ℕ → Tests) → ((name : List ℕ) → AreFine (tests_of name)) → (choice : Choice) (args : List (List ℕ)) → AreFineIf (tests_chosen tests_of choice args)
fine-tests_chosen tests_of fine choice [] = tt
fine-tests_chosen tests_of fine Unmatched (arg ∷ args) = tt
fine-tests_chosen tests_of fine Everything (arg ∷ args) = tt
fine-tests_chosen tests_of fine ByPath (arg ∷ args) = fine-no_tests
fine-tests_chosen tests_of fine ByName (arg ∷ args) = fine arg

-- ---- actions

abbrev IsFineIf : Option Action → Type 0
IsFineIf o = IfSome o IsFine

fine-vars : (name value : List ℕ) (is_handler is_id : Bool) → bytes_eq name (codes "handler") ≡ is_handler → IsFineIf (if is_handler || is_id then None else Some (vars name value))
fine-vars name value true is_id is = tt
fine-vars name value false true is = tt
fine-vars name value false false is = is

fine-respond_one : (text : List ℕ) (o : Option ℕ) → IsFine (respond_one text o)
fine-respond_one text None = tt
fine-respond_one text (Some code) = tt

fine-action_of : (name : Directive) (args : List (List ℕ)) → IsFineIf (action_of name args)
fine-action_of Vars [] = tt
fine-action_of Vars (name ∷ []) = tt
fine-action_of Vars (name ∷ value ∷ []) = fine-vars name value (bytes_eq name (codes "handler")) (bytes_eq name (codes "@id")) refl
fine-action_of Vars (name ∷ value ∷ other ∷ others) = tt
fine-action_of Header [] = tt
fine-action_of Header (field ∷ []) = either IsFineIf (begins_with 45 field) (Some (delete_field (drop 1 field))) None tt tt
fine-action_of Header (field ∷ value ∷ []) =
    either IsFineIf (begins_with 45 field) None (if begins_with 43 field then Some (add_field (drop 1 field) value) else Some (set_field field value)) tt
    (either IsFineIf (begins_with 43 field) (Some (add_field (drop 1 field) value)) (Some (set_field field value)) tt tt)
fine-action_of Header (field ∷ value ∷ other ∷ others) = tt
fine-action_of Redir [] = tt
fine-action_of Redir (to ∷ []) = tt
fine-action_of Redir (to ∷ code ∷ []) = mapped IsFineIf (λ n. redir to n) (redir_code code) tt (λ n. tt)
fine-action_of Redir (to ∷ code ∷ other ∷ others) = tt
fine-action_of Rewrite [] = tt
fine-action_of Rewrite (to ∷ []) = tt
fine-action_of Rewrite (to ∷ other ∷ others) = tt
fine-action_of Handle args = tt
fine-action_of Respond [] = tt
fine-action_of Respond (text ∷ []) = fine-respond_one text (code_of text)
fine-action_of Respond (body ∷ status ∷ []) = mapped IsFineIf (λ n. respond (Some body) (Some n)) (code_of status) tt (λ n. tt)
fine-action_of Respond (body ∷ status ∷ other ∷ others) = tt

-- ---- sites

fine-block_of : (tests_of : List ℕ → Tests) → ((name : List ℕ) → AreFine (tests_of name)) → (ls : Lines) → IsFineBlock (block_of tests_of ls)
fine-block_of tests_of fine ls =
    fine-from_parts (block_of tests_of ls)
    (hold_in_block_of AreFineIf IsFine tests_of (λ name args. fine-tests_chosen tests_of fine (choice_of name args) args) fine-action_of ls)

fine-put_site : (o : Option Address) (b : Block) (ss : List Site) → IsFineBlock b → AreFineSites ss → AreFineSites (put_site o b ss)
fine-put_site None b ss fine others = others
fine-put_site (Some address) b ss fine others = All-cons (λ (s : Site). IsFineBlock s.block) (record { address = address; block = b }) ss fine others

fine-sites_in : (tests_of : ℕ → List ℕ → Tests) → ((site : ℕ) (name : List ℕ) → AreFine (tests_of site name)) → (ls : Lines) → AreFineSites (sites_in tests_of ls)
unfolding sites_in
fine-sites_in tests_of fine end = All-nil (λ (s : Site). IsFineBlock s.block)
fine-sites_in tests_of fine (line n ws after) = fine-sites_in tests_of fine after
fine-sites_in tests_of fine (block n ws is_closed inside after) =
    fine-put_site (address_of ws) (block_of (tests_of n) inside) (sites_in tests_of after) (fine-block_of (tests_of n) (fine n) inside) (fine-sites_in tests_of fine after)

pub sites_are_fine : (bytes : List ℕ) → AreFineSites (sites bytes)
sites_are_fine bytes =
    let names = walk defined place.File (file_lines bytes) in
    let lines = walk tested place.File (file_lines bytes) in
    fine-sites_in (tests_named names lines) (λ site name. fine-tests_if lines (line_of_matcher site name names)) (file_lines bytes)
