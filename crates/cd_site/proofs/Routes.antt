-- The routes of a block, and those of sites, are read as the routes of its sequence.
use Rattle.std.proofs.Common.{◌≡◌, ℕ, suc, ◌+◌, Bool, true, false, not, ◌&&◌, List, [], ◌∷◌, ◌++◌, Option, Some, None, Result, Ok, Err, refl, sym, ap, ap₂, ◌∙◌, subst, decimal, option_map, unwrap_or}
use Rattle.std.specs.Prelude.{codes, if◌then◌else◌, ⊤}
use Rattle.std.specs.List.{list_all}
use Rattle.std.specs.Str.{bytes_eq}
use Rattle.std.proofs.lemmas.Bool.{and_parts}
use Rattle.cd_text.specs.Steps.{◌▷◌}
use Rattle.cd_tree.specs.Fields.{is_null}
use Rattle.cd_tree.specs.Path.{◌▸◌}
use Rattle.cd_tree.specs.declared.path.Path.{Path}
use Rattle.cd_tree.specs.declared.tree.Member.{Member}
use Rattle.cd_tree.specs.declared.tree.Tree as tree
use Rattle.cd_tree.specs.declared.tree.Tree.{Tree}
use Rattle.cd_module.specs.Settings.{Reader, text, truth, each, list_of, members, optional, name_of}
use Rattle.cd_module.specs.declared.fault.LoadFault.{LoadFault}
use Rattle.cd_match.specs.Matchers.{route_sets}
use Rattle.cd_match.specs.declared.sets.Sets.{Sets}
use Rattle.cd_handlers.specs.Handlers.{handler}
use Rattle.cd_handlers.specs.Invoke.{invoked}
use Rattle.cd_handlers.specs.declared.handler.Handler.{Handler}
use Rattle.cd_routes.proofs.Routes.{routes_are}
use Rattle.cd_routes.specs.Names.{subroute_name}
use Rattle.cd_routes.specs.Reading.{no_sets, name_tested, error_routes, tested_handler, step, route, routes}
use Rattle.cd_routes.specs.Reading as reading
use Rattle.cd_routes.specs.declared.named.KnownName.{KnownName}
use Rattle.cd_routes.specs.declared.route.Route.{Route, roll-Route}
use Rattle.cd_routes.specs.declared.route.Step.{Step}
use Rattle.cd_routes.specs.declared.route.Step.TheVariants as kind
use Rattle.cd_routes.specs.declared.route.Subroute.{roll-Subroute}
use Rattle.cd_caddyfile.specs.Shape as shape
use Rattle.cd_caddyfile.specs.Shape.{Entry, member, object, list, given, set_of, handler_of, is_rewrite, group_of, hosts}
use Rattle.cd_caddyfile.specs.Sites.{Tests, no_tests, Action, Block, done, act, handle, Site}
use Rattle.cd_site.specs.Sequences as sequences
use Rattle.cd_site.specs.Settings.{setting_of, sets_of, sequence_of, group_name, host_sets, block_sequence, site_route, site_routes, all_groups}
use Rattle.cd_site.proofs.Handlers.{handlers_read, name_in, name_read, name_in_other}
use Rattle.cd_site.specs.Ids.{HasFitIds}
use Rattle.cd_site.proofs.Marks.{HaveFitIds, in_list, first_element, other_elements, in_member}
use Rattle.cd_site.proofs.ReadMatchers.{match_read}
use Rattle.cd_site.proofs.Objects.{Went, went, same_value, text_solid, truth_solid, list_solid, text_is, truth_is, list_is, sorted, rolled, value_at, stranger, members_are, there, absent, name_is}
use Rattle.cd_site.specs.Variables.{is_plain, are_plain}

-- ---- members that may be absent

abbrev IsSolid : Option Tree → Type 0
IsSolid None = ⊤
IsSolid (Some t) = is_null t ≡ false

-- what was read where there may be a value
abbrev Reads : {X : Type 0} → Reader X → Option Tree → Path → Option X → Type 0
Reads r None at x = x ≡ None
Reads {X} r (Some t) at x = (y : X) × (r t at ≡ Ok y) × (x ≡ Some y)

pub option_read : {X : Type 0} (r : Reader X) (name : List ℕ) (es : List Entry) (ms : List Member) (at : Path) (o : Option Tree) (x : Option X) → ms ≡ rolled es → value_at name es ≡ o → IsSolid o →
    optional r name ms at ≡ Ok x → Reads r o (at ▸ name) x
option_read r name es ms at None x same found solid h = sym (same_value None x (sym (ap (λ l. optional r name l at) same ∙ absent r name es at found) ∙ h))
option_read r name es ms at (Some t) x same found solid h =
    let one = went (r t (at ▸ name)) (λ y. Ok (Some y)) x (sym (ap (λ l. optional r name l at) same ∙ there r name es at t found solid) ∙ h) in
    (one.value, one.is, sym (same_value _ x one.rest))

text_given : (g : Option (List ℕ)) (at : Path) (x : Option (List ℕ)) → Reads text (option_map (λ t. tree.Text t) g) at x → x ≡ g
text_given None at x h = h
text_given (Some t) at x h = h.2 ∙ ap (λ l. Some l) (sym (same_value t h.0 (sym (text_is t at) ∙ h.1)))

truth_given : (b : Option Bool) (at : Path) (x : Option Bool) → Reads truth (option_map (λ t. tree.Bool t) b) at x → x ≡ b
truth_given None at x h = h
truth_given (Some t) at x h = h.2 ∙ ap (λ l. Some l) (sym (same_value t h.0 (sym (truth_is t at) ∙ h.1)))

text_given_solid : (g : Option (List ℕ)) → IsSolid (option_map (λ t. tree.Text t) g)
text_given_solid None = tt
text_given_solid (Some t) = text_solid t

truth_given_solid : (b : Option Bool) → IsSolid (option_map (λ t. tree.Bool t) b)
truth_given_solid None = tt
truth_given_solid (Some t) = truth_solid t

-- ---- a route

abbrev match_of : Option Tests → Option Tree
match_of m = option_map (λ one. list (set_of one ∷ [])) m

match_solid : (m : Option Tests) → IsSolid (match_of m)
match_solid None = tt
match_solid (Some t) = list_solid _

match_given : (m : Option Tests) (es : List Entry) (at : Path) (x : Option Sets) → value_at (codes "match") (sorted es) ≡ match_of m → HasFitIds (object es) at →
    Reads route_sets (match_of m) (at ▸ codes "match") x → unwrap_or x no_sets ≡ sets_of m
match_given None es at x found fit h = ap (λ o. unwrap_or o no_sets) h
match_given (Some t) es at x found fit h =
    ap (λ o. unwrap_or o no_sets) h.2 ∙ match_read t (at ▸ codes "match") h.0 (in_member (codes "match") es at _ refl found fit) h.1

module _ (known : List KnownName) (inner : Reader (List Route)) where
  -- a route with one step
  pub record RouteRead (g : Option (List ℕ)) (m : Option Tests) (t : Option Bool) (does : Tree) (at : Path) (r : Route) : Type 0 where
    pub one : Step
    pub is : step known inner does (at ▸ codes "handle" ▸ decimal 0) ≡ Ok one
    pub fit : HasFitIds does (at ▸ codes "handle" ▸ decimal 0)
    pub whole : r ≡ roll-Route (record { group = g; matching = sets_of m; handle = one ∷ []; terminal = unwrap_or t false })

  pub route_read : (es : List Entry) (g : Option (List ℕ)) (m : Option Tests) (t : Option Bool) (does : Tree) (at : Path) (r : Route) →
      stranger (codes "group match handle terminal") (sorted es) ≡ None →
      value_at (codes "group") (sorted es) ≡ option_map (λ t. tree.Text t) g →
      value_at (codes "match") (sorted es) ≡ match_of m →
      value_at (codes "handle") (sorted es) ≡ Some (list (does ∷ [])) →
      value_at (codes "terminal") (sorted es) ≡ option_map (λ t. tree.Bool t) t →
      HasFitIds (object es) at → route known inner (object es) at ≡ Ok r → RouteRead g m t does at r
  unfolding route
  route_read es g m t does at r none group_at match_at handle_at terminal_at fit h =
      let ms = went (members (codes "group match handle terminal") (object es) at) _ r h in
      let same : ms.value ≡ rolled (sorted es) = sym (same_value _ ms.value (sym (members_are (codes "group match handle terminal") es at none) ∙ ms.is)) in
      let group = went (optional text (codes "group") ms.value at) _ r ms.rest in
      let matching = went (optional route_sets (codes "match") ms.value at) _ r group.rest in
      let handle = went (optional (list_of (step known inner)) (codes "handle") ms.value at) _ r matching.rest in
      let terminal = went (optional truth (codes "terminal") ms.value at) _ r handle.rest in
      let group_is : group.value ≡ g = text_given g (at ▸ codes "group") group.value (option_read text (codes "group") (sorted es) ms.value at _ group.value same group_at (text_given_solid g) group.is) in
      let match_is = match_given m es at matching.value match_at fit (option_read route_sets (codes "match") (sorted es) ms.value at _ matching.value same match_at (match_solid m) matching.is) in
      let steps = option_read (list_of (step known inner)) (codes "handle") (sorted es) ms.value at _ handle.value same handle_at (list_solid (does ∷ [])) handle.is in
      let terminal_is : terminal.value ≡ t = truth_given t (at ▸ codes "terminal") terminal.value (option_read truth (codes "terminal") (sorted es) ms.value at _ terminal.value same terminal_at (truth_given_solid t) terminal.is) in
      let one = went (step known inner does (at ▸ codes "handle" ▸ decimal 0)) _ steps.0 (sym (list_is (step known inner) (does ∷ []) (at ▸ codes "handle")) ∙ steps.1) in
      let handle_is : unwrap_or handle.value [] ≡ one.value ∷ [] = ap (λ o. unwrap_or o []) steps.2 ∙ sym (same_value _ steps.0 one.rest) in
      record {
        one = one.value;
        is = one.is;
        fit = first_element 0 does [] (at ▸ codes "handle") (in_list (does ∷ []) (at ▸ codes "handle") (in_member (codes "handle") es at (list (does ∷ [])) refl handle_at fit));
        whole = sym (same_value _ r terminal.rest)
            ∙ (ap₂ (λ g' m'. roll-Route (record { group = g'; matching = m'; handle = unwrap_or handle.value []; terminal = unwrap_or terminal.value false })) group_is match_is
            ∙ ap₂ (λ s' t'. roll-Route (record { group = g; matching = sets_of m; handle = s'; terminal = unwrap_or t' false })) handle_is terminal_is);
      }

  -- a step that is a handler
  pub handler_step_read : (a : Action) (at : Path) (s : Step) → is_plain a ≡ true → HasFitIds (handler_of a) at → step known inner (handler_of a) at ≡ Ok s → s ≡ kind.Handler (setting_of a)
  unfolding step tested_handler
  handler_step_read a at s plain fit h =
      let name = went (name_of (codes "handler") (handler_of a) at) _ s h in
      let name_is_it : name.value ≡ name_in a = sym (same_value (name_in a) name.value (sym (name_read a at plain) ∙ name.is)) in
      let tested : tested_handler known (handler_of a) at ≡ Ok s = by (bytes_eq name.value subroute_name) (ap (λ n. bytes_eq n subroute_name) name_is_it ∙ name_in_other a) name.rest in
      let read = went (handler (handler_of a) at) _ s tested in
      let after = went (name_tested known (invoked read.value) at) _ s read.rest in
      sym (same_value _ s after.rest) ∙ ap (λ x. kind.Handler x) (handlers_read a at read.value plain fit read.is)
    where
      by : (b : Bool) → b ≡ false → (if b then (reading.subroute inner (handler_of a) at ▷ λ x. Ok (kind.Subroute x)) else tested_handler known (handler_of a) at) ≡ Ok s → tested_handler known (handler_of a) at ≡ Ok s
      by true other is = cc
      by false other is = is

  -- a step that is a subroute
  pub record SubrouteRead (trees : List Tree) (at : Path) (s : Step) : Type 0 where
    pub inside : List Route
    pub is : inner (list trees) (at ▸ codes "routes") ≡ Ok inside
    pub whole : s ≡ sequences.subroute inside

  abbrev subroute_entries : List Tree → List Entry
  subroute_entries trees = member (codes "handler") (tree.Text (codes "subroute")) ∷ member (codes "routes") (list trees) ∷ []

  subroute_read : (trees : List Tree) (at : Path) (s : Step) → (reading.subroute inner (shape.subroute trees) at ▷ λ x. Ok (kind.Subroute x)) ≡ Ok s → SubrouteRead trees at s
  unfolding reading.subroute
  subroute_read trees at s h =
      let sub = went (reading.subroute inner (shape.subroute trees) at) (λ x. Ok (kind.Subroute x)) s h in
      let ms = went (members (codes "handler routes errors") (shape.subroute trees) at) _ sub.value sub.is in
      let same : ms.value ≡ rolled (sorted (subroute_entries trees)) = sym (same_value _ ms.value (sym (members_are (codes "handler routes errors") (subroute_entries trees) at refl) ∙ ms.is)) in
      let found = went (optional inner (codes "routes") ms.value at) _ sub.value ms.rest in
      let errors = went (optional (error_routes inner) (codes "errors") ms.value at) _ sub.value found.rest in
      let routes = option_read inner (codes "routes") (sorted (subroute_entries trees)) ms.value at (Some (list trees)) found.value same refl (list_solid trees) found.is in
      let none : errors.value ≡ None = option_read (error_routes inner) (codes "errors") (sorted (subroute_entries trees)) ms.value at None errors.value same refl tt errors.is in
      record {
        inside = routes.0;
        is = routes.1;
        whole = sym (same_value _ s sub.rest) ∙ ap (λ x. kind.Subroute x) (sym (same_value _ sub.value errors.rest)
            ∙ ap₂ (λ r e. roll-Subroute (record { routes = unwrap_or r []; errors = e })) routes.2 none);
      }

  pub subroute_step_read : (trees : List Tree) (at : Path) (s : Step) → step known inner (shape.subroute trees) at ≡ Ok s → SubrouteRead trees at s
  unfolding step
  subroute_step_read trees at s h =
      let name = went (name_of (codes "handler") (shape.subroute trees) at) _ s h in
      let name_is_it : name.value ≡ codes "subroute" = sym (same_value (codes "subroute") name.value (sym (name_is (subroute_entries trees) at (codes "subroute") refl) ∙ name.is)) in
      subroute_read trees at s (by (bytes_eq name.value subroute_name) (ap (λ n. bytes_eq n subroute_name) name_is_it) name.rest)
    where
      by : (b : Bool) → b ≡ true → (if b then (reading.subroute inner (shape.subroute trees) at ▷ λ x. Ok (kind.Subroute x)) else tested_handler known (shape.subroute trees) at) ≡ Ok s →
          (reading.subroute inner (shape.subroute trees) at ▷ λ x. Ok (kind.Subroute x)) ≡ Ok s
      by true same is = is
      by false same is = cc

-- ---- the groups of a block and of its sequence

pub same_rewrites : (b : Block) → sequences.has_once (sequence_of b) ≡ shape.rewrites b
unfolding sequence_of shape.rewrites
same_rewrites done = refl
same_rewrites (act m a b) = by (is_rewrite a) (same_rewrites b)
  where
    by : (t : Bool) → sequences.has_once (sequence_of b) ≡ shape.rewrites b →
        sequences.has_once (if t then sequences.once (sets_of m) (setting_of a) (sequence_of b) else sequences.act (sets_of m) (setting_of a) (sequence_of b)) ≡ (if t then true else shape.rewrites b)
    by true is = refl
    by false is = is
same_rewrites (handle m inside b) = same_rewrites b

pub same_handles : (b : Block) → sequences.has_inside (sequence_of b) ≡ shape.handles b
unfolding sequence_of shape.handles
same_handles done = refl
same_handles (act m a b) = by (is_rewrite a) (same_handles b)
  where
    by : (t : Bool) → sequences.has_inside (sequence_of b) ≡ shape.handles b →
        sequences.has_inside (if t then sequences.once (sets_of m) (setting_of a) (sequence_of b) else sequences.act (sets_of m) (setting_of a) (sequence_of b)) ≡ shape.handles b
    by true is = is
    by false is = is
same_handles (handle m inside b) = refl

pub same_groups_inside : (b : Block) → sequences.groups_inside (sequence_of b) ≡ shape.groups_inside b
unfolding sequence_of sequences.groups_inside shape.groups_inside
same_groups_inside done = refl
same_groups_inside (act m a b) = by (is_rewrite a) (same_groups_inside b)
  where
    by : (t : Bool) → sequences.groups_inside (sequence_of b) ≡ shape.groups_inside b →
        sequences.groups_inside (if t then sequences.once (sets_of m) (setting_of a) (sequence_of b) else sequences.act (sets_of m) (setting_of a) (sequence_of b)) ≡ shape.groups_inside b
    by true is = is
    by false is = is
same_groups_inside (handle m inside b) = rw (same_rewrites inside, same_handles inside, same_groups_inside inside, same_groups_inside b) refl

pub same_groups : (b : Block) → sequences.groups_of (sequence_of b) ≡ shape.groups_of b
same_groups b = rw (same_rewrites b, same_handles b, same_groups_inside b) refl

pub same_all_groups : (ss : List Site) → all_groups ss ≡ shape.all_groups ss
unfolding all_groups shape.all_groups
same_all_groups [] = refl
same_all_groups (s ∷ ss) = ap₂ (λ a b. a + b) (same_groups s.block) (same_all_groups ss)

-- ---- the routes of a block

-- the group of a directive, if it has one
abbrev group_for : Bool → ℕ → Option (List ℕ)
group_for t n = if t then Some (group_name n) else None

abbrev route_entries : Bool → ℕ → Option Tests → Tree → List Entry
route_entries t n m does = member (codes "handle") (list (does ∷ [])) ∷ ((if t then shape.group n else []) ++ shape.matching m)

module _ (known : List KnownName) where
  abbrev reader : Reader Route
  reader = route known (routes known)

  in_group : (t : Bool) (n : ℕ) (m : Option Tests) (does : Tree) (at : Path) (r : Route) → HasFitIds (object (route_entries t n m does)) at → reader (object (route_entries t n m does)) at ≡ Ok r →
      RouteRead known (routes known) (group_for t n) m None does at r
  in_group true n None does at r fit h = route_read known (routes known) (route_entries true n None does) (Some (group_name n)) None None does at r refl refl refl refl refl fit h
  in_group true n (Some t) does at r fit h = route_read known (routes known) (route_entries true n (Some t) does) (Some (group_name n)) (Some t) None does at r refl refl refl refl refl fit h
  in_group false n None does at r fit h = route_read known (routes known) (route_entries false n None does) None None None does at r refl refl refl refl refl fit h
  in_group false n (Some t) does at r fit h = route_read known (routes known) (route_entries false n (Some t) does) None (Some t) None does at r refl refl refl refl refl fit h

  act_routes : (t : Bool) (m : Option Tests) (a : Action) (b : Block) (rw1 hd1 n : ℕ) (r : Route) (rs : List Route) →
      r ≡ sequences.route (group_for t rw1) (sets_of m) (kind.Handler (setting_of a)) → rs ≡ sequences.routes_from group_name (sequence_of b) rw1 hd1 n →
      r ∷ rs ≡ sequences.routes_from group_name (if t then sequences.once (sets_of m) (setting_of a) (sequence_of b) else sequences.act (sets_of m) (setting_of a) (sequence_of b)) rw1 hd1 n
  unfolding sequences.routes_from
  act_routes true m a b rw1 hd1 n r rs one others = ap₂ (λ x xs. x ∷ xs) one others
  act_routes false m a b rw1 hd1 n r rs one others = ap₂ (λ x xs. x ∷ xs) one others

  pub block_read : (b : Block) (rw1 hd1 n i : ℕ) (at : Path) (rs : List Route) → are_plain b ≡ true → HaveFitIds i (shape.routes_from b rw1 hd1 n) at →
      each reader i (shape.routes_from b rw1 hd1 n) at ≡ Ok rs → rs ≡ sequences.routes_from group_name (sequence_of b) rw1 hd1 n
  unfolding sequence_of shape.routes_from sequences.routes_from are_plain
  block_read done rw1 hd1 n i at rs plain fit h = sym (same_value [] rs h)
  block_read (act m a b) rw1 hd1 n i at rs plain fit h =
      let plains = and_parts (is_plain a) (are_plain b) plain in
      let one = went (reader (shape.route (group_of a rw1) m (handler_of a)) (at ▸ decimal i)) _ rs h in
      let more = went (each reader (suc i) (shape.routes_from b rw1 hd1 n) at) _ rs one.rest in
      let read = in_group (is_rewrite a) rw1 m (handler_of a) (at ▸ decimal i) one.value (first_element i _ _ at fit) one.is in
      let does : read.one ≡ kind.Handler (setting_of a) = handler_step_read known (routes known) a (at ▸ decimal i ▸ codes "handle" ▸ decimal 0) read.one plains.0 read.fit read.is in
      sym (same_value _ rs more.rest)
      ∙ act_routes (is_rewrite a) m a b rw1 hd1 n one.value more.value
      (read.whole ∙ ap (λ s. sequences.route (group_for (is_rewrite a) rw1) (sets_of m) s) does)
      (block_read b rw1 hd1 n (suc i) at more.value plains.1 (other_elements i _ _ at fit) more.is)
  block_read (handle m inside b) rw1 hd1 n i at rs plain fit h =
      let plains = and_parts (are_plain inside) (are_plain b) plain in
      let trees = shape.routes_from inside n (n + shape.one_if (shape.rewrites inside)) (n + shape.one_if (shape.rewrites inside) + shape.one_if (shape.handles inside)) in
      let one = went (reader (shape.route (shape.group hd1) m (shape.subroute trees)) (at ▸ decimal i)) _ rs h in
      let more = went (each reader (suc i) (shape.routes_from b rw1 hd1 (n + shape.groups_of inside)) at) _ rs one.rest in
      let read = in_group true hd1 m (shape.subroute trees) (at ▸ decimal i) one.value (first_element i _ _ at fit) one.is in
      let place = at ▸ decimal i ▸ codes "handle" ▸ decimal 0 in
      let sub = subroute_step_read known (routes known) trees place read.one read.is in
      let inner_fit = in_list trees (place ▸ codes "routes") (in_member (codes "routes") (member (codes "handler") (tree.Text (codes "subroute")) ∷ member (codes "routes") (list trees) ∷ []) place (list trees) refl refl read.fit) in
      let inner : sub.inside ≡ sequences.routes_from group_name (sequence_of inside) n (n + shape.one_if (shape.rewrites inside)) (n + shape.one_if (shape.rewrites inside) + shape.one_if (shape.handles inside)) =
      block_read inside n (n + shape.one_if (shape.rewrites inside)) (n + shape.one_if (shape.rewrites inside) + shape.one_if (shape.handles inside)) 0 (place ▸ codes "routes") sub.inside plains.0 inner_fit
      (sym (routes_are known (list trees) (place ▸ codes "routes") ∙ list_is reader trees (place ▸ codes "routes")) ∙ sub.is) in
      let others = block_read b rw1 hd1 (n + shape.groups_of inside) (suc i) at more.value plains.1 (other_elements i _ _ at fit) more.is in
      rw (same_rewrites inside, same_handles inside, same_groups_inside inside)
      (sym (same_value _ rs more.rest)
      ∙ ap₂ (λ x xs. x ∷ xs) (read.whole ∙ ap (λ s. sequences.route (Some (group_name hd1)) (sets_of m) s) (sub.whole ∙ ap sequences.subroute inner)) others)

  -- ---- the routes of sites

  abbrev site_entries : List Tree → Option (List ℕ) → List Entry
  site_entries trees host = member (codes "handle") (list (shape.subroute trees ∷ [])) ∷ (member (codes "terminal") (tree.Bool true) ∷ hosts host)

  abbrev host_tests : Option (List ℕ) → Option Tests
  host_tests None = None
  host_tests (Some host) = Some (record no_tests { host = Some (host ∷ []) })

  host_sets_are : (host : Option (List ℕ)) → sets_of (host_tests host) ≡ host_sets host
  host_sets_are None = refl
  host_sets_are (Some host) = refl

  of_site : (trees : List Tree) (host : Option (List ℕ)) (at : Path) (r : Route) → HasFitIds (object (site_entries trees host)) at → reader (object (site_entries trees host)) at ≡ Ok r →
      RouteRead known (routes known) None (host_tests host) (Some true) (shape.subroute trees) at r
  of_site trees None at r fit h = route_read known (routes known) (site_entries trees None) None None (Some true) (shape.subroute trees) at r refl refl refl refl refl fit h
  of_site trees (Some host) at r fit h = route_read known (routes known) (site_entries trees (Some host)) None (host_tests (Some host)) (Some true) (shape.subroute trees) at r refl refl refl refl refl fit h

  site_read : (s : Site) (n : ℕ) (at : Path) (r : Route) → are_plain s.block ≡ true → HasFitIds (shape.site_route s n) at → reader (shape.site_route s n) at ≡ Ok r → r ≡ site_route group_name s n
  site_read s n at r plain fit h =
      let b = s.block in
      let trees = shape.routes_of b n in
      let read = of_site trees s.address.host at r fit h in
      let place = at ▸ codes "handle" ▸ decimal 0 in
      let sub = subroute_step_read known (routes known) trees place read.one read.is in
      let inner_fit = in_list trees (place ▸ codes "routes") (in_member (codes "routes") (member (codes "handler") (tree.Text (codes "subroute")) ∷ member (codes "routes") (list trees) ∷ []) place (list trees) refl refl read.fit) in
      let inner = block_read b n (n + shape.one_if (shape.rewrites b)) (n + shape.one_if (shape.rewrites b) + shape.one_if (shape.handles b)) 0 (place ▸ codes "routes") sub.inside plain inner_fit
      (sym (routes_are known (list trees) (place ▸ codes "routes") ∙ list_is reader trees (place ▸ codes "routes")) ∙ sub.is) in
      rw (same_rewrites b, same_handles b)
      (read.whole ∙ ap₂ (λ m s'. roll-Route (record { group = None; matching = m; handle = s' ∷ []; terminal = true })) (host_sets_are s.address.host) (sub.whole ∙ ap sequences.subroute inner))

  sites_read : (ss : List Site) (n i : ℕ) (at : Path) (rs : List Route) → list_all (λ s. are_plain s.block) ss ≡ true → HaveFitIds i (shape.site_routes ss n) at →
      each reader i (shape.site_routes ss n) at ≡ Ok rs → rs ≡ site_routes group_name ss n
  unfolding shape.site_routes site_routes
  sites_read [] n i at rs plain fit h = sym (same_value [] rs h)
  sites_read (s ∷ ss) n i at rs plain fit h =
      let plains = and_parts (are_plain s.block) (list_all (λ s. are_plain s.block) ss) plain in
      let one = went (reader (shape.site_route s n) (at ▸ decimal i)) _ rs h in
      let more = went (each reader (suc i) (shape.site_routes ss (n + shape.groups_of s.block)) at) _ rs one.rest in
      rw (same_groups s.block)
      (sym (same_value _ rs more.rest) ∙ ap₂ (λ x xs. x ∷ xs) (site_read s n (at ▸ decimal i) one.value plains.0 (first_element i _ _ at fit) one.is)
      (sites_read ss (n + shape.groups_of s.block) (suc i) at more.value plains.1 (other_elements i _ _ at fit) more.is))

  pub routes_read : (ss : List Site) (n : ℕ) (at : Path) (rs : List Route) → list_all (λ s. are_plain s.block) ss ≡ true → HasFitIds (list (shape.site_routes ss n)) at →
      routes known (list (shape.site_routes ss n)) at ≡ Ok rs → rs ≡ site_routes group_name ss n
  routes_read ss n at rs plain fit h = sites_read ss n 0 at rs plain (in_list (shape.site_routes ss n) at fit)
      (sym (routes_are known (list (shape.site_routes ss n)) at ∙ list_is reader (shape.site_routes ss n) at) ∙ h)
