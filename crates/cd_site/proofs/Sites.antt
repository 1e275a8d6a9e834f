-- The routes of the sites of a port answer as the sites do.
use Rattle.std.proofs.Common.{◌≡◌, ℕ, ◌+◌, ◌≤◌, Bool, true, false, not, ◌&&◌, ◌||◌, if◌then◌else◌, List, [], ◌∷◌, map, Option, Some, None, refl, ap, ◌∙◌, ◌^◌, drop, arith, option_map}
use Rattle.std.specs.Prelude.{find}
use Rattle.std.specs.List.{list_all}
use Rattle.std.proofs.lemmas.Fmt.{decimal_injective}
use Rattle.cd_wire.specs.declared.request.Request.{Request}
use Rattle.cd_fill.specs.declared.scene.Scene.{Scene}
use Rattle.cd_fill.specs.Scene.{scene_of}
use Rattle.cd_fill.specs.Values.{bare_host}
use Rattle.cd_match.specs.Holds as match
use Rattle.cd_match.specs.Holds.{matcher_holds, set_holds}
use Rattle.cd_match.specs.Host.{host_fits}
use Rattle.cd_match.specs.declared.matcher.Matcher.{Host}
use Rattle.cd_match.specs.declared.matcher.MatcherSet.{roll-MatcherSet, out-roll-MatcherSet}
use Rattle.cd_handlers.specs.Status.{usual_status}
use Rattle.cd_routes.specs.Running.{Named, bare_answer, nothing_left, in_order, caught, is_taken, with_group, run_route, run_routes, run_steps}
use Rattle.cd_routes.specs.Named.{named_routes}
use Rattle.cd_routes.specs.Serving.{settled as answer_of, answer_with, server_answer}
use Rattle.cd_routes.specs.declared.server.Server.{Server}
use Rattle.cd_routes.specs.declared.outcome.Outcome.{Outcome}
use Rattle.cd_routes.specs.declared.route.Route.{Route, out-roll-Route}
use Rattle.cd_routes.specs.declared.route.Subroute.{roll-Subroute, out-roll-Subroute}
use Rattle.cd_routes.proofs.Equations.{run_route_is, run_subroute_is, routes_more}
use Rattle.cd_caddyfile.specs.Shape.{sites_at}
use Rattle.cd_caddyfile.specs.Sites.{Block, Site}
use Rattle.cd_site.proofs.Blind.{sequences_are_blind}
use Rattle.cd_site.proofs.Heart.{routes_mean}
use Rattle.cd_site.specs.Sequences as sequences
use Rattle.cd_site.specs.Sequences.{AreDistinct}
use Rattle.cd_site.specs.Answering.{host_is, answered_by, does, settled, site_answer}
use Rattle.cd_site.specs.Settings.{group_name, sequence_of, host_sets, block_sequence, site_route, site_routes, all_groups}
use Rattle.cd_site.proofs.Errors.{errors_stay, settled_same}
use Rattle.cd_site.proofs.Matchers.{host_matcher_is}
use Rattle.cd_site.proofs.Blocks.{blocks_are_sequences, blocks_have_no_invoke}

and_true : (b : Bool) → (b && true) ≡ b
and_true true = refl
and_true false = refl

or_false : (b : Bool) → (b || false) ≡ b
or_false true = refl
or_false false = refl

hosts_hold : (host : Option (List ℕ)) (x : Scene) → match.holds (host_sets host) x ≡ host_is host x
unfolding match.holds
hosts_hold None x = refl
hosts_hold (Some host) x = or_false (set_holds x (roll-MatcherSet (record { matchers = Host (record { patterns = host ∷ [] }) ∷ [] })))
    ∙ (ap (λ s. list_all (matcher_holds x) s.matchers) (out-roll-MatcherSet (record { matchers = Host (record { patterns = host ∷ [] }) ∷ [] }))
    ∙ (and_true (matcher_holds x (Host (record { patterns = host ∷ [] }))) ∙ (host_matcher_is x (record { patterns = host ∷ [] }) ∙ or_false (host_fits host (bare_host x.host)))))

-- ---- a site's route

route_does : (named : Named) (name : ℕ → List ℕ) (s : Site) (n : ℕ) (rs : List Route) (x : Scene) →
    run_routes named (site_route name s n ∷ rs) nothing_left x
    ≡ (if match.holds (host_sets s.address.host) x && true then run_routes named (sequences.routes_of name (block_sequence s) n) nothing_left x else run_routes named rs nothing_left x)
unfolding in_order caught
route_does named name s n rs x = routes_more named (site_route name s n) rs nothing_left x ∙ (run_route_is named (site_route name s n) (run_routes named rs nothing_left) x
    ∙ (ap (λ r. if match.holds r.matching x && not (is_taken r.group x)
    then run_steps named r.handle (if r.terminal then nothing_left else run_routes named rs nothing_left) (with_group r.group x) else run_routes named rs nothing_left x)
    (out-roll-Route (record { group = None; matching = host_sets s.address.host; handle = sequences.subroute (sequences.routes_of name (block_sequence s) n) ∷ []; terminal = true }))
    ∙ ap (λ o. if match.holds (host_sets s.address.host) x && true then o else run_routes named rs nothing_left x)
    (run_subroute_is named (roll-Subroute (record { routes = sequences.routes_of name (block_sequence s) n; errors = None })) nothing_left x
    ∙ ap (λ r. caught (option_map (map (run_route named)) r.errors) nothing_left (run_routes named r.routes nothing_left x))
    (out-roll-Subroute (record { routes = sequences.routes_of name (block_sequence s) n; errors = None })))))

block_answers : (named : Named) (name : ℕ → List ℕ) (limit : ℕ) → AreDistinct name limit → (b : Block) (n : ℕ) (x : Scene) → n + sequences.groups_of (sequence_of b) ≤ limit →
    x.groups ≡ [] → x.error ≡ None → answer_of named None (run_routes named (sequences.routes_of name (sequence_of b) n) nothing_left x) ≡ settled (does b false false x [])
block_answers named name limit names b n x room none fine =
    routes_mean named name limit names (sequence_of b) n x (sequences_are_blind (sequence_of b) (blocks_have_no_invoke b)) room none
    ∙ settled_same _ _ (blocks_are_sequences b false false x []) (errors_stay b false false None x [] fine)

-- ---- the sites of a port

chosen : (named : Named) (s t : Bool) (a b : Outcome) (site : Site) (other : Option Site) (x : Scene) → s ≡ t → answer_of named None a ≡ answered_by (Some site) x → answer_of named None b ≡ answered_by other x →
    answer_of named None (if s then a else b) ≡ answered_by (if t then Some site else other) x
chosen named s t a b site other x same one two = ap (λ u. answer_of named None (if u then a else b)) same ∙ by t
  where
    by : (u : Bool) → answer_of named None (if u then a else b) ≡ answered_by (if u then Some site else other) x
    by true = one
    by false = two

sites_answer : (named : Named) (name : ℕ → List ℕ) (limit : ℕ) → AreDistinct name limit → (ss : List Site) (n : ℕ) (x : Scene) → n + all_groups ss ≤ limit →
    x.groups ≡ [] → x.error ≡ None → answer_of named None (run_routes named (site_routes name ss n) nothing_left x) ≡ answered_by (find (λ s. host_is s.address.host x) ss) x
unfolding site_routes all_groups in_order nothing_left
sites_answer named name limit names [] n x room none fine = ap (λ e. bare_answer (usual_status e) x) fine
sites_answer named name limit names (s ∷ ss) n x room none fine =
    ap (answer_of named None) (route_does named name s n (site_routes name ss (n + sequences.groups_of (block_sequence s))) x)
    ∙ chosen named (match.holds (host_sets s.address.host) x && true) (host_is s.address.host x) _ _ s (find (λ t. host_is t.address.host x) ss) x
    (and_true (match.holds (host_sets s.address.host) x) ∙ hosts_hold s.address.host x)
    (block_answers named name limit names s.block n x (omega (arith, room)) none fine)
    (sites_answer named name limit names ss (n + sequences.groups_of (block_sequence s)) x (omega (arith, room)) none fine)

-- ---- the names of groups

groups_are_distinct : AreDistinct group_name (2 ^ 64)
groups_are_distinct = record { distinct = λ k g low below same. decimal_injective k g low below (ap (drop 5) same) }

-- ---- a server

pub server_answers : (sites : List Site) (port n : ℕ) (server : Server) (q : Request) → n + all_groups (sites_at port sites) ≤ 2 ^ 64 →
    server.routes ≡ site_routes group_name (sites_at port sites) n → server.errors ≡ None → server_answer server q ≡ site_answer sites port q
unfolding answer_with
server_answers sites port n server q room routes errors =
    ap (λ e. answer_of (named_routes server.named) e (run_routes (named_routes server.named) server.routes nothing_left (scene_of q))) errors
    ∙ (ap (λ rs. answer_of (named_routes server.named) None (run_routes (named_routes server.named) rs nothing_left (scene_of q))) routes
    ∙ sites_answer (named_routes server.named) group_name (2 ^ 64) groups_are_distinct (sites_at port sites) n (scene_of q) room refl refl)
