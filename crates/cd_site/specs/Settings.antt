-- The settings that the directives of a block come to.
use Rattle.std.specs.Prelude.{◌≡◌, ℕ, ◌+◌, Bool, true, false, if◌then◌else◌, List, [], ◌∷◌, ◌++◌, map, codes, decimal, Option, Some, None}
use Rattle.http_header.specs.Token.{lowercase}
use Rattle.cd_module.specs.Patterns.{pattern_of}
use Rattle.cd_module.specs.declared.pattern.Pattern.{Pattern}
use Rattle.cd_handlers.specs.Headers.{no_changes}
use Rattle.cd_handlers.specs.declared.field_values.FieldValues.{FieldValues}
use Rattle.cd_handlers.specs.declared.handler.Handler.{Handler}
use Rattle.cd_handlers.specs.declared.handler.Handler.TheVariants as kind
use Rattle.cd_fill.specs.declared.scene.Scene.{Scene}
use Rattle.cd_text.specs.ByKey.{by_key}
use Rattle.cd_match.specs.Holds as match
use Rattle.cd_match.specs.declared.header.FieldTest.{FieldTest}
use Rattle.cd_match.specs.declared.matcher.Matcher.{Matcher, Host, Path as ByPath, Method, Header, Query}
use Rattle.cd_match.specs.declared.matcher.MatcherSet.{roll-MatcherSet}
use Rattle.cd_match.specs.declared.path.PathPattern.{PathPattern}
use Rattle.cd_match.specs.declared.query.KeyTest.{KeyTest}
use Rattle.cd_match.specs.declared.sets.Sets.{Sets}
use Rattle.cd_routes.specs.declared.route.Route.{Route, roll-Route}
use Rattle.cd_site.specs.Sequences as sequences
use Rattle.cd_site.specs.Sequences.{Sequence}
use Rattle.cd_caddyfile.specs.Sites.{Wanted, Tests, Action, vars, set_field, add_field, delete_field, redir, rewrite, respond, Block, done, act, handle, Site}
use Rattle.cd_caddyfile.specs.Shape.{is_rewrite}
use Rattle.cd_site.specs.Answering.{answering, rewriting, holds}

abbrev pub one_field : List ℕ → List ℕ → List FieldValues
one_field name value = record { name = lowercase name; values = value ∷ [] } ∷ []

-- `headers` with these changes of the answer
abbrev pub answer_changes : List FieldValues → List FieldValues → List Pattern → Bool → Handler
answer_changes add set delete deferred =
    kind.Headers (record { request = no_changes; response = record { changes = record { add = add; set = set; delete = delete }; deferred = deferred } })

unfoldable pub setting_of : Action → Handler
setting_of (vars name value) = kind.Vars (record { settings = record { name = name; text = value } ∷ [] })
setting_of (set_field name value) = answer_changes [] (one_field name value) [] false
setting_of (add_field name value) = answer_changes (one_field name value) [] [] false
setting_of (delete_field name) = answer_changes [] [] (pattern_of name ∷ []) true
setting_of (redir to code) = kind.StaticResponse (answering (record { name = codes "location"; values = to ∷ [] } ∷ []) None (Some code))
setting_of (rewrite to) = kind.Rewrite (rewriting to)
setting_of (respond body code) = kind.StaticResponse (answering [] body code)

-- ---- matchers

abbrev pub by_name : List Wanted → List Wanted
by_name ws = by_key (λ w. w.name) ws

abbrev pub field_test : Wanted → FieldTest
field_test w = record { name = w.name; patterns = Some (map pattern_of w.values) }

abbrev pub key_test : Wanted → KeyTest
key_test w = record { key = w.name; values = w.values }

abbrev pub path_pattern : List ℕ → PathPattern
path_pattern text = record { pattern = pattern_of text }

abbrev pub given : Option (List (List ℕ)) → (List (List ℕ) → Matcher) → List Matcher
given None matcher = []
given (Some all) matcher = matcher all ∷ []

abbrev pub header_given : List Wanted → List Matcher
header_given [] = []
header_given (w ∷ ws) = Header (record { tests = map field_test (by_name (w ∷ ws)) }) ∷ []

abbrev pub query_given : List Wanted → List Matcher
query_given [] = []
query_given (w ∷ ws) = Query (record { tests = map key_test (by_name (w ∷ ws)) }) ∷ []

-- the matchers of a set, by rising name
abbrev pub matchers_of : Tests → List Matcher
matchers_of t = header_given t.header ++ (given t.host (λ all. Host (record { patterns = all }))
    ++ (given t.method (λ all. Method (record { methods = all }))
    ++ (given t.path (λ all. ByPath (record { patterns = map path_pattern all })) ++ query_given t.query)))

abbrev pub sets_of : Option Tests → Sets
sets_of None = record { sets = [] }
sets_of (Some t) = record { sets = roll-MatcherSet (record { matchers = matchers_of t }) ∷ [] }

-- ---- blocks

-- the sequence of a block: of its `rewrite`s one alone is done, and of its `handle`s
unfoldable pub sequence_of : Block → Sequence
sequence_of done = sequences.done
sequence_of (act m a b) = if is_rewrite a then sequences.once (sets_of m) (setting_of a) (sequence_of b) else sequences.act (sets_of m) (setting_of a) (sequence_of b)
sequence_of (handle m inside b) = sequences.inside (sets_of m) (sequence_of inside) (sequence_of b)

-- ---- sites

abbrev pub host_sets : Option (List ℕ) → Sets
host_sets None = record { sets = [] }
host_sets (Some host) = record { sets = roll-MatcherSet (record { matchers = Host (record { patterns = host ∷ [] }) ∷ [] }) ∷ [] }

-- the name of a group
abbrev pub group_name : ℕ → List ℕ
group_name n = codes "group" ++ decimal n

abbrev pub block_sequence : Site → Sequence
block_sequence s = sequence_of s.block

-- a terminal route for each site
abbrev pub site_route : (ℕ → List ℕ) → Site → ℕ → Route
site_route name s n = roll-Route (record {
  group = None;
  matching = host_sets s.address.host;
  handle = sequences.subroute (sequences.routes_of name (block_sequence s) n) ∷ [];
  terminal = true;
})

unfoldable pub site_routes : (ℕ → List ℕ) → List Site → ℕ → List Route
site_routes name [] n = []
site_routes name (s ∷ ss) n = site_route name s n ∷ site_routes name ss (n + sequences.groups_of (block_sequence s))

unfoldable pub all_groups : List Site → ℕ
all_groups [] = 0
all_groups (s ∷ ss) = sequences.groups_of (block_sequence s) + all_groups ss
