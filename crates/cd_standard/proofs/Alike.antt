-- What was compiled does what its configuration does.
use Rattle.std.proofs.Common.{◌≡◌, ℕ, List, [], ◌∷◌, ◌++◌, map, Bool, true, false, Option, Some, None, is_some, cond, refl, sym, ap, ap₂, ◌∙◌}
use Rattle.std.specs.Prelude.{◌||◌, if◌then◌else◌, option_map}
use Rattle.std.specs.List.{find, flat_map, list_any}
use Rattle.std.proofs.lemmas.List.{append_assoc, map-append}
use Rattle.std.proofs.lemmas.List.Concat.{flat_map-cons}
use Rattle.cd_outside.specs.declared.address.Address.{Address}
use Rattle.cd_addr.specs.Addresses.{is_address}
use Rattle.cd_wire.specs.declared.answer.Answer.{Answer}
use Rattle.cd_wire.specs.declared.request.Request.{Request}
use Rattle.cd_fill.specs.Scene.{scene_of}
use Rattle.cd_routes.specs.Serving.{server_answer}
use Rattle.cd_routes.specs.declared.server.Server.{Server}
use Rattle.cd_chain.specs.Chains.{IsMadeOf, chain_answer}
use Rattle.cd_chain.proofs.Standing.{answers_alike}
use Rattle.cd_module_set.specs.Acts.{DoAlike, by_app}
use Rattle.cd_module_set.specs.declared.target.Line.{Line}
use Rattle.cd_module_set.specs.declared.target.Target.{Target}
use Rattle.cd_module_set.specs.declared.target.Target.TheVariants.{Admin, App, Nobody}
use Rattle.cd_echo.specs.Echo.{echo_answer}
use Rattle.cd_log.specs.Lines.{access_lines}
use Rattle.cd_log.specs.declared.logs.Logs.{Logs}
use Rattle.cd_standard.specs.Acting as acting
use Rattle.cd_standard.specs.Loading as loading
use Rattle.cd_standard.specs.Compiled.{ServerActs, AppActs, acts_of_server, acts_compiled, acts_of_app, acts_compiled_app, compiled_acts}
use Rattle.cd_standard.specs.Compiled as compiled
use Rattle.cd_standard.specs.declared.app.App as app
use Rattle.cd_standard.specs.declared.compiled.Compiled.{Compiled}
use Rattle.cd_standard.specs.declared.compiled.CompiledApp.{CompiledApp}
use Rattle.cd_standard.specs.declared.compiled.CompiledServer.{CompiledServer}
use Rattle.cd_standard.specs.declared.configuration.Configuration.{Configuration}

-- ---- a server

acts_named : (server : Server) (answer : Request → Answer) → ServerActs
acts_named server answer = record { name = server.name; listen = server.listen; answer = answer; logs = server.logs }

same_answers : (f g : Request → Answer) → ((request : Request) → f request ≡ g request) → f ≡ g
same_answers f g same = λ i request. same request i

pub server_alike : (server : Server) (made : CompiledServer) → made.name ≡ server.name → made.listen ≡ server.listen → made.logs ≡ server.logs → IsMadeOf made.chain server → acts_compiled made ≡ acts_of_server server
server_alike server made name listen logs stands =
    let answers : (λ request. chain_answer made.chain (scene_of request)) ≡ (λ request. server_answer server request)
    = same_answers (λ request. chain_answer made.chain (scene_of request)) (λ request. server_answer server request) (λ request. answers_alike made.chain server (scene_of request) stands) in
    λ i. record { name = name i; listen = listen i; answer = answers i; logs = logs i }

-- ---- one after another

-- after one element more
pub one_alike : {X Y Z : Type 0} (f : X → Z) (g : Y → Z) (made : List X) (left others : List Y) (x : X) (y : Y) (all : List Z) → left ≡ y ∷ others → f x ≡ g y
    → map f made ++ map g left ≡ all → map f (made ++ x ∷ []) ++ map g others ≡ all
one_alike f g made left others x y all is same before =
    ap (λ zs. zs ++ map g others) (map-append f made (x ∷ [])) ∙ append_assoc (map f made) (f x ∷ []) (map g others)
    ∙ ap (λ z. map f made ++ z ∷ map g others) same ∙ sym (ap (λ ys. map f made ++ map g ys) is) ∙ before

-- ---- what is seen of apps

found : {X : Type 0} (p : ServerActs → Bool) (f : X → ServerActs) (xs : List X) → option_map f (find (λ x. p (f x)) xs) ≡ find p (map f xs)
found p f [] = refl
found p f (x ∷ xs) = by (p (f x)) (found p f xs)
  where
    by : (b : Bool) → option_map f (find (λ x. p (f x)) xs) ≡ find p (map f xs) → option_map f (cond b (Some x) (find (λ x. p (f x)) xs)) ≡ cond b (Some (f x)) (find p (map f xs))
    by true later = refl
    by false later = later

-- the servers of all apps, by what is seen of them
all_seen : {A X : Type 0} (f : X → ServerActs) (servers : A → List X) (seen : A → AppActs) (apps : List A) → ((a : A) → map f (servers a) ≡ (seen a).servers)
    → map f (flat_map servers apps) ≡ flat_map (λ (s : AppActs). s.servers) (map seen apps)
all_seen f servers seen [] each = refl
all_seen f servers seen (a ∷ apps) each =
    ap (map f) (flat_map-cons servers a apps) ∙ map-append f (servers a) (flat_map servers apps) ∙ ap₂ (λ xs ys. xs ++ ys) (each a) (all_seen f servers seen apps each)
    ∙ sym (flat_map-cons (λ (s : AppActs). s.servers) (seen a) (map seen apps))

any_seen : {A : Type 0} (at : Address) (echoes : A → Bool) (seen : A → AppActs) (apps : List A) → ((a : A) → echoes a ≡ (seen a).echoes at)
    → list_any echoes apps ≡ list_any (λ (s : AppActs). s.echoes at) (map seen apps)
any_seen at echoes seen [] each = refl
any_seen at echoes seen (a ∷ apps) each = ap₂ (λ x y. x || y) (each a) (any_seen at echoes seen apps each)

-- a server has the address
abbrev has : Address → ServerActs → Bool
has at s = is_address at acting.stdio_address || acting.listens_at at s.listen

servers_seen : (made : List CompiledApp) (apps : List app.App) → map acts_compiled_app made ≡ map acts_of_app apps → map acts_compiled (flat_map compiled.app_servers made) ≡ map acts_of_server (flat_map loading.app_servers apps)
servers_seen made apps same =
    all_seen acts_compiled compiled.app_servers acts_compiled_app made (λ a. refl) ∙ ap (flat_map (λ (s : AppActs). s.servers)) same
    ∙ sym (all_seen acts_of_server loading.app_servers acts_of_app apps (λ a. refl))

found_alike : (at : Address) (made : List CompiledApp) (apps : List app.App) → map acts_compiled_app made ≡ map acts_of_app apps
    → option_map acts_compiled (find (compiled.has_address at) (flat_map compiled.app_servers made)) ≡ option_map acts_of_server (find (acting.has_address at) (flat_map loading.app_servers apps))
found_alike at made apps same =
    found (has at) acts_compiled (flat_map compiled.app_servers made) ∙ ap (find (has at)) (servers_seen made apps same)
    ∙ sym (found (has at) acts_of_server (flat_map loading.app_servers apps))

echoes_alike : (at : Address) (made : List CompiledApp) (apps : List app.App) → map acts_compiled_app made ≡ map acts_of_app apps → list_any (compiled.echoes_at at) made ≡ list_any (acting.echoes_at at) apps
echoes_alike at made apps same =
    any_seen at (compiled.echoes_at at) acts_compiled_app made (λ a. refl) ∙ ap (list_any (λ (s : AppActs). s.echoes at)) same
    ∙ sym (any_seen at (acting.echoes_at at) acts_of_app apps (λ a. refl))

-- ---- what is seen of who answers

is_some_seen : {X : Type 0} (f : X → ServerActs) (o : Option X) → is_some o ≡ is_some (option_map f o)
is_some_seen f None = refl
is_some_seen f (Some x) = refl

abbrev answer_seen : Option ServerActs → Request → Answer
answer_seen None request = echo_answer request
answer_seen (Some s) request = s.answer request

answer_compiled : (o : Option CompiledServer) (request : Request) → compiled.answer_by o request ≡ answer_seen (option_map acts_compiled o) request
answer_compiled None request = refl
answer_compiled (Some s) request = refl

answer_configured : (o : Option Server) (request : Request) → acting.answer_by o request ≡ answer_seen (option_map acts_of_server o) request
answer_configured None request = refl
answer_configured (Some s) request = refl

abbrev lines_seen : Logs → Target → Option ServerActs → Request → Answer → List Line
lines_seen logs App (Some s) request answer = if s.logs then access_lines logs s.name request answer else []
lines_seen logs App None request answer = []
lines_seen logs Admin o request answer = []
lines_seen logs Nobody o request answer = []

lines_compiled : (logs : Logs) (target : Target) (o : Option CompiledServer) (request : Request) (answer : Answer) → compiled.lines_of logs target o request answer ≡ lines_seen logs target (option_map acts_compiled o) request answer
lines_compiled logs App (Some s) request answer = refl
lines_compiled logs App None request answer = refl
lines_compiled logs Admin o request answer = refl
lines_compiled logs Nobody o request answer = refl

lines_configured : (logs : Logs) (target : Target) (o : Option Server) (request : Request) (answer : Answer) → acting.lines_of logs target o request answer ≡ lines_seen logs target (option_map acts_of_server o) request answer
lines_configured logs App (Some s) request answer = refl
lines_configured logs App None request answer = refl
lines_configured logs Admin o request answer = refl
lines_configured logs Nobody o request answer = refl

-- ---- the whole

targets_alike : (made : Compiled) (c : Configuration) (at : Address) → made.admin ≡ c.admin → map acts_compiled_app made.apps ≡ map acts_of_app c.apps → compiled.target_at made at ≡ acting.target_at c at
targets_alike made c at admin same =
    let one : is_some (compiled.server_at made at) ≡ is_some (acting.server_at c at)
    = is_some_seen acts_compiled (compiled.server_at made at) ∙ ap is_some (found_alike at made.apps c.apps same) ∙ sym (is_some_seen acts_of_server (acting.server_at c at)) in
    let two : compiled.echo_at made at ≡ acting.echo_at c at = echoes_alike at made.apps c.apps same in
    let rest : (if is_some (compiled.server_at made at) || compiled.echo_at made at then App else Nobody) ≡ (if is_some (acting.server_at c at) || acting.echo_at c at then App else Nobody)
    = ap₂ (λ (s e : Bool). if s || e then App else Nobody) one two in
    let first : compiled.admin_at made at ≡ acting.admin_at c at = ap (λ a. acting.admin_at (record { admin = a; apps = c.apps; logs = c.logs }) at) admin in
    ap₂ (λ (b : Bool) (t : Target). if b then Admin else t) first rest

answers_seen_alike : (made : Compiled) (c : Configuration) (at : Address) (request : Request) → map acts_compiled_app made.apps ≡ map acts_of_app c.apps
    → compiled.answer_by (compiled.server_at made at) request ≡ acting.answer_by (acting.server_at c at) request
answers_seen_alike made c at request same =
    answer_compiled (compiled.server_at made at) request ∙ ap (λ o. answer_seen o request) (found_alike at made.apps c.apps same) ∙ sym (answer_configured (acting.server_at c at) request)

lines_seen_alike : (made : Compiled) (c : Configuration) (at : Address) (request : Request) (answer : Answer) → made.admin ≡ c.admin → made.logs ≡ c.logs → map acts_compiled_app made.apps ≡ map acts_of_app c.apps
    → compiled.lines_of made.logs (compiled.target_at made at) (compiled.server_at made at) request answer ≡ acting.lines_of c.logs (acting.target_at c at) (acting.server_at c at) request answer
lines_seen_alike made c at request answer admin logs same =
    lines_compiled made.logs (compiled.target_at made at) (compiled.server_at made at) request answer
    ∙ ap (λ l. lines_seen l (compiled.target_at made at) (option_map acts_compiled (compiled.server_at made at)) request answer) logs
    ∙ ap₂ (λ t o. lines_seen c.logs t o request answer) (targets_alike made c at admin same) (found_alike at made.apps c.apps same)
    ∙ sym (lines_configured c.logs (acting.target_at c at) (acting.server_at c at) request answer)

pub do_alike : (made : Compiled) (c : Configuration) → made.admin ≡ c.admin → made.logs ≡ c.logs → map acts_compiled_app made.apps ≡ map acts_of_app c.apps → DoAlike (compiled_acts made) (acting.acts_of c)
do_alike made c admin logs same = record {
  targets = λ at. targets_alike made c at admin same;
  answers = λ at request. ap₂ (λ t a. by_app t a) (targets_alike made c at admin same) (answers_seen_alike made c at request same);
  lines = λ at request answer. ap₂ (λ t l. by_app t l) (targets_alike made c at admin same) (lines_seen_alike made c at request answer admin logs same);
}
