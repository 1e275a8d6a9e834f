-- A request halts the server only where it asks for the halt: none ends out of memory, and no test of the tree halts.
use Rattle.std.proofs.Common.{◌≡◌, ◌≢◌, ℕ, Bool, true, false, List, [], ◌∷◌, Option, Some, None, Result, Ok, Err, refl}
use Rattle.std.specs.Prelude.{◌==◌, ◌&&◌, not, if◌then◌else◌, length, drop, codes, nat_eq}
use Rattle.std.specs.List.{starts_with}
use Rattle.std.specs.Str.{bytes_eq}
use Rattle.cd_text.specs.Steps.{◌▷◌}
use Rattle.cd_tree.specs.Reading.{tree_of}
use Rattle.cd_tree.specs.Tree.{text}
use Rattle.cd_tree.specs.declared.fault.TreeFault.{TreeFault}
use Rattle.cd_tree.specs.declared.path.Path.{Path}
use Rattle.cd_tree.specs.declared.tree.Tree.{Tree}
use Rattle.cd_path.specs.Editing.{edit}
use Rattle.cd_path.specs.Looking.{look}
use Rattle.cd_path.specs.declared.fault.EditFault.{EditFault}
use Rattle.cd_ids.specs.Ids.{ids, path_of}
use Rattle.cd_tags.specs.Tags.{tag_holds}
use Rattle.cd_tags.specs.declared.if_match.Tag.{Tag}
use Rattle.cd_wire.specs.Fields.{values}
use Rattle.cd_wire.specs.declared.fields.Field.{Field}
use Rattle.cd_wire.specs.declared.request.Request.{Request}
use Rattle.cd_module.specs.declared.fault.LoadFault.{LoadFault}
use Rattle.cd_module.specs.declared.fault.LoadFault.TheVariants as load
use Rattle.cd_legal.specs.declared.plan.Plan.{Plan}
use Rattle.cd_admin.specs.Admin.{admin_of}
use Rattle.cd_caddyfile.specs.Adapting.{adapted}
use Rattle.cd_caddyfile.specs.declared.fault.CaddyfileFault.{CaddyfileFault}
use Rattle.cd_admin.specs.declared.form.Form.{Form}
use Rattle.cd_admin.specs.declared.form.Form.TheVariants.{Json, Caddyfile}
use Rattle.cd_admin.specs.Asking.{takes_body, takes_caddyfile, no_halt, form_for, tree_in, adapted_in, read_as, body_for, asked}
use Rattle.cd_admin.specs.Deciding.{below_id, path_in, looked, verb_of, tag_of_value, tag_test, tags_test, matches, edited, differs, made, fine, replaced, outcome, decided, halt}
use Rattle.cd_admin.specs.Endings.{Test}
use Rattle.cd_admin.specs.Endpoints.{text_in, split_text, parts_of, without_last_slashes, skip_slashes, config_at, id_of, id_at, endpoint, any_method, post_alone, action_at}
use Rattle.cd_admin.specs.Fields.{are_caddyfile, are_json, must_revalidate}
use Rattle.cd_admin.specs.Origins.{expected, host_test, origin_test, is_among, without_scheme, admitted}
use Rattle.cd_admin.specs.declared.action.Action.{Action}
use Rattle.cd_admin.specs.declared.action.Action.TheVariants.{Look, Change}
use Rattle.cd_admin.specs.declared.admin.Admin.{Admin}
use Rattle.cd_admin.specs.declared.asked.Asked.{Asked}
use Rattle.cd_admin.specs.declared.ending.Ending.{Ending}
use Rattle.cd_admin.specs.declared.ending.Ending.TheVariants as ending
use Rattle.cd_admin.specs.declared.endpoint.Endpoint.{Endpoint}
use Rattle.cd_admin.specs.declared.endpoint.Endpoint.TheVariants.{Config, Id, Load, Stop}

-- ---- how a test may end

abbrev pub ends_in : {A : Type 0} → (Ending → Bool) → Test A → Bool
ends_in p (Ok x) = true
ends_in p (Err stop) = p stop

abbrev pub is_answer : Ending → Bool
is_answer (ending.Denied denial) = true
is_answer (ending.Shown tag value) = true
is_answer ending.Unchanged = true
is_answer ending.Halt = false
is_answer ending.NoMemory = false

abbrev pub is_answer_or_halt : Ending → Bool
is_answer_or_halt (ending.Denied denial) = true
is_answer_or_halt (ending.Shown tag value) = true
is_answer_or_halt ending.Unchanged = true
is_answer_or_halt ending.Halt = true
is_answer_or_halt ending.NoMemory = false

pub then-ends : {A B : Type 0} (p : Ending → Bool) (r : Test A) (k : A → Test B) → ends_in p r ≡ true → ((a : A) → ends_in p (k a) ≡ true) → ends_in p (r ▷ k) ≡ true
then-ends p (Ok a) k e h = h a
then-ends p (Err stop) k e h = e

-- where it ends in an answer it does so or in the halt
or-halt : {A : Type 0} (r : Test A) → ends_in is_answer r ≡ true → ends_in is_answer_or_halt r ≡ true
or-halt (Ok x) e = refl
or-halt (Err (ending.Denied denial)) e = refl
or-halt (Err (ending.Shown tag value)) e = refl
or-halt (Err ending.Unchanged) e = refl
or-halt (Err ending.Halt) e = refl
or-halt (Err ending.NoMemory) e = cc

if-ends : {A : Type 0} (p : Ending → Bool) (b : Bool) (x y : Test A) → ends_in p x ≡ true → ends_in p y ≡ true → ends_in p (if b then x else y) ≡ true
if-ends p true x y e f = e
if-ends p false x y e f = f

-- ---- what the request alone says

split-ends : (found : Option (List ℕ)) → ends_in is_answer (split_text found) ≡ true
split-ends None = refl
split-ends (Some text) = refl

parts-ends : (bytes : List ℕ) → ends_in is_answer (parts_of bytes) ≡ true
parts-ends bytes = if-ends is_answer (length bytes == 0) _ _ refl (split-ends (text_in bytes))

config-ends : (rest : List ℕ) → ends_in is_answer (config_at rest) ≡ true
config-ends rest = then-ends is_answer (parts_of (without_last_slashes (skip_slashes rest))) _ (parts-ends (without_last_slashes (skip_slashes rest))) (λ parts. refl)

id_of-ends : (parts : List (List ℕ)) → ends_in is_answer (id_of parts) ≡ true
id_of-ends [] = refl
id_of-ends (id ∷ parts) = refl

id-ends : (rest : List ℕ) → ends_in is_answer (id_at rest) ≡ true
id-ends rest = then-ends is_answer (parts_of (without_last_slashes rest)) id_of (parts-ends (without_last_slashes rest)) id_of-ends

pub endpoint-ends : (path : List ℕ) → ends_in is_answer (endpoint path) ≡ true
unfolding endpoint
endpoint-ends path =
    if-ends is_answer (bytes_eq path (codes "/load")) _ _ refl
    (if-ends is_answer (bytes_eq path (codes "/stop")) _ _ refl
    (if-ends is_answer (bytes_eq path (codes "/config")) _ _ refl
    (if-ends is_answer (starts_with nat_eq path (codes "/config/")) _ _ (config-ends (drop 8 path))
    (if-ends is_answer (starts_with nat_eq path (codes "/id/")) _ _ (id-ends (drop 4 path)) refl))))

method-ends : (method : List ℕ) → ends_in is_answer (any_method method) ≡ true
method-ends method =
    if-ends is_answer (bytes_eq method (codes "GET")) _ _ refl
    (if-ends is_answer (bytes_eq method (codes "POST")) _ _ refl
    (if-ends is_answer (bytes_eq method (codes "PUT")) _ _ refl
    (if-ends is_answer (bytes_eq method (codes "PATCH")) _ _ refl
    (if-ends is_answer (bytes_eq method (codes "DELETE")) _ _ refl refl))))

post-ends : (method : List ℕ) → ends_in is_answer (post_alone method) ≡ true
post-ends method = if-ends is_answer (bytes_eq method (codes "POST")) _ _ refl refl

pub action-ends : (place : Endpoint) (method : List ℕ) → ends_in is_answer (action_at place method) ≡ true
unfolding action_at
action-ends (Config path) method = method-ends method
action-ends (Id id below) method = method-ends method
action-ends Load method = post-ends method
action-ends Stop method = post-ends method

no_halt-ends : (place : Endpoint) → ends_in is_answer_or_halt (no_halt place) ≡ true
unfolding no_halt
no_halt-ends (Config path) = refl
no_halt-ends (Id id below) = refl
no_halt-ends Load = refl
no_halt-ends Stop = refl

pub form-ends : (place : Endpoint) (action : Action) (fields : List Field) → ends_in is_answer (form_for place action fields) ≡ true
unfolding form_for
form-ends place action fields =
    let types = values (codes "content-type") fields in
    if-ends is_answer (not (takes_body action)) _ _ refl
    (if-ends is_answer (are_json types) _ _ refl (if-ends is_answer (takes_caddyfile place && are_caddyfile types) _ _ refl refl))

tree-ends : (r : Result Tree TreeFault) → ends_in is_answer (tree_in r) ≡ true
tree-ends (Ok tree) = refl
tree-ends (Err fault) = refl

adapted-ends : (r : Result Tree CaddyfileFault) → ends_in is_answer (adapted_in r) ≡ true
adapted-ends (Ok tree) = refl
adapted-ends (Err fault) = refl

read-ends : (form : Form) (bytes : List ℕ) → ends_in is_answer (read_as form bytes) ≡ true
read-ends Json bytes = tree-ends (tree_of bytes)
read-ends Caddyfile bytes = adapted-ends (adapted bytes)

pub body-ends : (action : Action) (form : Form) (bytes : List ℕ) → ends_in is_answer (body_for action form bytes) ≡ true
unfolding body_for
body-ends action form bytes =
    if-ends is_answer (not (takes_body action)) _ _ refl
    (if-ends is_answer (length bytes == 0) _ _ refl (read-ends form bytes))

asked-ends : (q : Request) → ends_in is_answer_or_halt (asked q) ≡ true
unfolding asked
asked-ends q =
    then-ends is_answer_or_halt (endpoint q.path) _ (or-halt (endpoint q.path) (endpoint-ends q.path)) (λ place.
    then-ends is_answer_or_halt (action_at place q.method) _ (or-halt (action_at place q.method) (action-ends place q.method)) (λ action.
    then-ends is_answer_or_halt (no_halt place) _ (no_halt-ends place) (λ u.
    then-ends is_answer_or_halt (form_for place action q.fields) _ (or-halt (form_for place action q.fields) (form-ends place action q.fields)) (λ form.
    then-ends is_answer_or_halt (body_for action form q.body) _ (or-halt (body_for action form q.body) (body-ends action form q.body)) (λ body. refl)))))

-- ---- where it comes from

host-ends : (entries : List (List ℕ)) (host : List ℕ) → ends_in is_answer (host_test entries host) ≡ true
host-ends entries host = if-ends is_answer (is_among entries host) _ _ refl refl

origin-ends : (entries origins : List (List ℕ)) → ends_in is_answer (origin_test entries origins) ≡ true
origin-ends entries [] = refl
origin-ends entries (origin ∷ []) = if-ends is_answer (is_among entries (without_scheme origin)) _ _ refl refl
origin-ends entries (origin ∷ other ∷ more) = refl

admitted-ends : (a : Admin) (host : List ℕ) (fields : List Field) → ends_in is_answer (admitted a host fields) ≡ true
unfolding admitted
admitted-ends a host fields =
    if-ends is_answer (not a.enforce_origin) _ _ refl
    (then-ends is_answer (host_test (expected a) host) _ (host-ends (expected a) host) (λ u. origin-ends (expected a) (values (codes "origin") fields)))

-- ---- what looks at the tree

below-ends : (id : List ℕ) (below : List (List ℕ)) (found : Option Path) → ends_in is_answer (below_id id below found) ≡ true
below-ends id below None = refl
below-ends id below (Some path) = refl

path-ends : (t : Tree) (place : Endpoint) → ends_in is_answer (path_in t place) ≡ true
unfolding path_in
path-ends t (Config path) = refl
path-ends t (Id id below) = below-ends id below (path_of id (ids t))
path-ends t Load = refl
path-ends t Stop = refl

looked-ends : (path : Path) (r : Result (Option Tree) EditFault) → is_answer (looked path r) ≡ true
looked-ends path (Ok found) = refl
looked-ends path (Err fault) = refl

verb-ends : (t : Tree) (path : Path) (action : Action) → ends_in is_answer (verb_of t path action) ≡ true
unfolding verb_of
verb-ends t path Look = looked-ends path (look t path)
verb-ends t path (Change verb) = refl

tag-ends : (t : Tree) (tag : Option Tag) → ends_in is_answer (tag_test t tag) ≡ true
tag-ends t (Some tag) = if-ends is_answer (tag_holds t tag) _ _ refl refl
tag-ends t None = refl

tags-ends : (t : Tree) (found : List (List ℕ)) → ends_in is_answer (tags_test t found) ≡ true
tags-ends t [] = refl
tags-ends t (value ∷ []) = tag-ends t (tag_of_value value)
tags-ends t (value ∷ other ∷ more) = refl

matches-ends : (t : Tree) (place : Endpoint) (fields : List Field) → ends_in is_answer (matches t place fields) ≡ true
unfolding matches
matches-ends t (Config path) fields = tags-ends t (values (codes "if-match") fields)
matches-ends t (Id id below) fields = tags-ends t (values (codes "if-match") fields)
matches-ends t Load fields = refl
matches-ends t Stop fields = refl

edited-ends : (r : Result Tree EditFault) → ends_in is_answer (edited r) ≡ true
unfolding edited
edited-ends (Ok u) = refl
edited-ends (Err fault) = refl

differs-ends : (fields : List Field) (t u : Tree) → ends_in is_answer (differs fields t u) ≡ true
unfolding differs
differs-ends fields t u = if-ends is_answer (bytes_eq (text t) (text u) && not (must_revalidate fields)) _ _ refl refl

made-ends : (t : Tree) (fields : List Field) (a : Asked) → ends_in is_answer (made t fields a) ≡ true
unfolding made
made-ends t fields a =
    then-ends is_answer (path_in t a.place) _ (path-ends t a.place) (λ path.
    then-ends is_answer (verb_of t path a.action) _ (verb-ends t path a.action) (λ verb.
    then-ends is_answer (matches t a.place fields) _ (matches-ends t a.place fields) (λ u.
    then-ends is_answer (edited (edit t verb path a.body)) _ (edited-ends (edit t verb path a.body)) (λ n.
    then-ends is_answer (differs fields t n) _ (differs-ends fields t n) (λ u. refl)))))

fine-ends : (r : Result Plan LoadFault) → r ≢ Err load.NoMemory → ends_in is_answer (fine r) ≡ true
fine-ends (Ok plan) sure = refl
fine-ends (Err (load.Refused refusal)) sure = refl
fine-ends (Err load.NoMemory) sure = absurd (sure refl)

-- ---- the whole

answer_goes_on : (r : Test Tree) → ends_in is_answer r ≡ true → outcome r ≡ halt → ⊥
answer_goes_on (Ok u) a e = cc
answer_goes_on (Err (ending.Denied denial)) a e = cc
answer_goes_on (Err (ending.Shown tag value)) a e = cc
answer_goes_on (Err ending.Unchanged) a e = cc
answer_goes_on (Err ending.Halt) a e = cc
answer_goes_on (Err ending.NoMemory) a e = cc

asks : (r : Test Asked) (k : Asked → Test Tree) → ends_in is_answer_or_halt r ≡ true → ((a : Asked) → ends_in is_answer (k a) ≡ true) → outcome (r ▷ k) ≡ halt → r ≡ Err ending.Halt
asks (Ok a) k s h e = absurd (answer_goes_on (k a) (h a) e)
asks (Err (ending.Denied denial)) k s h e = absurd (let no : ⊥ = cc in no)
asks (Err (ending.Shown tag value)) k s h e = absurd (let no : ⊥ = cc in no)
asks (Err ending.Unchanged) k s h e = absurd (let no : ⊥ = cc in no)
asks (Err ending.Halt) k s h e = refl
asks (Err ending.NoMemory) k s h e = absurd (let no : ⊥ = cc in no)

passes : {A : Type 0} (r : Test A) (next : Test Tree) → ends_in is_answer r ≡ true → outcome (r ▷ λ _. next) ≡ halt → outcome next ≡ halt
passes (Ok a) next s e = e
passes (Err stop) next s e = absurd (answer_goes_on (Err stop) s e)

pub halts : (verdict : Tree → Result Plan LoadFault) → ((tree : Tree) → verdict tree ≢ Err load.NoMemory) → (t : Tree) (q : Request) → decided verdict t q ≡ halt → asked q ≡ Err ending.Halt
unfolding decided replaced
halts verdict sure t q e =
    let next : Asked → Test Tree
    = λ a. made t q.fields a ▷ λ u. fine (verdict u) ▷ λ _. Ok u in
    let answers : (a : Asked) → ends_in is_answer (next a) ≡ true
    = λ a. then-ends is_answer (made t q.fields a) _ (made-ends t q.fields a) (λ u. then-ends is_answer (fine (verdict u)) _ (fine-ends (verdict u) (sure u)) (λ v. refl)) in
    asks (asked q) next (asked-ends q) answers
    (passes (admitted (admin_of t) q.host q.fields) (asked q ▷ next) (admitted-ends (admin_of t) q.host q.fields) e)
