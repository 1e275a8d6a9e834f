-- A request asks for the halt by POST to `/stop` alone.
use Rattle.std.proofs.Common.{◌≡◌, ℕ, Bool, true, false, List, [], ◌∷◌, Ok, Err, refl, ap, sym, subst, ◌∙◌, true≢false}
use Rattle.std.proofs.lemmas.Slice.Eq.{bytes_eq-Decides}
use Rattle.std.specs.Prelude.{if◌then◌else◌, drop, codes, nat_eq}
use Rattle.std.specs.List.{starts_with}
use Rattle.std.specs.Str.{bytes_eq}
use Rattle.cd_text.specs.Steps.{◌▷◌}
use Rattle.cd_wire.specs.declared.request.Request.{Request}
use Rattle.cd_admin.specs.Asking.{no_halt, form_for, body_for, asked}
use Rattle.cd_admin.specs.Endings.{Test, denied}
use Rattle.cd_admin.specs.Endpoints.{parts_of, without_last_slashes, skip_slashes, config_at, id_of, id_at, endpoint, action_at}
use Rattle.cd_admin.specs.declared.action.Action.{Action}
use Rattle.cd_admin.specs.declared.action.Action.TheVariants.{Change}
use Rattle.cd_admin.specs.declared.asked.Asked.{Asked}
use Rattle.cd_admin.specs.declared.denial.Denial.TheVariants.{OtherMethod}
use Rattle.cd_admin.specs.declared.denial.Methods.TheVariants.{PostAlone}
use Rattle.cd_path.specs.declared.verb.Verb.TheVariants.{Post}
use Rattle.cd_admin.specs.declared.ending.Ending.TheVariants as ending
use Rattle.cd_admin.specs.declared.endpoint.Endpoint.{Endpoint}
use Rattle.cd_admin.specs.declared.endpoint.Endpoint.TheVariants.{Config, Id, Load, Stop}
use Rattle.cd_admin.proofs.Halts.{ends_in, is_answer, then-ends, endpoint-ends, action-ends, form-ends, body-ends}

-- ---- where a halt comes from

-- what ends in answers alone never halts
never : {A : Type 0} (r : Test A) → ends_in is_answer r ≡ true → r ≡ Err ending.Halt → ⊥
never (Ok x) s e = cc
never (Err (ending.Denied denial)) s e = cc
never (Err (ending.Shown tag value)) s e = cc
never (Err ending.Unchanged) s e = cc
never (Err ending.Halt) s e = cc
never (Err ending.NoMemory) s e = cc

-- so a halt after it is one of what follows
later : {A B : Type 0} (r : Test A) (k : A → Test B) → ends_in is_answer r ≡ true → (r ▷ k) ≡ Err ending.Halt → (a : A) × (r ≡ Ok a) × (k a ≡ Err ending.Halt)
later (Ok a) k s e = (a, refl, e)
later (Err (ending.Denied denial)) k s e = absurd (let no : ⊥ = cc in no)
later (Err (ending.Shown tag value)) k s e = absurd (let no : ⊥ = cc in no)
later (Err ending.Unchanged) k s e = absurd (let no : ⊥ = cc in no)
later (Err ending.Halt) k s e = absurd (let no : ⊥ = cc in no)
later (Err ending.NoMemory) k s e = absurd (let no : ⊥ = cc in no)

-- ---- paths

-- it names an endpoint other than `/stop`, or none
abbrev is_elsewhere : Test Endpoint → Bool
is_elsewhere (Ok (Config path)) = true
is_elsewhere (Ok (Id id below)) = true
is_elsewhere (Ok Load) = true
is_elsewhere (Ok Stop) = false
is_elsewhere (Err stop) = true

if-elsewhere : (b : Bool) (x y : Test Endpoint) → is_elsewhere x ≡ true → is_elsewhere y ≡ true → is_elsewhere (if b then x else y) ≡ true
if-elsewhere true x y e f = e
if-elsewhere false x y e f = f

then-elsewhere : {A : Type 0} (r : Test A) (k : A → Test Endpoint) → ((a : A) → is_elsewhere (k a) ≡ true) → is_elsewhere (r ▷ k) ≡ true
then-elsewhere (Ok a) k h = h a
then-elsewhere (Err stop) k h = refl

config-elsewhere : (rest : List ℕ) → is_elsewhere (config_at rest) ≡ true
config-elsewhere rest = then-elsewhere (parts_of (without_last_slashes (skip_slashes rest))) _ (λ parts. refl)

id_of-elsewhere : (parts : List (List ℕ)) → is_elsewhere (id_of parts) ≡ true
id_of-elsewhere [] = refl
id_of-elsewhere (id ∷ parts) = refl

id-elsewhere : (rest : List ℕ) → is_elsewhere (id_at rest) ≡ true
id-elsewhere rest = then-elsewhere (parts_of (without_last_slashes rest)) id_of id_of-elsewhere

-- of these three it is the second
second : (load stop : Bool) (rest : Test Endpoint) → is_elsewhere rest ≡ true → (if load then Ok Load else if stop then Ok Stop else rest) ≡ Ok Stop → stop ≡ true
second true stop rest h e = absurd (true≢false (ap is_elsewhere e))
second false true rest h e = refl
second false false rest h e = absurd (true≢false (sym h ∙ ap is_elsewhere e))

at_stop : (path : List ℕ) → endpoint path ≡ Ok Stop → path ≡ codes "/stop"
unfolding endpoint
at_stop path e =
    (bytes_eq-Decides path (codes "/stop")).0
    (second (bytes_eq path (codes "/load")) (bytes_eq path (codes "/stop")) _
    (if-elsewhere (bytes_eq path (codes "/config")) _ _ refl
    (if-elsewhere (starts_with nat_eq path (codes "/config/")) _ _ (config-elsewhere (drop 8 path))
    (if-elsewhere (starts_with nat_eq path (codes "/id/")) _ _ (id-elsewhere (drop 4 path)) refl))) e)

-- ---- methods

posted : (b : Bool) (action : Action) → (if b then Ok (Change Post) else denied (OtherMethod PostAlone)) ≡ Ok action → b ≡ true
posted true action e = refl
posted false action e = absurd (let no : ⊥ = cc in no)

by_post : (method : List ℕ) (action : Action) → action_at Stop method ≡ Ok action → method ≡ codes "POST"
unfolding action_at
by_post method action e = (bytes_eq-Decides method (codes "POST")).0 (posted (bytes_eq method (codes "POST")) action e)

-- ---- the whole

-- the tests after that of the endpoint
abbrev rest : Endpoint → Action → Request → Test Asked
rest place action q =
    form_for place action q.fields ▷ λ form.
    body_for action form q.body ▷ λ body.
    Ok (record { place = place; action = action; body = body })

rest-ends : (place : Endpoint) (action : Action) (q : Request) → ends_in is_answer (rest place action q) ≡ true
rest-ends place action q =
    then-ends is_answer (form_for place action q.fields) _ (form-ends place action q.fields) (λ form.
    then-ends is_answer (body_for action form q.body) _ (body-ends action form q.body) (λ body. refl))

at-halt : (place : Endpoint) (action : Action) (q : Request) → (no_halt place ▷ λ _. rest place action q) ≡ Err ending.Halt → place ≡ Stop
unfolding no_halt
at-halt (Config path) action q e = absurd (never (rest (Config path) action q) (rest-ends (Config path) action q) e)
at-halt (Id id below) action q e = absurd (never (rest (Id id below) action q) (rest-ends (Id id below) action q) e)
at-halt Load action q e = absurd (never (rest Load action q) (rest-ends Load action q) e)
at-halt Stop action q e = refl

pub posts_to_stop : (q : Request) → asked q ≡ Err ending.Halt → (q.path ≡ codes "/stop") × (q.method ≡ codes "POST")
unfolding asked
posts_to_stop q e =
    let one = later (endpoint q.path) (λ place. action_at place q.method ▷ λ action. no_halt place ▷ λ _. rest place action q) (endpoint-ends q.path) e in
    let two = later (action_at one.0 q.method) (λ action. no_halt one.0 ▷ λ _. rest one.0 action q) (action-ends one.0 q.method) one.2 in
    let is = at-halt one.0 two.0 q two.2 in
    (at_stop q.path (subst (λ place. endpoint q.path ≡ Ok place) is one.1), by_post q.method two.0 (subst (λ place. action_at place q.method ≡ Ok two.0) is two.1))
