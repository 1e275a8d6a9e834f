-- Why a tree without a fault has none of ids, and none in what it says of the admin API: both are looked at before anything is
-- planned.
use Rattle.std.specs.Prelude.{ℕ, ◌≡◌, Bool, true, false, refl, if◌then◌else◌, List, codes, Option, Some, None, Result, Ok, Err, is_err}
use Rattle.std.specs.Result.{IsOk, result_map_both}
use Rattle.std.proofs.Common.{ap, sym, subst, true≢false}
use Rattle.cd_text.specs.Steps.{◌▷◌}
use Rattle.cd_tree.proofs.Outcomes.{chained}
use Rattle.cd_tree.specs.Fields.{is_null, over_layer, unknown, unless_unknown}
use Rattle.cd_tree.specs.declared.path.Path.{Path}
use Rattle.cd_tree.specs.declared.tree.Member.{Member}
use Rattle.cd_tree.specs.declared.tree.Tree.{Tree, out-Tree}
use Rattle.cd_tree.specs.declared.tree.Tree.TheOpen.{Tree-F}
use Rattle.cd_ids.specs.Ids.{id_fault}
use Rattle.cd_ids.specs.declared.fault.IdFault.{IdFault}
use Rattle.cd_ids.specs.declared.fault.IdFault.TheVariants as id
use Rattle.cd_module.specs.Faults.{of_field}
use Rattle.cd_module.specs.Settings.{all_layer, members, optional}
use Rattle.cd_module.specs.declared.fault.LoadFault.{LoadFault}
use Rattle.cd_legal.specs.declared.plan.Plan.{Plan}
use Rattle.cd_admin.specs.Admin.{admin, admin_in, admin_or_usual, members_layer}
use Rattle.cd_admin.specs.declared.admin.Admin.{Admin}
use Rattle.cd_log.specs.Logging.{logging, logs_given}
use Rattle.cd_admin.proofs.Nulls.{null_has_no_ids, null_says_nothing}
use Rattle.cd_standard.specs.Acting.{plan_of_tree}
use Rattle.cd_standard.specs.Configuration.{apps, apps_or_none, configuration}
use Rattle.cd_standard.specs.Loading.{accepted, loaded, nothing_said, of_ids, of_object, of_settings, planned}
use Rattle.cd_standard.specs.Plans.{root}
use Rattle.cd_standard.specs.declared.configuration.Configuration.{Configuration}
use Rattle.cd_standard.specs.declared.loading.Configured.{Configured}

-- ---- ids

no_fault : (found : Option IdFault) (u : Unit {0}) → of_ids found ≡ Ok u → found ≡ None
no_fault None u h = refl
no_fault (Some (id.Repeated name first second)) u h = absurd (true≢false (ap is_err h))
no_fault (Some (id.BadKind at)) u h = absurd (true≢false (ap is_err h))
no_fault (Some id.NoMemory) u h = absurd (true≢false (ap is_err h))

object_ids : (t : Tree) (l : Configured) → of_object t ≡ Ok l → id_fault t ≡ None
object_ids t l h = let step = chained (of_ids (id_fault t)) (λ _. of_settings t) l h in no_fault (id_fault t) step.0 step.1

ids_by : (t : Tree) (l : Configured) (b : Bool) → is_null t ≡ b → (if b then Ok (planned nothing_said) else (all_layer (out-Tree t) root ▷ λ _. of_object t)) ≡ Ok l → id_fault t ≡ None
ids_by t l true is h = null_has_no_ids t is
ids_by t l false is h = object_ids t l (chained (all_layer (out-Tree t) root) (λ _. of_object t) l h).2

loaded_ids : (t : Tree) (l : Configured) → loaded t ≡ Ok l → id_fault t ≡ None
unfolding loaded
loaded_ids t l h = ids_by t l (is_null t) refl h

ids_of : (t : Tree) (r : Result Configured LoadFault) (p : Plan) → loaded t ≡ r → result_map_both (λ configured. configured.plan) (λ fault. fault) r ≡ Ok p → id_fault t ≡ None
ids_of t (Ok l) p is h = loaded_ids t l is
ids_of t (Err fault) p is h = absurd (true≢false (ap is_err h))

-- a tree without a fault has none of ids
pub ids_are_fine : (t : Tree) (p : Plan) → plan_of_tree t ≡ Ok p → id_fault t ≡ None
ids_are_fine t p h = ids_of t (loaded t) p refl h

-- ---- the admin API

-- the members that were read are those of the object
none_unknown : (found : Option (List ℕ)) (members ms : List Member) (at : Path) → result_map_both (λ found. found) of_field (unless_unknown found members at) ≡ Ok ms → members ≡ ms
none_unknown None members ms at h = cc
none_unknown (Some name) members ms at h = absurd (true≢false (ap is_err h))

layer_same : (names : List ℕ) (x : Tree-F Tree Member) (ms : List Member) (at : Path) → result_map_both (λ found. found) of_field (over_layer names x at) ≡ Ok ms → members_layer x ≡ ms
layer_same names Tree-F.Null ms at h = absurd (true≢false (ap is_err h))
layer_same names (Tree-F.Bool b) ms at h = absurd (true≢false (ap is_err h))
layer_same names (Tree-F.Num n) ms at h = absurd (true≢false (ap is_err h))
layer_same names (Tree-F.Text text) ms at h = absurd (true≢false (ap is_err h))
layer_same names (Tree-F.Items items) ms at h = absurd (true≢false (ap is_err h))
layer_same names (Tree-F.Object members) ms at h = none_unknown (unknown names members) members ms at h

members_same : (names : List ℕ) (t : Tree) (ms : List Member) → members names t root ≡ Ok ms → members_layer (out-Tree t) ≡ ms
unfolding members
members_same names t ms h = layer_same names (out-Tree t) ms root h

-- settings that were read have none there
settings_fine : (t : Tree) (c : Configuration) → configuration t root ≡ Ok c → IsOk (admin_in t)
unfolding configuration admin_in
settings_fine t c h =
    let next : Option Admin → List Member → Result Configuration LoadFault
    = λ given ms. optional apps (codes "apps") ms root ▷ λ found. optional logging (codes "logging") ms root ▷ λ said. Ok (record { admin = admin_or_usual given; apps = apps_or_none found; logs = logs_given said }) in
    let read = chained (members (codes "admin apps logging") t root) (λ ms. optional admin (codes "admin") ms root ▷ λ given. next given ms) c h in
    let said = chained (optional admin (codes "admin") read.0 root) (λ given. next given read.0) c read.2 in
    subst (λ (ms : List Member). IsOk (optional admin (codes "admin") ms root)) (sym (members_same (codes "admin apps logging") t read.0 read.1))
    (subst (λ (r : Result (Option Admin) LoadFault). IsOk r) (sym said.1) refl)

object_fine : (t : Tree) (l : Configured) → of_object t ≡ Ok l → IsOk (admin_in t)
object_fine t l h =
    let step = chained (of_ids (id_fault t)) (λ _. of_settings t) l h in
    let read = chained (configuration t root) (λ c. accepted c) l step.2 in
    settings_fine t read.0 read.1

admin_by : (t : Tree) (l : Configured) (b : Bool) → is_null t ≡ b → (if b then Ok (planned nothing_said) else (all_layer (out-Tree t) root ▷ λ _. of_object t)) ≡ Ok l → IsOk (admin_in t)
admin_by t l true is h = null_says_nothing t is
admin_by t l false is h = object_fine t l (chained (all_layer (out-Tree t) root) (λ _. of_object t) l h).2

loaded_fine : (t : Tree) (l : Configured) → loaded t ≡ Ok l → IsOk (admin_in t)
unfolding loaded
loaded_fine t l h = admin_by t l (is_null t) refl h

admin_from : (t : Tree) (r : Result Configured LoadFault) (p : Plan) → loaded t ≡ r → result_map_both (λ configured. configured.plan) (λ fault. fault) r ≡ Ok p → IsOk (admin_in t)
admin_from t (Ok l) p is h = loaded_fine t l is
admin_from t (Err fault) p is h = absurd (true≢false (ap is_err h))

-- a tree without a fault has none in what it says of the admin API
pub admin_is_fine : (t : Tree) (p : Plan) → plan_of_tree t ≡ Ok p → IsOk (admin_in t)
admin_is_fine t p h = admin_from t (loaded t) p refl h
