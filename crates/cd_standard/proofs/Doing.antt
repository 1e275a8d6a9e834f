-- What a configuration that was loaded keeps, and what one without apps does.
use Rattle.std.proofs.Common.{◌≡◌, ℕ, ◌+◌, ◌≤◌, List, [], ◌∷◌, length, map, Result, Ok, Err, refl, sym, ap, ◌∙◌, subst, arith, true, false}
use Rattle.std.specs.Prelude.{nat_le, if◌then◌else◌, Bool, codes}
use Rattle.std.specs.Result.{result_map_both}
use Rattle.std.specs.List.{flat_map}
use Rattle.std.proofs.lemmas.List.{length-append, length-map}
use Rattle.std.proofs.lemmas.List.Concat.{flat_map-cons}
use Rattle.cd_text.specs.Steps.{◌▷◌}
use Rattle.cd_tree.specs.Fields.{is_null}
use Rattle.cd_tree.specs.Path.{◌▸◌}
use Rattle.cd_tree.specs.declared.path.Path.{Path}
use Rattle.cd_tree.specs.declared.tree.Tree.{Tree, out-Tree}
use Rattle.cd_ids.specs.Ids.{id_fault}
use Rattle.cd_module.specs.Faults.{within, limit_reached}
use Rattle.cd_module.specs.Settings.{all_layer}
use Rattle.cd_module.specs.declared.fault.LoadFault.{LoadFault}
use Rattle.cd_module.specs.declared.limits.Limit.{Limit}
use Rattle.cd_module.specs.declared.limits.Limit.TheVariants.{Modules}
use Rattle.cd_module.specs.declared.limits.TheConstants.{MAX_MODULES}
use Rattle.cd_module_set.specs.Acts.{Acts, DoAlike, nobody}
use Rattle.cd_standard.specs.Acting.{acts_of, acts_of_tree, acts_in, plan_of_tree}
use Rattle.cd_standard.specs.Configuration.{configuration}
use Rattle.cd_standard.specs.declared.checks.Check.TheVariants.{NamedRoutes}
use Rattle.cd_standard.specs.Loading.{HaveNoCycle, servers_of, each_checked, accepted, judged, limits, loaded, nothing_said, of_ids, of_object, of_settings, planned, all_distinct}
use Rattle.cd_standard.specs.Plans.{admin_plans, app_modules, apps_modules, app_plan, app_name, app_addresses, apps_of, modules_of, addresses_of, root, writer_modules}
use Rattle.cd_legal.specs.declared.plan.PlanApp.{PlanApp}
use Rattle.cd_standard.specs.declared.app.App.{App}
use Rattle.cd_admin.specs.declared.admin.Admin.{Admin}
use Rattle.cd_standard.specs.Compiled.{compiled_acts}
use Rattle.cd_standard.specs.declared.compiled.Compiled.{Compiled}
use Rattle.cd_standard.specs.declared.configuration.Configuration.{Configuration}
use Rattle.cd_standard.specs.declared.loading.Configured.{Configured}

-- ---- what was loaded

-- a step that went on, and what came of it
record Went {A B : Type 0} (r : Result A LoadFault) (next : A → Result B LoadFault) (x : B) : Type 0 where
  value : A
  is : r ≡ Ok value
  rest : next value ≡ Ok x

went : {A B : Type 0} (r : Result A LoadFault) (next : A → Result B LoadFault) (x : B) → (r ▷ next) ≡ Ok x → Went r next x
went (Ok a) next x h = record { value = a; is = refl; rest = h }
went (Err fault) next x h = cc

-- no named route leads to itself, it has as many modules as there may be, and is the configuration with its plan
pub record Keeps (l : Configured) : Type 0 where
  pub is : l ≡ planned l.configuration
  pub acyclic : HaveNoCycle (servers_of l.configuration)
  pub few : length (modules_of l.configuration) ≤ MAX_MODULES

few_by : (n m : ℕ) (b : Bool) (limit : Limit) → nat_le n m ≡ b → ◌≡◌ {A = Result (Unit {0}) LoadFault} (if b then Ok tt else Err (limit_reached limit)) (Ok tt) → n ≤ m
few_by n m true limit e h = grind (arith, e)
few_by n m false limit e h = cc

within_few : (n : ℕ) → within Modules n ≡ Ok tt → n ≤ MAX_MODULES
within_few n h = few_by n MAX_MODULES (nat_le n MAX_MODULES) Modules refl h

accepted_keeps : (c : Configuration) (l : Configured) → accepted c ≡ Ok l → Keeps l
accepted_keeps c l h =
    let whole = went (judged c) (λ _. Ok (planned c)) l h in
    let same : planned c ≡ l = cc in
    let named = went (each_checked NamedRoutes (servers_of c)) (λ _. limits c ▷ λ _. all_distinct [] (addresses_of c)) tt whole.is in
    let limited = went (limits c) (λ _. all_distinct [] (addresses_of c)) tt named.rest in
    let modules = went (within Modules (length (modules_of c))) _ tt limited.is in
    let few = within_few (length (modules_of c)) modules.is in
    subst Keeps same (record { is = refl; acyclic = named.is; few = few })

settings_keep : (t : Tree) (l : Configured) → of_settings t ≡ Ok l → Keeps l
settings_keep t l h = let read = went (configuration t root) (λ c. accepted c) l h in accepted_keeps read.value l read.rest

object_keeps : (t : Tree) (l : Configured) → of_object t ≡ Ok l → Keeps l
object_keeps t l h = settings_keep t l (went (of_ids (id_fault t)) (λ _. of_settings t) l h).rest

loaded_by : (t : Tree) (l : Configured) (b : Bool) → (if b then Ok (planned nothing_said) else (all_layer (out-Tree t) root ▷ λ _. of_object t)) ≡ Ok l → Keeps l
loaded_by t l true h = let same : planned nothing_said ≡ l = cc in subst Keeps same (record { is = refl; acyclic = refl; few = omega arith })
loaded_by t l false h = object_keeps t l (went (all_layer (out-Tree t) root) (λ _. of_object t) l h).rest

pub loaded_keeps : (t : Tree) (l : Configured) → loaded t ≡ Ok l → Keeps l
unfolding loaded
loaded_keeps t l h = loaded_by t l (is_null t) h

pub none_in_cycle : (t : Tree) (l : Configured) → loaded t ≡ Ok l → HaveNoCycle (servers_of l.configuration)
none_in_cycle t l h = (loaded_keeps t l h).acyclic

-- ---- its plan

-- each app has a module at least
apps_within : (at : Path) (apps : List App) → length apps ≤ length (flat_map (app_modules at) apps)
apps_within at [] = omega arith
apps_within at (app ∷ apps) =
    let split = ap length (flat_map-cons (app_modules at) app apps) ∙ length-append (app_modules at app) (flat_map (app_modules at) apps) in
    omega (arith, split, apps_within at apps)

admin_alone : (disabled : Bool) (admin : Admin) → admin.disabled ≡ disabled → length (admin_plans admin) ≤ 1
admin_alone true admin is = rw is (omega arith)
admin_alone false admin is = rw is (omega arith)

few_planned : (c : Configuration) → length (modules_of c) ≤ MAX_MODULES → length (apps_of c) ≤ MAX_MODULES + 1
few_planned c few =
    let plan : App → PlanApp = λ app. app_plan (app_name app) (app_addresses app) in
    let writers = length-append (writer_modules c.logs) (apps_modules c.apps) in
    let count = length-append (admin_plans c.admin) (map plan c.apps) ∙ ap (λ (n : ℕ). length (admin_plans c.admin) + n) (length-map c.apps plan) in
    omega (arith, count, writers, few, apps_within (root ▸ codes "apps") c.apps, admin_alone c.admin.disabled c.admin refl)

pub plans_as_loaded : (t : Tree) (l : Configured) → loaded t ≡ Ok l → plan_of_tree t ≡ Ok l.plan
plans_as_loaded t l h = ap (λ r. result_map_both (λ configured. configured.plan) (λ fault. fault) r) h

pub few_modules : (t : Tree) (l : Configured) → loaded t ≡ Ok l → length l.plan.modules ≤ MAX_MODULES
few_modules t l h = let keeps = loaded_keeps t l h in subst (λ (x : Configured). length x.plan.modules ≤ MAX_MODULES) (sym keeps.is) keeps.few

pub few_apps : (t : Tree) (l : Configured) → loaded t ≡ Ok l → length l.plan.apps ≤ MAX_MODULES + 1
few_apps t l h = let keeps = loaded_keeps t l h in subst (λ (x : Configured). length x.plan.apps ≤ MAX_MODULES + 1) (sym keeps.is) (few_planned l.configuration keeps.few)

-- ---- what it does

pub does_as_loaded : (t : Tree) (l : Configured) (acts : Acts) → loaded t ≡ Ok l → DoAlike acts (acts_of l.configuration) → DoAlike acts (acts_of_tree t)
does_as_loaded t l acts h same = subst (λ r. DoAlike acts (acts_in r)) (sym h) same

-- a configuration without apps, whose admin API is disabled
pub idle_does_nothing : (c : Compiled) → c.admin.disabled ≡ true → c.apps ≡ [] → DoAlike (compiled_acts c) nobody
idle_does_nothing c disabled none = rw (disabled, none) (record { targets = λ at. refl; answers = λ at request. refl; lines = λ at request answer. refl })
