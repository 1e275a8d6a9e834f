-- A handler or a subroute has the name that it was read with.
use Rattle.std.proofs.Common.{◌≡◌, ℕ, List, Bool, true, false, refl, sym, ap, ◌∙◌, Result, Ok, Err, rules}
use Rattle.std.specs.Prelude.{codes, if◌then◌else◌}
use Rattle.std.specs.Str.{bytes_eq}
use Rattle.std.proofs.lemmas.Slice.Eq.{bytes_eq-Decides}
use Rattle.cd_text.specs.Steps.{◌▷◌}
use Rattle.cd_tree.specs.declared.path.Path.{Path}
use Rattle.cd_tree.specs.declared.tree.Tree.{Tree}
use Rattle.cd_module.specs.Settings.{Reader, name_of}
use Rattle.cd_module.specs.declared.fault.LoadFault.{LoadFault}
use Rattle.cd_handlers.specs.Handlers.{handler}
use Rattle.cd_handlers.specs.Names.{handler_name}
use Rattle.cd_handlers.specs.declared.handler.Handler.{Handler}
use Rattle.cd_handlers.proofs.Naming.{name_kept}
use Rattle.cd_routes.specs.Names.{subroute_name, step_name}
use Rattle.cd_handlers.specs.Invoke.{invoked}
use Rattle.cd_routes.specs.Reading.{step, tested_handler, name_tested, subroute}
use Rattle.cd_routes.specs.declared.named.KnownName.{KnownName}
use Rattle.cd_routes.specs.declared.route.Route.{Route, the_lemmas}
use Rattle.cd_routes.specs.declared.route.Step.{Step}
use Rattle.cd_routes.specs.declared.route.Step.TheVariants as kind
use Rattle.cd_routes.specs.declared.route.Subroute.{Subroute}

subroute-named : (s : Subroute) → step_name (kind.Subroute s) ≡ subroute_name
subroute-named s = search (rules, the_lemmas)

handler-named : (h : Handler) → step_name (kind.Handler h) ≡ handler_name h
handler-named h = search (rules, the_lemmas)

subroute-so : (r : Result Subroute LoadFault) (read : Step) → (r ▷ λ s. Ok (kind.Subroute s)) ≡ Ok read → step_name read ≡ subroute_name
subroute-so r read e = search (rules, subroute-named)

tested-so : (known : List KnownName) (h : Handler) (at : Path) (tested : Result (Unit {0}) LoadFault) (read : Step) → (tested ▷ λ _. Ok (kind.Handler h)) ≡ Ok read → step_name read ≡ handler_name h
tested-so known h at tested read e = search (rules, handler-named)

handler-so : (known : List KnownName) (r : Result Handler LoadFault) (named : Result (List ℕ) LoadFault) (at : Path) (read : Step) → ((h : Handler) → r ≡ Ok h → named ≡ Ok (handler_name h)) →
    (r ▷ λ h. name_tested known (invoked h) at ▷ λ _. Ok (kind.Handler h)) ≡ Ok read → named ≡ Ok (step_name read)
handler-so known (Ok h) named at read kept e = kept h refl ∙ ap (λ n. Ok n) (sym (tested-so known h at (name_tested known (invoked h) at) read e))
handler-so known (Err fault) named at read kept e = cc

tested_handler-so : (known : List KnownName) (t : Tree) (at : Path) (read : Step) → tested_handler known t at ≡ Ok read → name_of (codes "handler") t at ≡ Ok (step_name read)
unfolding tested_handler
tested_handler-so known t at read e = handler-so known (handler t at) (name_of (codes "handler") t at) at read (name_kept t at) e

either-so : (known : List KnownName) (inner : Reader (List Route)) (t : Tree) (at : Path) (read : Step) (name : List ℕ) (is : Bool) → bytes_eq name subroute_name ≡ is → name_of (codes "handler") t at ≡ Ok name →
    (if is then (subroute inner t at ▷ λ s. Ok (kind.Subroute s)) else tested_handler known t at) ≡ Ok read →
    name_of (codes "handler") t at ≡ Ok (step_name read)
either-so known inner t at read name true same named e =
    let this : step_name read ≡ subroute_name = subroute-so (subroute inner t at) read e in
    let one : name ≡ subroute_name = (bytes_eq-Decides name subroute_name).0 same in
    cc
either-so known inner t at read name false same named e = tested_handler-so known t at read e

name-first : (known : List KnownName) (inner : Reader (List Route)) (r : Result (List ℕ) LoadFault) (t : Tree) (at : Path) (read : Step) → name_of (codes "handler") t at ≡ r →
    (r ▷ λ name. if bytes_eq name (codes "subroute") then (subroute inner t at ▷ λ s. Ok (kind.Subroute s)) else tested_handler known t at) ≡ Ok read →
    name_of (codes "handler") t at ≡ Ok (step_name read)
name-first known inner r t at read named e = search (rules, either-so)

pub step_name_kept : (known : List KnownName) (inner : Reader (List Route)) (t : Tree) (at : Path) (read : Step) → step known inner t at ≡ Ok read → name_of (codes "handler") t at ≡ Ok (step_name read)
unfolding step
step_name_kept known inner t at read e = name-first known inner (name_of (codes "handler") t at) t at read refl e
