-- A handler has the name that it was read with.
use Rattle.std.proofs.Common.{◌≡◌, ℕ, List, Option, Some, Result, Ok, rules}
use Rattle.std.specs.Prelude.{codes}
use Rattle.std.specs.Str.{bytes_eq}
use Rattle.std.proofs.lemmas.Slice.Eq.{bytes_eq-Decides}
use Rattle.cd_text.specs.Steps.{◌▷◌}
use Rattle.cd_tree.specs.declared.path.Path.{Path}
use Rattle.cd_tree.specs.declared.tree.Tree.{Tree}
use Rattle.cd_module.specs.Settings.{name_of}
use Rattle.cd_module.specs.declared.fault.LoadFault.{LoadFault}
use Rattle.cd_module.proofs.Naming.{found-passes, made-so}
use Rattle.cd_handlers.specs.Handlers.{handler, handler_of, known_handler}
use Rattle.cd_handlers.specs.Names.{kind_name, kind_named, kind_of, kinds, handler_name}
use Rattle.cd_handlers.specs.declared.handler.Handler.{Handler}
use Rattle.cd_handlers.specs.declared.kind.HandlerKind.{HandlerKind}

-- ---- the table

-- the one with a name has that name
named-so : (name : List ℕ) (which : HandlerKind) → kind_named name ≡ Some which → kind_name which ≡ name
unfolding kind_named
named-so name which e = (bytes_eq-Decides (kind_name which) name).0 (found-passes (λ one. bytes_eq (kind_name one) name) kinds which e)

-- ---- what was read

read-so : (which : HandlerKind) (t : Tree) (at : Path) (h : Handler) → handler_of which t at ≡ Ok h → kind_of h ≡ which
unfolding handler_of
read-so which t at h e = search (rules, made-so)

known-so : (name : List ℕ) (found : Option HandlerKind) (t : Tree) (at : Path) (h : Handler) → kind_named name ≡ found → known_handler name found t at ≡ Ok h → handler_name h ≡ name
known-so name found t at h is e = search (rules, read-so, named-so)

-- the name is read first
name-first : (r : Result (List ℕ) LoadFault) (t : Tree) (at : Path) (h : Handler) → (r ▷ λ name. known_handler name (kind_named name) t at) ≡ Ok h → r ≡ Ok (handler_name h)
name-first r t at h e = search (rules, known-so)

pub name_kept : (t : Tree) (at : Path) (h : Handler) → handler t at ≡ Ok h → name_of (codes "handler") t at ≡ Ok (handler_name h)
unfolding handler
name_kept t at h e = name-first (name_of (codes "handler") t at) t at h e
