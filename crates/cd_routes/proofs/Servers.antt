-- What is known of a server that was read: its name, and that it listens somewhere.
use Rattle.std.proofs.Common.{◌≡◌, ℕ, ◌≤◌, List, ◌∷◌, length, arith, Option, Result, Ok, codes, length-append, rules}
use Rattle.cd_text.specs.Steps.{◌▷◌}
use Rattle.cd_tree.specs.Fields.{get}
use Rattle.cd_tree.specs.Path.{◌▸◌}
use Rattle.cd_tree.specs.declared.path.Path.{Path}
use Rattle.cd_tree.specs.declared.tree.Member.{Member}
use Rattle.cd_tree.specs.declared.tree.Tree.{Tree, out-Tree}
use Rattle.cd_tree.specs.declared.tree.Tree.TheOpen.{Tree-F}
use Rattle.cd_addr.specs.Addresses.{listed}
use Rattle.cd_addr.proofs.Ranges.{count_is}
use Rattle.cd_module.specs.Settings.{each, list_layer, needed, must_be_there}
use Rattle.cd_routes.specs.Reading.{known_names}
use Rattle.cd_routes.specs.Server.{listen_text, some_text, listen, listened, server, server_members}
use Rattle.cd_routes.specs.declared.named.KnownName.{KnownName}
use Rattle.cd_routes.specs.declared.listen.Listen.{Listen}
use Rattle.cd_routes.specs.declared.listen.ListenText.{ListenText}
use Rattle.cd_routes.specs.declared.server.Server.{Server}

-- ---- steps

-- what follows a step that went well
pub after : {A B F : Type 0} (r : Result A F) (k : A → Result B F) (P : B → Type 0) (y : B) → ((x : A) → r ≡ Ok x → k x ≡ Ok y → P y) → (r ▷ k) ≡ Ok y → P y
after r k P y h e = search rules

pub same-value : {A F : Type 0} (x y : A) → ◌≡◌ {A = Result A F} (Ok x) (Ok y) → x ≡ y
same-value x y e = cc

-- ---- addresses

-- a range has an address
text-some : (x : ListenText) → 1 ≤ length (listed x.range)
text-some x = omega (arith, count_is x.range)

first-some : (x : ListenText) (xs all : List ListenText) (l : Listen) (place : Path) → x ∷ xs ≡ all → some_text all place ≡ Ok l → 1 ≤ length (listened l)
first-some x xs all l place is e = search (rules, same-value, length-append, text-some)

-- the first text has an address
each-some : (n : ℕ) (ts : List Tree) (at : Path) (l : Listen) (place : Path) → (each listen_text n ts at ▷ λ texts. some_text texts place) ≡ Ok l → 1 ≤ length (listened l)
each-some n ts at l place e = search (rules, after, first-some, same-value)

listen-layer : (x : Tree-F Tree Member) (at : Path) (l : Listen) → (list_layer listen_text x at ▷ λ texts. some_text texts at) ≡ Ok l → 1 ≤ length (listened l)
listen-layer x at l e = search (rules, each-some)

listen-some : (t : Tree) (at : Path) (l : Listen) → listen t at ≡ Ok l → 1 ≤ length (listened l)
unfolding listen
listen-some t at l e = listen-layer (out-Tree t) at l e

there-some : (found : Option Tree) (at : Path) (l : Listen) → must_be_there listen found at ≡ Ok l → 1 ≤ length (listened l)
there-some found at l e = search (rules, listen-some)

needed-some : (ms : List Member) (at : Path) (l : Listen) → needed listen (codes "listen") ms at ≡ Ok l → 1 ≤ length (listened l)
unfolding needed
needed-some ms at l e = there-some (get (codes "listen") ms) (at ▸ codes "listen") l e

-- ---- servers

-- what each part gives is in the server
pub record Made (name : List ℕ) (s : Server) : Type 0 where
  pub named : s.name ≡ name
  pub listens : 1 ≤ length (listened s.listen)

members_made : (name : List ℕ) (known : List KnownName) (ms : List Member) (at : Path) (s : Server) → server_members name known ms at ≡ Ok s → Made name s
unfolding server_members
members_made name known ms at s e = search (rules, after, same-value, needed-some)

pub server_made : (name : List ℕ) (t : Tree) (at : Path) (s : Server) → server name t at ≡ Ok s → Made name s
unfolding server
server_made name t at s e =
    after _ (λ ms. server_members name (known_names ms at) ms at) (Made name) s (λ ms is g. members_made name (known_names ms at) ms at s g) e
