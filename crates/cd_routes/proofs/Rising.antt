-- The names of servers rise where the keys of their object do.
use Rattle.std.proofs.Common.{◌≡◌, ℕ, List, [], ◌∷◌, Bool, true, false, ◌&&◌, map, refl, ap, sym, ◌∙◌, Result, Ok, rules}
use Rattle.std.specs.Prelude.{codes, if◌then◌else◌}
use Rattle.std.specs.List.{list_all}
use Rattle.std.proofs.lemmas.Bool.{and_parts}
use Rattle.cd_text.specs.Steps.{◌▷◌}
use Rattle.cd_tree.proofs.Inside.{parts_of}
use Rattle.cd_tree.proofs.Trees.{layer_ordered, is_ordered-out}
use Rattle.cd_tree.specs.Path.{◌▸◌}
use Rattle.cd_tree.specs.Tree.{IsSound, is_below, keys_rise, ordered_member}
use Rattle.cd_tree.specs.declared.path.Path.{Path}
use Rattle.cd_tree.specs.declared.tree.Member.{Member, out-Member}
use Rattle.cd_tree.specs.declared.tree.Tree.{Tree, out-Tree}
use Rattle.cd_tree.specs.declared.tree.Tree.TheOpen.{Tree-F}
use Rattle.cd_module.specs.Settings.{is_setting, each_member, object_layer, object_of}
use Rattle.cd_module.specs.declared.fault.LoadFault.{LoadFault}
use Rattle.cd_routes.proofs.Servers.{after, same-value, server_made}
use Rattle.cd_routes.specs.Server.{server, names_of, names_rise}
use Rattle.cd_routes.specs.declared.server.Server.{Server}

both : (a b : Bool) → a ≡ true → b ≡ true → (a && b) ≡ true
both a b h i = rw (h, i) refl

-- a member that counts, and then the others
abbrev read_more : Member → List Member → Path → Result (List Server) LoadFault
read_more m ms at = server (out-Member m).key (out-Member m).value (at ▸ (out-Member m).key) ▷ λ x. each_member is_setting server ms at ▷ λ xs. Ok (x ∷ xs)

-- ---- below all keys is below all names

abbrev Below : List ℕ → List Server → Type 0
Below low read = list_all (is_below low) (names_of read) ≡ true

below-one : (low : List ℕ) (m : Member) (ms : List Member) (at : Path) (read : List Server) (counts : Bool) → ((xs : List Server) → each_member is_setting server ms at ≡ Ok xs → Below low xs) → is_below low (out-Member m).key ≡ true
    → (if counts then read_more m ms at else each_member is_setting server ms at) ≡ Ok read → Below low read
below-one low m ms at read true more here e =
    after (server (out-Member m).key (out-Member m).value (at ▸ (out-Member m).key)) _ (Below low) read (λ x x-is e.
    after (each_member is_setting server ms at) _ (Below low) read (λ xs xs-is e.
    ap (λ r. list_all (is_below low) (names_of r)) (sym (same-value (x ∷ xs) read e))
    ∙ both (is_below low x.name) (list_all (is_below low) (names_of xs)) (ap (is_below low) (server_made _ _ _ x x-is).named ∙ here) (more xs xs-is)) e) e
below-one low m ms at read false more here e = more read e

below-all : (low : List ℕ) (ms : List Member) (at : Path) (read : List Server) → list_all (λ later. is_below low later.0) (map ordered_member ms) ≡ true → each_member is_setting server ms at ≡ Ok read → Below low read
below-all low [] at read keys e = ap (λ r. list_all (is_below low) (names_of r)) (sym (same-value [] read e))
below-all low (m ∷ ms) at read keys e =
    let parts = and_parts (is_below low (out-Member m).key) _ keys in
    below-one low m ms at read (is_setting m) (λ xs is. below-all low ms at xs parts.1 is) parts.0 e

-- ---- names rise where keys do

abbrev Rise : List Server → Type 0
Rise read = names_rise (names_of read) ≡ true

rise-one : (m : Member) (ms : List Member) (at : Path) (read : List Server) (counts : Bool) → ((xs : List Server) → each_member is_setting server ms at ≡ Ok xs → Rise xs) → list_all (λ later. is_below (out-Member m).key later.0) (map ordered_member ms) ≡ true
    → (if counts then read_more m ms at else each_member is_setting server ms at) ≡ Ok read → Rise read
rise-one m ms at read true more keys e =
    after (server (out-Member m).key (out-Member m).value (at ▸ (out-Member m).key)) _ Rise read (λ x x-is e.
    after (each_member is_setting server ms at) _ Rise read (λ xs xs-is e.
    ap (λ r. names_rise (names_of r)) (sym (same-value (x ∷ xs) read e))
    ∙ both (list_all (is_below x.name) (names_of xs)) (names_rise (names_of xs))
    (ap (λ low. list_all (is_below low) (names_of xs)) (server_made _ _ _ x x-is).named ∙ below-all (out-Member m).key ms at xs keys xs-is) (more xs xs-is)) e) e
rise-one m ms at read false more keys e = more read e

rise-all : (ms : List Member) (at : Path) (read : List Server) → keys_rise (map ordered_member ms) ≡ true → each_member is_setting server ms at ≡ Ok read → Rise read
rise-all [] at read keys e = ap (λ r. names_rise (names_of r)) (sym (same-value [] read e))
rise-all (m ∷ ms) at read keys e =
    let parts = and_parts (list_all (λ later. is_below (out-Member m).key later.0) (map ordered_member ms)) _ keys in
    rise-one m ms at read (is_setting m) (λ xs is. rise-all ms at xs parts.1 is) parts.0 e

rise-layer : (x : Tree-F Tree Member) (at : Path) (read : List Server) → layer_ordered x ≡ true → object_layer is_setting server x at ≡ Ok read → Rise read
rise-layer x at read ordered e = search (rules, rise-all, and_parts)

pub names_rise_there : (t : Tree) (at : Path) (read : List Server) → IsSound t → object_of server t at ≡ Ok read → names_rise (names_of read) ≡ true
names_rise_there t at read sound e = rise-layer (out-Tree t) at read (sym (is_ordered-out t) ∙ (parts_of t sound).ordered) e

-- names that rise, and one that stands twice
rising : names_rise (codes "a" ∷ codes "ab" ∷ codes "b" ∷ []) ≡ true
rising = refl

twice : names_rise (codes "a" ∷ codes "a" ∷ []) ≡ false
twice = refl
