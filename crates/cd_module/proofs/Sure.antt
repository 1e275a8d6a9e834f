-- No way to read lacks memory: each one gives settings, or a fault that the configuration has.
use Rattle.std.proofs.Common.{◌≡◌, ◌≢◌, ℕ, zero, suc, ◌<◌, ◌≤◌, List, [], ◌∷◌, Bool, true, false, Option, Some, None, Result, Ok, Err, sym, ap, ◌∙◌, refl, arith, rules, decimal}
use Rattle.std.specs.Prelude.{codes, if◌then◌else◌, nat_lt}
use Rattle.std.specs.Result.{result_map_both}
use Rattle.std.proofs.lemmas.Bool.Decides.{nat_tests}
use Rattle.cd_text.specs.Steps.{◌▷◌}
use Rattle.cd_tree.specs.Fields.{over, over_layer, unknown, unless_unknown, get}
use Rattle.cd_tree.specs.Path.{◌▸◌}
use Rattle.cd_tree.specs.Tree.{depth}
use Rattle.cd_tree.specs.declared.path.Path.{Path}
use Rattle.cd_tree.specs.declared.tree.Member.{Member, out-Member}
use Rattle.cd_tree.specs.declared.tree.Tree.{Tree, out-Tree}
use Rattle.cd_tree.specs.declared.tree.Tree.TheOpen.{Tree-F}
use Rattle.cd_module.specs.Faults.{refused, of_field}
use Rattle.cd_module.specs.Patterns.{pattern}
use Rattle.cd_module.specs.Recursion.{levels, recursive}
use Rattle.cd_module.specs.Settings.{Reader, text_layer, text, truth_layer, truth, whole_layer, whole, number_or_text_layer, number_or_text, unread_list_layer, unread_list, unread_object_layer, unread_object, each, list_layer, list_of, members, where_there, optional, must_be_there, needed, all_layer, name_of, is_setting, is_no_id, each_member, object_layer, object_of, object_with_nulls}
use Rattle.cd_module.specs.declared.fault.LoadFault.{LoadFault}
use Rattle.cd_module.specs.declared.fault.LoadFault.TheVariants.{Refused, NoMemory}
use Rattle.cd_module.specs.declared.fault.LoadKind.TheVariants.{WrongKind}
use Rattle.cd_module.proofs.Recursion.{Agree, Inward}

-- it is a value, or a fault that is not that of memory
abbrev pub is_said : {X : Type 0} → Result X LoadFault → Bool
is_said (Ok x) = true
is_said (Err (Refused fault)) = true
is_said (Err NoMemory) = false

pub record IsSure {X : Type 0} (r : Reader X) : Type 0 where
  pub sure : (t : Tree) (at : Path) → is_said (r t at) ≡ true

-- so it never is the fault of memory
pub never_lacks : {X : Type 0} (r : Result X LoadFault) → is_said r ≡ true → r ≢ Err NoMemory
never_lacks (Ok x) e same = cc
never_lacks (Err (Refused fault)) e same = cc
never_lacks (Err NoMemory) e same = cc

-- ---- steps

pub then-sure : {A B : Type 0} (r : Result A LoadFault) (k : A → Result B LoadFault) → is_said r ≡ true → ((a : A) → is_said (k a) ≡ true) → is_said (r ▷ k) ≡ true
then-sure (Ok a) k e h = h a
then-sure (Err (Refused fault)) k e h = refl
then-sure (Err NoMemory) k e h = cc

pub if-sure : {A : Type 0} (b : Bool) (x y : Result A LoadFault) → is_said x ≡ true → is_said y ≡ true → is_said (if b then x else y) ≡ true
if-sure true x y e f = e
if-sure false x y e f = f

-- ---- values

text-layer : (x : Tree-F Tree Member) (at : Path) → is_said (text_layer x at) ≡ true
text-layer x at = search rules

pub text-sure : IsSure text
text-sure = record { sure = λ t at. text-layer (out-Tree t) at }

truth-layer : (x : Tree-F Tree Member) (at : Path) → is_said (truth_layer x at) ≡ true
truth-layer x at = search rules

pub truth-sure : IsSure truth
truth-sure = record { sure = λ t at. truth-layer (out-Tree t) at }

whole-layer : (x : Tree-F Tree Member) (at : Path) → is_said (whole_layer x at) ≡ true
whole-layer x at = search rules

pub whole-sure : IsSure whole
whole-sure = record { sure = λ t at. whole-layer (out-Tree t) at }

number-or-text-layer : (x : Tree-F Tree Member) (at : Path) → is_said (number_or_text_layer x at) ≡ true
number-or-text-layer x at = search rules

pub number_or_text-sure : IsSure number_or_text
number_or_text-sure = record { sure = λ t at. number-or-text-layer (out-Tree t) at }

unread-list-layer : (x : Tree-F Tree Member) (at : Path) → is_said (unread_list_layer x at) ≡ true
unread-list-layer x at = search rules

pub unread_list-sure : IsSure unread_list
unread_list-sure = record { sure = λ t at. unread-list-layer (out-Tree t) at }

unread-object-layer : (x : Tree-F Tree Member) (at : Path) → is_said (unread_object_layer x at) ≡ true
unread-object-layer x at = search rules

pub unread_object-sure : IsSure unread_object
unread_object-sure = record { sure = λ t at. unread-object-layer (out-Tree t) at }

pub pattern-sure : IsSure pattern
unfolding pattern
pattern-sure = record { sure = λ t at. then-sure (text t at) _ (text-sure.sure t at) (λ written. refl) }

-- ---- lists

each-sure : {X : Type 0} (r : Reader X) → IsSure r → (k : ℕ) (ts : List Tree) (at : Path) → is_said (each r k ts at) ≡ true
each-sure r s k [] at = refl
each-sure r s k (t ∷ ts) at = then-sure (r t (at ▸ decimal k)) _ (s.sure t (at ▸ decimal k)) (λ x. then-sure (each r (suc k) ts at) _ (each-sure r s (suc k) ts at) (λ xs. refl))

list-layer : {X : Type 0} (r : Reader X) → IsSure r → (x : Tree-F Tree Member) (at : Path) → is_said (list_layer r x at) ≡ true
list-layer r s x at = search (rules, each-sure)

pub list_of-sure : {X : Type 0} (r : Reader X) → IsSure r → IsSure (list_of r)
list_of-sure r s = record { sure = λ t at. list-layer r s (out-Tree t) at }

-- ---- members

known-sure : (o : Option (List ℕ)) (ms : List Member) (at : Path) → is_said (result_map_both (λ found. found) of_field (unless_unknown o ms at)) ≡ true
known-sure o ms at = search rules

over-sure : (names : List ℕ) (x : Tree-F Tree Member) (at : Path) → is_said (result_map_both (λ found. found) of_field (over_layer names x at)) ≡ true
over-sure names x at = search (rules, known-sure)

pub members-sure : (names : List ℕ) (t : Tree) (at : Path) → is_said (members names t at) ≡ true
unfolding members
members-sure names t at = over-sure names (out-Tree t) at

there-sure : {X : Type 0} (r : Reader X) → IsSure r → (o : Option Tree) (at : Path) → is_said (where_there r o at) ≡ true
there-sure r s None at = refl
there-sure r s (Some t) at = then-sure (r t at) _ (s.sure t at) (λ x. refl)

pub optional-sure : {X : Type 0} (r : Reader X) → IsSure r → (name : List ℕ) (ms : List Member) (at : Path) → is_said (optional r name ms at) ≡ true
unfolding optional
optional-sure r s name ms at = there-sure r s (get name ms) (at ▸ name)

must-sure : {X : Type 0} (r : Reader X) → IsSure r → (o : Option Tree) (at : Path) → is_said (must_be_there r o at) ≡ true
must-sure r s None at = refl
must-sure r s (Some t) at = s.sure t at

pub needed-sure : {X : Type 0} (r : Reader X) → IsSure r → (name : List ℕ) (ms : List Member) (at : Path) → is_said (needed r name ms at) ≡ true
unfolding needed
needed-sure r s name ms at = must-sure r s (get name ms) (at ▸ name)

pub all-sure : (x : Tree-F Tree Member) (at : Path) → is_said (all_layer x at) ≡ true
all-sure x at = search rules

pub name_of-sure : (name : List ℕ) → IsSure (name_of name)
unfolding name_of
name_of-sure name = record { sure = λ t at. then-sure (all_layer (out-Tree t) at) _ (all-sure (out-Tree t) at) (λ ms. needed-sure text text-sure name ms at) }

-- ---- objects by name

each_member-sure : {X : Type 0} (counts : Member → Bool) (r : List ℕ → Reader X) → ((name : List ℕ) → IsSure (r name)) → (ms : List Member) (at : Path) → is_said (each_member counts r ms at) ≡ true
each_member-sure counts r s [] at = refl
each_member-sure counts r s (m ∷ ms) at =
    let rest = each_member-sure counts r s ms at in
    if-sure (counts m) _ _ (then-sure (r (out-Member m).key (out-Member m).value (at ▸ (out-Member m).key)) _ ((s (out-Member m).key).sure (out-Member m).value (at ▸ (out-Member m).key)) (λ x. then-sure (each_member counts r ms at) _ rest (λ xs. refl))) rest

object-layer : {X : Type 0} (counts : Member → Bool) (r : List ℕ → Reader X) → ((name : List ℕ) → IsSure (r name)) → (x : Tree-F Tree Member) (at : Path) → is_said (object_layer counts r x at) ≡ true
object-layer counts r s x at = search (rules, each_member-sure)

pub object_of-sure : {X : Type 0} (r : List ℕ → Reader X) → ((name : List ℕ) → IsSure (r name)) → IsSure (object_of r)
object_of-sure r s = record { sure = λ t at. object-layer is_setting r s (out-Tree t) at }

pub object_with_nulls-sure : {X : Type 0} (r : List ℕ → Reader X) → ((name : List ℕ) → IsSure (r name)) → IsSure (object_with_nulls r)
object_with_nulls-sure r s = record { sure = λ t at. object-layer is_no_id r s (out-Tree t) at }

-- ---- recursion

-- the reader, for values that nest less than this
abbrev limited : {X : Type 0} → ℕ → Reader X → Reader X
limited n f t at = if nat_lt (depth t) n then f t at else Err (refused WrongKind at)

nests : (a b : ℕ) → a < b → nat_lt a b ≡ true
nests a b e = grind (arith, nat_tests)

below : (a b : ℕ) → nat_lt a b ≡ true → a < b
below a b e = grind (arith, nat_tests)

limited-same : {X : Type 0} (n : ℕ) (f : Reader X) → Agree n f (limited n f)
limited-same n f = record { same = λ s p low. sym (ap (λ (b : Bool). if b then f s p else Err (refused WrongKind p)) (nests (depth s) n low)) }

limited-sure : {X : Type 0} (n : ℕ) (f : Reader X) → ((s : Tree) (p : Path) → depth s < n → is_said (f s p) ≡ true) → IsSure (limited n f)
limited-sure n f sure = record { sure = λ s p. at s p (nat_lt (depth s) n) refl }
  where
    at : (s : Tree) (p : Path) (b : Bool) → nat_lt (depth s) n ≡ b → is_said (if nat_lt (depth s) n then f s p else Err (refused WrongKind p)) ≡ true
    at s p true e = ap (λ (b : Bool). is_said (if b then f s p else Err (refused WrongKind p))) e ∙ sure s p (below (depth s) n e)
    at s p false e = ap (λ (b : Bool). is_said (if b then f s p else Err (refused WrongKind p))) e

-- a body looks no deeper than a value is, so where it is sure for each sure reader its levels are sure for that value
levels-sure : {X : Type 0} (body : Reader X → Reader X) → Inward body → ((f : Reader X) → IsSure f → IsSure (body f)) → (n : ℕ) (t : Tree) (at : Path) → depth t < n → is_said (levels body n t at) ≡ true
unfolding levels
levels-sure body inward keeps zero t at low = absurd (omega arith)
levels-sure body inward keeps (suc n) t at low =
    ap is_said (inward.same (levels body n) (limited (depth t) (levels body n)) t at (limited-same (depth t) (levels body n)))
    ∙ (keeps (limited (depth t) (levels body n)) (limited-sure (depth t) (levels body n) (λ s p less. levels-sure body inward keeps n s p (omega (arith, less, low))))).sure t at

pub recursive-sure : {X : Type 0} (body : Reader X → Reader X) → Inward body → ((f : Reader X) → IsSure f → IsSure (body f)) → IsSure (recursive body)
unfolding recursive
recursive-sure body inward keeps = record { sure = λ t at. levels-sure body inward keeps (suc (depth t)) t at (omega arith) }
