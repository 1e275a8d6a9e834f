-- A reader that reads values inside by itself is its body.
use Rattle.std.proofs.Common.{◌≡◌, ℕ, zero, suc, ◌<◌, ◌≤◌, List, [], ◌∷◌, map, Bool, Option, Some, None, Result, Ok, sym, ap, ◌∙◌, refl, arith, rules, decimal}
use Rattle.std.specs.Prelude.{if◌then◌else◌}
use Rattle.std.specs.Str.{bytes_eq}
use Rattle.cd_tree.specs.Fields.{get, is_null}
use Rattle.cd_tree.specs.Path.{◌▸◌}
use Rattle.cd_text.specs.Steps.{◌▷◌}
use Rattle.cd_tree.specs.Tree.{depth, member_depth, largest}
use Rattle.cd_tree.specs.declared.path.Path.{Path}
use Rattle.cd_tree.specs.declared.tree.Member.{Member, out-Member}
use Rattle.cd_tree.specs.declared.tree.Tree.{Tree, out-Tree, roll-Tree, roll-out-Tree, the_lemmas}
use Rattle.cd_tree.specs.declared.tree.Tree.TheOpen.{Tree-F}
use Rattle.cd_module.specs.Recursion.{levels, recursive}
pub use Rattle.cd_module.specs.Recursion.{Agree, Inward}
use Rattle.cd_module.specs.Settings.{Reader, each, list_layer, list_of, where_there, optional, must_be_there, needed, is_setting, each_member, object_layer, object_of}
use Rattle.cd_module.specs.declared.fault.LoadFault.{LoadFault}

-- more levels than a tree is deep make no difference
pub enough : {X : Type 0} (body : Reader X → Reader X) → Inward body → (n m : ℕ) (t : Tree) (at : Path) → depth t < n → depth t < m → levels body n t at ≡ levels body m t at
unfolding levels
enough body i zero m t at h k = absurd (omega arith)
enough body i (suc n) zero t at h k = absurd (omega arith)
enough body i (suc n) (suc m) t at h k =
    i.same (levels body n) (levels body m) t at (record { same = λ s p l. enough body i n m s p (omega arith) (omega arith) })

-- a recursive reader is its body around itself
pub unfolds : {X : Type 0} (body : Reader X → Reader X) → Inward body → (t : Tree) (at : Path) → recursive body t at ≡ body (recursive body) t at
unfolding levels recursive
unfolds body i t at = search (rules, enough)

-- ---- the depth of what is inside

-- the depth of a value by what stands in it
abbrev pub layer_depth : Tree-F Tree Member → ℕ
layer_depth Tree-F.Null = 0
layer_depth (Tree-F.Bool b) = 0
layer_depth (Tree-F.Num n) = 0
layer_depth (Tree-F.Text t) = 0
layer_depth (Tree-F.Items items) = suc (largest (map depth items))
layer_depth (Tree-F.Object ms) = suc (largest (map member_depth ms))

-- the same of a value that is put together
depth-roll : (x : Tree-F Tree Member) → depth (roll-Tree x) ≡ layer_depth x
depth-roll Tree-F.Null = search (rules, the_lemmas)
depth-roll (Tree-F.Bool b) = search (rules, the_lemmas)
depth-roll (Tree-F.Num n) = search (rules, the_lemmas)
depth-roll (Tree-F.Text t) = search (rules, the_lemmas)
depth-roll (Tree-F.Items items) = search (rules, the_lemmas)
depth-roll (Tree-F.Object ms) = search (rules, the_lemmas)

-- and of one that is taken apart
pub depth-out : (t : Tree) → depth t ≡ layer_depth (out-Tree t)
depth-out t = ap depth (sym (roll-out-Tree t)) ∙ depth-roll (out-Tree t)

-- ---- each way to read keeps agreement

-- the same next steps after one result
then_same : {A B : Type 0} (s : Result A LoadFault) (k l : A → Result B LoadFault) → ((a : A) → k a ≡ l a) → (s ▷ k) ≡ (s ▷ l)
then_same s k l h = search rules

-- the same steps, one after another
pub ▷-same : {A B : Type 0} (r s : Result A LoadFault) (k l : A → Result B LoadFault) → r ≡ s → ((a : A) → k a ≡ l a) → (r ▷ k) ≡ (s ▷ l)
▷-same r s k l e h = ap (λ x. x ▷ k) e ∙ then_same s k l h

-- the first member, for the lemma below
each-member-more : {X : Type 0} (c : Member → Bool) (f g : List ℕ → Reader X) (b : Bool) (key : List ℕ) (v : Tree) (ms : List Member) (at : Path) → f key v (at ▸ key) ≡ g key v (at ▸ key) → each_member c f ms at ≡ each_member c g ms at
    → (if b then (f key v (at ▸ key) ▷ λ x. each_member c f ms at ▷ λ xs. Ok (x ∷ xs)) else each_member c f ms at) ≡ (if b then (g key v (at ▸ key) ▷ λ x. each_member c g ms at ▷ λ xs. Ok (x ∷ xs)) else each_member c g ms at)
each-member-more c f g b key v ms at e h = search rules

-- the first member, for the lemma below
get-within-more : (n : ℕ) (b c : Bool) (v : Tree) (o : Option Tree) (s : Tree) → depth v < n → (o ≡ Some s → depth s < n) → (if b then (if c then None else Some v) else o) ≡ Some s → depth s < n
get-within-more n b c v o s h k e = search rules

-- a list
each-same : {X : Type 0} (f g : Reader X) (n : ℕ) → Agree n f g → (k : ℕ) (ts : List Tree) (at : Path) → largest (map depth ts) < n → each f k ts at ≡ each g k ts at
each-same f g n a k [] at h = refl
each-same f g n a k (t ∷ ts) at h =
    ▷-same (f t (at ▸ decimal k)) (g t (at ▸ decimal k)) _ _ (a.same t (at ▸ decimal k) (omega arith))
    (λ x. ▷-same (each f (suc k) ts at) (each g (suc k) ts at) _ _ (each-same f g n a (suc k) ts at (omega arith)) (λ xs. refl))

-- the same of what stands in a value
list-layer-same : {X : Type 0} (f g : Reader X) (n : ℕ) → Agree n f g → (x : Tree-F Tree Member) (at : Path) → layer_depth x ≤ n → list_layer f x at ≡ list_layer g x at
list-layer-same f g n a x at h = search (rules, each-same)

-- readers that agree on the elements agree on the list
pub list_of-same : {X : Type 0} (f g : Reader X) (n : ℕ) → Agree n f g → (t : Tree) (at : Path) → depth t ≤ n → list_of f t at ≡ list_of g t at
list_of-same f g n a t at h = list-layer-same f g n a (out-Tree t) at (omega (arith, depth-out t))

-- an object by name
each-member-same : {X : Type 0} (c : Member → Bool) (f g : List ℕ → Reader X) (n : ℕ) → ((name : List ℕ) → Agree n (f name) (g name)) → (ms : List Member) (at : Path) → largest (map member_depth ms) < n → each_member c f ms at ≡ each_member c g ms at
each-member-same c f g n a [] at h = refl
each-member-same c f g n a (m ∷ ms) at h = each-member-more c f g (c m) (out-Member m).key (out-Member m).value ms at
    ((a (out-Member m).key).same (out-Member m).value (at ▸ (out-Member m).key) (omega arith)) (each-member-same c f g n a ms at (omega arith))

-- the same of what stands in a value
object-layer-same : {X : Type 0} (c : Member → Bool) (f g : List ℕ → Reader X) (n : ℕ) → ((name : List ℕ) → Agree n (f name) (g name)) → (x : Tree-F Tree Member) (at : Path) → layer_depth x ≤ n → object_layer c f x at ≡ object_layer c g x at
object-layer-same c f g n a x at h = search (rules, each-member-same)

-- readers that agree on the members agree on the object
pub object_of-same : {X : Type 0} (f g : List ℕ → Reader X) (n : ℕ) → ((name : List ℕ) → Agree n (f name) (g name)) → (t : Tree) (at : Path) → depth t ≤ n → object_of f t at ≡ object_of g t at
object_of-same f g n a t at h = object-layer-same is_setting f g n a (out-Tree t) at (omega (arith, depth-out t))

-- members that nest less than this
abbrev pub Within : ℕ → List Member → Type 0
Within n ms = largest (map member_depth ms) < n

-- a member is no deeper than all members
pub get-within : (n : ℕ) (name : List ℕ) (ms : List Member) → Within n ms → (s : Tree) → get name ms ≡ Some s → depth s < n
get-within n name [] h s e = cc
get-within n name (m ∷ ms) h s e = get-within-more n (bytes_eq (out-Member m).key name) (is_null (out-Member m).value) (out-Member m).value (get name ms) s (omega arith) (λ k. get-within n name ms (omega arith) s k) e

-- a member that may be absent
there-same : {X : Type 0} (f g : Reader X) (n : ℕ) → Agree n f g → (o : Option Tree) (at : Path) → ((s : Tree) → o ≡ Some s → depth s < n) → where_there f o at ≡ where_there g o at
there-same f g n a o at h = search rules

-- a member that may not be
must-same : {X : Type 0} (f g : Reader X) (n : ℕ) → Agree n f g → (o : Option Tree) (at : Path) → ((s : Tree) → o ≡ Some s → depth s < n) → must_be_there f o at ≡ must_be_there g o at
must-same f g n a o at h = search rules

-- readers that agree inside agree on a member that may be absent
pub optional-same : {X : Type 0} (f g : Reader X) (n : ℕ) → Agree n f g → (name : List ℕ) (ms : List Member) (at : Path) → Within n ms → optional f name ms at ≡ optional g name ms at
unfolding optional
optional-same f g n a name ms at h = there-same f g n a (get name ms) (at ▸ name) (get-within n name ms h)

-- and on one that may not
pub needed-same : {X : Type 0} (f g : Reader X) (n : ℕ) → Agree n f g → (name : List ℕ) (ms : List Member) (at : Path) → Within n ms → needed f name ms at ≡ needed g name ms at
unfolding needed
needed-same f g n a name ms at h = must-same f g n a (get name ms) (at ▸ name) (get-within n name ms h)
