-- The order of keys, and members by their keys.
use Rattle.std.proofs.Common.{◌≡◌, ℕ, List, true, Ordering, Less, Equal, Greater, nat_cmp, refl, ap, ◌∙◌}
use Rattle.std.proofs.lemmas.Cmp.{nat_list_cmp_total}
use Rattle.std.specs.Cmp.Lexicographic.{slice_cmp}
use Rattle.std.specs.Ordering.{is_lt, is_gt, ordering_reverse}
use Rattle.cd_tree.specs.declared.tree.Member.{Member, out-Member, roll-Member, out-roll-Member}
use Rattle.cd_tree.specs.declared.tree.Tree.{Tree}

abbrev pub key_of : Member → List ℕ
key_of m = (out-Member m).key

abbrev pub cmp : List ℕ → List ℕ → Ordering
cmp = slice_cmp nat_cmp

pub less : (o : Ordering) → is_lt o ≡ true → o ≡ Less
less Less h = refl
less Equal h = cc
less Greater h = cc

pub greater : (o : Ordering) → is_gt o ≡ true → o ≡ Greater
greater Less h = cc
greater Equal h = cc
greater Greater h = refl

pub turned : (a b : List ℕ) → cmp a b ≡ Greater → cmp b a ≡ Less
turned a b p = nat_list_cmp_total.antisymm b a ∙ ap ordering_reverse p

pub turned_back : (a b : List ℕ) → cmp a b ≡ Less → cmp b a ≡ Greater
turned_back a b p = nat_list_cmp_total.antisymm b a ∙ ap ordering_reverse p

-- the member of a key and a value
abbrev pub member_with : List ℕ → Tree → Member
member_with key value = roll-Member (record { key = key; value = value })

pub keyed : (key : List ℕ) (value : Tree) → key_of (member_with key value) ≡ key
keyed key value = ap (λ m. m.key) (out-roll-Member (record { key = key; value = value }))

pub valued : (key : List ℕ) (value : Tree) → (out-Member (member_with key value)).value ≡ value
valued key value = ap (λ m. m.value) (out-roll-Member (record { key = key; value = value }))
