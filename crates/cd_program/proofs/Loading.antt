-- What the bytes that a source gave up come to.
use Rattle.std.proofs.Common.{◌≡◌, ◌<◌, ◌∙◌, ◌++◌, ◌⊎◌, ℕ, true, false, List, [], length, Option, Some, None, Result, Ok, Err, length-append, inl, inr, refl, rules, ap, sym, arith}
use Rattle.std.specs.Prelude.{nat_lt}
use Rattle.std.specs.Result.{result_map_both}
use Rattle.std.proofs.lemmas.Bool.Decides.{nat_tests}
use Rattle.std.proofs.lemmas.List.{append-nil}
use Rattle.cd_tree.specs.Reading.{tree_of}
use Rattle.cd_tree.specs.declared.fault.TreeFault.TheVariants.{TooLong}
use Rattle.cd_tree.specs.declared.limits.TheConstants.{MAX_TEXT_BYTES}
use Rattle.cd_tree.specs.declared.tree.Tree.{Tree, the_lemmas}
use Rattle.cd_tree.specs.declared.tree.Tree.TheVariants as tree
use Rattle.cd_legal.specs.declared.plan.Plan.{Plan}
use Rattle.cd_module.specs.declared.fault.LoadFault.{LoadFault}
use Rattle.cd_standard.specs.Acting.{plan_of_tree}
use Rattle.cd_standard.specs.Loading.{loaded, nothing_said, planned}
use Rattle.cd_standard.specs.Plans.{plan_of}
use Rattle.cd_program.specs.declared.initial.Initial.{Initial}
use Rattle.cd_program.specs.declared.initial.Initial.TheVariants.{OfFile, Null, Saved}
use Rattle.cd_program.specs.Config.{Gave}
use Rattle.cd_program.specs.Configuration.{configured, if_planned}
use Rattle.cd_outside.specs.Devices.{Device}
use Rattle.cd_program.specs.Top.{Begins, Loads, NullMayRun}
use Rattle.cd_program.specs.Words.{is_null}
use Rattle.cd_program.specs.declared.refusal.Refusal.{Refusal}
use Rattle.cd_program.specs.declared.refusal.Refusal.TheVariants.{NoTree}

pub is_lt : (a b : ℕ) → a < b → nat_lt a b ≡ true
is_lt a b h = grind (arith, nat_tests)

no_tree_of : (bytes : List ℕ) → MAX_TEXT_BYTES < length bytes → tree_of bytes ≡ Err TooLong
unfolding tree_of
no_tree_of bytes long = rw (is_lt MAX_TEXT_BYTES (length bytes) long) refl

-- more bytes than a configuration may have are refused
too_long : (plan : Tree → Result Plan LoadFault) (bytes : List ℕ) → MAX_TEXT_BYTES < length bytes → configured plan bytes ≡ Err (NoTree TooLong)
unfolding configured
too_long plan bytes long = rw (no_tree_of bytes long) refl

Some-injective : {x y : List ℕ} → Some x ≡ Some y → x ≡ y
Some-injective e = cc

-- what was read comes to what all comes to, where all that are too many come to the same
pub read_so : {A : Type 0} (means : List ℕ → A) (of_long : A) → ((bytes : List ℕ) → MAX_TEXT_BYTES < length bytes → means bytes ≡ of_long)
    → (bytes all left : List ℕ) → all ≡ bytes ++ left → (MAX_TEXT_BYTES < length bytes) ⊎ (left ≡ []) → means all ≡ means bytes
read_so means of_long long_is bytes all left is (inl long) =
    let longer : MAX_TEXT_BYTES < length all = omega (arith, ap length is, length-append bytes left, long) in
    long_is all longer ∙ sym (long_is bytes long)
read_so means of_long long_is bytes all left is (inr none) =
    ap means (is ∙ (ap (λ (rest : List ℕ). bytes ++ rest) none ∙ append-nil bytes))

-- so what a source gave up comes to what all that it told comes to
pub all_so : {A : Type 0} (means : List ℕ → A) (of_long : A) → ((bytes : List ℕ) → MAX_TEXT_BYTES < length bytes → means bytes ≡ of_long)
    → (bytes all : List ℕ) (left : Option (List ℕ)) → Gave bytes (Some all) left → means all ≡ means bytes
all_so means of_long long_is bytes all (Some left) gave = read_so means of_long long_is bytes all left (Some-injective gave.given) gave.all
all_so means of_long long_is bytes all None gave = let none = gave.given in cc

pub all_loaded : (plan : Tree → Result Plan LoadFault) (bytes : List ℕ) (left : Option (List ℕ)) (found : Result Tree Refusal) → Loads plan (Some bytes) left found → configured plan bytes ≡ found
all_loaded plan bytes left found loads = all_so (configured plan) (Err (NoTree TooLong)) (too_long plan) loads.bytes bytes left loads.gave ∙ loads.is

pub apart : (t : Tree) (refusal : Refusal) → ◌≡◌ {A = Result Tree Refusal} (Ok t) (Err refusal) → ⊥
apart t refusal e = cc

-- where the tree null may run, what is refused is another one
pub refused_not_null : (plan : Tree → Result Plan LoadFault) → NullMayRun plan
    → (initial : Initial) (source : Device (List ℕ)) (refusal : Refusal) → Begins plan initial source (Err refusal) → is_null initial ≡ false
refused_not_null plan fine OfFile source refusal loads = refl
refused_not_null plan fine Null source refusal is = absurd (apart tree.Null refusal (sym fine ∙ is))
refused_not_null plan fine (Saved t) source refusal is = refl

loaded_null : loaded tree.Null ≡ Ok (planned nothing_said)
unfolding loaded
loaded_null = search (rules, the_lemmas)

-- the tree null may run by the standard modules
pub null_may_run : NullMayRun plan_of_tree
null_may_run =
    let plans : plan_of_tree tree.Null ≡ Ok (plan_of nothing_said) = ap (result_map_both (λ configured. configured.plan) (λ fault. fault)) loaded_null in
    ap (if_planned tree.Null) plans
