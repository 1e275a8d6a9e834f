-- The configuration of a file from its steps.
use Rattle.std.proofs.Common.{◌≡◌, ℕ, ◌≤◌, ◌<◌, Bool, true, false, if◌then◌else◌, nat_lt, List, length, refl, sym, ap, ◌∙◌, arith, Option, Some, None, Result, Ok, Err, ◌≢◌}
use Rattle.std.specs.Prelude.{⊤, IsErrAnd}
use Rattle.std.proofs.lemmas.Bool.{ltb-true, ltb-false, lt-ltb, le-leb}
use Rattle.cd_text.specs.Gives.{Gives}
use Rattle.cd_text.specs.Steps.{◌▷◌, refused_where}
use Rattle.cd_tree.specs.declared.limits.TheConstants.{MAX_DEPTH, MAX_TEXT_BYTES}
use Rattle.cd_tree.specs.Tree.{depth, text}
use Rattle.cd_tree.specs.declared.tree.Tree as tree
use Rattle.cd_tree.specs.declared.tree.Tree.{Tree}
use Rattle.cd_caddyfile.specs.Adapting.{out_of_memory, unless_faulty, checked, within_limits, adapted}
use Rattle.cd_caddyfile.specs.Blocks.{file_lines}
use Rattle.cd_caddyfile.specs.Faults.{fault_at, fault_of}
use Rattle.cd_caddyfile.specs.FileSites.{matchers_in, tests_named, sites_in, sites}
use Rattle.cd_caddyfile.specs.Shape.{shape}
use Rattle.cd_caddyfile.specs.declared.fault.CaddyfileFault.{CaddyfileFault}
use Rattle.cd_caddyfile.specs.declared.fault.CaddyfileKind.TheVariants.{TooLong, TooDeep}
use Rattle.cd_caddyfile.specs.declared.named.Matchers.{Matchers}
use Rattle.cd_parts.specs.Measures.{capped, measured}
use Rattle.cd_parts.specs.declared.measured.Measured.{Measured}

-- ---- a file without a fault

pub record IsRead (bytes : List ℕ) (m : Matchers) : Type 0 where
  pub few : length bytes ≤ MAX_TEXT_BYTES
  pub no_fault : checked bytes ≡ Ok tt
  pub matchers : m ≡ matchers_in bytes

read-by : (long : Bool) (o : Option CaddyfileFault) (bytes : List ℕ) (m : Matchers) → nat_lt MAX_TEXT_BYTES (length bytes) ≡ long → fault_of bytes ≡ o →
    ((refused_where long (fault_at 0 TooLong) ▷ λ _. unless_faulty o) ▷ λ _. Ok (matchers_in bytes)) ≡ Ok m → IsRead bytes m
read-by true o bytes m long-is o-is is = cc
read-by false (Some fault) bytes m long-is o-is is = cc
read-by false None bytes m long-is o-is is = record {
  few = ltb-false MAX_TEXT_BYTES (length bytes) long-is;
  no_fault = ap (λ b. refused_where b (fault_at 0 TooLong) ▷ λ _. unless_faulty (fault_of bytes)) long-is ∙ ap unless_faulty o-is;
  matchers = cc;
}

pub is_read : (bytes : List ℕ) (m : Matchers) → (checked bytes ▷ λ _. Ok (matchers_in bytes)) ≡ Ok m → IsRead bytes m
is_read bytes m is = read-by (nat_lt MAX_TEXT_BYTES (length bytes)) (fault_of bytes) bytes m refl refl is

-- ---- a file with one

faulty-by : (r : Result ⊤ CaddyfileFault) (m : Matchers) (next : Result Tree CaddyfileFault) (fault : CaddyfileFault) → (r ▷ λ _. Ok m) ≡ Err fault → (r ▷ λ _. next) ≡ Err fault
faulty-by (Ok x) m next fault is = cc
faulty-by (Err other) m next fault is = cc

pub is_faulty : (bytes : List ℕ) (fault : CaddyfileFault) → (checked bytes ▷ λ _. Ok (matchers_in bytes)) ≡ Err fault → adapted bytes ≡ Err fault
unfolding adapted
is_faulty bytes fault is = faulty-by (checked bytes) (matchers_in bytes) (within_limits (shape (sites bytes))) fault is

-- where a step fails with this fault
pub step_failed : (made expected : Result Tree CaddyfileFault) (fault : CaddyfileFault) → IsErrAnd made (λ e. e ≡ fault) → (fault ≢ out_of_memory → expected ≡ Err fault) →
    Gives out_of_memory made expected
step_failed (Ok x) expected fault failed same = absurd failed
step_failed (Err e) expected fault failed same = rw failed same

-- ---- the configuration

pub adapted_is : (bytes : List ℕ) (m : Matchers) (r : Result Tree CaddyfileFault) → IsRead bytes m → r ≡ within_limits (shape (sites_in (tests_named m.defined m.tested) (file_lines bytes))) →
    r ≡ adapted bytes
unfolding adapted
adapted_is bytes m r read is =
    is ∙ (ap (λ (found : Matchers). within_limits (shape (sites_in (tests_named found.defined found.tested) (file_lines bytes)))) read.matchers
    ∙ sym (ap (λ x. x ▷ λ _. within_limits (shape (sites bytes))) read.no_fault))

-- ---- the limits of its tree

not-below : (a b : ℕ) (below : Bool) → nat_lt a b ≡ below → b ≤ a → below ≡ false
not-below a b true is few = absurd (omega (arith, ltb-true a b is, few))
not-below a b false is few = refl

length-is : (t : Tree) (made : Measured) → made ≡ measured t → made.length ≡ capped (length (text t))
unfolding measured
length-is t made is = ap (λ (m : Measured). m.length) is

depth-is : (t : Tree) (made : Measured) → made ≡ measured t → made.depth ≡ capped (depth t)
unfolding measured
depth-is t made is = ap (λ (m : Measured). m.depth) is

abbrev by_limits : Bool → Bool → Tree → Result Tree CaddyfileFault
by_limits long deep t = refused_where long (fault_at 0 TooLong) ▷ λ _. refused_where deep (fault_at 0 TooDeep) ▷ λ _. Ok t

pub too_long : (t : Tree) (made : Measured) → made ≡ measured t → MAX_TEXT_BYTES < made.length → within_limits t ≡ Err (fault_at 0 TooLong)
too_long t made is more =
    let long : MAX_TEXT_BYTES < length (text t) = omega (arith, more, length-is t made is) in
    ap (λ b. by_limits b (nat_lt MAX_DEPTH (depth t)) t) (lt-ltb MAX_TEXT_BYTES (length (text t)) long)

short-enough : (t : Tree) (made : Measured) → made ≡ measured t → made.length ≤ MAX_TEXT_BYTES → nat_lt MAX_TEXT_BYTES (length (text t)) ≡ false
short-enough t made is few =
    let short : length (text t) ≤ MAX_TEXT_BYTES = omega (arith, few, length-is t made is) in
    not-below MAX_TEXT_BYTES (length (text t)) (nat_lt MAX_TEXT_BYTES (length (text t))) refl short

pub too_deep : (t : Tree) (made : Measured) → made ≡ measured t → made.length ≤ MAX_TEXT_BYTES → MAX_DEPTH < made.depth → within_limits t ≡ Err (fault_at 0 TooDeep)
too_deep t made is few more =
    let deep : MAX_DEPTH < depth t = omega (arith, more, depth-is t made is) in
    ap (λ b. by_limits b (nat_lt MAX_DEPTH (depth t)) t) (short-enough t made is few) ∙ ap (λ b. by_limits false b t) (lt-ltb MAX_DEPTH (depth t) deep)

tree-is : (t : Tree) (made : Measured) → made ≡ measured t → depth t ≤ MAX_DEPTH → made.tree ≡ t
unfolding measured
tree-is t made is shallow =
    let low : capped (depth t) ≤ MAX_DEPTH = omega (arith, shallow) in
    ap (λ (m : Measured). m.tree) is ∙ ap (λ b. if b then t else tree.Null) (le-leb (capped (depth t)) MAX_DEPTH low)

pub fits : (t : Tree) (made : Measured) → made ≡ measured t → made.length ≤ MAX_TEXT_BYTES → made.depth ≤ MAX_DEPTH → within_limits t ≡ Ok made.tree
fits t made is few low =
    let shallow : depth t ≤ MAX_DEPTH = omega (arith, low, depth-is t made is) in
    ap (λ b. by_limits b (nat_lt MAX_DEPTH (depth t)) t) (short-enough t made is few)
    ∙ (ap (λ b. by_limits false b t) (not-below MAX_DEPTH (depth t) (nat_lt MAX_DEPTH (depth t)) refl shallow) ∙ ap Ok (sym (tree-is t made is shallow)))
