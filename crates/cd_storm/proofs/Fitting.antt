-- Trees that are ordered, and not too deep or long.
use Rattle.std.proofs.Common.{◌≡◌, ℕ, zero, suc, ◌+◌, ◌*◌, ◌≤◌, ◌<◌, List, [], ◌∷◌, ◌++◌, length, map, Bool, true, false, refl, ap, ap₂, ◌∙◌, arith}
use Rattle.std.specs.List.{list_all, range_with_len}
use Rattle.json.specs.Token.{end_array, end_object}
use Rattle.cd_text.specs.Steps.{joined}
use Rattle.cd_tree.specs.Tree.{largest, depth, tokens, member_tokens, is_below, keys_rise, is_ordered, IsSound}
use Rattle.cd_tree.specs.declared.limits.TheConstants.{MAX_DEPTH, MAX_TEXT_BYTES}
use Rattle.cd_tree.specs.declared.tree.Tree.{Tree}
use Rattle.cd_tree.specs.declared.tree.Tree.TheVariants.{Text, Items}
use Rattle.cd_tree.proofs.Inside.{both, from_parts}
use Rattle.cd_tree.proofs.Trees.{depth-Text, depth-Items, depth-Object, tokens-Text, tokens-Items, tokens-Object, is_ordered-Text, list_ordered, object_ordered, value_ordered, member_tokens-roll, member_depth-roll, ordered_member-roll, value_ordered-roll}
use Rattle.cd_storm.specs.FirstTree.{member, single, double, list_of}
use Rattle.cd_storm.proofs.Lengths.{weights, weights-append, print_short}

-- ordered, with so many levels and bytes at most
pub record Fits (t : Tree) (levels bytes : ℕ) : Type 0 where
  pub ordered : is_ordered t ≡ true
  pub shallow : depth t ≤ levels
  pub short : weights (tokens t) ≤ bytes

-- more levels and bytes serve too
pub within : {t : Tree} {levels bytes : ℕ} (more more_bytes : ℕ) → Fits t levels bytes → levels ≤ more → bytes ≤ more_bytes → Fits t more more_bytes
within more more_bytes f low small = record { ordered = f.ordered; shallow = omega (arith, f.shallow); short = omega (arith, f.short) }

pub fits_text : (s : List ℕ) (n : ℕ) → length s ≤ n → Fits (Text s) 0 (6 * n + 3)
fits_text s n h = record {
  ordered = is_ordered-Text s;
  shallow = omega (arith, depth-Text s);
  short = omega (arith, ap weights (tokens-Text s));
}

pub fits_list_of : (t : Tree) (levels bytes : ℕ) → Fits t levels bytes → Fits (list_of t) (levels + 1) (bytes + 4)
fits_list_of t levels bytes f = record {
  ordered = list_ordered (t ∷ []) ∙ both (is_ordered t) true f.ordered refl;
  shallow = omega (arith, depth-Items (t ∷ []), f.shallow);
  short = omega (arith, ap weights (tokens-Items (t ∷ [])), weights-append (joined (map tokens (t ∷ []))) (end_array ∷ []), weights-append (tokens t) [], f.short);
}

pub fits_single : (k : List ℕ) (t : Tree) (levels bytes : ℕ) → Fits t levels bytes → Fits (single k t) (levels + 1) (bytes + 6 * length k + 8)
fits_single k t levels bytes f =
    let m = member k t in
    record {
      ordered = object_ordered (m ∷ []) ∙ both true _ refl (both (value_ordered m) true (value_ordered-roll k t ∙ f.ordered) refl);
      shallow = omega (arith, depth-Object (m ∷ []), member_depth-roll k t, f.shallow);
      short = omega (arith, ap weights (tokens-Object (m ∷ [])), weights-append (joined (map member_tokens (m ∷ []))) (end_object ∷ []), weights-append (member_tokens m) [], ap weights (member_tokens-roll k t), f.short);
    }

two_rise : (k l : List ℕ) (b c : Bool) → is_below k l ≡ true → keys_rise ((k, b) ∷ (l, c) ∷ []) ≡ true
two_rise k l b c below = both _ _ (both (is_below k l) true below refl) refl

pub fits_double : (k l : List ℕ) (t u : Tree) (levels bytes more : ℕ) → is_below k l ≡ true → Fits t levels bytes → Fits u levels more → Fits (double k t l u) (levels + 1) (bytes + more + 6 * (length k + length l) + 12)
fits_double k l t u levels bytes more below f g =
    let m = member k t in
    let n = member l u in
    record {
      ordered = object_ordered (m ∷ n ∷ [])
          ∙ both _ _ (ap keys_rise (ap₂ (λ x y. x ∷ y ∷ []) (ordered_member-roll k t) (ordered_member-roll l u)) ∙ two_rise k l (is_ordered t) (is_ordered u) below)
          (both (value_ordered m) _ (value_ordered-roll k t ∙ f.ordered) (both (value_ordered n) true (value_ordered-roll l u ∙ g.ordered) refl));
      shallow = omega (arith, depth-Object (m ∷ n ∷ []), member_depth-roll k t, member_depth-roll l u, f.shallow, g.shallow);
      short = omega (
        arith,
        ap weights (tokens-Object (m ∷ n ∷ [])),
        weights-append (joined (map member_tokens (m ∷ n ∷ []))) (end_object ∷ []),
        weights-append (member_tokens m) (member_tokens n ++ []),
        weights-append (member_tokens n) [],
        ap weights (member_tokens-roll k t),
        ap weights (member_tokens-roll l u),
        f.short,
        g.short,
      );
    }

-- ---- lists of trees

pub record AllFit (ts : List Tree) (levels bytes : ℕ) : Type 0 where
  pub ordered : list_all is_ordered ts ≡ true
  pub shallow : largest (map depth ts) ≤ levels
  pub short : weights (joined (map tokens ts)) ≤ bytes

pub one_more_fits : (t : Tree) (ts : List Tree) (levels bytes more : ℕ) → Fits t levels bytes → AllFit ts levels more → AllFit (t ∷ ts) levels (bytes + more)
one_more_fits t ts levels bytes more f g = record {
  ordered = both (is_ordered t) _ f.ordered g.ordered;
  shallow = omega (arith, f.shallow, g.shallow);
  short = omega (arith, weights-append (tokens t) (joined (map tokens ts)), f.short, g.short);
}

pub range_fits : (f : ℕ → Tree) (levels bytes a n : ℕ) → ((i : ℕ) → i < a + n → Fits (f i) levels bytes) → AllFit (map f (range_with_len a n)) levels (bytes * n)
range_fits f levels bytes a zero each = record { ordered = refl; shallow = omega arith; short = omega arith }
range_fits f levels bytes a (suc n) each =
    let rest = range_fits f levels bytes (a + 1) n (λ i h. each i (omega arith)) in
    let all = one_more_fits (f a) (map f (range_with_len (a + 1) n)) levels bytes (bytes * n) (each a (omega arith)) rest in
    record { ordered = all.ordered; shallow = all.shallow; short = omega (arith, all.short) }

pub fits_items : (ts : List Tree) (levels bytes : ℕ) → AllFit ts levels bytes → Fits (Items ts) (levels + 1) (bytes + 4)
fits_items ts levels bytes f = record {
  ordered = list_ordered ts ∙ f.ordered;
  shallow = omega (arith, depth-Items ts, f.shallow);
  short = omega (arith, ap weights (tokens-Items ts), weights-append (joined (map tokens ts)) (end_array ∷ []), f.short);
}

-- ---- soundness

pub fits_sound : (t : Tree) (levels bytes : ℕ) → Fits t levels bytes → levels ≤ MAX_DEPTH → bytes ≤ MAX_TEXT_BYTES → IsSound t
fits_sound t levels bytes f low small =
    from_parts t (record { ordered = f.ordered; shallow = omega (arith, f.shallow); short = omega (arith, print_short false (tokens t), f.short) })
