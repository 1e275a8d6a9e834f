use Rattle.std.proofs.Common.{◌≡◌, suc, List, map, ap, ◌∙◌}
use Rattle.cd_tree.specs.Lengths.{commas, bracketed}
use Rattle.cd_tree.specs.Tree.{largest}
use Rattle.cd_tree.specs.declared.tree.Tree as tree
use Rattle.cd_tree.specs.declared.tree.Tree.{Tree}
use Rattle.cd_parts.specs.Measures.{capped, within_depth, list_of}
use Rattle.cd_parts.specs.declared.measured.Measured.{Measured}
use Rattle.cd_parts.proofs.MeasureLaws.{bracketed-by_sum, deeper-by_largest}
use Rattle.cd_parts.proofs.measured.list_of.Goals as goal

pub returns : goal.returns
unfolding list_of
returns c =
    let long : c.bracketed-length.result ≡ capped (bracketed (map (λ (m : Measured). m.length) c.args.items)) =
    c.bracketed-length.ensures ∙ bracketed-by_sum _ _ (c.items_length.ensures ∙ ap (λ (ms : List Measured). capped (commas (map (λ (m : Measured). m.length) ms))) c.as_slice.ensures) in
    let deep : c.saturating_add-depth.result ≡ capped (suc (largest (map (λ (m : Measured). m.depth) c.args.items))) =
    c.saturating_add-depth.ensures ∙ deeper-by_largest _ _ (c.deepest_item.ensures ∙ ap (λ (ms : List Measured). capped (largest (map (λ (m : Measured). m.depth) ms))) c.as_slice-2.ensures) in
    let trees : c.within_depth.result ≡ within_depth c.saturating_add-depth.result (tree.Items (map (λ (m : Measured). m.tree) c.args.items)) =
    c.within_depth.ensures ∙ ap (λ (ts : List Tree). within_depth c.saturating_add-depth.result (tree.Items ts)) (c.in_ok-items.ensures ∙ c.in_ok-trees_of.ensures) in
    λ i. record {
      tree = (trees ∙ ap (λ d. within_depth d (tree.Items (map (λ (m : Measured). m.tree) c.args.items))) deep) i;
      length = long i;
      depth = deep i;
    }
