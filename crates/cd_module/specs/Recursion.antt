-- Part of the main theorem.
-- Readers that read values inside by themselves.
use Rattle.std.specs.Prelude.{◌≡◌, ◌<◌, ℕ, zero, suc, Err}
use Rattle.cd_tree.specs.Tree.{depth}
use Rattle.cd_tree.specs.declared.path.Path.{Path}
use Rattle.cd_tree.specs.declared.tree.Tree.{Tree}
use Rattle.cd_module.specs.Settings.{Reader}
use Rattle.cd_module.specs.declared.fault.LoadFault.TheVariants.{NoMemory}

-- the body around itself so many times; `recursive` takes one more than the tree is deep
unfoldable pub levels : {X : Type 0} → (Reader X → Reader X) → ℕ → Reader X
levels body zero t at = Err NoMemory
levels body (suc n) t at = body (levels body n) t at

-- the reader that is `body` of itself: law `unfolds`
unfoldable pub recursive : {X : Type 0} → (Reader X → Reader X) → Reader X
unfolding levels
recursive body t at = levels body (suc (depth t)) t at

-- two readers agree on values that nest less than this
pub record Agree {X : Type 0} (n : ℕ) (f g : Reader X) : Type 0 where
  pub same : (s : Tree) (p : Path) → depth s < n → f s p ≡ g s p

-- a body reads values inside alone
pub record Inward {X : Type 0} (body : Reader X → Reader X) : Type 0 where
  pub same : (f g : Reader X) (t : Tree) (at : Path) → Agree (depth t) f g → body f t at ≡ body g t at
