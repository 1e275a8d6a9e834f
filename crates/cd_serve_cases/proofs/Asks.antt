-- What a request asks for, under a configuration that runs.
use Rattle.std.proofs.Common.{◌≡◌, Bool, true, false, Some, refl, sym, ap, ◌∙◌}
use Rattle.cd_tree.specs.declared.tree.Tree.{Tree}
use Rattle.cd_tree.specs.declared.tree.Tree.TheVariants as tree
use Rattle.cd_wire.specs.declared.request.Request.{Request}
use Rattle.cd_legal.specs.State.{Conf}
use Rattle.cd_serve.specs.Attempts.{Asks}
use Rattle.cd_fixed.specs.Fixed.{fixed_change}
use Rattle.cd_pair.specs.Runs.{runs}

-- the request asks for the tree
pub asks : (conf : Conf) (request : Request) (other : Bool) (after : Tree) → runs conf ≡ true → request.close ≡ other → after ≡ tree.Bool other → Asks fixed_change conf request after
asks Conf.Opening request other after running is same = absurd (let h : false ≡ true = running in cc)
asks Conf.Halted request other after running is same = absurd (let h : false ≡ true = running in cc)
asks (Conf.Of before) request other after running is same = (before, refl, ap (λ (b : Bool). Some (tree.Bool b)) is ∙ ap (λ (t : Tree). Some t) (sym same))
