-- The two configurations of a fixed set: what a tree and a request mean, and who answers while one runs.
use Rattle.std.specs.Prelude.{Bool, false, if◌then◌else◌, [], ◌≢◌, refl, Option, Some, Result, Ok, Err}
use Rattle.cd_tree.specs.declared.tree.Member.{Member}
use Rattle.cd_tree.specs.declared.tree.Tree.{Tree, out-Tree}
use Rattle.cd_tree.specs.declared.tree.Tree.TheOpen.{Tree-F}
use Rattle.cd_tree.specs.declared.tree.Tree.TheVariants.{Bool as Truth}
use Rattle.cd_wire.specs.declared.request.Request.{Request}
use Rattle.cd_module.specs.declared.fault.LoadFault.{LoadFault}
use Rattle.cd_module.specs.declared.fault.LoadFault.TheVariants.{NoMemory}
use Rattle.cd_module.proofs.Sure.{never_lacks}
use Rattle.cd_legal.specs.declared.plan.Plan.{Plan}
use Rattle.cd_module_set.specs.Acts.{Acts}
use Rattle.cd_module_set.specs.declared.target.Target.TheVariants as target

-- the tree is true
abbrev pub is_true_layer : Tree-F Tree Member → Bool
is_true_layer Tree-F.Null = false
is_true_layer (Tree-F.Bool b) = b
is_true_layer (Tree-F.Num number) = false
is_true_layer (Tree-F.Text text) = false
is_true_layer (Tree-F.Items items) = false
is_true_layer (Tree-F.Object members) = false

-- the tree true is that of the other configuration, and each other one that of the first; no tree has a fault
abbrev pub fixed_verdict : (Bool → Plan) → Tree → Result Plan LoadFault
fixed_verdict planned tree = Ok (planned (is_true_layer (out-Tree tree)))

pub fixed_sure : (planned : Bool → Plan) (tree : Tree) → fixed_verdict planned tree ≢ Err NoMemory
fixed_sure planned tree = never_lacks (fixed_verdict planned tree) refl

-- while it runs the admin API is everywhere, and else nobody; no app answers
abbrev pub fixed_acts : Bool → Acts
fixed_acts running = record {
  target = λ at. if running then target.Admin else target.Nobody;
  answer = λ at request. record { status = 200; fields = []; body = []; close = false };
  lines = λ at request answer. [];
}

-- a request that closes its connection asks for the other configuration, and each other one for the first
abbrev pub fixed_change : Tree → Request → Option Tree
fixed_change before request = Some (Truth request.close)
