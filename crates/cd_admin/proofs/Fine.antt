-- What a request makes was found to be fine, and what is served says of the admin API what can be read.
use Rattle.std.proofs.Common.{◌≡◌, true, Some, Result, Ok, Err, inl, inr, refl, sym, subst, rules}
use Rattle.std.specs.Result.{IsOk}
use Rattle.cd_text.specs.Steps.{◌▷◌}
use Rattle.cd_tree.proofs.Outcomes.{chained}
use Rattle.cd_tree.specs.Fields.{is_null}
use Rattle.cd_tree.specs.declared.tree.Tree.{Tree, Null, the_lemmas}
use Rattle.cd_wire.specs.declared.request.Request.{Request}
use Rattle.cd_module.specs.declared.fault.LoadFault.{LoadFault}
use Rattle.cd_module.specs.declared.fault.LoadFault.TheVariants as load
use Rattle.cd_legal.specs.declared.plan.Plan.{Plan}
use Rattle.cd_admin.specs.Admin.{admin_in, admin_of}
use Rattle.cd_admin.specs.Asking.{asked}
use Rattle.cd_admin.specs.Deciding.{decided, replaced, made, fine, outcome, ended, new_tree, change_of}
use Rattle.cd_admin.specs.Decisions.{IsServed}
use Rattle.cd_admin.specs.Endings.{Test}
use Rattle.cd_admin.specs.Origins.{admitted}
use Rattle.cd_admin.specs.declared.ending.Ending.{Ending}
use Rattle.cd_admin.specs.declared.ending.Ending.TheVariants as ending
use Rattle.cd_admin.proofs.Nulls.{null_says_nothing}

-- an ending replaces nothing
ended_none : (stop : Ending) (u : Tree) → new_tree (ended stop) ≡ Some u → ⊥
ended_none (ending.Denied denial) u e = cc
ended_none (ending.Shown tag value) u e = cc
ended_none ending.Unchanged u e = cc
ended_none ending.Halt u e = cc
ended_none ending.NoMemory u e = cc

of_outcome : (r : Test Tree) (u : Tree) → new_tree (outcome r) ≡ Some u → r ≡ Ok u
of_outcome (Ok t) u e = cc
of_outcome (Err stop) u e = absurd (ended_none stop u e)

-- what passes the test is fine
fine_ok : (r : Result Plan LoadFault) (t u : Tree) → (fine r ▷ λ _. Ok t) ≡ Ok u → IsOk r × (t ≡ u)
fine_ok (Ok plan) t u e = (refl, cc)
fine_ok (Err (load.Refused refusal)) t u e = absurd (let bad : ⊥ = cc in bad)
fine_ok (Err load.NoMemory) t u e = absurd (let bad : ⊥ = cc in bad)

pub makes_fine : (verdict : Tree → Result Plan LoadFault) (t u : Tree) (q : Request) → change_of verdict t q ≡ Some u → IsOk (verdict u)
unfolding change_of decided replaced
makes_fine verdict t u q e =
    let all = of_outcome (admitted (admin_of t) q.host q.fields ▷ λ _. asked q ▷ λ a. made t q.fields a ▷ λ n. fine (verdict n) ▷ λ _. Ok n) u e in
    let whole = chained (admitted (admin_of t) q.host q.fields) (λ _. asked q ▷ λ a. made t q.fields a ▷ λ n. fine (verdict n) ▷ λ _. Ok n) u all in
    let one = chained (asked q) (λ a. made t q.fields a ▷ λ n. fine (verdict n) ▷ λ _. Ok n) u whole.2 in
    let two = chained (made t q.fields one.0) (λ n. fine (verdict n) ▷ λ _. Ok n) u one.2 in
    let three = fine_ok (verdict two.0) two.0 u two.2 in
    subst (λ n. IsOk (verdict n)) three.1 three.0

-- ---- what is served

null_is : is_null Null ≡ true
null_is = search (rules, the_lemmas)

fine_by : (t : Tree) (r : Result Plan LoadFault) → ((plan : Plan) → r ≡ Ok plan → IsOk (admin_in t)) → IsOk r → IsOk (admin_in t)
fine_by t (Ok plan) law ok = law plan refl
fine_by t (Err fault) law ok = absurd (let no : ⊥ = cc in no)

pub served_fine : (verdict : Tree → Result Plan LoadFault) (t : Tree) → ((tree : Tree) (plan : Plan) → verdict tree ≡ Ok plan → IsOk (admin_in tree)) → IsServed verdict t → IsOk (admin_in t)
served_fine verdict t law (inl is) = subst (λ (x : Tree). IsOk (admin_in x)) (sym is) (null_says_nothing Null null_is)
served_fine verdict t law (inr ok) = fine_by t (verdict t) (law t) ok
