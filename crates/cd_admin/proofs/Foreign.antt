-- Requests by a host, or from an origin, that is not expected.
use Rattle.std.proofs.Common.{◌≡◌, ℕ, List, ◌∷◌, [], true, false, Result, Ok, refl, ap}
use Rattle.std.specs.Prelude.{codes}
use Rattle.cd_text.specs.Steps.{◌▷◌}
use Rattle.cd_tree.specs.declared.tree.Tree.{Tree}
use Rattle.cd_wire.specs.Fields.{values}
use Rattle.cd_wire.specs.declared.fields.Field.{Field}
use Rattle.cd_wire.specs.declared.request.Request.{Request}
use Rattle.cd_module.specs.declared.fault.LoadFault.{LoadFault}
use Rattle.cd_legal.specs.declared.plan.Plan.{Plan}
use Rattle.cd_admin.specs.Admin.{admin_of}
use Rattle.cd_admin.specs.Answers.{refusal}
use Rattle.cd_admin.specs.Asking.{asked}
use Rattle.cd_admin.specs.Deciding.{decided, replaced, made, fine, outcome, reply}
use Rattle.cd_admin.specs.Endings.{denied}
use Rattle.cd_admin.specs.Origins.{admitted, expected, is_among, origin_test, without_scheme}
use Rattle.cd_admin.specs.declared.admin.Admin.{Admin}
use Rattle.cd_admin.specs.declared.denial.Denial.{Denial}
use Rattle.cd_admin.specs.declared.denial.Denial.TheVariants.{OtherHost, OtherOrigin}

by_host : (a : Admin) (host : List ℕ) (fields : List Field) → a.enforce_origin ≡ true → is_among (expected a) host ≡ false → admitted a host fields ≡ denied OtherHost
unfolding admitted
by_host a host fields on other = rw (on, other) refl

one_or_more : (entries : List (List ℕ)) (origin : List ℕ) (others : List (List ℕ)) → is_among entries (without_scheme origin) ≡ false → origin_test entries (origin ∷ others) ≡ denied OtherOrigin
one_or_more entries origin [] other = rw other refl
one_or_more entries origin (second ∷ more) other = refl

by_origin : (a : Admin) (host : List ℕ) (fields : List Field) (origin : List ℕ) (others : List (List ℕ)) → a.enforce_origin ≡ true → is_among (expected a) host ≡ true
    → values (codes "origin") fields ≡ origin ∷ others → is_among (expected a) (without_scheme origin) ≡ false → admitted a host fields ≡ denied OtherOrigin
unfolding admitted
by_origin a host fields origin others on known sent other = rw (on, known, sent) (one_or_more (expected a) origin others other)

ends : (verdict : Tree → Result Plan LoadFault) (t : Tree) (q : Request) (denial : Denial) → admitted (admin_of t) q.host q.fields ≡ denied denial → decided verdict t q ≡ reply (refusal denial)
unfolding decided replaced
ends verdict t q denial is = ap (λ r. outcome (r ▷ λ _. asked q ▷ λ a. made t q.fields a ▷ λ u. fine (verdict u) ▷ λ _. Ok u)) is

pub foreign_host : (verdict : Tree → Result Plan LoadFault) (t : Tree) (q : Request) → (admin_of t).enforce_origin ≡ true → is_among (expected (admin_of t)) q.host ≡ false
    → decided verdict t q ≡ reply (refusal OtherHost)
foreign_host verdict t q on other = ends verdict t q OtherHost (by_host (admin_of t) q.host q.fields on other)

pub foreign_origin : (verdict : Tree → Result Plan LoadFault) (t : Tree) (q : Request) (origin : List ℕ) (others : List (List ℕ)) → (admin_of t).enforce_origin ≡ true
    → is_among (expected (admin_of t)) q.host ≡ true → values (codes "origin") q.fields ≡ origin ∷ others → is_among (expected (admin_of t)) (without_scheme origin) ≡ false
    → decided verdict t q ≡ reply (refusal OtherOrigin)
foreign_origin verdict t q origin others on known sent other = ends verdict t q OtherOrigin (by_origin (admin_of t) q.host q.fields origin others on known sent other)
