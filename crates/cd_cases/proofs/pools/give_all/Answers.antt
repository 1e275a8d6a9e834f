use Rattle.std.proofs.Common.{◌≡◌, sym, ◌∙◌, arith}
use Rattle.std.proofs.lemmas.Bool.{eqb-true}
use Rattle.std.specs.Vec.{vec_len}
use Rattle.cd_cases.proofs.LeaseLemmas.{all_given}
use Rattle.cd_cases.proofs.pools.give_all.Goals as goal

pub returns-clause-held : goal.returns-clause-held
returns-clause-held c =
    let none : vec_len c.giving.leases ≡ 0 = eqb-true _ 0 (sym c.is_empty.ensures ∙ c.giving-test.false) in
    let len = c.giving.leases.ok.0 in
    all_given c.giving.pool.held c.giving.leases.items (omega (arith, none, len)) c.giving.invariant
