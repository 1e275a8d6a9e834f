-- Each relation where it holds, and a near miss.
use Rattle.std.proofs.Common.{true, false, List, [], ◌∷◌, inl, inr, refl, arith}
use Rattle.std.specs.Prelude.{codes}
use Rattle.cd_outside.specs.declared.address.Address.{Address}
use Rattle.cd_peers.specs.declared.policy.Policy.TheVariants.{First}
use Rattle.cd_peers.specs.declared.state.BalancerState.{BalancerState}
use Rattle.cd_peers.specs.Balance.{begun, ended, fresh}
use Rattle.cd_peers.specs.Pick.{IsPick}
use Rattle.cd_peers.specs.Calls.{began, finished, Leads}

abbrev two : List Address
two = record { host = codes "a"; port = 80 } ∷ record { host = codes "b"; port = 80 } ∷ []

-- ---- which is picked

of_first : IsPick (fresh First two) 0
of_first = record { candidate = (omega arith, inl refl); least = λ v c. inr (refl, omega arith) }

-- not the second, where the first is not down
of_second : IsPick (fresh First two) 1 → ⊥
of_second p = elim (p.least 0 (omega arith, inl refl)) as (λ _. ⊥) [ inl less ↦ absurd (omega (arith, less)) | inr same ↦ absurd (omega (arith, same.1)) ]

-- not a third, of two
of_third : IsPick (fresh First two) 2 → ⊥
of_third p = absurd (omega (arith, p.candidate.0))

-- ---- lists of calls

of_calls : Leads (fresh First two) (began 0 0 ∷ finished 0 false ∷ []) (ended 0 false (begun 0 0 (fresh First two)))
of_calls = (omega arith, of_first, (omega arith, refl))

-- there is no such place
of_place : (c : BalancerState) → Leads (fresh First two) (finished 128 true ∷ []) c → ⊥
of_place c leads = absurd (omega (arith, leads.0))

-- the call picked another one than it has to
of_other : (c : BalancerState) → Leads (fresh First two) (began 0 1 ∷ []) c → ⊥
of_other c leads = elim (leads.1.least 0 (omega arith, inl refl)) as (λ _. ⊥) [ inl less ↦ absurd (omega (arith, less)) | inr same ↦ absurd (omega (arith, same.1)) ]
