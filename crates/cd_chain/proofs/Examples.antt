-- Examples of what a chain is made of, and what it is not made of, by the rule.
use Rattle.std.proofs.Common.{◌≡◌, ◌≤◌, true, false, Bool, ℕ, zero, suc, List, [], ◌∷◌, get_or, Some, None, Ok, sym, ap, ◌∙◌, refl, true≢false, arith}
use Rattle.cd_fill.specs.declared.failure.Failure.{Failure}
use Rattle.cd_fill.specs.declared.scene.Scene.{Scene}
use Rattle.cd_handlers.specs.Effect.{deferred, effect}
use Rattle.cd_handlers.specs.Error.{error_effect, failure_filled}
use Rattle.cd_handlers.specs.Failing.{or_failed}
use Rattle.cd_handlers.specs.declared.error.StaticError.{StaticError}
use Rattle.cd_handlers.specs.declared.handler.Handler.TheVariants as kind
use Rattle.cd_handlers.specs.declared.outcome.Effect.TheVariants as does
use Rattle.cd_routes.specs.declared.outcome.Outcome.{Outcome}
use Rattle.cd_routes.specs.declared.outcome.Outcome.TheVariants.{Answered, Failed}
use Rattle.cd_routes.specs.Named.{named_routes}
use Rattle.cd_routes.specs.Running.{Middleware, Rest, after, nothing_left, run_route}
use Rattle.cd_chain.specs.declared.place.Place.{Place}
use Rattle.cd_chain.specs.declared.place.Place.TheVariants as place
use Rattle.cd_chain.specs.Chains.{Stands}
use Rattle.cd_chain.specs.Indexes.{AreSound}
use Rattle.cd_chain.specs.Laying.{Laid, MayLay}
use Rattle.cd_chain.specs.Places.{at, ended, meanings, one_of, place_does}
use Rattle.cd_chain.proofs.Laid.{laid_end, laid_new}
use Rattle.cd_chain.proofs.Layouts.{grows_same, none_left}

no_indexes : (places : List Place) → AreSound places []
no_indexes places = λ k index there. cc

-- a chain without places stands for a server without routes
no_places : Stands (record { places = []; indexes = []; routes = 0; errors = None; sound = no_indexes [] }) [] None []
no_places = record {
  main = ap (λ (f : Middleware). f nothing_left) (laid_end place_does ended []) ∙ none_left (run_route (named_routes [])) [] nothing_left refl;
  errors = refl;
}

-- error routes that a server does not have are no part of its chain
no_error_routes : Stands (record { places = []; indexes = []; routes = 0; errors = Some 0; sound = no_indexes [] }) [] None [] → ⊥
no_error_routes stands = let given : None ≡ Some stands.errors.0 = stands.errors.1 in cc

-- ---- a handler that the server does not have

abbrev has_failed : Outcome → Bool
has_failed (Answered a) = false
has_failed (Failed x status message) = true

-- what `error` makes of a request
abbrev alone : StaticError → List Place
alone settings = place.Handler (kind.Error settings) 0 ∷ []

error_fails : (settings : StaticError) (x : Scene) (failure : Failure) → failure_filled settings x ≡ Ok failure → has_failed (at (alone settings) 1 nothing_left x) ≡ true
unfolding place_does effect deferred error_effect
error_fails settings x failure filled =
    ap (λ (f : Middleware). has_failed (f nothing_left x)) (laid_new place_does ended [] (place.Handler (kind.Error settings) 0))
    ∙ ap (λ r. has_failed (after None (one_of (meanings []) 0 nothing_left) (or_failed x r (λ (f : Failure). does.Failed x f.status f.message)))) filled

end_answers : (x : Scene) → has_failed (nothing_left x) ≡ false
unfolding nothing_left
end_answers x = refl

-- a server without routes answers each request, so its chain has no `error`
no_error : (settings : StaticError) (x : Scene) (failure : Failure) → failure_filled settings x ≡ Ok failure → Stands (record { places = alone settings; indexes = []; routes = 1; errors = None; sound = no_indexes (alone settings) }) [] None [] → ⊥
no_error settings x failure filled stands =
    true≢false (sym (error_fails settings x failure filled) ∙ ap (λ (f : Rest). has_failed (f x)) (stands.main ∙ sym (none_left (run_route (named_routes [])) [] nothing_left refl)) ∙ end_answers x)

-- ---- laying out

-- a place may be laid out after the first
may_lay : (settings : StaticError) → MayLay (alone settings) [] [] 1
may_lay settings = record { rest = omega arith; entries = entries; sound = no_indexes (alone settings) }
  where
    entries : (n : ℕ) → get_or [] n 1 ≤ 1
    entries zero = omega arith
    entries (suc n) = omega arith

-- before the first no named route can be entered
may_not_lay : MayLay [] [] [] 0 → ⊥
may_not_lay may = let h : 1 ≤ 0 = may.entries 0 in omega (arith, h)

-- where no place is added, what is done is what is at `rest`
laid_none : (settings : StaticError) → Laid (λ (r : Rest). r) (alone settings) (alone settings) [] 1 1
laid_none settings = record { meaning = λ back. refl; within = omega arith; grows = grows_same (alone settings); sound = no_indexes (alone settings) }

-- a number of no place
not_laid : (does : Middleware) (settings : StaticError) → Laid does (alone settings) (alone settings) [] 1 2 → ⊥
not_laid does settings l = let h : 2 ≤ 1 = l.within in omega (arith, h)
