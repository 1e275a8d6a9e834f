-- What a step leads to, and that fewer steps are left after it.
use Rattle.std.proofs.Common.{◌≡◌, ℕ, ◌+◌, ◌-◌, ◌<◌, List, [], ◌∷◌, ◌++◌, take, Option, sym, ap, ◌∙◌, arith}
use Rattle.cd_fill.specs.declared.scene.Scene.{Scene}
use Rattle.cd_handlers.specs.declared.handler.Handler.{Handler}
use Rattle.cd_match.specs.declared.sets.Sets.{Sets}
use Rattle.cd_routes.specs.Running.{Rest, Middleware, nothing_left, handled}
use Rattle.cd_chain.specs.declared.index.Entry.{Entry}
use Rattle.cd_chain.specs.declared.place.ErrorRoutes.{ErrorRoutes}
use Rattle.cd_chain.specs.declared.place.Place.{Place}
use Rattle.cd_chain.specs.declared.place.Place.TheVariants as place
use Rattle.cd_chain.specs.declared.place.Frame.{Frame}
use Rattle.cd_chain.specs.declared.place.Frame.TheVariants.{Catch}
use Rattle.cd_chain.specs.Places.{or_failed, one_of, route_does, place_does, meanings, at, returning}
use Rattle.cd_chain.specs.Steps.{steps_of, place_steps, counts, steps_at, returning_steps, frames_steps}
use Rattle.cd_chain.specs.Frames.{unwound}
use Rattle.cd_chain.proofs.Frames.{unwound_push, steps_push, returning_push, returning_steps_push, returning_none}

-- the places before a place
abbrev before : ℕ → List Place → List Place
before n places = take (n - 1) places

pub handler_goes : (places : List Place) (n next i : ℕ) (h : Handler) (p : Place) (back : Rest) (x : Scene) → p ≡ place.Handler h next →
    at places n ≡ place_does (meanings (before n places)) p → at places i ≡ one_of (meanings (before n places)) next → handled h (at places i back) x ≡ at places n back x
unfolding place_does
handler_goes places n next i h p back x is here there =
    ap (λ (k : Middleware). handled h (k back) x) there ∙ sym (ap (λ q. place_does (meanings (before n places)) q back x) is) ∙ sym (ap (λ (f : Middleware). f back x) here)

pub route_goes : (places : List Place) (n inside otherwise i o m : ℕ) (matching : Sets) (group : Option (List ℕ)) (entry : Option Entry) (p : Place) (back : Rest) (x y : Scene) → p ≡ place.Route matching group inside otherwise entry →
    at places n ≡ place_does (meanings (before n places)) p → at places i ≡ one_of (meanings (before n places)) inside → at places o ≡ one_of (meanings (before n places)) otherwise →
    at places m back y ≡ route_does matching group (at places i back) (at places o back) x → at places m back y ≡ at places n back x
unfolding place_does
route_goes places n inside otherwise i o m matching group entry p back x y is here in_is out_is next =
    next ∙ ap (λ (f : Middleware). route_does matching group (f back) (at places o back) x) in_is
    ∙ ap (λ (g : Middleware). route_does matching group (one_of (meanings (before n places)) inside back) (g back) x) out_is
    ∙ sym (ap (λ q. place_does (meanings (before n places)) q back x) is) ∙ sym (ap (λ (f : Middleware). f back x) here)

pub try_goes : (places : List Place) (old new : List Frame) (caught : ErrorRoutes) (n first errors f : ℕ) (p : Place) (x : Scene) → p ≡ place.Try first errors →
    at places n ≡ place_does (meanings (before n places)) p → at places f ≡ one_of (meanings (before n places)) first → at places caught.begin ≡ one_of (meanings (before n places)) errors →
    new ≡ old ++ Catch caught ∷ [] →
    unwound places new (at places f (returning places caught.returns) x) ≡ unwound places old (at places n (returning places caught.returns) x)
unfolding place_does
try_goes places old new caught n first errors f p x is here first_is errors_is pushed =
    let back = returning places caught.returns in
    ap (λ fs. unwound places fs (at places f back x)) pushed ∙ unwound_push places old (Catch caught) (at places f back x)
    ∙ ap (unwound places old) (ap (λ (k : Middleware). or_failed (at places caught.begin back) (k back x)) first_is
    ∙ ap (λ (k : Middleware). or_failed (k back) (one_of (meanings (before n places)) first back x)) errors_is
    ∙ sym (ap (λ q. place_does (meanings (before n places)) q back x) is) ∙ sym (ap (λ (g : Middleware). g back x) here))

pub invoke_goes : (places : List Place) (old new : List ℕ) (n inside next i k : ℕ) (p : Place) (x : Scene) → p ≡ place.Invoke inside next →
    at places n ≡ place_does (meanings (before n places)) p → at places i ≡ one_of (meanings (before n places)) inside → at places k ≡ one_of (meanings (before n places)) next →
    new ≡ old ++ k ∷ [] → at places i (returning places new) x ≡ at places n (returning places old) x
unfolding place_does
invoke_goes places old new n inside next i k p x is here in_is next_is pushed =
    ap (λ r. at places i (returning places r) x) pushed
    ∙ ap (λ b. at places i b x) (returning_push places old k)
    ∙ ap (λ (f : Middleware). at places i (f (returning places old)) x) next_is
    ∙ ap (λ (f : Middleware). f (one_of (meanings (before n places)) next (returning places old)) x) in_is
    ∙ sym (ap (λ q. place_does (meanings (before n places)) q (returning places old) x) is) ∙ sym (ap (λ (f : Middleware). f (returning places old) x) here)

pub return_goes : (places : List Place) (old new : List ℕ) (n k : ℕ) (p : Place) (x : Scene) → p ≡ place.Return →
    at places n ≡ place_does (meanings (before n places)) p → old ≡ new ++ k ∷ [] → at places k (returning places new) x ≡ at places n (returning places old) x
unfolding place_does
return_goes places old new n k p x is here popped =
    sym (ap (λ (f : Middleware). f (returning places old) x) here ∙ ap (λ q. place_does (meanings (before n places)) q (returning places old) x) is
    ∙ ap (λ r. returning places r x) popped ∙ ap (λ (f : Rest). f x) (returning_push places new k))

pub return_ends : (places : List Place) (old : List ℕ) (n : ℕ) (p : Place) (x : Scene) → p ≡ place.Return →
    at places n ≡ place_does (meanings (before n places)) p → old ≡ [] → nothing_left x ≡ at places n (returning places old) x
unfolding place_does
return_ends places old n p x is here none =
    sym (ap (λ (f : Middleware). f (returning places old) x) here ∙ ap (λ q. place_does (meanings (before n places)) q (returning places old) x) is
    ∙ ap (λ (f : Rest). f x) (returning_none places old none))

-- ---- how many steps are left

pub handler_steps : (places : List Place) (n next i back : ℕ) (h : Handler) (p : Place) → p ≡ place.Handler h next →
    steps_at places n ≡ place_steps (counts (before n places)) p → steps_at places i ≡ steps_of (counts (before n places)) next → steps_at places i back < steps_at places n back
unfolding place_steps
handler_steps places n next i back h p is here there =
    omega (arith, ap (λ (f : ℕ → ℕ). f back) here, ap (λ q. place_steps (counts (before n places)) q back) is, ap (λ (f : ℕ → ℕ). f back) there)

pub route_steps : (places : List Place) (n inside otherwise i o back : ℕ) (matching : Sets) (group : Option (List ℕ)) (entry : Option Entry) (p : Place) → p ≡ place.Route matching group inside otherwise entry →
    steps_at places n ≡ place_steps (counts (before n places)) p → steps_at places i ≡ steps_of (counts (before n places)) inside → steps_at places o ≡ steps_of (counts (before n places)) otherwise →
    steps_at places i back + steps_at places o back < steps_at places n back
unfolding place_steps
route_steps places n inside otherwise i o back matching group entry p is here in_is out_is =
    omega (arith, ap (λ (f : ℕ → ℕ). f back) here, ap (λ q. place_steps (counts (before n places)) q back) is, ap (λ (f : ℕ → ℕ). f back) in_is, ap (λ (f : ℕ → ℕ). f back) out_is)

pub try_steps : (places : List Place) (old new : List Frame) (caught : ErrorRoutes) (n first errors f : ℕ) (p : Place) → p ≡ place.Try first errors →
    steps_at places n ≡ place_steps (counts (before n places)) p → steps_at places f ≡ steps_of (counts (before n places)) first → steps_at places caught.begin ≡ steps_of (counts (before n places)) errors →
    new ≡ old ++ Catch caught ∷ [] → steps_at places f (returning_steps places caught.returns) + frames_steps places new < steps_at places n (returning_steps places caught.returns) + frames_steps places old
unfolding place_steps
try_steps places old new caught n first errors f p is here first_is errors_is pushed =
    let back = returning_steps places caught.returns in
    omega (
      arith,
      ap (λ (g : ℕ → ℕ). g back) here,
      ap (λ q. place_steps (counts (before n places)) q back) is,
      ap (λ (g : ℕ → ℕ). g back) first_is,
      ap (λ (g : ℕ → ℕ). g back) errors_is,
      ap (frames_steps places) pushed,
      steps_push places old (Catch caught),
    )

pub invoke_steps : (places : List Place) (old new : List ℕ) (n inside next i k : ℕ) (p : Place) → p ≡ place.Invoke inside next →
    steps_at places n ≡ place_steps (counts (before n places)) p → steps_at places i ≡ steps_of (counts (before n places)) inside → steps_at places k ≡ steps_of (counts (before n places)) next →
    new ≡ old ++ k ∷ [] → steps_at places i (returning_steps places new) < steps_at places n (returning_steps places old)
unfolding place_steps
invoke_steps places old new n inside next i k p is here in_is next_is pushed =
    let back = returning_steps places old in
    omega (
      arith,
      ap (λ (g : ℕ → ℕ). g back) here,
      ap (λ q. place_steps (counts (before n places)) q back) is,
      ap (λ (g : ℕ → ℕ). g (returning_steps places new)) in_is,
      ap (λ t. steps_of (counts (before n places)) inside t) (ap (returning_steps places) pushed ∙ returning_steps_push places old k ∙ ap (λ (g : ℕ → ℕ). g back) next_is),
    )

pub return_steps : (places : List Place) (old new : List ℕ) (n k : ℕ) (p : Place) → p ≡ place.Return →
    steps_at places n ≡ place_steps (counts (before n places)) p → old ≡ new ++ k ∷ [] → steps_at places k (returning_steps places new) < steps_at places n (returning_steps places old)
unfolding place_steps
return_steps places old new n k p is here popped =
    omega (
      arith,
      ap (λ (g : ℕ → ℕ). g (returning_steps places old)) here,
      ap (λ q. place_steps (counts (before n places)) q (returning_steps places old)) is,
      ap (returning_steps places) popped,
      returning_steps_push places new k,
    )

pub return_takes : (places : List Place) (n back : ℕ) (p : Place) → p ≡ place.Return → steps_at places n ≡ place_steps (counts (before n places)) p → 0 < steps_at places n back
unfolding place_steps
return_takes places n back p is here = omega (arith, ap (λ (g : ℕ → ℕ). g back) here, ap (λ q. place_steps (counts (before n places)) q back) is)
