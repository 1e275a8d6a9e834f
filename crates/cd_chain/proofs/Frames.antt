-- The last frame meets the outcome first, and the last return comes next.
use Rattle.std.proofs.Common.{◌≡◌, ℕ, ◌+◌, ◌≤◌, List, [], ◌∷◌, ◌++◌, sym, ap, ◌∙◌, refl, arith}
use Rattle.std.proofs.lemmas.List.Sums.{fold-append}
use Rattle.cd_fill.specs.declared.scene.Scene.{Scene}
use Rattle.cd_handlers.specs.declared.changes.FilledChanges.{FilledChanges}
use Rattle.cd_routes.specs.declared.outcome.Outcome.{Outcome}
use Rattle.cd_routes.specs.declared.outcome.Outcome.TheVariants.{Failed}
use Rattle.cd_routes.specs.Running.{nothing_left, with_changes, with_error}
use Rattle.cd_chain.specs.declared.place.ErrorRoutes.{ErrorRoutes}
use Rattle.cd_chain.specs.declared.place.Place.{Place}
use Rattle.cd_chain.specs.declared.place.Frame.{Frame}
use Rattle.cd_chain.specs.declared.place.Frame.TheVariants.{Changes, Catch}
use Rattle.cd_chain.specs.Places.{at, returning}
use Rattle.cd_chain.specs.Steps.{returning_steps, steps_at, frame_steps, frames_steps}
use Rattle.cd_chain.specs.Frames.{framed, unwound}

pub returning_push : (places : List Place) (returns : List ℕ) (n : ℕ) → returning places (returns ++ n ∷ []) ≡ at places n (returning places returns)
unfolding returning
returning_push places returns n = fold-append (λ rest k. at places k rest) nothing_left returns (n ∷ [])

pub returning_steps_push : (places : List Place) (returns : List ℕ) (n : ℕ) → returning_steps places (returns ++ n ∷ []) ≡ steps_at places n (returning_steps places returns)
unfolding returning_steps
returning_steps_push places returns n = fold-append (λ back k. steps_at places k back) 1 returns (n ∷ [])

pub returning_none : (places : List Place) (returns : List ℕ) → returns ≡ [] → returning places returns ≡ nothing_left
unfolding returning
returning_none places returns is = ap (returning places) is

pub unwound_push : (places : List Place) (frames : List Frame) (last : Frame) (outcome : Outcome) →
    unwound places (frames ++ last ∷ []) outcome ≡ unwound places frames (framed places last outcome)
unfolding unwound
unwound_push places [] last outcome = refl
unwound_push places (first ∷ others) last outcome = ap (framed places first) (unwound_push places others last outcome)

pub steps_push : (places : List Place) (frames : List Frame) (last : Frame) → frames_steps places (frames ++ last ∷ []) ≡ frames_steps places frames + frame_steps places last
unfolding frames_steps
steps_push places [] last = omega arith
steps_push places (first ∷ others) last = omega (arith, steps_push places others last)

pub unwound_none : (places : List Place) (frames : List Frame) (outcome : Outcome) → frames ≡ [] → unwound places frames outcome ≡ outcome
unfolding unwound
unwound_none places frames outcome is = ap (λ fs. unwound places fs outcome) is

-- ---- a failure

pub steps_popped : (places : List Place) (left new : List Frame) (last : Frame) → left ≡ new ++ last ∷ [] → frames_steps places new ≤ frames_steps places left
steps_popped places left new last is = omega (arith, ap (frames_steps places) is, steps_push places new last)

pub steps_caught : (places : List Place) (left new : List Frame) (last : Frame) (errors : ErrorRoutes) → left ≡ new ++ last ∷ [] → last ≡ Catch errors →
    1 + (steps_at places errors.begin (returning_steps places errors.returns) + frames_steps places new) ≤ frames_steps places left
steps_caught places left new last errors is catches = omega (arith, ap (frames_steps places) is, steps_push places new last, ap (frame_steps places) catches)

-- it meets no changes
pub unwound_passed : (places : List Place) (left new : List Frame) (last : Frame) (x : Scene) (status : ℕ) (message : List ℕ) (changes : FilledChanges) → left ≡ new ++ last ∷ [] → last ≡ Changes changes →
    unwound places new (Failed x status message) ≡ unwound places left (Failed x status message)
unfolding with_changes
unwound_passed places left new last x status message changes is kind =
    sym (ap (λ fs. unwound places fs (Failed x status message)) is ∙ unwound_push places new last (Failed x status message)
    ∙ ap (λ f. unwound places new (framed places f (Failed x status message))) kind)

pub unwound_caught : (places : List Place) (left new : List Frame) (last : Frame) (x : Scene) (status : ℕ) (message : List ℕ) (errors : ErrorRoutes) → left ≡ new ++ last ∷ [] → last ≡ Catch errors →
    unwound places left (Failed x status message) ≡ unwound places new (at places errors.begin (returning places errors.returns) (with_error status message x))
unwound_caught places left new last x status message errors is kind =
    ap (λ fs. unwound places fs (Failed x status message)) is ∙ unwound_push places new last (Failed x status message)
    ∙ ap (λ f. unwound places new (framed places f (Failed x status message))) kind
