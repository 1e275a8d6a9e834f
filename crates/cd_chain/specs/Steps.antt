-- How many steps there may be from a place on, where what follows the named route takes so many. They are counted by the same
-- recursion as the meaning of places is.
use Rattle.std.specs.Prelude.{ℕ, ◌+◌, List, [], ◌∷◌, fold, get_or}
use Rattle.cd_chain.specs.declared.place.Place.{Place}
use Rattle.cd_chain.specs.declared.place.Place.TheVariants as place
use Rattle.cd_chain.specs.declared.place.Frame.{Frame}
use Rattle.cd_chain.specs.declared.place.Frame.TheVariants.{Changes, Catch}
use Rattle.cd_chain.specs.declared.progress.Progress.{Progress}
use Rattle.cd_chain.specs.declared.progress.Progress.TheVariants as progress
use Rattle.cd_chain.specs.Places.{laid}

abbrev pub no_steps : ℕ → ℕ
no_steps back = 1

abbrev pub steps_of : List (ℕ → ℕ) → ℕ → ℕ → ℕ
steps_of earlier n = get_or earlier n no_steps

unfoldable pub place_steps : List (ℕ → ℕ) → Place → ℕ → ℕ
place_steps earlier (place.Handler handler next) back = 1 + steps_of earlier next back
place_steps earlier (place.Route matching group inside otherwise entry) back = 1 + (steps_of earlier inside back + steps_of earlier otherwise back)
place_steps earlier (place.Try first errors) back = 2 + (steps_of earlier first back + steps_of earlier errors back)
place_steps earlier (place.Invoke inside next) back = 1 + steps_of earlier inside (steps_of earlier next back)
place_steps earlier place.Return back = 1 + back

abbrev pub counts : List Place → List (ℕ → ℕ)
counts places = laid place_steps no_steps places

abbrev pub steps_at : List Place → ℕ → ℕ → ℕ
steps_at places n = steps_of (counts places) n

unfoldable pub returning_steps : List Place → List ℕ → ℕ
returning_steps places returns = fold (λ back n. steps_at places n back) 1 returns

-- ---- with what waits

abbrev pub frame_steps : List Place → Frame → ℕ
frame_steps places (Changes changes) = 0
frame_steps places (Catch errors) = 1 + steps_at places errors.begin (returning_steps places errors.returns)

unfoldable pub frames_steps : List Place → List Frame → ℕ
frames_steps places [] = 0
frames_steps places (frame ∷ later) = frame_steps places frame + frames_steps places later

abbrev pub progress_steps : List Place → Progress → List ℕ → ℕ
progress_steps places (progress.Goes n) returns = steps_at places n (returning_steps places returns)
progress_steps places (progress.Ends e) returns = 0
