-- One more step of a lane, and one more lane.
use Rattle.std.proofs.Common.{◌≡◌, ℕ, ◌+◌, ◌*◌, List, [], ◌∷◌, ◌++◌, map, sym, ap, ap₂, ◌∙◌, arith}
use Rattle.std.specs.List.{flat_map, range_with_len}
use Rattle.std.proofs.lemmas.List.{map-append}
use Rattle.std.proofs.lemmas.List.FromFn.{map-range_with_len_more}
use Rattle.cd_outside.specs.declared.call.Call.{Call}
use Rattle.cd_outside.specs.declared.memory_lane.MemoryLane.{MemoryLane}
use Rattle.cd_storm.specs.declared.limits.TheConstants.{STEPS}
use Rattle.cd_storm.specs.Draws.{next, drawn, route_count, step_value}
use Rattle.cd_storm.specs.Scripts.{step_calls, lane_step}
use Rattle.cd_storm.proofs.Drawing.{drawn_next, flat_range_next}

pub step_drawn : (number lane step last value : ℕ) → last ≡ drawn number (route_count number + STEPS * lane + step) → value ≡ next last → value ≡ step_value number lane step
step_drawn number lane step last value e v = v ∙ ap next e ∙ sym (drawn_next number (route_count number + STEPS * lane + step) (route_count number + 1 + STEPS * lane + step) (omega arith))

pub step_added : (number lane step routes value : ℕ) (old new : List Call) → routes ≡ route_count number → value ≡ step_value number lane step → old ≡ flat_map (lane_step number lane) (range_with_len 0 step) → new ≡ old ++ step_calls routes lane step value → new ≡ flat_map (lane_step number lane) (range_with_len 0 (step + 1))
step_added number lane step routes value old new r v before after =
    after ∙ ap₂ (λ p q. p ++ q) before (ap₂ (λ p q. step_calls p lane step q) r v) ∙ sym (flat_range_next (lane_step number lane) step)

pub lane_added : (f : ℕ → List Call) (n : ℕ) (old new : List MemoryLane) (one : MemoryLane) → map (λ lane. lane.script) old ≡ map f (range_with_len 0 n) → new ≡ old ++ one ∷ [] → one.script ≡ f n → map (λ lane. lane.script) new ≡ map f (range_with_len 0 (n + 1))
lane_added f n old new one before after is =
    let script : MemoryLane → List Call = λ lane. lane.script in
    ap (map script) after ∙ map-append script old (one ∷ []) ∙ ap₂ (λ p q. p ++ q ∷ []) before is ∙ sym (map-range_with_len_more f 0 n n (omega arith))
