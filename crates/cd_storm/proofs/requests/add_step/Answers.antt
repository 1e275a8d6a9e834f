use Rattle.std.proofs.Common.{◌≡◌, List, [], ◌∷◌, ◌++◌, ap, ap₂, ◌∙◌, append_assoc}
use Rattle.cd_outside.specs.declared.call.Call.{Call}
use Rattle.cd_storm.specs.declared.limits.TheConstants.{ADMIN_PORT, SERVER_PORT}
use Rattle.cd_storm.specs.Scripts.{connection}
use Rattle.cd_storm.proofs.requests.add_step.Goals as goal

both_added : (old one two : List Call) (a b x y : Call) → one ≡ old ++ a ∷ [] → two ≡ one ++ b ∷ [] → a ≡ x → b ≡ y → two ≡ old ++ (x ∷ y ∷ [])
both_added old one two a b x y first second is_x is_y =
    second ∙ ap (λ r. r ++ b ∷ []) first ∙ append_assoc old (a ∷ []) (b ∷ []) ∙ ap₂ (λ p q. old ++ (p ∷ q ∷ [])) is_x is_y

pub returns : goal.returns
returns c =
    both_added _ _ _ _ _ _ _ c.in_ok-push.ensures.ok c.in_ok-push-2.ensures.ok
    (c.in_ok-connection.ensures ∙ ap (connection _ ADMIN_PORT) c.in_ok-change.ensures)
    (c.in_ok-connection-2.ensures ∙ ap (connection [] SERVER_PORT) c.in_ok-request.ensures)
