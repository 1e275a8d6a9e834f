use Rattle.std.proofs.Common.{◌≡◌, ◌∙◌, List, ℕ, ap, subst, inl, inr}
use Rattle.cd_wire.specs.Faults.{status_of}
use Rattle.cd_wire.specs.Render.{refusal_bytes}
use Rattle.cd_session.specs.Ways.{IsProperPrefix}
use Rattle.cd_session.proofs.session.refuse.Goals as goal

-- the answer was put
pub returns-in-All-clause-refused : goal.returns-in-All-clause-refused
returns-in-All-clause-refused g c =
    let puts = c.in-All.ensures.past in
    let told : c.refusal.result.now ≡ refusal_bytes (status_of c.args.fault) = c.refusal.ensures ∙ ap refusal_bytes c.status.ensures.status in
    record { part = puts.0; told = puts.2; is = inl (puts.1 ∙ told, c.end.ensures) }

-- a part of it was
pub returns-in-Failed-clause-refused : goal.returns-in-Failed-clause-refused
returns-in-Failed-clause-refused g c =
    let puts = c.in-Failed.ensures.past in
    let told : c.refusal.result.now ≡ refusal_bytes (status_of c.args.fault) = c.refusal.ensures ∙ ap refusal_bytes c.status.ensures.status in
    record { part = puts.0; told = puts.2; is = inr (subst (λ (z : List ℕ). IsProperPrefix puts.0 z) told puts.1, c.end-in-Failed.ensures) }
