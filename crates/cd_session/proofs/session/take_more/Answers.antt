use Rattle.std.proofs.Common.{◌∙◌, inl, inr, refl}
use Rattle.cd_session.proofs.Changes.{as-it-is}
use Rattle.cd_session.proofs.session.take_more.Goals as goal

-- the bytes came
pub returns-in-Some-clause-reads : goal.returns-in-Some-clause-reads
returns-in-Some-clause-reads g c =
    let came = c.in-Some.ensures.past in
    (refl, inl (record { piece = came.0; left_is = came.1.1; ended_is = refl; told = came.2 }))

-- they came, and there was no memory for them
pub returns-in-Lacking-clause-reads : goal.returns-in-Lacking-clause-reads
returns-in-Lacking-clause-reads g c =
    let came = c.in-Lacking.ensures.past in
    inl (record { piece = came.0; end_is = c.end-in-Lacking.ensures; told = came.2 })

-- the end was seen
pub returns-in-End-clause-reads : goal.returns-in-End-clause-reads
returns-in-End-clause-reads g c =
    let came = c.in-End.ensures.past in (refl, inr (record { left_is = came.1; ended_is = refl; told = came.2 }))

-- the lane has failed
pub returns-in-Failed-clause-reads : goal.returns-in-Failed-clause-reads
returns-in-Failed-clause-reads g c =
    inr (record { end_is = c.end.ensures; told = c.in-Failed.ensures.past.2 ∙ as-it-is (g.L.Lane.past c.args.lane.now) })
