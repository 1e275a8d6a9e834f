-- A lane goes on by one connection, or ends.
use Rattle.std.proofs.Common.{◌≡◌, ◌≤◌, ◌<◌, ◌∙◌, ◌++◌, ◌+◌, ◌-◌, ℕ, min, cond, List, [], ◌∷◌, Option, Some, None, option_map, refl, ap, sym, subst, arith}
use Rattle.std.proofs.lemmas.List.{append-nil}
use Rattle.std.proofs.lemmas.Grind.{flat_map-append}
use Rattle.cd_outside.specs.declared.accepted.Accepted.{Accepted}
use Rattle.cd_outside.specs.declared.accepted.Accepted.TheVariants as accepted
use Rattle.cd_outside.specs.declared.address.Address.{Address}
use Rattle.cd_outside.specs.declared.past.Connection.{Connection}
use Rattle.cd_outside.specs.declared.past.Past.{Past}
use Rattle.cd_outside.specs.Counts.{count_end, raised, Rose}
use Rattle.cd_outside.specs.Past.{with_connection, after_accept, fresh}
use Rattle.cd_outside.specs.Telling.{TellsOn}
use Rattle.cd_session.specs.declared.connection_end.ConnectionEnd.{ConnectionEnd}
use Rattle.cd_session.specs.declared.counting.Counts.{Counts}
use Rattle.cd_session.specs.declared.lane_end.LaneEnd.{LaneEnd}
use Rattle.cd_session.specs.declared.lane_end.LaneHow.{LaneHow}
use Rattle.cd_session.specs.declared.lane_end.LaneHow.TheVariants as how
use Rattle.cd_session.specs.Ends.{HasRisen, IsLaneEnd, cut_by}
use Rattle.cd_session.specs.Ways.{is_interrupted, is_faulted}
use Rattle.cd_session.proofs.Causes.{caused-failed, caused-lacking, caused-whole, covers-more, covers-same, cut-more, faults-more}
use Rattle.cd_session.proofs.Changes.{connections_more, past_is}
use Rattle.cd_peers.specs.declared.dialled.Dialled.{Dialled}
use Rattle.cd_gateway.specs.Connections.{Ending, Relays, RelaysEach, answered_of, exchanges_of, failed_of}
use Rattle.cd_gateway.specs.Lanes.{Relayed, IsRelayed, answered_in, counted, exchanges_in, failed_in, faulted_in, interrupted_in}
use Rattle.cd_gateway.specs.Stepping.{IsEnded, LaneGoesOn, after_all, moment}
use Rattle.cd_gateway.proofs.Telling.{count-more, failures-both, sum-more, told-both, told-none}

relays-more : (upstreams : List Address) (cs : List Connection) (es : List Ending) (c : Connection) (e : Ending) → RelaysEach upstreams cs es → Relays upstreams c e → RelaysEach upstreams (cs ++ c ∷ []) (es ++ e ∷ [])
relays-more upstreams [] [] c e all one = (one, tt)
relays-more upstreams (x ∷ xs) (y ∷ ys) c e all one = (all.0, relays-more upstreams xs ys c e all.1 one)
relays-more upstreams [] (y ∷ ys) c e all one = absurd all
relays-more upstreams (x ∷ xs) [] c e all one = absurd all

exchanges-more : (es : List Ending) (e : Ending) → exchanges_in (es ++ e ∷ []) ≡ exchanges_in es ++ exchanges_of e.replies
exchanges-more es e = flat_map-append (λ (x : Ending). exchanges_of x.replies) es (e ∷ []) ∙ ap (λ (xs : List Dialled). exchanges_in es ++ xs) (append-nil (exchanges_of e.replies))

module _ (upstreams : List Address) where
  pub lane-starts : (lane peers : ℕ) (told : Option (List Dialled)) (p : Past) → Relayed upstreams (counted lane peers) (counted lane peers) 0 0 told told p p
  lane-starts lane peers told p = record {
    connections = [];
    endings = [];
    added = sym (append-nil p.connections);
    each = tt;
    exchanges = told-none told;
    answers = refl;
    failures = λ a b. omega arith;
    covered = λ a b. omega arith;
    faulted = λ a b. omega arith;
    cut_interrupted = omega arith;
  }

  lane-goes : (at : Address) (l0 l1 l2 l3 p0 p1 p2 answered cut : ℕ) (t0 t1 t2 : Option (List Dialled)) (p q now : Past) (end : ConnectionEnd)
      → Relayed upstreams (counted l0 p0) (counted l1 p1) answered cut t0 t1 p q → l1 ≤ l2 → HasRisen end.cause l2 l3
      → IsEnded upstreams end (moment (Some (after_accept (accepted.Connection at) q)) t1 p1) (moment (Some now) t2 p2)
      → Relayed upstreams (counted l0 p0) (counted l3 p2) (min (answered + end.answered) count_end) (cut_by end.cause cut) t0 t2 p now
  lane-goes at l0 l1 l2 l3 p0 p1 p2 answered cut t0 t1 t2 p q now end so_far le rose one =
      let f = after_all one.taken one.ended one.put in
      let way = one.ending.way in
      let is : now ≡ with_connection f (after_accept (accepted.Connection at) q) = past_is at q now f one.past in
      let faults : now.accept_faults ≡ q.accept_faults = ap (λ (z : Past). z.accept_faults) is in
      let early : interrupted_in (so_far.endings ++ one.ending ∷ []) ≡ interrupted_in so_far.endings + cond (is_interrupted way) 1 0 = count-more (λ (x : Ending). is_interrupted x.way) so_far.endings one.ending in
      let faulted : faulted_in (so_far.endings ++ one.ending ∷ []) ≡ faulted_in so_far.endings + cond (is_faulted way) 1 0 = count-more (λ (x : Ending). is_faulted x.way) so_far.endings one.ending in
      let answers : answered_in (so_far.endings ++ one.ending ∷ []) ≡ answered_in so_far.endings + answered_of one.ending.replies = sum-more (λ (x : Ending). answered_of x.replies) so_far.endings one.ending in
      record {
        connections = so_far.connections ++ f (fresh at) ∷ [];
        endings = so_far.endings ++ one.ending ∷ [];
        added = connections_more at p q now so_far.connections f so_far.added is;
        each = relays-more upstreams so_far.connections so_far.endings (f (fresh at)) one.ending so_far.each (one.relays at);
        exchanges =
            told-both (exchanges_in so_far.endings) (exchanges_of one.ending.replies) t0 t1 t2 so_far.exchanges one.exchanged.told
            ∙ ap (λ (xs : List Dialled). option_map (λ (past : List Dialled). past ++ xs) t0) (sym (exchanges-more so_far.endings one.ending));
        answers = omega (arith, so_far.answers, one.answers, answers);
        failures =
            covers-same (failed_in (so_far.endings ++ one.ending ∷ [])) (failed_in so_far.endings + failed_of one.ending.replies) p0 p2 0 (sum-more (λ (x : Ending). failed_of x.replies) so_far.endings one.ending)
            (failures-both (failed_in so_far.endings) (failed_of one.ending.replies) p0 p1 p2 so_far.failures one.exchanged.failures one.exchanged.later);
        covered = covers-same _ ((interrupted_in so_far.endings + (q.accept_faults - p.accept_faults)) + cond (is_interrupted way) 1 0) l0 l3 (cut_by end.cause cut) (omega (arith, early, faults))
            (covers-more end.cause (is_interrupted way) _ l0 l1 l2 l3 cut (caused-whole end.cause way one.caused) so_far.covered le rose);
        faulted = covers-same _ ((faulted_in so_far.endings + (q.accept_faults - p.accept_faults)) + cond (is_faulted way) 1 0) l0 l3 0 (omega (arith, faulted, faults))
            (faults-more end.cause (is_faulted way) _ l0 l1 l2 l3 (caused-failed end.cause way one.caused) so_far.faulted le rose);
        cut_interrupted = omega (arith, early, cut-more end.cause (is_interrupted way) cut (interrupted_in so_far.endings) (caused-lacking end.cause way one.caused) so_far.cut_interrupted);
      }

  -- an accept that brings no connection, and fails no more often than faults rise
  lane-ends : (x : Accepted) (l0 l1 l2 p0 p1 answered cut : ℕ) (t0 t1 : Option (List Dialled)) (p q : Past) → Relayed upstreams (counted l0 p0) (counted l1 p1) answered cut t0 t1 p q → l1 ≤ l2
      → (after_accept x q).connections ≡ q.connections → (l1 < count_end → l2 < count_end → (after_accept x q).accept_faults + l1 ≤ q.accept_faults + l2)
      → Relayed upstreams (counted l0 p0) (counted l2 p1) answered cut t0 t1 p (after_accept x q)
  lane-ends x l0 l1 l2 p0 p1 answered cut t0 t1 p q so_far le none few = record {
    connections = so_far.connections;
    endings = so_far.endings;
    added = none ∙ so_far.added;
    each = so_far.each;
    exchanges = so_far.exchanges;
    answers = so_far.answers;
    failures = so_far.failures;
    covered = λ a b. let h : l1 < count_end = omega (arith, le) in omega (arith, so_far.covered h b, few h a, le);
    faulted = λ a b. let h : l1 < count_end = omega (arith, le) in omega (arith, so_far.faulted h b, few h a, le);
    cut_interrupted = so_far.cut_interrupted;
  }

  -- ---- the same where the lane tells it

  lane-new : (lane peers : ℕ) (told : Option (List Dialled)) (old : Option Past) → LaneGoesOn upstreams (counted lane peers) (counted lane peers) 0 0 told told old old
  lane-new lane peers told None = tt
  lane-new lane peers told (Some p) = (lane-starts lane peers told p, refl)

  pub lane-started : (lane peers : ℕ) (counts : Counts) → counts ≡ record { answered = 0; cut = 0 } → (told : Option (List Dialled)) (old : Option Past)
      → LaneGoesOn upstreams (counted lane peers) (counted lane peers) counts.answered counts.cut told told old old
  lane-started lane peers counts is told old = subst (λ (k : Counts). LaneGoesOn upstreams (counted lane peers) (counted lane peers) k.answered k.cut told told old old) (sym is) (lane-new lane peers told old)

  -- a connection leaves how many accepts failed
  accepts-stay : (at : Address) (p q now : Past) (f : Connection → Connection) → Some now ≡ option_map (with_connection f) (Some (after_accept (accepted.Connection at) q)) → q.accept_faults ≡ p.accept_faults → now.accept_faults ≡ p.accept_faults
  accepts-stay at p q now f is same = ap (λ (z : Past). z.accept_faults) (past_is at q now f is) ∙ same

  pub lane-more : (at : Address) (l0 l1 l2 l3 p0 p1 p2 answered cut : ℕ) (t0 t1 t2 : Option (List Dialled)) (old then new : Option Past) (end : ConnectionEnd)
      → LaneGoesOn upstreams (counted l0 p0) (counted l1 p1) answered cut t0 t1 old then → l1 ≤ l2 → HasRisen end.cause l2 l3
      → IsEnded upstreams end (moment (option_map (after_accept (accepted.Connection at)) then) t1 p1) (moment new t2 p2)
      → LaneGoesOn upstreams (counted l0 p0) (counted l3 p2) (min (answered + end.answered) count_end) (cut_by end.cause cut) t0 t2 old new
  lane-more at l0 l1 l2 l3 p0 p1 p2 answered cut t0 t1 t2 (Some p) (Some q) (Some now) end so_far le rose one =
      (lane-goes at l0 l1 l2 l3 p0 p1 p2 answered cut t0 t1 t2 p q now end so_far.0 le rose one, accepts-stay at p q now (after_all one.taken one.ended one.put) one.past so_far.1)
  lane-more at l0 l1 l2 l3 p0 p1 p2 answered cut t0 t1 t2 (Some p) (Some q) None end so_far le rose one = absurd (let h : None ≡ Some (with_connection (after_all one.taken one.ended one.put) (after_accept (accepted.Connection at) q)) = one.past in cc)
  lane-more at l0 l1 l2 l3 p0 p1 p2 answered cut t0 t1 t2 None None (Some now) end so_far le rose one = absurd (let h : Some now ≡ None = one.past in cc)
  lane-more at l0 l1 l2 l3 p0 p1 p2 answered cut t0 t1 t2 None None None end so_far le rose one = tt
  lane-more at l0 l1 l2 l3 p0 p1 p2 answered cut t0 t1 t2 (Some p) None new end so_far le rose one = absurd so_far
  lane-more at l0 l1 l2 l3 p0 p1 p2 answered cut t0 t1 t2 None (Some q) new end so_far le rose one = absurd so_far

  -- so it is over
  lane-over : (x : Accepted) (h : LaneHow) (l0 l1 l2 p0 p1 answered cut : ℕ) (t0 t1 : Option (List Dialled)) (end : LaneEnd) (old then new : Option Past) → end ≡ record { how = h; answered = answered; cut = cut } → l1 ≤ l2
      → ((q : Past) → ((after_accept x q).connections ≡ q.connections) × (l1 < count_end → l2 < count_end → (after_accept x q).accept_faults + l1 ≤ q.accept_faults + l2))
      → ((p q : Past) → q.accept_faults ≡ p.accept_faults → IsLaneEnd h l0 l2 p (after_accept x q))
      → LaneGoesOn upstreams (counted l0 p0) (counted l1 p1) answered cut t0 t1 old then → new ≡ option_map (after_accept x) then
      → TellsOn (IsRelayed upstreams (counted l0 p0) (counted l2 p1) end t0 t1) old new
  lane-over x h l0 l1 l2 p0 p1 answered cut t0 t1 end (Some p) (Some q) new is le adds ends so_far told =
      subst (λ (z : Option Past). TellsOn (IsRelayed upstreams (counted l0 p0) (counted l2 p1) end t0 t1) (Some p) z) (sym told)
      (subst (λ (e : LaneEnd). IsRelayed upstreams (counted l0 p0) (counted l2 p1) e t0 t1 p (after_accept x q)) (sym is)
      (record { relayed = lane-ends x l0 l1 l2 p0 p1 answered cut t0 t1 p q so_far.0 le (adds q).0 (adds q).1; over = ends p q so_far.1 }))
  lane-over x h l0 l1 l2 p0 p1 answered cut t0 t1 end None None new is le adds ends so_far told = subst (λ (z : Option Past). TellsOn (IsRelayed upstreams (counted l0 p0) (counted l2 p1) end t0 t1) None z) (sym told) tt
  lane-over x h l0 l1 l2 p0 p1 answered cut t0 t1 end (Some p) None new is le adds ends so_far told = absurd so_far
  lane-over x h l0 l1 l2 p0 p1 answered cut t0 t1 end None (Some q) new is le adds ends so_far told = absurd so_far

  pub lane-ended : (l0 l1 l2 p0 p1 answered cut : ℕ) (t0 t1 : Option (List Dialled)) (end : LaneEnd) (old then new : Option Past) → end ≡ record { how = how.Ended; answered = answered; cut = cut } → l1 ≤ l2
      → LaneGoesOn upstreams (counted l0 p0) (counted l1 p1) answered cut t0 t1 old then → new ≡ option_map (after_accept accepted.Ended) then
      → TellsOn (IsRelayed upstreams (counted l0 p0) (counted l2 p1) end t0 t1) old new
  lane-ended l0 l1 l2 p0 p1 answered cut t0 t1 end old then new is le =
      lane-over accepted.Ended how.Ended l0 l1 l2 p0 p1 answered cut t0 t1 end old then new is le (λ q. (refl, λ a b. omega (arith, le))) (λ p q same. (refl, same))

  pub lane-failed : (l0 l1 l2 p0 p1 answered cut : ℕ) (t0 t1 : Option (List Dialled)) (end : LaneEnd) (old then new : Option Past) → end ≡ record { how = how.AcceptFault; answered = answered; cut = cut } → l0 ≤ l1 → l1 ≤ l2 → Rose l1 l2
      → LaneGoesOn upstreams (counted l0 p0) (counted l1 p1) answered cut t0 t1 old then → new ≡ option_map (after_accept accepted.Failed) then
      → TellsOn (IsRelayed upstreams (counted l0 p0) (counted l2 p1) end t0 t1) old new
  lane-failed l0 l1 l2 p0 p1 answered cut t0 t1 end old then new is since le rose =
      lane-over accepted.Failed how.AcceptFault l0 l1 l2 p0 p1 answered cut t0 t1 end old then new is le (λ q. (refl, λ a b. omega (arith, le, rose)))
      (λ p q same. (refl, ap raised same, omega (arith, since, le, rose)))
