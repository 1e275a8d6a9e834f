-- A connection goes on by one step, or ends.
use Rattle.std.proofs.Common.{◌≡◌, ◌∙◌, ◌++◌, ◌+◌, ℕ, min, Bool, true, false, cond, List, [], ◌∷◌, Option, Some, None, option_map, inl, inr, refl, ap, sym, subst, arith}
use Rattle.std.proofs.lemmas.List.{map-append}
use Rattle.cd_outside.specs.declared.address.Address.{Address}
use Rattle.cd_outside.specs.declared.past.Past.{Past}
use Rattle.cd_outside.specs.Counts.{count_end}
use Rattle.cd_outside.specs.Past.{after_put, with_connection}
use Rattle.cd_wire.specs.declared.fault.WireFault.{WireFault}
use Rattle.cd_wire.specs.declared.request.Request.{Request}
use Rattle.cd_wire.specs.Requests.{Splits, BeginsRequest, Tail}
use Rattle.cd_wire.proofs.RequestLaws.{Splits-append, Splits-snoc}
use Rattle.cd_session.specs.declared.cause.Cause.{Cause}
use Rattle.cd_session.specs.declared.cause.Cause.TheVariants as cause
use Rattle.cd_session.specs.declared.connection_end.ConnectionEnd.{ConnectionEnd}
use Rattle.cd_session.specs.Ends.{CausedBy, ended_by}
use Rattle.cd_session.specs.Reading.{IsRefused, ReadsOn, with_taken, with_end}
use Rattle.cd_session.specs.Ways.{Interruption, Way, IsTail}
use Rattle.cd_session.proofs.Changes.{nothing-put}
use Rattle.cd_proxy.specs.declared.answering.How.{How}
use Rattle.cd_proxy.specs.declared.answering.How.TheVariants as how
use Rattle.cd_proxy.specs.Replies.{Reply, IsReply}
use Rattle.cd_gateway.specs.Connections.{AreReplies, AllGoOn, LastIs, EndsBy, all_put, answered_of, is_whole, requests}
use Rattle.cd_gateway.specs.Stepping.{Moment, ConnectionSoFar, GoesOn, IsEnded, RelayedBetween, Steps, after_all}
use Rattle.cd_gateway.proofs.Telling.{count-more, ending, exchanged-more, exchanged-none, lane-only, list-more, nothing-yet, putting, taking}

go-on-more : (replies : List Reply) (r : Reply) → AllGoOn replies → r.done ≡ how.Answered false → AllGoOn (replies ++ r ∷ [])
go-on-more [] r all is = (is, tt)
go-on-more (x ∷ xs) r all is = (all.0, go-on-more xs r all.1 is)

each-more : (upstreams : List Address) (replies : List Reply) (r : Reply) → AreReplies upstreams replies → IsReply upstreams r → AreReplies upstreams (replies ++ r ∷ [])
each-more upstreams [] r all is = (is, tt)
each-more upstreams (x ∷ xs) r all is = (all.0, each-more upstreams xs r all.1 is)

module _ (upstreams : List Address) where
  goes-new : (now : Moment) → GoesOn upstreams [] false 0 now now
  goes-new now = record {
    replies = [];
    so_far = record { taken = []; splits = refl; each = tt; answers = refl; past = nothing-yet now.lane; exchanged = exchanged-none now };
    none_closes = tt;
  }

  pub goes-started : (left : List ℕ) (ended : Bool) (n : ℕ) → left ≡ [] → ended ≡ false → n ≡ 0 → (now : Moment) → GoesOn upstreams left ended n now now
  goes-started left ended n one two three now =
      subst (λ (z : List ℕ). GoesOn upstreams z ended n now now) (sym one)
      (subst (λ (b : Bool). GoesOn upstreams [] b n now now) (sym two)
      (subst (λ (z : ℕ). GoesOn upstreams [] false z now now) (sym three) (goes-new now)))

  -- ---- what is known of it

  module _ (replies : List Reply) (left : List ℕ) (ended : Bool) (n : ℕ) (first now : Moment) (s : ConnectionSoFar upstreams replies left ended n first now) where
    more-taken : (piece : List ℕ) (then : Option Past) → then ≡ option_map (with_connection (with_taken piece)) now.lane → ConnectionSoFar upstreams replies (left ++ piece) ended n first (record now { lane = then })
    more-taken piece then told = record {
      taken = s.taken ++ piece;
      splits = Splits-append s.taken (requests replies) left piece s.splits;
      each = s.each;
      answers = s.answers;
      past = taking s.taken piece ended (all_put replies) first.lane now.lane then s.past told;
      exchanged = lane-only replies first now then s.exchanged;
    }

    more-ended : (then : Option Past) → ended ≡ false → then ≡ option_map (with_connection with_end) now.lane → ConnectionSoFar upstreams replies left true n first (record now { lane = then })
    more-ended then more told = record {
      taken = s.taken;
      splits = s.splits;
      each = s.each;
      answers = s.answers;
      past = ending s.taken (all_put replies) first.lane now.lane then (subst (λ (b : Bool). now.lane ≡ option_map (with_connection (after_all s.taken b (all_put replies))) first.lane) more s.past) told;
      exchanged = lane-only replies first now then s.exchanged;
    }

    more-replied : (q : Request) (rest : List ℕ) (h : How) (then : Moment) → BeginsRequest left q rest → (r : RelayedBetween upstreams q h now then) → ConnectionSoFar upstreams (replies ++ r.reply ∷ []) rest ended (min (n + cond (is_whole h) 1 0) count_end) first then
    more-replied q rest h then begins r =
        let asked : requests (replies ++ r.reply ∷ []) ≡ requests replies ++ q ∷ [] = map-append (λ (x : Reply). x.request) replies (r.reply ∷ []) ∙ ap (λ (x : Request). requests replies ++ x ∷ []) r.request in
        let counted : answered_of (replies ++ r.reply ∷ []) ≡ answered_of replies + cond (is_whole h) 1 0 = count-more (λ (x : Reply). is_whole x.done) replies r.reply ∙ ap (λ (d : How). answered_of replies + cond (is_whole d) 1 0) r.ends in
        record {
          taken = s.taken;
          splits = subst (λ (qs : List Request). Splits s.taken qs rest) (sym asked) (Splits-snoc s.taken (requests replies) q left rest s.splits begins);
          each = each-more upstreams replies r.reply s.each r.is;
          answers = omega (arith, s.answers, counted);
          past =
              putting s.taken ended (all_put replies) r.reply.put first.lane now.lane then.lane s.past r.past
              ∙ ap (λ (p : List ℕ). option_map (with_connection (after_all s.taken ended p)) first.lane) (sym (list-more (λ (x : Reply). x.put) replies r.reply));
          exchanged = exchanged-more replies r.reply first now then s.exchanged r.told r.later r.failed;
        }

    -- it ends in one of the ways, after these bytes were put
    ends-so : (c : Cause) (way : Way) (fixed : List ℕ) (then : Option Past) → then ≡ option_map (after_put fixed) now.lane → EndsBy ended replies left fixed way → CausedBy c way → IsEnded upstreams (ended_by c n) first (record now { lane = then })
    ends-so c way fixed then told ends caused = record {
      taken = s.taken;
      ended = ended;
      put = all_put replies ++ fixed;
      ending = record { replies = replies; way = way };
      past = putting s.taken ended (all_put replies) fixed first.lane now.lane then s.past told;
      relays = λ at. record {
        rest = left;
        fixed = fixed;
        splits = s.splits;
        each = s.each;
        put = refl;
        lines = refl;
        keeps = refl;
        ends = ends;
      };
      exchanged = lane-only replies first now then s.exchanged;
      caused = caused;
      answers = s.answers;
    }

    ends-quietly : (c : Cause) (way : Way) → EndsBy ended replies left [] way → CausedBy c way → IsEnded upstreams (ended_by c n) first now
    ends-quietly c way ends caused = ends-so c way [] now.lane (nothing-put now.lane) ends caused

  -- it is over with what is handed out
  pub ends-as : (c : Cause) (n : ℕ) (first now : Moment) (e : ConnectionEnd) → e ≡ ended_by c n → IsEnded upstreams (ended_by c n) first now → IsEnded upstreams e first now
  ends-as c n first now e is over = subst (λ (z : ConnectionEnd). IsEnded upstreams z first now) (sym is) over

  -- ---- one that goes on

  module _ (left : List ℕ) (ended : Bool) (n : ℕ) (first now : Moment) (g : GoesOn upstreams left ended n first now) where
    pub over-clean : IsTail left ended Tail.clean → IsEnded upstreams (ended_by cause.Whole n) first now
    over-clean tail = ends-quietly g.replies left ended n first now g.so_far cause.Whole Way.clean (g.none_closes, tail, refl) refl

    pub over-cut : IsTail left ended Tail.cut → IsEnded upstreams (ended_by cause.Whole n) first now
    over-cut tail = ends-quietly g.replies left ended n first now g.so_far cause.Whole Way.truncated (g.none_closes, tail, refl) refl

    pub over-reading : (c : Cause) → CausedBy c (Way.interrupted Interruption.reading) → IsEnded upstreams (ended_by c n) first now
    over-reading c caused = ends-quietly g.replies left ended n first now g.so_far c (Way.interrupted Interruption.reading) (g.none_closes, refl) caused

    -- the fixed answer to what is refused
    pub over-refuse : (fault : WireFault) (end : ConnectionEnd) (then : Option Past) → IsTail left ended (Tail.refused fault) → IsRefused fault n end now.lane then → IsEnded upstreams end first (record now { lane = then })
    over-refuse fault end then tail r = elim r.is as (λ _. IsEnded upstreams end first (record now { lane = then })) [
      | inl whole ↦ ends-as cause.Whole n first (record now { lane = then }) end whole.1
          (ends-so g.replies left ended n first now g.so_far cause.Whole (Way.refused fault) r.part then r.told (g.none_closes, tail, whole.0) refl)
      | inr some ↦ ends-as cause.Failed n first (record now { lane = then }) end some.1
          (ends-so g.replies left ended n first now g.so_far cause.Failed (Way.interrupted (Interruption.refusing fault)) r.part then r.told (g.none_closes, tail, some.0) refl)
    ]

    -- a read, after which it goes on or is over
    pub reads-on : (end : Option ConnectionEnd) (new : List ℕ) (new_ended : Bool) (l : ℕ) (then : Option Past) → ended ≡ false → ReadsOn end left new ended new_ended n l now.lane then → Steps upstreams end new new_ended l first (record now { lane = then })
    reads-on None new new_ended l then more (same, inl came) =
        subst (λ (z : ℕ). GoesOn upstreams new new_ended z first (record now { lane = then })) (sym same)
        (subst (λ (b : Bool). GoesOn upstreams new b n first (record now { lane = then })) (sym came.ended_is)
        (subst (λ (z : List ℕ). GoesOn upstreams z ended n first (record now { lane = then })) (sym came.left_is)
        (record { replies = g.replies; so_far = more-taken g.replies left ended n first now g.so_far came.piece then came.told; none_closes = g.none_closes })))
    reads-on None new new_ended l then more (same, inr came) =
        subst (λ (z : ℕ). GoesOn upstreams new new_ended z first (record now { lane = then })) (sym same)
        (subst (λ (b : Bool). GoesOn upstreams new b n first (record now { lane = then })) (sym came.ended_is)
        (subst (λ (z : List ℕ). GoesOn upstreams z true n first (record now { lane = then })) (sym came.left_is)
        (record { replies = g.replies; so_far = more-ended g.replies left ended n first now g.so_far then more came.told; none_closes = g.none_closes })))
    reads-on (Some end) new new_ended l then more (inl lacks) =
        ends-as cause.Lacking n first (record now { lane = then }) end lacks.end_is
        (ends-quietly g.replies (left ++ lacks.piece) ended n first (record now { lane = then }) (more-taken g.replies left ended n first now g.so_far lacks.piece then lacks.told) cause.Lacking (Way.interrupted Interruption.reading) (g.none_closes, refl) (refl, refl))
    reads-on (Some end) new new_ended l then more (inr failed) =
        ends-as cause.Failed n first (record now { lane = then }) end failed.end_is
        (subst (λ (z : Option Past). IsEnded upstreams (ended_by cause.Failed n) first (record now { lane = z })) (sym failed.told) (over-reading cause.Failed refl))

    -- ---- a request

    module _ (q : Request) (rest : List ℕ) (then : Moment) (begins : BeginsRequest left q rest) where
      last-is : (h : How) (r : RelayedBetween upstreams q h now then) → LastIs h (g.replies ++ r.reply ∷ [])
      last-is h r = record { before = g.replies; last = r.reply; are = refl; go_on = g.none_closes; is = r.ends }

      over-last : (h : How) (r : RelayedBetween upstreams q h now then) (c : Cause) (way : Way) (l : ℕ) → l ≡ min (n + cond (is_whole h) 1 0) count_end
          → EndsBy ended (g.replies ++ r.reply ∷ []) rest [] way → CausedBy c way → IsEnded upstreams (ended_by c l) first then
      over-last h r c way l is ends caused =
          subst (λ (z : ℕ). IsEnded upstreams (ended_by c z) first then) (sym is)
          (ends-quietly (g.replies ++ r.reply ∷ []) rest ended (min (n + cond (is_whole h) 1 0) count_end) first then (more-replied g.replies left ended n first now g.so_far q rest h then begins r) c way ends caused)

      -- the count stays where the answer was not sent whole
      not-whole : (h : How) → is_whole h ≡ false → n ≡ min (n + cond (is_whole h) 1 0) count_end
      not-whole h is =
          let a = g.so_far.answers in
          let same : n ≡ min (n + 0) count_end = omega (arith, a) in
          same ∙ ap (λ (b : Bool). min (n + cond b 1 0) count_end) (sym is)

      pub goes-answered : (l : ℕ) → RelayedBetween upstreams q (how.Answered false) now then → l ≡ min (n + 1) count_end → GoesOn upstreams rest ended l first then
      goes-answered l r is = record {
        replies = g.replies ++ r.reply ∷ [];
        so_far = subst (λ (z : ℕ). ConnectionSoFar upstreams (g.replies ++ r.reply ∷ []) rest ended z first then) (sym is) (more-replied g.replies left ended n first now g.so_far q rest (how.Answered false) then begins r);
        none_closes = go-on-more g.replies r.reply g.none_closes r.ends;
      }

      pub over-closed : (l : ℕ) → RelayedBetween upstreams q (how.Answered true) now then → l ≡ min (n + 1) count_end → IsEnded upstreams (ended_by cause.Whole l) first then
      over-closed l r is = over-last (how.Answered true) r cause.Whole Way.closed l is (last-is (how.Answered true) r, refl) refl

      pub over-broken : RelayedBetween upstreams q how.Failed now then → IsEnded upstreams (ended_by cause.Failed n) first then
      over-broken r = over-last how.Failed r cause.Failed (Way.interrupted Interruption.answering) n (not-whole how.Failed refl) (last-is how.Failed r, refl) refl

      pub over-lacking : RelayedBetween upstreams q how.NoMemory now then → IsEnded upstreams (ended_by cause.Lacking n) first then
      over-lacking r = over-last how.NoMemory r cause.Lacking (Way.interrupted Interruption.lacking) n (not-whole how.NoMemory refl) (last-is how.NoMemory r, refl) (refl, refl)
