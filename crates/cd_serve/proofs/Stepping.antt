-- A connection goes on by one step, or ends.
use Rattle.std.proofs.Common.{◌≡◌, ◌≤◌, ◌∙◌, ◌++◌, ◌+◌, ℕ, min, Bool, true, false, cond, List, [], ◌∷◌, Option, Some, None, option_map, inl, inr, refl, ap, sym, subst, arith}
use Rattle.std.proofs.lemmas.List.{append_assoc, append-nil, map-append}
use mathlib.Core.List.{IsPrefix}
use Rattle.cd_text.specs.Steps.{joined}
use Rattle.cd_outside.specs.declared.address.Address.{Address}
use Rattle.cd_outside.specs.declared.past.Past.{Past}
use Rattle.cd_outside.specs.Counts.{count_end}
use Rattle.cd_outside.specs.Past.{after_put, with_connection}
use Rattle.cd_wire.specs.declared.fault.WireFault.{WireFault}
use Rattle.cd_wire.specs.declared.request.Request.{Request}
use Rattle.cd_wire.specs.Faults.{status_of}
use Rattle.cd_wire.specs.Render.{refusal_bytes}
use Rattle.cd_wire.specs.Requests.{BeginsRequest, Tail}
use Rattle.cd_legal.specs.declared.limits.TheConstants.{MAX_BEGINS}
use Rattle.cd_legal.specs.declared.entry.Entry.{Entry}
use Rattle.cd_legal.specs.declared.entry.Signed.{Signed}
use Rattle.cd_legal.specs.Begins.{begins_now}
use Rattle.cd_legal.specs.Entry.{signed, entries}
use Rattle.cd_legal.specs.Placed.{Placed, placed, placed_entries, through}
use Rattle.cd_legal.proofs.Begun.{begins-now}
use Rattle.cd_legal.proofs.Logs.{prefix_trans}
use Rattle.cd_gate.specs.declared.view.View.{View}
use Rattle.cd_gate.specs.Growing.{Places, all_signed}
use Rattle.cd_session.specs.declared.cause.Cause.{Cause}
use Rattle.cd_session.specs.declared.cause.Cause.TheVariants as cause
use Rattle.cd_session.specs.declared.connection_end.ConnectionEnd.{ConnectionEnd}
use Rattle.cd_session.specs.Reading.{ReadsOn, IsRefused}
use Rattle.cd_serve.specs.Meanings.{Meaning, IsProperPrefix}
use Rattle.cd_serve.specs.Episodes.{Outcome}
use Rattle.cd_serve.specs.Replies.{Reply, is_whole}
use Rattle.cd_serve.specs.Connections.{Interruption, Way, LastIs, IsTail, HasFurther, IsWorn, EndsBy}
use Rattle.cd_serve.specs.Lanes.{finds_halt}
use Rattle.cd_serve.specs.Serving.{Replied, NotBegun, ConnectionSoFar, CausedBy}
use Rattle.cd_serve.specs.Stepping.{HasPlaced, GoesOn, IsEnded, EndsConnection, Steps}
use Rattle.cd_serve.proofs.Connecting.{connection-starts, connection-takes, connection-ended, connection-replies, connection-ends, connection-ends-quietly, go-on-more}

-- the last of all is the last of the last
through_both : (k : ℕ) (own more : List Placed) (front whole : List Signed) → IsPrefix (through k own) front → IsPrefix front whole → IsPrefix (through k more) whole → IsPrefix (through k (own ++ more)) whole
through_both k [] more front whole one goes two = two
through_both k (p ∷ []) [] front whole one goes two = prefix_trans (through k (p ∷ [])) front whole one goes
through_both k (p ∷ []) (q ∷ more) front whole one goes two = two
through_both k (p ∷ r ∷ own) more front whole one goes two = through_both k (r ∷ own) more front whole one goes two

all_signed-both : (k : ℕ) (es fs : List Entry) → all_signed k (es ++ fs) ≡ all_signed k es ++ all_signed k fs
all_signed-both k [] fs = refl
all_signed-both k (e ∷ es) fs = ap (λ (l : List Signed). signed k e ∷ l) (all_signed-both k es fs)

prefix_same : (xs : List Signed) → IsPrefix xs xs
prefix_same xs = ([], append-nil xs)

-- its end leaves what is told of it, and how often the lane has failed
pub ended-so : {T : Type 0} (m : Meaning) (at : Address) (e : ConnectionEnd) (v w : View T) (first old now : Option Past) (before failed later : ℕ) → now ≡ old → later ≡ failed → EndsConnection m at e v w first old before failed → EndsConnection m at e v w first now before later
ended-so m at e v w first old now before failed later told same ends =
    subst (λ (p : Option Past). EndsConnection m at e v w first p before later) (sym told) (subst (λ (n : ℕ). EndsConnection m at e v w first old before n) (sym same) ends)

module _ {T : Type 0} where
  pub placed-none : (v : View T) → HasPlaced v v []
  placed-none v = record { number = refl; seen = prefix_same v.seen; history = λ h. h; placed_is = sym (append-nil (placed v.number v.seen)); last = (v.seen, refl); adds = sym (append-nil v.mine); same = refl }

  pub has-placed : (v w : View T) (own : List Placed) → Places v w own → HasPlaced v w own
  has-placed v w own p = record { number = p.number; seen = p.seen; history = λ h. p.history; placed_is = p.placed_is; last = p.last; adds = p.adds; same = p.same }

  pub placed-both : (v w x : View T) (one two : List Placed) → HasPlaced v w one → HasPlaced w x two → HasPlaced v x (one ++ two)
  placed-both v w x one two a b =
      let k = v.number in
      record {
        number = b.number ∙ a.number;
        seen = prefix_trans v.seen w.seen x.seen a.seen b.seen;
        history = λ h. b.history (a.history h);
        placed_is =
            subst (λ (j : ℕ). placed j x.seen ≡ placed j w.seen ++ two) a.number b.placed_is
            ∙ (ap (λ (l : List Placed). l ++ two) a.placed_is ∙ append_assoc (placed k v.seen) one two);
        last = through_both k one two w.seen x.seen a.last b.seen (subst (λ (j : ℕ). IsPrefix (through j two) x.seen) a.number b.last);
        adds =
            subst (λ (j : ℕ). x.mine ≡ w.mine ++ all_signed j (placed_entries two)) a.number b.adds
            ∙ (ap (λ (l : List Signed). l ++ all_signed k (placed_entries two)) a.adds
            ∙ (append_assoc v.mine (all_signed k (placed_entries one)) (all_signed k (placed_entries two))
            ∙ (ap (λ (l : List Signed). v.mine ++ l) (sym (all_signed-both k (placed_entries one) (placed_entries two)))
            ∙ ap (λ (l : List Entry). v.mine ++ all_signed k l) (sym (map-append (λ (p : Placed). p.entry) one two)))));
        same = b.same ∙ ap (λ (z : View T). record z { seen = x.seen; mine = x.mine; ticket = x.ticket; draft = x.draft; duties = x.duties }) a.same;
      }

  placed-nil : (v w : View T) (own : List Placed) → HasPlaced v w own → HasPlaced v w (own ++ [])
  placed-nil v w own p = subst (λ (l : List Placed). HasPlaced v w l) (sym (append-nil own)) p

-- a connection that ended for this cause, whose requests were answered so often, and which found the host halted or not
abbrev pub over_with : Cause → ℕ → Bool → ConnectionEnd
over_with c n halted = record { cause = c; answered = n; halted = halted }

module _ {T : Type 0} (m : Meaning) (at : Address) where
  goes-new : (v : View T) (told : Option Past) → GoesOn m at [] false 0 v v told told
  goes-new v told = record { replies = []; own = []; made = placed-none v; so_far = connection-starts m v.number at told; none_closes = tt }

  pub goes-started : (left : List ℕ) (ended : Bool) (n : ℕ) → left ≡ [] → ended ≡ false → n ≡ 0 → (v : View T) (told : Option Past) → GoesOn m at left ended n v v told told
  goes-started left ended n one two three v told =
      subst (λ (z : List ℕ). GoesOn m at z ended n v v told told) (sym one)
      (subst (λ (b : Bool). GoesOn m at [] b n v v told told) (sym two)
      (subst (λ (z : ℕ). GoesOn m at [] false z v v told told) (sym three) (goes-new v told)))

  goes-more : (left piece new : List ℕ) (ended : Bool) (n : ℕ) (v w : View T) (first then now : Option Past) → GoesOn m at left ended n v w first then → new ≡ left ++ piece → now ≡ option_map (with_connection (λ c. record c { taken = c.taken ++ piece })) then
      → GoesOn m at new ended n v w first now
  goes-more left piece new ended n v w first then now g is step = record {
    replies = g.replies;
    own = g.own;
    made = g.made;
    so_far = subst (λ (l : List ℕ). ConnectionSoFar m v.number at g.replies g.own l ended n first now) (sym is) (connection-takes m v.number at g.replies g.own left piece ended n first then now g.so_far step);
    none_closes = g.none_closes;
  }

  goes-ended : (left : List ℕ) (n : ℕ) (v w : View T) (first then now : Option Past) → GoesOn m at left false n v w first then → now ≡ option_map (with_connection (λ c. record c { ended = true })) then → GoesOn m at left true n v w first now
  goes-ended left n v w first then now g step = record {
    replies = g.replies;
    own = g.own;
    made = g.made;
    so_far = connection-ended m v.number at g.replies g.own left n first then now g.so_far step;
    none_closes = g.none_closes;
  }

  -- it is over with what is handed out
  pub ends-as : (c : Cause) (n : ℕ) (v w : View T) (first now : Option Past) (e : ConnectionEnd) → e ≡ over_with c n false → IsEnded m at (over_with c n false) v w first now → IsEnded m at e v w first now
  ends-as c n v w first now e is over = subst (λ (z : ConnectionEnd). IsEnded m at z v w first now) (sym is) over

  -- it ends, and nothing more was made or sent
  ends-quietly : (left : List ℕ) (ended : Bool) (n : ℕ) (v w : View T) (first now : Option Past) (c : Cause) (way : Way) (replies : List Reply) (own : List Placed) → HasPlaced v w own → ConnectionSoFar m v.number at replies own left ended n first now
      → ((before : List Placed) → EndsBy m v.number w.seen (before ++ (own ++ [])) at ended replies left [] [] way) → CausedBy c way → IsEnded m at (over_with c n (finds_halt way)) v w first now
  ends-quietly left ended n v w first now c way replies own made so_far ends caused = record {
    own = own ++ [];
    made = placed-nil v w own made;
    served = connection-ends-quietly m v.number at v.seen w.seen replies own left ended n [] way c first now so_far caused (λ before front. ends before);
  }

  module _ (left : List ℕ) (ended : Bool) (n : ℕ) (v w : View T) (first now : Option Past) (g : GoesOn m at left ended n v w first now) where
    -- the same where other bytes are left and something else was told
    over-read : (new : List ℕ) (then : Option Past) → GoesOn m at new ended n v w first then → (c : Cause) → CausedBy c (Way.interrupted Interruption.reading) → IsEnded m at (over_with c n false) v w first then
    over-read new then goes c caused = ends-quietly new ended n v w first then c (Way.interrupted Interruption.reading) goes.replies goes.own goes.made goes.so_far (λ before. (goes.none_closes, refl, refl)) caused

    pub over-clean : IsTail left ended Tail.clean → IsEnded m at (over_with cause.Whole n false) v w first now
    over-clean tail = ends-quietly left ended n v w first now cause.Whole Way.clean g.replies g.own g.made g.so_far (λ before. (g.none_closes, tail, refl, refl)) refl

    pub over-cut : IsTail left ended Tail.cut → IsEnded m at (over_with cause.Whole n false) v w first now
    over-cut tail = ends-quietly left ended n v w first now cause.Whole Way.truncated g.replies g.own g.made g.so_far (λ before. (g.none_closes, tail, refl, refl)) refl

    pub over-reading : (c : Cause) → CausedBy c (Way.interrupted Interruption.reading) → IsEnded m at (over_with c n false) v w first now
    over-reading c caused = ends-quietly left ended n v w first now c (Way.interrupted Interruption.reading) g.replies g.own g.made g.so_far (λ before. (g.none_closes, refl, refl)) caused

    -- the fixed answer to what is refused follows
    refused-so : (part : List ℕ) (then : Option Past) (c : Cause) (way : Way) → then ≡ option_map (after_put part) now
        → ((before : List Placed) → EndsBy m v.number w.seen (before ++ (g.own ++ [])) at ended g.replies left [] part way) → CausedBy c way → IsEnded m at (over_with c n (finds_halt way)) v w first then
    refused-so part then c way put ends caused = record {
      own = g.own ++ [];
      made = placed-nil v w g.own g.made;
      served = connection-ends m v.number at v.seen w.seen g.replies g.own left ended n [] part way c first now then g.so_far caused put (λ before front. ends before);
    }

    over-refused : (fault : WireFault) (part : List ℕ) (then : Option Past) → IsTail left ended (Tail.refused fault) → part ≡ refusal_bytes (status_of fault) → then ≡ option_map (after_put part) now → IsEnded m at (over_with cause.Whole n false) v w first then
    over-refused fault part then tail is put = refused-so part then cause.Whole (Way.refused fault) put (λ before. (g.none_closes, tail, refl, is)) refl

    over-refusing : (fault : WireFault) (part : List ℕ) (then : Option Past) → IsTail left ended (Tail.refused fault) → IsProperPrefix part (refusal_bytes (status_of fault)) → then ≡ option_map (after_put part) now → IsEnded m at (over_with cause.Failed n false) v w first then
    over-refusing fault part then tail is put = refused-so part then cause.Failed (Way.interrupted (Interruption.refusing fault)) put (λ before. (g.none_closes, tail, refl, is)) refl

    -- a read, after which it goes on or is over
    pub reads-on : (end : Option ConnectionEnd) (new : List ℕ) (new_ended : Bool) (l : ℕ) (then : Option Past) → ended ≡ false → ReadsOn end left new ended new_ended n l now then → Steps m at end new new_ended l v w first then
    reads-on None new new_ended l then more (same, inl came) =
        subst (λ (z : ℕ). GoesOn m at new new_ended z v w first then) (sym same)
        (subst (λ (b : Bool). GoesOn m at new b n v w first then) (sym came.ended_is) (goes-more left came.piece new ended n v w first now then g came.left_is came.told))
    reads-on None new new_ended l then more (same, inr came) =
        subst (λ (z : ℕ). GoesOn m at new new_ended z v w first then) (sym same)
        (subst (λ (b : Bool). GoesOn m at new b n v w first then) (sym came.ended_is)
        (subst (λ (z : List ℕ). GoesOn m at z true n v w first then) (sym came.left_is)
        (goes-ended left n v w first now then (subst (λ (b : Bool). GoesOn m at left b n v w first now) more g) came.told)))
    reads-on (Some end) new new_ended l then more (inl lacks) =
        ends-as cause.Lacking n v w first then end lacks.end_is
        (over-read (left ++ lacks.piece) then (goes-more left lacks.piece (left ++ lacks.piece) ended n v w first now then g refl lacks.told) cause.Lacking (refl, refl))
    reads-on (Some end) new new_ended l then more (inr failed) =
        ends-as cause.Failed n v w first then end failed.end_is
        (subst (λ (z : Option Past). IsEnded m at (over_with cause.Failed n false) v w first z) (sym failed.told) (over-reading cause.Failed refl))

    -- the fixed answer to what is refused
    pub over-refuse : (fault : WireFault) (end : ConnectionEnd) (then : Option Past) → IsTail left ended (Tail.refused fault) → IsRefused fault n end now then → IsEnded m at end v w first then
    over-refuse fault end then tail r = elim r.is as (λ _. IsEnded m at end v w first then) [
      | inl whole ↦ ends-as cause.Whole n v w first then end whole.1 (over-refused fault r.part then tail whole.0 r.told)
      | inr some ↦ ends-as cause.Failed n v w first then end some.1 (over-refusing fault r.part then tail some.0 r.told)
    ]

    -- ---- a request

    module _ (q : Request) (rest : List ℕ) (x : View T) (own : List Placed) (then : Option Past) (begins : BeginsRequest left q rest) (p : Places w x own) where
      pub made : HasPlaced v x (g.own ++ own)
      made = placed-both v w x g.own own g.made (has-placed w x own p)

      module _ (o : Outcome) (r' : Replied m w.number at q o own now then) where
        pub r : Replied m v.number at q o own now then
        r = subst (λ (j : ℕ). Replied m j at q o own now then) g.made.number r'

        so_far : ConnectionSoFar m v.number at (g.replies ++ r.reply ∷ []) (g.own ++ own) rest ended (min (n + cond (is_whole o) 1 0) count_end) first then
        so_far = connection-replies m v.number at g.replies g.own own left rest ended n q o first now then g.so_far begins r

        last-is : LastIs o (g.replies ++ r.reply ∷ [])
        last-is = record { before = g.replies; last = r.reply; are = refl; go_on = g.none_closes; is = r.ends }

        pub over-last : (c : Cause) (way : Way) (l : ℕ) → l ≡ min (n + cond (is_whole o) 1 0) count_end
            → ((before : List Placed) → LastIs o (g.replies ++ r.reply ∷ []) → EndsBy m v.number x.seen (before ++ ((g.own ++ own) ++ [])) at ended (g.replies ++ r.reply ∷ []) rest [] [] way)
            → CausedBy c way → IsEnded m at (over_with c l (finds_halt way)) v x first then
        over-last c way l is ends early =
            subst (λ (z : ℕ). IsEnded m at (over_with c z (finds_halt way)) v x first then) (sym is)
            (ends-quietly rest ended (min (n + cond (is_whole o) 1 0) count_end) v x first then c way (g.replies ++ r.reply ∷ []) (g.own ++ own) made so_far (λ before. ends before last-is) early)

        -- the count stays where the answer was not sent whole
        pub not-whole : is_whole o ≡ false → n ≡ min (n + cond (is_whole o) 1 0) count_end
        not-whole is =
            let a = g.so_far.answers in
            let same : n ≡ min (n + 0) count_end = omega (arith, a) in
            same ∙ ap (λ (b : Bool). min (n + cond b 1 0) count_end) (sym is)

      pub goes-answered : (l : ℕ) → Replied m w.number at q (Outcome.answered false) own now then → l ≡ min (n + 1) count_end → GoesOn m at rest ended l v x first then
      goes-answered l r' is = record {
        replies = g.replies ++ (r (Outcome.answered false) r').reply ∷ [];
        own = g.own ++ own;
        made = made;
        so_far = subst (λ (z : ℕ). ConnectionSoFar m v.number at (g.replies ++ (r (Outcome.answered false) r').reply ∷ []) (g.own ++ own) rest ended z first then) (sym is) (so_far (Outcome.answered false) r');
        none_closes = go-on-more g.replies (r (Outcome.answered false) r').reply g.none_closes (r (Outcome.answered false) r').ends;
      }

      pub over-closed : (l : ℕ) → Replied m w.number at q (Outcome.answered true) own now then → l ≡ min (n + 1) count_end → IsEnded m at (over_with cause.Whole l false) v x first then
      over-closed l r' is = over-last (Outcome.answered true) r' cause.Whole Way.closed l is (λ before last. (last, refl, refl)) refl

      pub over-unlogged : (l : ℕ) → Replied m w.number at q Outcome.unlogged own now then → l ≡ min (n + 1) count_end → IsEnded m at (over_with cause.Failed l false) v x first then
      over-unlogged l r' is = over-last Outcome.unlogged r' cause.Failed (Way.interrupted Interruption.logging) l is (λ before last. (last, refl, refl)) refl

      pub over-broken : Replied m w.number at q Outcome.broken own now then → IsEnded m at (over_with cause.Failed n false) v x first then
      over-broken r' = over-last Outcome.broken r' cause.Failed (Way.interrupted Interruption.answering) n (not-whole Outcome.broken r' refl) (λ before last. (last, refl, refl)) refl

      pub over-lacking : Replied m w.number at q Outcome.lacking own now then → IsEnded m at (over_with cause.Lacking n false) v x first then
      over-lacking r' = over-last Outcome.lacking r' cause.Lacking (Way.interrupted Interruption.lacking) n (not-whole Outcome.lacking r' refl) (λ before last. (last, refl, refl)) (refl, refl)

      pub over-dropped : Replied m w.number at q Outcome.dropped own now then → IsEnded m at (over_with cause.Whole n false) v x first then
      over-dropped r' = over-last Outcome.dropped r' cause.Whole Way.dropped n (not-whole Outcome.dropped r' refl) (λ before last. (last, refl, refl)) refl

      pub over-halted : Replied m w.number at q Outcome.halted own now then → IsEnded m at (over_with cause.Whole n true) v x first then
      over-halted r' = over-last Outcome.halted r' cause.Whole Way.halted n (not-whole Outcome.halted r' refl) (λ before last. (last, refl, refl)) refl

      -- ---- a request that was not begun

      module _ (b' : NotBegun m w.number at q own now then) where
        b : NotBegun m v.number at q own now then
        b = subst (λ (j : ℕ). NotBegun m j at q own now then) g.made.number b'

        all_made : HasPlaced v x (g.own ++ joined b.again)
        all_made = subst (λ (l : List Placed). HasPlaced v x (g.own ++ l)) b.own_is made

        further : HasFurther m v.number at left b.again
        further = record { request = q; after = rest; begins = begins; agains = b.agains }

        worn : MAX_BEGINS ≤ begins_now (entries x.seen) → (before : List Placed) → IsPrefix (through v.number before) v.seen → IsWorn v.number x.seen (before ++ (g.own ++ joined b.again))
        worn full before front = record {
          place = x.seen;
          after = through_both v.number before (g.own ++ joined b.again) v.seen x.seen front all_made.seen all_made.last;
          within = prefix_same x.seen;
          full = subst (λ (z : ℕ). MAX_BEGINS ≤ z) (begins-now (entries x.seen) p.history.is_legal) full;
        }

        so_far-told : ConnectionSoFar m v.number at g.replies g.own left ended n first then
        so_far-told = subst (λ (z : Option Past). ConnectionSoFar m v.number at g.replies g.own left ended n first z) (sym b.past) g.so_far

        over-so : (part : List ℕ) (put : Option Past) (c : Cause) (way : Way) → put ≡ option_map (after_put part) then
            → ((before : List Placed) → IsPrefix (through v.number before) v.seen → EndsBy m v.number x.seen (before ++ (g.own ++ joined b.again)) at ended g.replies left b.again part way) → CausedBy c way → IsEnded m at (over_with c n (finds_halt way)) v x first put
        over-so part put c way told ends caused = record {
          own = g.own ++ joined b.again;
          made = all_made;
          served = connection-ends m v.number at v.seen x.seen g.replies g.own left ended n b.again part way c first then put so_far-told caused told ends;
        }

        pub over-worn : (part : List ℕ) (put : Option Past) → MAX_BEGINS ≤ begins_now (entries x.seen) → part ≡ refusal_bytes 503 → put ≡ option_map (after_put part) then → IsEnded m at (over_with cause.Whole n false) v x first put
        over-worn part put full is told = over-so part put cause.Whole Way.worn told (λ before front. (g.none_closes, further, worn full before front, is)) refl

        pub over-wearing : (part : List ℕ) (put : Option Past) → MAX_BEGINS ≤ begins_now (entries x.seen) → IsProperPrefix part (refusal_bytes 503) → put ≡ option_map (after_put part) then → IsEnded m at (over_with cause.Failed n false) v x first put
        over-wearing part put full is told = over-so part put cause.Failed (Way.interrupted Interruption.wearing) told (λ before front. (g.none_closes, further, worn full before front, is)) refl
