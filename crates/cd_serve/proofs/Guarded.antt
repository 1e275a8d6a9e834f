-- A connection keeps up with the serial that it came with.
use Rattle.std.proofs.Common.{◌≡◌, ◌⊎◌, ◌≤◌, ◌∙◌, ◌++◌, ◌&&◌, ◌==◌, ℕ, max, Bool, true, false, nat_le, List, [], ◌∷◌, Option, Some, None, option_map, inl, inr, refl, ap, sym, subst, arith}
use Rattle.std.proofs.lemmas.Bool.Decides.{nat_tests}
use Rattle.std.proofs.lemmas.List.{append_assoc, append-nil, append_cancel_left}
use Rattle.cd_text.specs.Steps.{joined}
use Rattle.cd_outside.specs.declared.accepted.Accepted.TheVariants as accepted
use Rattle.cd_outside.specs.declared.address.Address.{Address}
use Rattle.cd_outside.specs.declared.past.Connection.{Connection}
use Rattle.cd_outside.specs.declared.past.Past.{Past}
use Rattle.cd_outside.specs.Past.{with_connection, after_accept, fresh}
use Rattle.cd_outside.specs.Since.{SinceAccept, CameWith}
use Rattle.cd_outside.specs.Telling.{TellsOn}
use Rattle.cd_legal.specs.declared.entry.Entry.{Entry}
use Rattle.cd_legal.specs.declared.entry.Entry.TheVariants.{Begin}
use Rattle.cd_legal.specs.declared.entry.Signed.{Signed}
use Rattle.cd_legal.specs.Fresh.{named, is_fresh_at, is_fresh_from}
use Rattle.cd_legal.specs.Legal.{IsLegal, state_at}
use Rattle.cd_legal.specs.State.{Conf, conf_of}
use Rattle.cd_legal.specs.Placed.{Placed, placed, met}
use Rattle.cd_legal.proofs.Fresh.{legal-fresh}
use Rattle.cd_legal.proofs.Histories.{both, first, second}
use Rattle.cd_gate.specs.declared.view.View.{View}
use Rattle.cd_gate.specs.Growing.{Places}
use Rattle.cd_hall.specs.Tickets.{BeganWith}
use Rattle.cd_hall.specs.Turned.{Turned}
use Rattle.cd_hall.proofs.Placing.{turned_places}
use Rattle.cd_session.proofs.Changes.{past_is, connections_more}
use Rattle.cd_session.specs.declared.cause.Cause.{Cause}
use Rattle.cd_session.specs.declared.cause.Cause.TheVariants as cause
use Rattle.cd_session.specs.declared.connection_end.ConnectionEnd.{ConnectionEnd}
use Rattle.cd_serve.specs.declared.how.How.{How}
use Rattle.cd_serve.specs.Meanings.{Meaning, nothing_sent, sent_on}
use Rattle.cd_serve.specs.Episodes.{Episode}
use Rattle.cd_serve.specs.Replies.{Reply, AreReplies, owns, all_sent}
use Rattle.cd_serve.specs.Connections.{Way, Ending}
use Rattle.cd_serve.specs.Lanes.{is_interrupted}
use Rattle.cd_serve.specs.Since.{FreshSince, KeepsUp, KeepUp, AddsSince}
use Rattle.cd_serve.specs.Serving.{ConnectionServed, CausedBy, after_all}
use Rattle.cd_serve.specs.Stepping.{HasPlaced, GoesOn}
use Rattle.cd_serve.specs.Requests.{Concluded}
use Rattle.cd_serve.specs.Guarding.{IsNoneLater, IsDeclined, gives_none_in, StartsSince, HasKeptUp, HasGivenNone, RequestKeepsUp, IsCut, EndsUnanswered, ConnectionKeepsUp, EndKeepsUp, StepKeepsUp}
use Rattle.cd_serve.proofs.Begun.{all_placed, episode, episode-work}
use Rattle.cd_serve.proofs.Stepping.{placed-none, placed-both, has-placed}
use Rattle.cd_serve.proofs.Works.{works-none}

-- ---- fresh entries

low : (a b n : ℕ) → b ≤ a → nat_le a n ≡ true → nat_le b n ≡ true
low a b n le is = grind (arith, nat_tests)

fresher-at : (a b serial : ℕ) (e : Entry) → b ≤ a → is_fresh_at a serial e ≡ true → is_fresh_at b serial e ≡ true
fresher-at a b serial (Begin k n) le is = both (n == serial) _ (first (n == serial) _ is) (low a b n le (second (n == serial) _ is))
fresher-at a b serial e le is = refl

-- they are also fresh since an older serial
fresher : (a b : ℕ) (own : List Placed) → b ≤ a → is_fresh_from a own ≡ true → is_fresh_from b own ≡ true
fresher a b [] le is = refl
fresher a b (p ∷ own) le is =
    both (is_fresh_at b (met p).serial p.entry) _
    (fresher-at a b (met p).serial p.entry le (first (is_fresh_at a (met p).serial p.entry) _ is))
    (fresher (max a (named p.entry)) (max b (named p.entry)) own (omega (arith, le)) (second (is_fresh_at a (met p).serial p.entry) _ is))

-- and so are the last of them
fresh-last : (a : ℕ) (before own : List Placed) → is_fresh_from a (before ++ own) ≡ true → is_fresh_from 0 own ≡ true
fresh-last a [] own is = fresher a 0 own (omega arith) is
fresh-last a (p ∷ before) own is = fresh-last (max a (named p.entry)) before own (second (is_fresh_at a (met p).serial p.entry) _ is)

least-is : (since n : ℕ) → since ≤ n → max since n ≡ max 0 n
least-is since n le = omega (arith, le)

nat-low : (a b : ℕ) → a ≤ b → nat_le a b ≡ true
nat-low a b e = grind (arith, nat_tests)

begins-fresh : (since serial n k : ℕ) (own : List Placed) → since ≤ n → (is_fresh_at 0 serial (Begin k n) && is_fresh_from (max 0 (named (Begin k n))) own) ≡ true
    → (is_fresh_at since serial (Begin k n) && is_fresh_from (max since (named (Begin k n))) own) ≡ true
begins-fresh since serial n k own le is =
    let here = first (is_fresh_at 0 serial (Begin k n)) _ is in
    both (is_fresh_at since serial (Begin k n)) _
    (both (n == serial) _ (first (n == serial) _ here) (nat-low since n le))
    (subst (λ (m : ℕ). is_fresh_from m own ≡ true) (sym (least-is since n le)) (second (is_fresh_at 0 serial (Begin k n)) _ is))

-- where the first of them is no older than this, none is
starts-fresh : (since k : ℕ) (own : List Placed) → StartsSince since k own → is_fresh_from 0 own ≡ true → FreshSince since own
starts-fresh since k [] starts is = refl
starts-fresh since k (p ∷ own) starts is =
    subst (λ (e : Entry). (is_fresh_at since (met p).serial e && is_fresh_from (max since (named e)) own) ≡ true) (sym starts.1)
    (begins-fresh since (met p).serial starts.0 k own starts.2 (subst (λ (e : Entry). (is_fresh_at 0 (met p).serial e && is_fresh_from (max 0 (named e)) own) ≡ true) starts.1 is))

-- ---- what a pass made, one after another

starts-both : (since k : ℕ) (one two : List Placed) → StartsSince since k one → StartsSince since k two → StartsSince since k (one ++ two)
starts-both since k [] two a b = b
starts-both since k (p ∷ one) two a b = a

module _ {T : Type 0} where
  placed-as : (v w : View T) (one two : List Placed) → HasPlaced v w one → HasPlaced v w two → one ≡ two
  placed-as v w one two a b = append_cancel_left (placed v.number v.seen) one two (sym a.placed_is ∙ b.placed_is)

  pub kept-none : (since : ℕ) (v : View T) → HasKeptUp since v v
  kept-none since v = record { own = []; made = placed-none v; starts = tt }

  pub kept-both : (since : ℕ) (v w x : View T) → HasKeptUp since v w → HasKeptUp since w x → HasKeptUp since v x
  kept-both since v w x a b = record {
    own = a.own ++ b.own;
    made = placed-both v w x a.own b.own a.made b.made;
    starts = starts-both since v.number a.own b.own a.starts (subst (λ (k : ℕ). StartsSince since k b.own) a.made.number b.starts);
  }

  -- a request that gave no answer, after what the pass had made, or as the first
  module _ (since : ℕ) (v w x : View T) (then new : Option Past) (n : HasGivenNone w x then new) where
    only-as : (own : List Placed) → own ≡ n.own → w.number ≡ v.number → (only : Episode v.number own) × (only.work ≡ [])
    only-as own is number = subst (λ (o : List Placed). (only : Episode v.number o) × (only.work ≡ [])) (sym is) (subst (λ (k : ℕ). (only : Episode k n.own) × (only.work ≡ [])) number (n.only, n.nothing_done))

    pub given-more : (own : List Placed) → HasPlaced v w own → StartsSince since v.number own → HasKeptUp since v x ⊎ ((own ≡ []) × (all : List Placed) × HasPlaced v x all × (only : Episode v.number all) × (only.work ≡ []))
    given-more [] made starts = let o = only-as n.own refl made.number in inr (refl, n.own, placed-both v w x [] n.own made n.made, o.0, o.1)
    given-more (p ∷ own) made starts = inl (record { own = p ∷ own ++ n.own; made = placed-both v w x (p ∷ own) n.own made n.made; starts = starts })

  pub request-after : (since : ℕ) (result : Option How) (v w x : View T) (old then new : Option Past) → HasKeptUp since v w → then ≡ old → RequestKeepsUp since result w x then new → RequestKeepsUp since result v x old new
  request-after since result v w x old then new a same (inl b) = inl (kept-both since v w x a b)
  request-after since result v w x old then new a same (inr n) = elim (given-more since v w x then new n.1 a.own a.made a.starts) as (λ _. RequestKeepsUp since result v x old new) [
    | inl b ↦ inl b
    | inr b ↦ inr (n.0, record { own = b.1; made = b.2; only = b.3; nothing_done = b.4; past = n.1.past ∙ same })
  ]

  -- one that is to be decided again
  pub kept-again : (since : ℕ) (v w x : View T) (old new : Option Past) → HasKeptUp since v w → RequestKeepsUp since None w x old new → HasKeptUp since v x
  kept-again since v w x old new a (inl b) = kept-both since v w x a b
  kept-again since v w x old new a (inr n) = absurd (let h : false ≡ true = n.0 in cc)

  -- a request that began was acted on, and ended
  module _ (serial : ℕ) (v w x z : View T) (begin : Placed) (one : Places v w (begin ∷ [])) (is : begin.entry ≡ Begin v.number serial) (c : Concluded x z) where
    pub once-kept : (since : ℕ) (work : List Placed) → Places w x work → since ≤ serial → HasKeptUp since v z
    once-kept since work acted le = record {
      own = begin ∷ (work ++ c.finish ∷ c.block);
      made = has-placed v z (begin ∷ (work ++ c.finish ∷ c.block)) (all_placed serial v w x z begin work c one acted);
      starts = (serial, is, le);
    }

    pub once-declined : (conf : Conf) (old new : Option Past) → BeganWith conf serial begin → x ≡ w → new ≡ old → HasGivenNone v z old new
    once-declined conf old new b same past =
        let none : Places w x [] = subst (λ (y : View T). Places w y []) (sym same) (works-none w one.history).places in
        record {
          own = begin ∷ ([] ++ c.finish ∷ c.block);
          made = has-placed v z (begin ∷ ([] ++ c.finish ∷ c.block)) (all_placed serial v w x z begin [] c one none);
          only = episode serial v w x z begin conf [] c (none.number ∙ one.number) is b;
          nothing_done = episode-work serial v w x z begin conf [] c (none.number ∙ one.number) is b;
          past = past;
        }

  -- it lacked the memory for its configuration
  pub lacking-given : (serial : ℕ) (v w z : View T) (found : List Signed) (told : Option Past) → Turned v w found (Begin v.number serial ∷ []) → serial ≡ (state_at found).serial → Concluded w z → HasGivenNone v z told told
  lacking-given serial v w z found told t current c =
      once-declined serial v w w z (record { before = found; entry = Begin v.number serial }) (turned_places v w found (Begin v.number serial ∷ []) t) refl c
      (conf_of (state_at found) (state_at found).serial) told told (record { conf_is = refl; serial_is = sym current }) refl refl

  -- none began
  pub unbegun-kept : (since : ℕ) (v w : View T) → Places v w [] → HasKeptUp since v w
  unbegun-kept since v w p = record { own = []; made = has-placed v w [] p; starts = tt }

-- an attempt, by whether the lane knew of a later serial
pub once-keeps-up : {P T : Type 0} (look : P → View T) (serial : ℕ) (conf : Conf) (result : Option How) (v z : View T) (p p' : P) (begin : Placed) (work : List Placed) (old new : Option Past) → Places v (look p) (begin ∷ []) → begin.entry ≡ Begin v.number serial
    → BeganWith conf serial begin → Places (look p) (look p') work → Concluded (look p') z → (told : Option (List ℕ)) (since : ℕ) → CameWith told since → IsNoneLater told serial ⊎ IsDeclined result p p' old new → RequestKeepsUp since result v z old new
once-keeps-up look serial conf result v z p p' begin work old new one is b acted c told since came (inl none) = inl (once-kept serial v (look p) (look p') z begin one is c since work acted (none since came))
once-keeps-up look serial conf result v z p p' begin work old new one is b acted c told since came (inr d) =
    inr (ap gives_none_in d.is, once-declined serial v (look p) (look p') z begin one is c conf old new b (ap look d.same) d.past)

-- ---- a connection

no-replies : (m : Meaning) (k : ℕ) (at : Address) (replies : List Reply) → AreReplies m k at replies → owns replies ≡ [] → replies ≡ []
no-replies m k at [] each is = refl
no-replies m k at (r ∷ rs) each is =
    let e = each.0.episode in
    absurd (some-entries (joined r.again) r.last (owns rs) e.begin (e.work ++ e.finish ∷ e.block) e.whole is)
  where
    some-entries : (xs ys zs : List Placed) (y : Placed) (more : List Placed) → ys ≡ y ∷ more → (xs ++ ys) ++ zs ≡ [] → ⊥
    some-entries [] ys zs y more head is = let h : (y ∷ more) ++ zs ≡ [] = subst (λ (l : List Placed). l ++ zs ≡ []) head is in let i : y ∷ (more ++ zs) ≡ [] = h in cc
    some-entries (x ∷ xs) ys zs y more head is = let i : x ∷ ((xs ++ ys) ++ zs) ≡ [] = is in cc

module _ {T : Type 0} (m : Meaning) (at : Address) where
  module _ (since : ℕ) (left : List ℕ) (ended : Bool) (n : ℕ) (v w : View T) (first then : Option Past) (g : GoesOn m at left ended n v w first then) (a : HasKeptUp since v w) where
    -- nothing was sent where nothing was made
    unsent : a.own ≡ [] → then ≡ option_map (with_connection (after_all g.so_far.taken ended nothing_sent)) first
    unsent none =
        let replies : g.replies ≡ [] = no-replies m v.number at g.replies g.so_far.each (sym g.so_far.own_is ∙ (placed-as v w g.own a.own g.made a.made ∙ none)) in
        g.so_far.past ∙ ap (λ (rs : List Reply). option_map (with_connection (after_all g.so_far.taken ended (all_sent rs))) first) replies

    ends-so : (end : ConnectionEnd) (x : View T) (now new : Option Past) → HasGivenNone w x then new → now ≡ new → ¬ (end.cause ≡ cause.Whole) → EndKeepsUp since end v x first now
    ends-so end x now new none same cut = elim (given-more since v w x then new none a.own a.made a.starts) as (λ _. EndKeepsUp since end v x first now) [
      | inl b ↦ inl b
      | inr b ↦ inr (record { own = b.1; made = b.2; is = record { only = b.3; nothing_done = b.4; cut = cut; taken = g.so_far.taken; ended = ended; past = same ∙ (none.past ∙ unsent b.0) } })
    ]

    -- after a request
    pub step-keeps-up : (h : How) (result : Option ConnectionEnd) (x : View T) (mid now : Option Past) → RequestKeepsUp since (Some h) w x then mid → (gives_none_in (Some h) ≡ true → IsCut result × (now ≡ mid)) → StepKeepsUp since result v x first now
    step-keeps-up h None x mid now (inl b) so = kept-both since v w x a b
    step-keeps-up h (Some end) x mid now (inl b) so = inl (kept-both since v w x a b)
    step-keeps-up h None x mid now (inr b) so = absurd (so b.0).0
    step-keeps-up h (Some end) x mid now (inr b) so = ends-so end x now mid b.1 (so b.0).1 (so b.0).0

-- a step without a request
pub step-kept : {T : Type 0} (since : ℕ) (result : Option ConnectionEnd) (v w : View T) (first now : Option Past) → HasKeptUp since v w → StepKeepsUp since result v w first now
step-kept since None v w first now a = a
step-kept since (Some end) v w first now a = inl a

module _ {T : Type 0} where
  -- its end leaves what is told of it
  pub ended-keeps-up : (since : ℕ) (end : ConnectionEnd) (v x : View T) (first mid now : Option Past) → now ≡ mid → EndKeepsUp since end v x first mid → EndKeepsUp since end v x first now
  ended-keeps-up since end v x first mid now same e = subst (λ (z : Option Past). EndKeepsUp since end v x first z) (sym same) e

  fresh-since : (since : ℕ) (v x : View T) (own : List Placed) → IsLegal x.seen → HasPlaced v x own → HasKeptUp since v x → FreshSince since own
  fresh-since since v x own legal made a =
      let all : is_fresh_from 0 (placed v.number v.seen ++ a.own) ≡ true = subst (λ (l : List Placed). is_fresh_from 0 l ≡ true) a.made.placed_is (legal-fresh x.seen v.number legal) in
      subst (λ (l : List Placed). FreshSince since l) (placed-as v x a.own own a.made made) (starts-fresh since v.number a.own a.starts (fresh-last 0 (placed v.number v.seen) a.own all))

  pub connection-keeps-up : (since : ℕ) (end : ConnectionEnd) (v x : View T) (own : List Placed) (first now : Option Past) → IsLegal x.seen → HasPlaced v x own → EndKeepsUp since end v x first now → ConnectionKeepsUp since v.number own end first now
  connection-keeps-up since end v x own first now legal made (inl a) = inl (fresh-since since v x own legal made a)
  connection-keeps-up since end v x own first now legal made (inr u) = inr (subst (λ (l : List Placed). EndsUnanswered v.number l end first now) (placed-as v x u.own own u.made made) u.is)

-- ---- a lane

interrupted-by : (c : Cause) (way : Way) → CausedBy c way → ¬ (c ≡ cause.Whole) → is_interrupted way ≡ true
interrupted-by cause.Whole way caused cut = absurd (cut refl)
interrupted-by cause.Failed way caused cut = caused
interrupted-by cause.Lacking way caused cut = caused.0

last-is : (xs : List Connection) (c d : Connection) → xs ++ c ∷ [] ≡ xs ++ d ∷ [] → c ≡ d
last-is xs c d is = let h : c ∷ [] ≡ d ∷ [] = append_cancel_left xs (c ∷ []) (d ∷ []) is in cc

-- two ways to tell of one connection agree
same-connection : (at : Address) (q now : Past) (f h : Connection → Connection) → Some now ≡ option_map (with_connection f) (Some (after_accept (accepted.Connection at) q)) → Some now ≡ option_map (with_connection h) (Some (after_accept (accepted.Connection at) q)) → f (fresh at) ≡ h (fresh at)
same-connection at q now f h one two =
    last-is q.connections (f (fresh at)) (h (fresh at))
    (sym (connections_more at q q now [] f (sym (append-nil q.connections)) (past_is at q now f one)) ∙ connections_more at q q now [] h (sym (append-nil q.connections)) (past_is at q now h two))

pub keeps-up : (m : Meaning) (k since : ℕ) (at : Address) (seen longer : List Signed) (own : List Placed) (end : ConnectionEnd) (q now : Past) → (one : ConnectionServed m k at seen longer own end (Some (after_accept (accepted.Connection at) q)) (Some now))
    → ConnectionKeepsUp since k own end (Some (after_accept (accepted.Connection at) q)) (Some now) → KeepsUp k since (after_all one.taken one.ended one.sent (fresh at)) one.ending
keeps-up m k since at seen longer own end q now one (inl is) = inl (subst (λ (l : List Placed). FreshSince since l) (sym one.own_is) is)
keeps-up m k since at seen longer own end q now one (inr u) =
    let only : (only : Episode k one.ending.own) × (only.work ≡ []) = subst (λ (l : List Placed). (only : Episode k l) × (only.work ≡ [])) (sym one.own_is) (u.only, u.nothing_done) in
    inr (record {
      only = only.0;
      nothing_done = only.1;
      interrupted = interrupted-by end.cause one.ending.way one.caused u.cut;
      unsent = ap sent_on (same-connection at q now (after_all one.taken one.ended one.sent) (after_all u.taken u.ended nothing_sent) one.past u.past);
    })

keep-up-more : (k since : ℕ) (ns : List ℕ) (cs : List Connection) (es : List Ending) (c : Connection) (e : Ending) → KeepUp k ns cs es → KeepsUp k since c e → KeepUp k (ns ++ since ∷ []) (cs ++ c ∷ []) (es ++ e ∷ [])
keep-up-more k since [] [] [] c e all one = (one, tt)
keep-up-more k since (n ∷ ns) (d ∷ cs) (f ∷ es) c e all one = (all.0, keep-up-more k since ns cs es c e all.1 one)
keep-up-more k since [] [] (f ∷ es) c e all one = absurd all
keep-up-more k since [] (d ∷ cs) es c e all one = absurd all
keep-up-more k since (n ∷ ns) [] es c e all one = absurd all
keep-up-more k since (n ∷ ns) (d ∷ cs) [] c e all one = absurd all

pub adds-none : (k : ℕ) (told : Option (List ℕ)) → TellsOn (AddsSince k [] []) told told
adds-none k None = tt
adds-none k (Some ns) = record { serials = []; added = sym (append-nil ns); each = tt }

pub adds-more : (k : ℕ) (at : Address) (cs : List Connection) (es : List Ending) (c : Connection) (e : Ending) (old then new : Option (List ℕ))
    → TellsOn (AddsSince k cs es) old then → SinceAccept then (accepted.Connection at) new → ((since : ℕ) → CameWith new since → KeepsUp k since c e) → TellsOn (AddsSince k (cs ++ c ∷ []) (es ++ e ∷ [])) old new
adds-more k at cs es c e None None new told came one = subst (λ (z : Option (List ℕ)). TellsOn (AddsSince k (cs ++ c ∷ []) (es ++ e ∷ [])) None z) (sym came) tt
adds-more k at cs es c e (Some ns) (Some ms) new told came one =
    subst (λ (z : Option (List ℕ)). TellsOn (AddsSince k (cs ++ c ∷ []) (es ++ e ∷ [])) (Some ns) z) (sym came.1) (record {
      serials = told.serials ++ came.0 ∷ [];
      added = ap (λ (l : List ℕ). l ++ came.0 ∷ []) told.added ∙ append_assoc ns told.serials (came.0 ∷ []);
      each = keep-up-more k came.0 told.serials cs es c e told.each (one came.0 (ms, came.1));
    })
adds-more k at cs es c e None (Some ms) new told came one = absurd told
adds-more k at cs es c e (Some ns) None new told came one = absurd told

-- where none came, nothing is added
pub since-ended : (then new : Option (List ℕ)) → SinceAccept then accepted.Ended new → new ≡ then
since-ended None new is = is
since-ended (Some ns) new is = is

pub since-failed : (then new : Option (List ℕ)) → SinceAccept then accepted.Failed new → new ≡ then
since-failed None new is = is
since-failed (Some ns) new is = is
