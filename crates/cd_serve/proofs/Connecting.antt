-- A connection goes on from nothing, and ends in one of the ways.
use Rattle.std.proofs.Common.{◌≡◌, ◌∙◌, ◌++◌, ◌+◌, ℕ, min, Bool, true, false, cond, List, [], ◌∷◌, Option, option_map, refl, ap, sym, subst, arith}
use Rattle.std.specs.Prelude.{flat_map, sum_by}
use Rattle.std.proofs.lemmas.List.{append-nil, map-append}
use Rattle.std.proofs.lemmas.List.Sums.{sum_by-append}
use Rattle.std.proofs.lemmas.Grind.{flat_map-append}
use mathlib.Core.List.{IsPrefix}
use Rattle.cd_text.specs.Steps.{joined}
use Rattle.cd_outside.specs.declared.address.Address.{Address}
use Rattle.cd_outside.specs.declared.past.Past.{Past}
use Rattle.cd_outside.specs.Counts.{count_end}
use Rattle.cd_outside.specs.Past.{after_put, with_connection}
use Rattle.cd_wire.specs.declared.request.Request.{Request}
use Rattle.cd_wire.specs.Requests.{Splits, BeginsRequest}
use Rattle.cd_wire.proofs.RequestLaws.{Splits-append, Splits-snoc}
use Rattle.cd_legal.specs.declared.entry.Signed.{Signed}
use Rattle.cd_legal.specs.Placed.{Placed, through}
use Rattle.cd_session.specs.declared.cause.Cause.{Cause}
use Rattle.cd_serve.specs.Meanings.{Meaning, Sent, only_bytes, both_sent}
use Rattle.cd_serve.specs.Episodes.{Outcome}
use Rattle.cd_serve.specs.Replies.{Reply, IsReply, AreReplies, requests, own_of, owns, all_sent, is_whole, answered_of}
use Rattle.cd_serve.specs.Connections.{Way, AllGoOn, EndsBy}
use Rattle.cd_serve.specs.Lanes.{finds_halt}
use Rattle.cd_serve.specs.Serving.{Replied, ConnectionSoFar, ConnectionServed, CausedBy, after_all}
use Rattle.cd_serve.proofs.KeptFirst.{kept-first}
use Rattle.cd_serve.proofs.Told.{nothing-first, nothing-then, sent-assoc, sent-new, put-sent, nothing-yet, nothing-put, taking, ending, sending}

-- ---- one reply more

pub go-on-more : (replies : List Reply) (r : Reply) → AllGoOn replies → r.outcome ≡ Outcome.answered false → AllGoOn (replies ++ r ∷ [])
go-on-more [] r all is = (is, tt)
go-on-more (x ∷ xs) r all is = (all.0, go-on-more xs r all.1 is)

each-more : (m : Meaning) (k : ℕ) (at : Address) (replies : List Reply) (r : Reply) → AreReplies m k at replies → IsReply m k at r → AreReplies m k at (replies ++ r ∷ [])
each-more m k at [] r all is = (is, tt)
each-more m k at (x ∷ xs) r all is = (all.0, each-more m k at xs r all.1 is)

list-more : {A : Type 0} (f : Reply → List A) (replies : List Reply) (r : Reply) → flat_map f (replies ++ r ∷ []) ≡ flat_map f replies ++ f r
list-more f replies r = flat_map-append f replies (r ∷ []) ∙ ap (λ xs. flat_map f replies ++ xs) (append-nil (f r))

count-more : (replies : List Reply) (r : Reply) → answered_of (replies ++ r ∷ []) ≡ answered_of replies + cond (is_whole r.outcome) 1 0
count-more replies r =
    let f = λ (x : Reply). cond {A = ℕ} (is_whole x.outcome) 1 0 in
    let one : sum_by f (r ∷ []) ≡ f r = omega arith in
    sum_by-append f replies (r ∷ []) ∙ ap (λ (n : ℕ). sum_by f replies + n) one

pub sent-more : (replies : List Reply) (r : Reply) → all_sent (replies ++ r ∷ []) ≡ both_sent (all_sent replies) r.sent
sent-more [] r = nothing-then r.sent ∙ sym (nothing-first r.sent)
sent-more (x ∷ xs) r = ap (both_sent x.sent) (sent-more xs r) ∙ sym (sent-assoc x.sent (all_sent xs) r.sent)

-- ---- it goes on

pub connection-starts : (m : Meaning) (k : ℕ) (at : Address) (told : Option Past) → ConnectionSoFar m k at [] [] [] false 0 told told
connection-starts m k at told = record { taken = []; splits = refl; each = tt; own_is = refl; answers = refl; past = nothing-yet told }

pub connection-takes : (m : Meaning) (k : ℕ) (at : Address) (replies : List Reply) (own : List Placed) (left piece : List ℕ) (ended : Bool) (answered : ℕ) (first old now : Option Past)
    → ConnectionSoFar m k at replies own left ended answered first old → now ≡ option_map (with_connection (λ c. record c { taken = c.taken ++ piece })) old → ConnectionSoFar m k at replies own (left ++ piece) ended answered first now
connection-takes m k at replies own left piece ended answered first old now s is = record {
  taken = s.taken ++ piece;
  splits = Splits-append s.taken (requests replies) left piece s.splits;
  each = s.each;
  own_is = s.own_is;
  answers = s.answers;
  past = taking s.taken piece (all_sent replies) ended first old now s.past is;
}

pub connection-ended : (m : Meaning) (k : ℕ) (at : Address) (replies : List Reply) (own : List Placed) (left : List ℕ) (answered : ℕ) (first old now : Option Past)
    → ConnectionSoFar m k at replies own left false answered first old → now ≡ option_map (with_connection (λ c. record c { ended = true })) old → ConnectionSoFar m k at replies own left true answered first now
connection-ended m k at replies own left answered first old now s is = record {
  taken = s.taken;
  splits = s.splits;
  each = s.each;
  own_is = s.own_is;
  answers = s.answers;
  past = ending s.taken (all_sent replies) first old now s.past is;
}

pub connection-replies : (m : Meaning) (k : ℕ) (at : Address) (replies : List Reply) (own more : List Placed) (left rest : List ℕ) (ended : Bool) (answered : ℕ) (q : Request) (outcome : Outcome) (first old now : Option Past)
    → ConnectionSoFar m k at replies own left ended answered first old → BeginsRequest left q rest → (r : Replied m k at q outcome more old now)
    → ConnectionSoFar m k at (replies ++ r.reply ∷ []) (own ++ more) rest ended (min (answered + cond (is_whole outcome) 1 0) count_end) first now
connection-replies m k at replies own more left rest ended answered q outcome first old now s begins r =
    let counted : answered_of (replies ++ r.reply ∷ []) ≡ answered_of replies + cond (is_whole outcome) 1 0 = count-more replies r.reply ∙ ap (λ (o : Outcome). answered_of replies + cond (is_whole o) 1 0) r.ends in
    let asked : requests (replies ++ r.reply ∷ []) ≡ requests replies ++ q ∷ [] = map-append (λ (x : Reply). x.request) replies (r.reply ∷ []) ∙ ap (λ (x : Request). requests replies ++ x ∷ []) r.request in
    let told : now ≡ option_map (with_connection (after_all s.taken ended (both_sent (all_sent replies) r.reply.sent))) first = sending s.taken (all_sent replies) r.reply.sent ended first old now s.past r.past in
    record {
      taken = s.taken;
      splits = subst (λ (qs : List Request). Splits s.taken qs rest) (sym asked) (Splits-snoc s.taken (requests replies) q left rest s.splits begins);
      each = each-more m k at replies r.reply s.each r.is;
      own_is = ap (λ (o : List Placed). o ++ more) s.own_is ∙ ap (λ (o : List Placed). owns replies ++ o) r.own_is ∙ sym (list-more own_of replies r.reply);
      answers = omega (arith, s.answers, counted);
      past = told ∙ ap (λ (z : Sent). option_map (with_connection (after_all s.taken ended z)) first) (sym (sent-more replies r.reply));
    }

-- ---- it ends

pub connection-ends : (m : Meaning) (k : ℕ) (at : Address) (seen longer : List Signed) (replies : List Reply) (own : List Placed) (left : List ℕ) (ended : Bool) (answered : ℕ) (again : List (List Placed)) (fixed : List ℕ) (way : Way) (c : Cause) (first old now : Option Past)
    → ConnectionSoFar m k at replies own left ended answered first old → CausedBy c way → now ≡ option_map (after_put fixed) old
    → ((before : List Placed) → IsPrefix (through k before) seen → EndsBy m k longer (before ++ (own ++ joined again)) at ended replies left again fixed way)
    → ConnectionServed m k at seen longer (own ++ joined again) (record { cause = c; answered = answered; halted = finds_halt way }) first now
connection-ends m k at seen longer replies own left ended answered again fixed way c first old now s caused put ends =
    let all = both_sent (all_sent replies) (only_bytes fixed) in
    record {
      taken = s.taken;
      ended = ended;
      sent = all;
      ending = record { own = own ++ joined again; way = way; answered = answered_of replies };
      own_is = refl;
      past = sending s.taken (all_sent replies) (only_bytes fixed) ended first old now s.past (put-sent fixed old now put);
      serves = λ before front. record {
        replies = replies;
        rest = left;
        again = again;
        fixed = fixed;
        splits = s.splits;
        each = s.each;
        own = ap (λ (o : List Placed). o ++ joined again) s.own_is;
        sent = sent-new all;
        kept = kept-first m k at replies _ s.each (ap (λ (z : Sent). z.keeps) (sent-new all) ∙ append-nil (all_sent replies).keeps);
        ends = ends before front;
        answered = refl;
      };
      caused = caused;
      halted_is = refl;
      answers = s.answers;
    }

pub connection-ends-quietly : (m : Meaning) (k : ℕ) (at : Address) (seen longer : List Signed) (replies : List Reply) (own : List Placed) (left : List ℕ) (ended : Bool) (answered : ℕ) (again : List (List Placed)) (way : Way) (c : Cause) (first now : Option Past)
    → ConnectionSoFar m k at replies own left ended answered first now → CausedBy c way
    → ((before : List Placed) → IsPrefix (through k before) seen → EndsBy m k longer (before ++ (own ++ joined again)) at ended replies left again [] way)
    → ConnectionServed m k at seen longer (own ++ joined again) (record { cause = c; answered = answered; halted = finds_halt way }) first now
connection-ends-quietly m k at seen longer replies own left ended answered again way c first now s caused ends =
    connection-ends m k at seen longer replies own left ended answered again [] way c first now now s caused (nothing-put now) ends
