-- What a lane tells of two connections, and near misses.
use Rattle.std.proofs.Common.{◌≡◌, ◌∙◌, ℕ, ◌++◌, Bool, true, false, List, [], ◌∷◌, length, inl, inr, refl, ap, sym, subst, arith}
use Rattle.std.specs.Prelude.{map}
use Rattle.std.proofs.lemmas.List.{length-append}
use Rattle.cd_text.specs.Steps.{joined}
use Rattle.cd_outside.specs.declared.address.Address.{Address}
use Rattle.cd_outside.specs.declared.past.Connection.{Connection}
use Rattle.cd_outside.specs.declared.past.KeepRecord.{KeepRecord}
use Rattle.cd_outside.specs.declared.past.Logged.{Logged}
use Rattle.cd_tree.specs.declared.tree.Tree.{Tree}
use Rattle.cd_wire.specs.declared.answer.Answer.{Answer}
use Rattle.cd_wire.specs.declared.request.Request.{Request}
use Rattle.cd_wire.specs.Requests.{BeginsRequest, HasNoRequest, Splits}
use Rattle.cd_wire.proofs.TakingLemmas.{nothing_no_request}
use Rattle.cd_legal.specs.declared.limits.TheConstants.{MAX_DRAFTS}
use Rattle.cd_legal.specs.declared.entry.Entry.TheVariants.{Begin, Finish, Retire, Cleaned}
use Rattle.cd_legal.specs.Placed.{Placed, placed}
use Rattle.cd_module_set.specs.declared.target.Target.TheVariants as who
use Rattle.cd_serve.specs.Meanings.{Meaning, Sent, sent, says_close, logged, answer_sent, nothing_sent, both_sent}
use Rattle.cd_serve.specs.Episodes.{Episode, Kind, Outcome, Answers}
use Rattle.cd_serve.specs.Replies.{Reply, IsReply, AreReplies, requests, owns}
use Rattle.cd_serve.specs.Connections.{Way, Ending, Serves}
use Rattle.cd_serve.specs.Lanes.{Told, interrupted_in, answered_in, halted_in}
use Rattle.cd_serve.proofs.Examples.{all_by, on, finished_there, changing, begin_of_one, finish_of_one, first_of_one, serves}
use Rattle.cd_serve.proofs.KeptFirst.{kept-first}
use Rattle.cd_serve.proofs.Told.{nothing-then}

-- of a pass that serves before and after a change, what it serves after
module _ (t u : Tree) (q : Request) where
  abbrev second_of_one : List Placed
  second_of_one = on 1 (finished_there t u q ++ all_by 1 (Retire 1 ∷ Cleaned 0 0 ∷ [])) (Begin 1 2 ∷ Finish 1 ∷ [])

  abbrev serves_again : Episode 1 second_of_one
  serves_again = record {
    begin = record { before = finished_there t u q ++ all_by 1 (Retire 1 ∷ Cleaned 0 0 ∷ []); entry = Begin 1 2 };
    work = [];
    finish = record { before = finished_there t u q ++ all_by 1 (Retire 1 ∷ Cleaned 0 0 ∷ Begin 1 2 ∷ []); entry = Finish 1 };
    block = [];
    whole = refl;
    begins = refl;
    finishes = refl;
    retires = refl;
  }

  -- in the first of its episodes nothing stands between Begin and Finish
  nothing_between : (work : List Placed) (finish : Placed) (block : List Placed) → finish_of_one t u q ∷ on 1 (finished_there t u q) (Retire 1 ∷ Cleaned 0 0 ∷ []) ≡ work ++ finish ∷ block → finish.entry ≡ Finish 1 → work ≡ []
  nothing_between [] finish block is finishes = refl
  nothing_between (x ∷ []) finish block is finishes = absurd (let h : Retire 1 ≡ Finish 1 = (let i : Retire 1 ≡ finish.entry = cc in i ∙ finishes) in cc)
  nothing_between (x ∷ y ∷ []) finish block is finishes = absurd (let h : Cleaned 0 0 ≡ Finish 1 = (let i : Cleaned 0 0 ≡ finish.entry = cc in i ∙ finishes) in cc)
  nothing_between (x ∷ y ∷ z ∷ work) finish block is finishes = absurd (omega (arith, ap length is, length-append work (finish ∷ block)))

-- no list of replies has no entries, but the empty one
no_replies : (m : Meaning) (k : ℕ) (at : Address) (replies : List Reply) (again : List (List Placed)) → AreReplies m k at replies → [] ≡ owns replies ++ joined again → replies ≡ []
no_replies m k at [] again each is = refl
no_replies m k at (r ∷ rs) again each is =
    let e = each.0.episode in
    absurd (omega (arith, ap length is, length-append (owns (r ∷ rs)) (joined again), length-append (joined r.again ++ r.last) (owns rs), length-append (joined r.again) r.last, ap length e.whole))

-- a request comes by these bytes to an address where an app answers, before and after the change; its first answer leaves the connection
-- open, and the client closes it; its second answer closes it
module _ (m : Meaning) (at : Address) (t u : Tree) (q : Request) (bytes : List ℕ) (asks : BeginsRequest bytes q [])
    (app : (m.acts t).target at ≡ who.App) (app_then : (m.acts u).target at ≡ who.App) where
  abbrev first_answer : Answer
  first_answer = (m.acts t).answer at q

  abbrev second_answer : Answer
  second_answer = (m.acts u).answer at q

  abbrev first_lines : List Logged
  first_lines = map logged ((m.acts t).lines at q first_answer)

  abbrev second_lines : List Logged
  second_lines = map logged ((m.acts u).lines at q second_answer)

  abbrev first_reply : Reply
  first_reply = record { request = q; again = []; last = first_of_one t u q; outcome = Outcome.answered false; sent = answer_sent q first_answer first_lines [] }

  abbrev second_reply : Reply
  second_reply = record { request = q; again = []; last = second_of_one t u q; outcome = Outcome.answered true; sent = answer_sent q second_answer second_lines [] }

  abbrev first_connection : Connection
  first_connection = record { address = at; taken = bytes; ended = true; put = sent q first_answer; lines = first_lines; keeps = [] }

  abbrev second_connection : Connection
  second_connection = record { address = at; taken = bytes; ended = false; put = sent q second_answer; lines = second_lines; keeps = [] }

  abbrev first_ending : Ending
  first_ending = record { own = first_of_one t u q; way = Way.clean; answered = 1 }

  abbrev second_ending : Ending
  second_ending = record { own = second_of_one t u q; way = Way.closed; answered = 1 }

  sent_alone : (s : Sent) → s ≡ both_sent (both_sent s nothing_sent) nothing_sent
  sent_alone s = sym (nothing-then (both_sent s nothing_sent) ∙ nothing-then s)

  module _ (goes_on : says_close q first_answer ≡ false) (closes : says_close q second_answer ≡ true) where
    first_is : IsReply m 1 at first_reply
    first_is = record { agains = tt; episode = serves t u q; ends = (Kind.served, first_answer, first_lines, [], (inl (record { there = app; answer = refl; logs = refl }), refl, refl), refl, sym goes_on) }

    second_is : IsReply m 1 at second_reply
    second_is = record { agains = tt; episode = serves_again t u q; ends = (Kind.served, second_answer, second_lines, [], (inl (record { there = app_then; answer = refl; logs = refl }), refl, refl), refl, sym closes) }

    serves_first : Serves m 1 (changing t u q) [] first_connection first_ending
    serves_first = record {
      replies = first_reply ∷ [];
      rest = [];
      again = [];
      fixed = [];
      splits = ([], asks, refl);
      each = (first_is, tt);
      own = refl;
      sent = sent_alone (answer_sent q first_answer first_lines []);
      kept = kept-first m 1 at (first_reply ∷ []) [] (first_is, tt) refl;
      ends = ((refl, tt), (nothing_no_request, (refl, refl)), refl, refl);
      answered = refl;
    }

    serves_second : Serves m 1 (changing t u q) (first_of_one t u q) second_connection second_ending
    serves_second = record {
      replies = second_reply ∷ [];
      rest = [];
      again = [];
      fixed = [];
      splits = ([], asks, refl);
      each = (second_is, tt);
      own = refl;
      sent = sent_alone (answer_sent q second_answer second_lines []);
      kept = kept-first m 1 at (second_reply ∷ []) [] (second_is, tt) refl;
      ends = (record { before = []; last = second_reply; are = refl; go_on = tt; is = refl }, refl, refl);
      answered = refl;
    }

    -- all that the pass did is told by the two connections
    tells : Told m 1 (changing t u q) (placed 1 (changing t u q)) (first_connection ∷ second_connection ∷ []) (first_ending ∷ second_ending ∷ [])
    tells = record { whole = refl; each = (serves_first, (serves_second, tt)) }

    counts : (answered_in (first_ending ∷ second_ending ∷ []) ≡ 2) × (interrupted_in (first_ending ∷ second_ending ∷ []) ≡ 0) × (halted_in (first_ending ∷ second_ending ∷ []) ≡ 0)
    counts = (refl, refl, refl)

  -- a connection whose request was not answered did not end with its bytes
  unanswered : (put : List ℕ) → Serves m 1 (changing t u q) [] (record first_connection { put = put }) (record { own = []; way = Way.clean; answered = 0 }) → ⊥
  unanswered put s =
      let none : s.replies ≡ [] = no_replies m 1 at s.replies s.again s.each s.own in
      let rest : bytes ≡ s.rest = subst (λ (rs : List Reply). Splits bytes (requests rs) s.rest) none s.splits in
      subst HasNoRequest (sym rest) s.ends.1.0 q [] asks

  -- an answer without an entry between Begin and Finish is that of the configuration that the Begin met
  answered_so : (kind : Kind) (r : Answer) (lines : List Logged) (keeps : List KeepRecord) → Answers m 1 at q kind (begin_of_one t u q) [] (finish_of_one t u q) r lines keeps → r ≡ first_answer
  answered_so Kind.served r lines keeps (inl a, none, unkept) = a.answer
  answered_so Kind.served r lines keeps (inr d, none, unkept) = absurd (let h : who.App ≡ who.Admin = sym app ∙ d.0.there in cc)
  answered_so Kind.changed r lines keeps a = let p = a.0.2 in absurd (omega (arith, ap length p.whole, length-append p.opening (p.publish ∷ p.stopping)))
  answered_so Kind.unopened r lines keeps a = let p = a.0.3 in absurd (omega (arith, ap length p.whole))
  answered_so Kind.kept r lines keeps a = let p = a.0.3.given_up in absurd (omega (arith, ap length p.whole, length-append p.opening (p.abandon ∷ p.ending)))
  answered_so Kind.halting r lines keeps a = let p = a.1 in absurd (omega (arith, ap length p.whole))
  answered_so Kind.spent r lines keeps a = let h : 2 ≡ MAX_DRAFTS = a.2 in absurd (omega (arith, h))

  -- the answer of the later configuration, and so that of the other connection, is none to the request that began before
  exchanged : (close : Bool) (lines : List Logged) (keeps : List KeepRecord) → (sent q second_answer ≡ sent q first_answer → ⊥) → IsReply m 1 at (record { request = q; again = []; last = first_of_one t u q; outcome = Outcome.answered close; sent = answer_sent q second_answer lines keeps }) → ⊥
  exchanged close lines keeps differ r =
      let e = r.episode in
      let begins : begin_of_one t u q ≡ e.begin = let is : first_of_one t u q ≡ e.begin ∷ (e.work ++ e.finish ∷ e.block) = e.whole in cc in
      let rest : finish_of_one t u q ∷ on 1 (finished_there t u q) (Retire 1 ∷ Cleaned 0 0 ∷ []) ≡ e.work ++ e.finish ∷ e.block = let is : first_of_one t u q ≡ e.begin ∷ (e.work ++ e.finish ∷ e.block) = e.whole in cc in
      let none : e.work ≡ [] = nothing_between t u q e.work e.finish e.block rest e.finishes in
      let alone : finish_of_one t u q ∷ on 1 (finished_there t u q) (Retire 1 ∷ Cleaned 0 0 ∷ []) ≡ e.finish ∷ e.block = rest ∙ ap (λ (w : List Placed). w ++ e.finish ∷ e.block) none in
      let finishes : finish_of_one t u q ≡ e.finish = cc in
      let kind = r.ends.0 in
      let it : Answer = r.ends.1 in
      let here : Answers m 1 at q kind (begin_of_one t u q) [] (finish_of_one t u q) it r.ends.2 r.ends.3 =
      subst (λ (b : Placed). Answers m 1 at q kind b [] (finish_of_one t u q) it r.ends.2 r.ends.3) (sym begins)
      (subst (λ (f : Placed). Answers m 1 at q kind e.begin [] f it r.ends.2 r.ends.3) (sym finishes)
      (subst (λ (w : List Placed). Answers m 1 at q kind e.begin w e.finish it r.ends.2 r.ends.3) none r.ends.4)) in
      differ (ap (λ (z : Sent). z.put) r.ends.5 ∙ ap (sent q) (answered_so kind it r.ends.2 r.ends.3 here))
