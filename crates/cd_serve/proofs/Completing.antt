-- A connection that was not interrupted has all its answers.
use Rattle.std.proofs.Common.{◌≡◌, ◌⊎◌, ◌∙◌, ℕ, ◌++◌, Bool, true, false, List, [], ◌∷◌, inl, inr, refl, ap, sym, subst}
use Rattle.std.proofs.lemmas.List.{append-nil, map-append}
use Rattle.cd_outside.specs.declared.address.Address.{Address}
use Rattle.cd_outside.specs.declared.past.Connection.{Connection}
use Rattle.cd_wire.specs.declared.answer.Answer.{Answer}
use Rattle.cd_wire.specs.declared.request.Request.{Request}
use Rattle.cd_wire.specs.Render.{refusal_bytes}
use Rattle.cd_wire.specs.Requests.{Splits, Tail}
use Rattle.cd_legal.specs.declared.entry.Signed.{Signed}
use Rattle.cd_legal.specs.Placed.{Placed}
use Rattle.cd_serve.specs.Meanings.{Meaning, Sent, sent, nothing_sent, both_sent, IsForNobody}
use Rattle.cd_serve.specs.Episodes.{Outcome, Ends, conf_met}
use Rattle.cd_serve.specs.Replies.{Reply, IsReply, AreReplies, requests, all_sent}
use Rattle.cd_serve.specs.Connections.{Way, Ending, AllGoOn, LastIs, IsTail, HasFurther, IsWorn, EndsBy, Serves}
use Rattle.cd_serve.specs.Lanes.{is_interrupted}
use Rattle.cd_serve.specs.Complete.{IsAnsweredBy, AreAnsweredBy, answer_bytes, Follows, HasAll, LastCloses, NobodyAnswers, FindsWorn, IsComplete}
use Rattle.cd_serve.proofs.Connecting.{sent-more}
use Rattle.cd_serve.proofs.Told.{nothing-then}

record All (m : Meaning) (k : ℕ) (at : Address) (rs : List Reply) : Type 0 where
  answers : List Answer
  are : AreAnsweredBy m k at rs answers
  put : (all_sent rs).put ≡ answer_bytes (requests rs) answers

one : (m : Meaning) (k : ℕ) (at : Address) (r : Reply) (close : Bool) → IsReply m k at r → r.outcome ≡ Outcome.answered close → (a : Answer) × IsAnsweredBy m k at r a
one m k at r close i is =
    let e : Ends m k at r.request (Outcome.answered close) i.episode.begin i.episode.work i.episode.finish r.sent = subst (λ (o : Outcome). Ends m k at r.request o i.episode.begin i.episode.work i.episode.finish r.sent) is i.ends in
    (e.1, record { episode = i.episode; kind = e.0; lines = e.2; keeps = e.3; answers = e.4; sent = e.5 })

more : (m : Meaning) (k : ℕ) (at : Address) (r : Reply) (rs : List Reply) → ((a : Answer) × IsAnsweredBy m k at r a) → All m k at rs → All m k at (r ∷ rs)
more m k at r rs first rest = record {
  answers = first.0 ∷ rest.answers;
  are = (first.1, rest.are);
  put = ap (λ (s : Sent). s.put ++ (all_sent rs).put) first.1.sent ∙ ap (λ (b : List ℕ). sent r.request first.0 ++ b) rest.put;
}

all : (m : Meaning) (k : ℕ) (at : Address) (rs : List Reply) → AreReplies m k at rs → AllGoOn rs → All m k at rs
all m k at [] each on = record { answers = []; are = tt; put = refl }
all m k at (r ∷ rs) each on = more m k at r rs (one m k at r false each.0 on.0) (all m k at rs each.1 on.1)

-- and the last one
all-and : (m : Meaning) (k : ℕ) (at : Address) (rs : List Reply) (last : Reply) → AreReplies m k at (rs ++ last ∷ []) → AllGoOn rs → last.outcome ≡ Outcome.answered true → All m k at (rs ++ last ∷ [])
all-and m k at [] last each on is = more m k at last [] (one m k at last true each.0 is) (record { answers = []; are = tt; put = refl })
all-and m k at (r ∷ rs) last each on is = more m k at r (rs ++ last ∷ []) (one m k at r false each.0 on.0) (all-and m k at rs last each.1 on.1 is)

front : (m : Meaning) (k : ℕ) (at : Address) (rs : List Reply) (last : Reply) → AreReplies m k at (rs ++ last ∷ []) → AreReplies m k at rs × IsReply m k at last
front m k at [] last each = (tt, each.0)
front m k at (r ∷ rs) last each = let f = front m k at rs last each.1 in ((each.0, f.0), f.1)

module _ (m : Meaning) (k : ℕ) (history : List Signed) (before : List Placed) (c : Connection) (e : Ending) (s : Serves m k history before c e) where
  abbrev own : List Placed
  own = before ++ e.own

  put-is : (answers : List Answer) → (all_sent s.replies).put ≡ answer_bytes (requests s.replies) answers → c.put ≡ answer_bytes (requests s.replies) answers ++ s.fixed
  put-is answers is = ap (λ (z : Sent). z.put) s.sent ∙ ap (λ (b : List ℕ). b ++ s.fixed) is

  -- only replies keep configurations
  keeps-are : c.keeps ≡ (all_sent s.replies).keeps
  keeps-are = ap (λ (z : Sent). z.keeps) s.sent ∙ append-nil (all_sent s.replies).keeps

  -- nobody answers the last one, for which nothing was sent
  for-nobody : (o : Outcome) → LastIs o s.replies → ((q : Request) (begin : Placed) (work : List Placed) (finish : Placed) (z : Sent) → Ends m k c.address q o begin work finish z → IsForNobody m (conf_met begin) c.address q × (z ≡ nothing_sent)) → s.fixed ≡ [] → IsComplete m k history own c
  for-nobody o l nobody none =
      let each : AreReplies m k c.address (l.before ++ l.last ∷ []) = subst (AreReplies m k c.address) l.are s.each in
      let f = front m k c.address l.before l.last each in
      let ends : Ends m k c.address l.last.request o f.1.episode.begin f.1.episode.work f.1.episode.finish l.last.sent = subst (λ (z : Outcome). Ends m k c.address l.last.request z f.1.episode.begin f.1.episode.work f.1.episode.finish l.last.sent) l.is f.1.ends in
      let n = nobody l.last.request f.1.episode.begin f.1.episode.work f.1.episode.finish l.last.sent ends in
      let a = all m k c.address l.before f.0 l.go_on in
      let sent : all_sent s.replies ≡ all_sent l.before = ap all_sent l.are ∙ (sent-more l.before l.last ∙ (ap (both_sent (all_sent l.before)) n.1 ∙ nothing-then (all_sent l.before))) in
      let asked : requests s.replies ≡ requests l.before ++ l.last.request ∷ [] = ap requests l.are ∙ map-append (λ (r : Reply). r.request) l.before (l.last ∷ []) in
      record {
        answered = l.before;
        answers = a.answers;
        are = a.are;
        fixed = [];
        put = ap (λ (z : Sent). z.put) s.sent ∙ (ap (λ (b : List ℕ). (all_sent s.replies).put ++ b) none ∙ (ap (λ (z : Sent). z.put ++ []) sent ∙ ap (λ (b : List ℕ). b ++ []) a.put));
        keeps = keeps-are ∙ ap (λ (z : Sent). z.keeps) sent;
        why = inr (inr (inl (l.last.request, s.rest, subst (λ (qs : List Request). Splits c.taken qs s.rest) asked s.splits, (f.1.episode.begin, n.0), refl)));
      }

  -- why there is no further answer, where each reply is one
  abbrev Why : Type 0
  Why = HasAll m k history own c s.replies s.fixed ⊎ (LastCloses m k history own c s.replies s.fixed ⊎ (NobodyAnswers m k history own c s.replies s.fixed ⊎ FindsWorn m k history own c s.replies s.fixed))

  complete-as : All m k c.address s.replies → Why → IsComplete m k history own c
  complete-as a why = record {
    answered = s.replies;
    answers = a.answers;
    are = a.are;
    fixed = s.fixed;
    put = put-is a.answers a.put;
    keeps = keeps-are;
    why = why;
  }

  -- all its requests were answered, and then comes this tail
  there : (tail : Tail) → AllGoOn s.replies → IsTail s.rest c.ended tail → Follows tail s.fixed → IsComplete m k history own c
  there tail on is fixed = complete-as (all m k c.address s.replies s.each on) (inl (tail, record { rest = s.rest; splits = s.splits; no_more = is.0; tail_is = is.1 }, fixed))

  closes : LastIs (Outcome.answered true) s.replies → s.fixed ≡ [] → IsComplete m k history own c
  closes l fixed =
      let a : All m k c.address s.replies =
      subst (λ (rs : List Reply). All m k c.address rs) (sym l.are) (all-and m k c.address l.before l.last (subst (λ (rs : List Reply). AreReplies m k c.address rs) l.are s.each) l.go_on l.is) in
      complete-as a (inr (inl (s.rest, s.splits, l, fixed)))

  worn : AllGoOn s.replies → HasFurther m k c.address s.rest s.again → IsWorn k history own → s.fixed ≡ refusal_bytes 503 → IsComplete m k history own c
  worn on further is fixed = complete-as (all m k c.address s.replies s.each on) (inr (inr (inr (s.rest, s.again, s.splits, further, is, fixed))))

  by : (way : Way) → EndsBy m k history own c.address c.ended s.replies s.rest s.again s.fixed way → is_interrupted way ≡ false → IsComplete m k history own c
  by Way.clean ends whole = there Tail.clean ends.0 ends.1 ends.3
  by Way.truncated ends whole = there Tail.cut ends.0 ends.1 ends.3
  by (Way.refused fault) ends whole = there (Tail.refused fault) ends.0 ends.1 ends.3
  by Way.closed ends whole = closes ends.0 ends.2
  by Way.dropped ends whole = for-nobody Outcome.dropped ends.0 (λ q begin work finish z e. (e.0, e.3)) ends.2
  by Way.halted ends whole = for-nobody Outcome.halted ends.0 (λ q begin work finish z e. (e.0, e.3)) ends.2
  by Way.worn ends whole = worn ends.0 ends.1 ends.2 ends.3
  by (Way.interrupted break) ends whole = absurd (let h : true ≡ false = whole in cc)

pub complete : (m : Meaning) (k : ℕ) (history : List Signed) (before : List Placed) (c : Connection) (e : Ending) → Serves m k history before c e → is_interrupted e.way ≡ false → IsComplete m k history (before ++ e.own) c
complete m k history before c e s whole = by m k history before c e s e.way s.ends whole
