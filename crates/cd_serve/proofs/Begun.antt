-- A request from its Begin to its block, put together from what each call made.
use Rattle.std.proofs.Common.{◌≡◌, ◌∙◌, ◌++◌, ℕ, Bool, cond, List, [], ◌∷◌, Option, Some, None, option_map, inr, refl, ap, sym, subst, eq-eqb}
use Rattle.std.proofs.lemmas.List.{append_assoc, append-nil, append_cancel_left}
use Rattle.cd_text.specs.Steps.{joined}
use Rattle.cd_outside.specs.declared.address.Address.{Address}
use Rattle.cd_outside.specs.declared.past.Past.{Past}
use Rattle.cd_outside.specs.Past.{with_connection}
use Rattle.cd_wire.specs.declared.request.Request.{Request}
use Rattle.cd_legal.specs.declared.entry.Entry.{Entry}
use Rattle.cd_legal.specs.declared.entry.Entry.TheVariants.{Begin, Finish}
use Rattle.cd_legal.specs.declared.entry.Signed.{Signed}
use Rattle.cd_legal.specs.Entry.{signed, entries, mine}
use Rattle.cd_legal.specs.State.{Conf, conf_of}
use Rattle.cd_legal.specs.Legal.{state_at}
use Rattle.cd_legal.specs.Placed.{Placed, met}
use Rattle.cd_legal.specs.Owing.{Owes}
use Rattle.cd_legal.specs.Signing.{IsHistory}
use Rattle.cd_legal.proofs.Logs.{mine-append}
use Rattle.cd_gate.specs.declared.pass.Pass.{Pass}
use Rattle.cd_gate.specs.declared.view.View.{View}
use Rattle.cd_gate.specs.Growing.{Places}
use Rattle.cd_gate.specs.Passes.{view}
use Rattle.cd_gate.proofs.Grown.{places_both}
use Rattle.cd_life.specs.declared.board.Board.{Board}
use Rattle.cd_life.specs.Shares.{conf_in}
use Rattle.cd_hall.specs.declared.hall.Hall.{Hall}
use Rattle.cd_hall.specs.declared.hall.Ticket.{Ticket}
use Rattle.cd_hall.specs.Tickets.{IsTicketOf, BeganWith, HasBegun}
use Rattle.cd_hall.specs.Turned.{Turned}
use Rattle.cd_hall.proofs.Placing.{turned_places}
use Rattle.cd_serve.specs.declared.how.How.{How}
use Rattle.cd_serve.specs.declared.how.How.TheVariants as how
use Rattle.cd_serve.specs.Meanings.{Meaning, Sent, nothing_sent, after_sending}
use Rattle.cd_serve.specs.Retirements.{due, IsRetirement}
use Rattle.cd_serve.specs.Episodes.{Outcome, Episode, IsAgain}
use Rattle.cd_serve.specs.Replies.{AllAgain}
use Rattle.cd_serve.specs.Requests.{outcome_of, OwesNothing, OwesTicket, IsBegun, EndsIn, Acted, ActedQuietly, MayAct, HasActed, Concluded, RepliedWith, RequestServed, DecidesAgain, ServedOnce, Repeats}
use Rattle.cd_serve.proofs.Acts.{made-since, quiet-lacking}
use Rattle.cd_serve.proofs.Told.{nothing-sent}
use Rattle.cd_serve.proofs.Works.{works-none}

-- what was done without an entry
pub acted-quietly : {T : Type 0} (m : Meaning) (at : Address) (q : Request) (conf : Conf) (serial : ℕ) (h : How) (v : View T) (old new : Option Past) → IsHistory v.seen → ActedQuietly m at q conf serial h old new → Acted m at q conf serial (Some h) v v old new
acted-quietly m at q conf serial h v old new is a = record {
  work = [];
  what = a.what;
  places = (works-none v is).places;
  past = a.past;
  is = a.is v.number v.seen;
}

-- under a ticket, where the pass is as it was
pub acted-in-place : {A F B : Type 0} {g : _} (m : Meaning) (hall : Hall A F B g) (t : Ticket A B g) (at : Address) (q : Request) (h : How) (p : Pass (Board A F B g)) (connected : Bool) (old new : Option Past)
    → MayAct hall p t connected → ActedQuietly m at q (conf_in t.share) t.serial h old new → HasActed m hall t at q (Some h) p p old new
acted-in-place m hall t at q h p connected old new may a = record {
  pass = may.pass;
  owes = may.owes;
  acted = acted-quietly m at q (conf_in t.share) t.serial h (view p) old new may.ticket.history a;
}

-- under a ticket that the lane has found too old
pub acted-declined : {A F B : Type 0} {g : _} (m : Meaning) (hall : Hall A F B g) (t : Ticket A B g) (at : Address) (q : Request) (p : Pass (Board A F B g)) (connected : Bool) (old new : Option Past) → MayAct hall p t connected → new ≡ old → HasActed m hall t at q (Some how.Failed) p p old new
acted-declined m hall t at q p connected old new may same =
    acted-in-place m hall t at q how.Failed p connected old new may (record { what = nothing_sent; past = same ∙ nothing-sent old; is = λ k seen begin finish b f. inr (refl, refl) })

-- what was done for a request goes on from what was told before
pub acted-since : {A F B : Type 0} {g : _} (m : Meaning) (hall : Hall A F B g) (t : Ticket A B g) (at : Address) (q : Request) (result : Option How) (p p' : Pass (Board A F B g)) (old then new : Option Past) → then ≡ old → HasActed m hall t at q result p p' then new → HasActed m hall t at q result p p' old new
acted-since m hall t at q result p p' old then new same acted = subst (λ (z : Option Past). HasActed m hall t at q result p p' z new) same acted

module _ {T : Type 0} (serial : ℕ) (v w x z : View T) (begin : Placed) where
  abbrev pub all : List Placed → Concluded x z → List Placed
  all work c = begin ∷ (work ++ c.finish ∷ c.block)

  pub all_placed : (work : List Placed) (c : Concluded x z) → Places v w (begin ∷ []) → Places w x work → Places v z (all work c)
  all_placed work c one two = places_both v w z (begin ∷ []) (work ++ c.finish ∷ c.block) one (places_both w x z work (c.finish ∷ c.block) two c.places)

  pub episode : (conf : Conf) (work : List Placed) (c : Concluded x z) → x.number ≡ v.number → begin.entry ≡ Begin v.number serial → BeganWith conf serial begin → Episode v.number (all work c)
  episode conf work c xk is b = record {
    begin = begin;
    work = work;
    finish = c.finish;
    block = c.block;
    whole = refl;
    begins = is ∙ ap (Begin v.number) (sym b.serial_is);
    finishes = c.finishes ∙ ap Finish xk;
    retires = subst (λ (j : ℕ). IsRetirement (met c.finish) (due (met c.finish) j) c.block) xk c.retires;
  }

  pub episode-work : (conf : Conf) (work : List Placed) (c : Concluded x z) (xk : x.number ≡ v.number) (is : begin.entry ≡ Begin v.number serial) (b : BeganWith conf serial begin) → (episode conf work c xk is b).work ≡ work
  unfolding episode
  episode-work conf work c xk is b = refl

replied : (m : Meaning) (k : ℕ) (at : Address) (q : Request) (o : Option Outcome) (own : List Placed) (e : Episode k own) (s : Sent) (old new : Option Past) → new ≡ option_map (with_connection (after_sending s)) old
    → EndsIn m k at q o e.begin e.work e.finish s → RepliedWith m k at q o own old new
replied m k at q (Some outcome) own e s old new past ends = record {
  reply = record { request = q; again = []; last = own; outcome = outcome; sent = s };
  request = refl;
  ends = refl;
  is = record { agains = tt; episode = e; ends = ends };
  own_is = refl;
  past = past;
}
replied m k at q None own e s old new past ends = absurd ends

-- a request that was begun, acted on, and ended, was served, or is to be decided again
pub served-once : {T : Type 0} (m : Meaning) (at : Address) (q : Request) (conf : Conf) (serial : ℕ) (result : Option How) (v w x z : View T) (begin : Placed) (old new : Option Past)
    → Places v w (begin ∷ []) → begin.entry ≡ Begin v.number serial → BeganWith conf serial begin → Acted m at q conf serial result w x old new → Concluded x z → ServedOnce m at q result v z old new
unfolding episode
served-once m at q conf serial (Some h) v w x z begin old new one is b a c =
    let e = episode serial v w x z begin conf a.work c (a.places.number ∙ one.number) is b in
    let here : EndsIn m w.number at q (outcome_of h) e.begin e.work e.finish a.what = a.is e.begin e.finish b c.stands in
    record {
      own = begin ∷ (a.work ++ c.finish ∷ c.block);
      places = all_placed serial v w x z begin a.work c one a.places;
      served = replied m v.number at q (outcome_of h) _ e a.what old new a.past
          (subst (λ (j : ℕ). EndsIn m j at q (outcome_of h) e.begin e.work e.finish a.what) one.number here);
    }
served-once m at q conf serial None v w x z begin old new one is b a c =
    let e = episode serial v w x z begin conf a.work c (a.places.number ∙ one.number) is b in
    let here : IsAgain m w.number at q e.begin e.work e.finish = a.is.0 e.begin e.finish b c.stands in
    let quiet : new ≡ old =
    a.past ∙ (ap (λ (s : Sent). option_map (with_connection (after_sending s)) old) a.is.1 ∙ sym (nothing-sent old)) in
    record {
      own = begin ∷ (a.work ++ c.finish ∷ c.block);
      places = all_placed serial v w x z begin a.work c one a.places;
      episode = e;
      again = subst (λ (j : ℕ). IsAgain m j at q e.begin e.work e.finish) one.number here;
      past = quiet;
    }

-- a request that lacked the memory for the configuration under which it had begun
pub served-lacking : {T : Type 0} (m : Meaning) (at : Address) (q : Request) (serial : ℕ) (v w z : View T) (found : List Signed) (told : Option Past)
    → Turned v w found (Begin v.number serial ∷ []) → serial ≡ (state_at found).serial → Concluded w z → RequestServed m at q how.NoMemory v z told told
served-lacking m at q serial v w z found told t current c =
    let conf : Conf = conf_of (state_at found) (state_at found).serial in
    served-once m at q conf serial (Some how.NoMemory) v w w z (record { before = found; entry = Begin v.number serial }) told told
    (turned_places v w found (Begin v.number serial ∷ []) t) refl (record { conf_is = refl; serial_is = sym current })
    (acted-quietly m at q conf serial how.NoMemory w told told t.grows.history (quiet-lacking m at q conf serial told)) c

-- ---- once more

joined-both : (xs ys : List (List Placed)) → joined (xs ++ ys) ≡ joined xs ++ joined ys
joined-both [] ys = refl
joined-both (x ∷ xs) ys = ap (λ (z : List Placed). x ++ z) (joined-both xs ys) ∙ sym (append_assoc x (joined xs) (joined ys))

agains-both : (m : Meaning) (k : ℕ) (at : Address) (q : Request) (xs ys : List (List Placed)) → AllAgain m k at q xs → AllAgain m k at q ys → AllAgain m k at q (xs ++ ys)
agains-both m k at q [] ys a b = b
agains-both m k at q (x ∷ xs) ys a b = (a.0, agains-both m k at q xs ys a.1 b)

replied-after : (m : Meaning) (at : Address) (q : Request) (k : ℕ) (again : List (List Placed)) (o : Option Outcome) (own : List Placed) (old new : Option Past) → AllAgain m k at q again → RepliedWith m k at q o own old new → RepliedWith m k at q o (joined again ++ own) old new
replied-after m at q k again (Some outcome) own old new agains r = record {
  reply = record { request = r.reply.request; again = again ++ r.reply.again; last = r.reply.last; outcome = r.reply.outcome; sent = r.reply.sent };
  request = r.request;
  ends = r.ends;
  is = record {
    agains = agains-both m k at r.reply.request again r.reply.again (subst (λ (y : Request). AllAgain m k at y again) (sym r.request) agains) r.is.agains;
    episode = r.is.episode;
    ends = r.is.ends;
  };
  own_is =
      ap (λ (z : List Placed). joined again ++ z) r.own_is
      ∙ (sym (append_assoc (joined again) (joined r.reply.again) r.reply.last) ∙ ap (λ (z : List Placed). z ++ r.reply.last) (sym (joined-both again r.reply.again)));
  past = r.past;
}
replied-after m at q k again None own old new agains r = record {
  again = again ++ r.again;
  agains = agains-both m k at q again r.again agains r.agains;
  own_is = ap (λ (z : List Placed). joined again ++ z) r.own_is ∙ sym (joined-both again r.again);
  past = r.past;
}

module _ {T : Type 0} (m : Meaning) (at : Address) (q : Request) where
  pub repeats-none : (v : View T) (old : Option Past) → Repeats m at q v v old old
  repeats-none v old = record { again = []; agains = tt; number = refl; goes_on = λ x own p. p; past = refl }

  pub repeats-more : (v w x : View T) (old then new : Option Past) → Repeats m at q v w old then → DecidesAgain m at q w x then new → Repeats m at q v x old new
  repeats-more v w x old then new r d =
      let here : (e : Episode v.number d.own) × IsAgain m v.number at q e.begin e.work e.finish = subst (λ (j : ℕ). (e : Episode j d.own) × IsAgain m j at q e.begin e.work e.finish) r.number (d.episode, d.again) in
      let both : joined (r.again ++ d.own ∷ []) ≡ joined r.again ++ d.own = joined-both r.again (d.own ∷ []) ∙ ap (λ (z : List Placed). joined r.again ++ z) (append-nil d.own) in
      record {
        again = r.again ++ d.own ∷ [];
        agains = agains-both m v.number at q r.again (d.own ∷ []) r.agains (here, tt);
        number = d.places.number ∙ r.number;
        goes_on = λ y own p.
            subst (λ (z : List Placed). Places v y z) (sym (append_assoc (joined r.again) d.own own) ∙ ap (λ (z : List Placed). z ++ own) (sym both))
            (r.goes_on y (d.own ++ own) (places_both w x y d.own own d.places p));
        past = d.past ∙ r.past;
      }

  -- the last time
  pub served-after : (h : How) (v w x : View T) (old then new : Option Past) → Repeats m at q v w old then → RequestServed m at q h w x then new → RequestServed m at q h v x old new
  served-after h v w x old then new r s =
      let here : RepliedWith m v.number at q (outcome_of h) s.own old new =
      subst (λ (j : ℕ). RepliedWith m j at q (outcome_of h) s.own old new) r.number (subst (λ (p : Option Past). RepliedWith m w.number at q (outcome_of h) s.own p new) r.past s.served) in
      record {
        own = joined r.again ++ s.own;
        places = r.goes_on x s.own s.places;
        served = replied-after m at q v.number r.again (outcome_of h) s.own old new r.agains here;
      }

  -- a request that was not begun
  pub unbegun : (h : How) (v w : View T) (old : Option Past) → outcome_of h ≡ None → Places v w [] → RequestServed m at q h v w old old
  unbegun h v w old none p = record {
    own = [];
    places = p;
    served = subst (λ (o : Option Outcome). RepliedWith m v.number at q o [] old old) (sym none) (record { again = []; agains = tt; own_is = refl; past = refl });
  }

-- one entry in all is the last
none-after : (xs : List Signed) (y : Signed) (zs : List Signed) (e : Entry) → entries (xs ++ y ∷ zs) ≡ e ∷ [] → zs ≡ []
none-after [] y [] e is = refl
none-after [] y (z ∷ zs) e is = absurd (let h : y.entry ∷ (z.entry ∷ entries zs) ≡ e ∷ [] = is in cc)
none-after (x ∷ []) y zs e is = absurd (let h : x.entry ∷ (y.entry ∷ entries zs) ≡ e ∷ [] = is in cc)
none-after (x ∷ (w ∷ xs)) y zs e is = absurd (let h : x.entry ∷ (w.entry ∷ entries (xs ++ y ∷ zs)) ≡ e ∷ [] = is in cc)

-- ---- what a pass owes when a request begins

module _ {T : Type 0} where
  pub unbegun-owes : (v w : View T) (found : List Signed) → OwesNothing v → Turned v w found [] → w.duties ≡ v.duties → OwesNothing w
  unbegun-owes v w found free t same = (ap (λ (o : Owes). o.ticket) t.grows.owes ∙ free.0, ap (λ (o : Owes). o.draft) t.grows.owes ∙ free.1, same ∙ free.2)

  pub begun-owes : (v w : View T) (found : List Signed) (n : ℕ) → OwesNothing v → Turned v w found (Begin v.number n ∷ []) → w.duties ≡ v.duties → OwesTicket w n
  begun-owes v w found n free t same = (ap (λ (o : Owes). o.ticket) t.grows.owes, ap (λ (o : Owes). o.draft) t.grows.owes ∙ free.1, same ∙ free.2)

  -- it goes on to owe its ticket while nothing is made
  pub fetched-owes : (v w : View T) (found : List Signed) (n : ℕ) → OwesTicket v n → Turned v w found [] → w.duties ≡ v.duties → OwesTicket w n
  fetched-owes v w found n owes t same = (ap (λ (o : Owes). o.ticket) t.grows.owes ∙ owes.0, ap (λ (o : Owes). o.draft) t.grows.owes ∙ owes.1, same ∙ owes.2)

  -- a request that has begun with this ticket runs under it
  pub begun-by : {A B : Type 0} {g : _} (v w : View T) (t : Ticket A B g) (begin : Placed) → HasBegun v w t begin → IsTicketOf w t → IsBegun w t
  begun-by v w t begin h is =
      let k = v.number in
      let number : w.number ≡ k = h.places.number in
      let last : Signed = signed k begin.entry in
      let since : List Signed = h.places.last.0 in
      let whole : begin.before ++ last ∷ since ≡ w.seen = sym (append_assoc begin.before (last ∷ []) since) ∙ h.places.last.1 in
      let late : h.places.seen.0 ≡ h.seen.0 ++ last ∷ since =
      append_cancel_left v.seen h.places.seen.0 (h.seen.0 ++ last ∷ since)
      (h.places.seen.1 ∙ (sym whole ∙ (ap (λ (l : List Signed). l ++ last ∷ since) (sym h.seen.1) ∙ append_assoc v.seen h.seen.0 (last ∷ since)))) in
      let alone : mine k since ≡ [] =
      none-after (mine k h.seen.0) last (mine k since) begin.entry
      (ap entries (sym (mine-append k h.seen.0 (last ∷ since) ∙ ap (λ (b : Bool). mine k h.seen.0 ++ cond b (last ∷ mine k since) (mine k since)) (eq-eqb k k refl)))
      ∙ (ap (λ (l : List Signed). entries (mine k l)) (sym late) ∙ made-since v w (begin ∷ []) h.places)) in
      record {
        history = h.places.history;
        ticket = is;
        begin = begin;
        begins = h.begins ∙ ap (λ (j : ℕ). Begin j t.serial) (sym number);
        with_ticket = h.with_ticket;
        since = since;
        stands = sym whole ∙ ap (λ (j : ℕ). begin.before ++ signed j begin.entry ∷ since) (sym number);
        alone = subst (λ (j : ℕ). mine j since ≡ []) (sym number) alone;
      }

  -- what was begun was not worn
  pub not-worn : (m : Meaning) (at : Address) (q : Request) (conf : Conf) (serial : ℕ) (result : Option How) (w x z : View T) (begin : Placed) (old new : Option Past)
      → BeganWith conf serial begin → Acted m at q conf serial result w x old new → Concluded x z → result ≡ Some how.Worn → ⊥
  not-worn m at q conf serial result w x z begin old new b a c same =
      let worn : Acted m at q conf serial (Some how.Worn) w x old new = subst (λ (r : Option How). Acted m at q conf serial r w x old new) same a in
      worn.is begin c.finish b c.stands
