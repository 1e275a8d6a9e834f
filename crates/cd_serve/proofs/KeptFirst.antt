-- What is acknowledged had been kept first.
use Rattle.std.proofs.Common.{◌≡◌, ◌⊎◌, ◌<◌, ◌∙◌, ◌++◌, ◌+◌, ℕ, zero, suc, Bool, true, false, List, Some, None, [], ◌∷◌, length, inl, inr, refl, ap, sym, subst, arith}
use Rattle.std.specs.Prelude.{if◌then◌else◌, Contains}
use Rattle.std.proofs.lemmas.List.{length-append, length-map, map-append, get_or-map}
use Rattle.std.proofs.lemmas.List.Elements.{Contains-append_left, Contains-append_right, Contains-push}
use Rattle.cd_outside.specs.declared.address.Address.{Address}
use Rattle.cd_outside.specs.declared.past.KeepRecord.{KeepRecord}
use Rattle.cd_outside.specs.declared.past.Logged.{Logged}
use Rattle.cd_tree.specs.declared.tree.Tree.{Tree}
use Rattle.cd_tree.specs.Tree.{text}
use Rattle.cd_wire.specs.declared.answer.Answer.{Answer}
use Rattle.cd_wire.specs.declared.request.Request.{Request}
use Rattle.cd_legal.specs.declared.entry.Entry.{Entry}
use Rattle.cd_legal.specs.declared.entry.Entry.TheVariants.{Abandon}
use Rattle.cd_legal.specs.declared.state.State.{State}
use Rattle.cd_legal.specs.Placed.{Placed, placed_entries, met}
use Rattle.cd_legal.specs.Runs.{opened_until, made_from, started_from, stopped_all, cleaned_all, undone_after, started_in, made_in}
use Rattle.cd_legal.specs.Serials.{publishings}
use Rattle.cd_legal.specs.State.{Conf, draft_of}
use Rattle.cd_admin.specs.Admin.{persists}
use Rattle.cd_admin.specs.Deciding.{replace, decided}
use Rattle.cd_serve.specs.Meanings.{Meaning, Sent, BreaksOff, Decides, kept_after, keeps_of}
use Rattle.cd_serve.specs.Retirements.{Retirement, IsRetirement, due}
use Rattle.cd_serve.specs.Changes.{IsGivenUp, IsHalting}
use Rattle.cd_serve.specs.Episodes.{Episode, Kind, Outcome, Answers, Ends, Replaces}
use Rattle.cd_serve.specs.Replies.{Reply, IsReply, AreReplies, all_sent}
use Rattle.cd_serve.specs.Requests.{keeps_as, text_to_keep}
use Rattle.cd_serve.specs.Keeping.{HasPublished, AreKeptFirst}
use Rattle.cd_serve.proofs.Unpublished.{none-both, made-none, started-none, stopped-none, cleaned-none, until-none, undone-none, for-none}

-- ---- what is kept

keeps-by : (serial : ℕ) (tree : Tree) (b : Bool) → keeps_as serial (if b then Some (text tree) else None) ≡ (if b then record { put = 0; serial = serial; text = text tree } ∷ [] else [])
keeps-by serial tree true = refl
keeps-by serial tree false = refl

-- by the text of a tree is kept what is to be kept of it
pub keeps-same : (serial : ℕ) (tree : Tree) → keeps_as serial (text_to_keep tree) ≡ keeps_of serial tree
keeps-same serial tree = keeps-by serial tree (persists tree)

-- what is to be kept is kept
pub one-kept : (serial : ℕ) (tree : Tree) → persists tree ≡ true → keeps_of serial tree ≡ record { put = 0; serial = serial; text = text tree } ∷ []
one-kept serial tree is = ap (λ (b : Bool). if b then record { put = 0; serial = serial; text = text tree } ∷ [] else []) is

-- ---- what publishes nothing

pub none-parts : (xs : List Placed) (p : Placed) (ys : List Placed) → publishings (placed_entries xs) ≡ 0 → publishings (p.entry ∷ []) ≡ 0 → publishings (placed_entries ys) ≡ 0 → publishings (placed_entries (xs ++ p ∷ ys)) ≡ 0
none-parts xs p ys a b c =
    ap publishings (map-append (λ (x : Placed). x.entry) xs (p ∷ ys))
    ∙ none-both (placed_entries xs) (placed_entries (p ∷ ys)) a (none-both (p.entry ∷ []) (placed_entries ys) b c)

pub block-none : (s : State) (which : Retirement) (block : List Placed) → IsRetirement s which block → publishings (placed_entries block) ≡ 0
block-none s Retirement.none block is = ap (λ (b : List Placed). publishings (placed_entries b)) is
block-none s (Retirement.here n) block is = ap publishings is ∙ for-none (λ d. cleaned_all d (made_in s d)) (λ d. cleaned-none d (made_in s d)) (draft_of n s.published)
block-none s (Retirement.here_or_elsewhere n) block (inl is) = ap (λ (b : List Placed). publishings (placed_entries b)) is
block-none s (Retirement.here_or_elsewhere n) block (inr is) = ap publishings is ∙ for-none (λ d. cleaned_all d (made_in s d)) (λ d. cleaned-none d (made_in s d)) (draft_of n s.published)

pub given_up-none : (m : Meaning) (tree : Tree) (work : List Placed) → IsGivenUp m tree work → publishings (placed_entries work) ≡ 0
given_up-none m tree work g =
    ap (λ (w : List Placed). publishings (placed_entries w)) g.whole
    ∙ none-parts g.opening g.abandon g.ending
    (ap publishings g.opens ∙ none-both (made_from g.draft 0 g.plan.modules) (started_from g.draft 0 g.plan.apps) (made-none g.draft 0 g.plan.modules) (started-none g.draft 0 g.plan.apps))
    (ap (λ (e : Entry). publishings (e ∷ [])) g.abandons)
    (ap publishings g.ends ∙ none-both (stopped_all g.draft (length g.plan.apps)) (cleaned_all g.draft (length g.plan.modules)) (stopped-none g.draft (length g.plan.apps)) (cleaned-none g.draft (length g.plan.modules)))

halting-none : (work : List Placed) → IsHalting work → publishings (placed_entries work) ≡ 0
halting-none work h =
    let s = met h.halt in
    let stopped = ap publishings h.stops ∙ for-none (λ d. stopped_all d (started_in s d)) (λ d. stopped-none d (started_in s d)) (draft_of s.serial s.published) in
    let rest : publishings (placed_entries (h.stopping ++ h.block)) ≡ 0 =
    ap publishings (map-append (λ (x : Placed). x.entry) h.stopping h.block)
    ∙ none-both (placed_entries h.stopping) (placed_entries h.block) stopped (block-none s (Retirement.here_or_elsewhere s.serial) h.block h.retires) in
    ap (λ (w : List Placed). publishings (placed_entries w)) h.whole ∙ none-parts [] h.halt (h.stopping ++ h.block) refl (ap (λ (e : Entry). publishings (e ∷ [])) h.halts) rest

-- ---- one reply

no-some : (n : ℕ) → 0 < n → n ≡ 0 → ⊥
no-some n some none = omega (arith, some, none)

same_tree : (t u : Tree) → Conf.Of t ≡ Conf.Of u → t ≡ u
same_tree t u is = cc

same_replacement : (t u : Tree) → replace t ≡ replace u → t ≡ u
same_replacement t u is = cc

-- a request asks for one tree alone
pub one-tree : (m : Meaning) (conf : Conf) (at : Address) (q : Request) (t u : Tree) → Decides m conf at q (replace t) → Decides m conf at q (replace u) → t ≡ u
one-tree m conf at q t u one two =
    same_replacement t u (sym one.comes_to ∙ (ap (λ (c : Tree). decided m.plan c q) (same_tree one.tree two.tree (sym one.runs ∙ two.runs)) ∙ two.comes_to))

module _ (m : Meaning) (k : ℕ) (at : Address) where
  -- only an answer to a change that was made publishes, and keeps what is to be kept
  keeps-are : (q : Request) (tree : Tree) (kind : Kind) (begin : Placed) (work : List Placed) (finish : Placed) (r : Answer) (lines : List Logged) (keeps : List KeepRecord) → Answers m k at q kind begin work finish r lines keeps → Replaces m k at q begin tree
      → 0 < publishings (placed_entries work) → keeps ≡ keeps_of ((met begin).serial + 1) tree
  keeps-are q tree Kind.served begin work finish r lines keeps a asks some = absurd (no-some _ some (ap (λ (w : List Placed). publishings (placed_entries w)) a.1))
  keeps-are q tree Kind.changed begin work finish r lines keeps a asks some = a.0.3 ∙ ap (keeps_of ((met begin).serial + 1)) (one-tree m _ at q a.0.0 tree a.0.1 asks)
  keeps-are q tree Kind.unopened begin work finish r lines keeps a asks some =
      let u = a.0.3 in
      absurd (no-some _ some (ap publishings u.whole ∙ none-both (opened_until u.draft u.plan u.failure a.0.1) (Abandon u.draft ∷ undone_after u.draft u.plan u.failure) (until-none u.draft u.plan u.failure a.0.1) (undone-none u.draft u.plan u.failure)))
  keeps-are q tree Kind.kept begin work finish r lines keeps a asks some = absurd (no-some _ some (given_up-none m a.0.0 work a.0.3.given_up))
  keeps-are q tree Kind.halting begin work finish r lines keeps a asks some = absurd (no-some _ some (halting-none work a.1))
  keeps-are q tree Kind.spent begin work finish r lines keeps a asks some = absurd (no-some _ some (ap (λ (w : List Placed). publishings (placed_entries w)) a.1))

  broken-off : (q : Request) (r : Answer) (keeps : List KeepRecord) (s : Sent) → BreaksOff q r keeps s → ¬ (s.put ≡ []) → s.keeps ≡ keeps
  broken-off q r keeps s (inl b) put = absurd (put (ap (λ (z : Sent). z.put) b.2))
  broken-off q r keeps s (inr b) put = ap (λ (z : Sent). z.keeps) b.2

  kept-in : (q : Request) (tree : Tree) (o : Outcome) (begin : Placed) (work : List Placed) (finish : Placed) (s : Sent) → Ends m k at q o begin work finish s → Replaces m k at q begin tree → 0 < publishings (placed_entries work) → ¬ (s.put ≡ [])
      → s.keeps ≡ keeps_of ((met begin).serial + 1) tree
  kept-in q tree (Outcome.answered close) begin work finish s e asks some put = ap (λ (z : Sent). z.keeps) e.5 ∙ keeps-are q tree e.0 begin work finish e.1 e.2 e.3 e.4 asks some
  kept-in q tree Outcome.unlogged begin work finish s e asks some put = ap (λ (z : Sent). z.keeps) e.7 ∙ keeps-are q tree e.0 begin work finish e.1 e.2 e.4 e.5 asks some
  kept-in q tree Outcome.broken begin work finish s (inl e) asks some put = broken-off q e.1 e.3 s e.5 put ∙ keeps-are q tree e.0 begin work finish e.1 e.2 e.3 e.4 asks some
  kept-in q tree Outcome.broken begin work finish s (inr e) asks some put = absurd (put (ap (λ (z : Sent). z.put) e.1))
  kept-in q tree Outcome.lacking begin work finish s e asks some put = absurd (put (ap (λ (z : Sent). z.put) e.1))
  kept-in q tree Outcome.dropped begin work finish s e asks some put = absurd (put (ap (λ (z : Sent). z.put) e.3))
  kept-in q tree Outcome.halted begin work finish s e asks some put = absurd (put (ap (λ (z : Sent). z.put) e.3))

  none-or-some : (n : ℕ) → (n ≡ 0) ⊎ (0 < n)
  none-or-some zero = inl refl
  none-or-some (suc n) = inr (omega arith)

  -- an episode publishes between its Begin and its Finish alone
  some-work : (own : List Placed) (e : Episode k own) → 0 < publishings (placed_entries own) → (publishings (placed_entries e.work) ≡ 0) ⊎ (0 < publishings (placed_entries e.work)) → 0 < publishings (placed_entries e.work)
  some-work own e some (inr is) = is
  some-work own e some (inl none) =
      let rest = none-parts e.work e.finish e.block none (ap (λ (x : Entry). publishings (x ∷ [])) e.finishes) (block-none (met e.finish) (due (met e.finish) k) e.block e.retires) in
      absurd (no-some _ some (ap (λ (w : List Placed). publishings (placed_entries w)) e.whole ∙ none-parts [] e.begin (e.work ++ e.finish ∷ e.block) refl (ap (λ (x : Entry). publishings (x ∷ [])) e.begins) rest))

  same_first : (p q : Placed) (ps qs : List Placed) → p ∷ ps ≡ q ∷ qs → p ≡ q
  same_first p q ps qs is = cc

  reply-kept : (r : Reply) (serial : ℕ) (tree : Tree) → IsReply m k at r → HasPublished m k at r serial tree → persists tree ≡ true → ¬ (r.sent.put ≡ []) → Contains r.sent.keeps (record { put = 0; serial = serial; text = text tree })
  reply-kept r serial tree i p is put =
      let e = i.episode in
      let first : p.begin ≡ e.begin = same_first p.begin e.begin p.rest (e.work ++ e.finish ∷ e.block) (sym p.last ∙ e.whole) in
      let some = some-work r.last e p.publishes (none-or-some (publishings (placed_entries e.work))) in
      let number : (met e.begin).serial + 1 ≡ serial = sym (p.next ∙ ap (λ (b : Placed). (met b).serial + 1) first) in
      let keeps : r.sent.keeps ≡ record { put = 0; serial = serial; text = text tree } ∷ [] =
      kept-in r.request tree r.outcome e.begin e.work e.finish r.sent i.ends (subst (λ (b : Placed). Replaces m k at r.request b tree) first p.asks) some put
      ∙ (ap (λ (n : ℕ). keeps_of n tree) number ∙ one-kept serial tree is) in
      subst (λ (ks : List KeepRecord). Contains ks (record { put = 0; serial = serial; text = text tree })) (sym keeps) (Contains-push [] (record { put = 0; serial = serial; text = text tree }))

  -- ---- all replies

  reply-at : (before later : List Reply) (r : Reply) → AreReplies m k at (before ++ r ∷ later) → IsReply m k at r
  reply-at [] later r each = each.0
  reply-at (x ∷ xs) later r each = reply-at xs later r each.1

  after-more : (n p serial : ℕ) (bytes : List ℕ) (ks : List KeepRecord) → Contains ks (record { put = p; serial = serial; text = bytes }) → Contains (kept_after n ks) (record { put = n + p; serial = serial; text = bytes })
  after-more n p serial bytes ks c =
      let f = λ (keep : KeepRecord). record keep { put = n + keep.put } in
      let one : KeepRecord = record { put = p; serial = serial; text = bytes } in
      (c.0, omega (arith, c.1, length-map ks f), get_or-map f ks c.0 one (f one) c.1 ∙ ap f c.2)

  kept-among : (before later : List Reply) (r : Reply) (serial : ℕ) (bytes : List ℕ) → Contains r.sent.keeps (record { put = 0; serial = serial; text = bytes })
      → Contains (all_sent (before ++ r ∷ later)).keeps (record { put = length (all_sent before).put; serial = serial; text = bytes })
  kept-among [] later r serial bytes c = Contains-append_left r.sent.keeps (kept_after (length r.sent.put) (all_sent later).keeps) (record { put = 0; serial = serial; text = bytes }) c
  kept-among (x ∷ xs) later r serial bytes c =
      let n = length x.sent.put in
      let rest = after-more n (length (all_sent xs).put) serial bytes (all_sent (xs ++ r ∷ later)).keeps (kept-among xs later r serial bytes c) in
      let all = Contains-append_right x.sent.keeps (kept_after n (all_sent (xs ++ r ∷ later)).keeps) (record { put = n + length (all_sent xs).put; serial = serial; text = bytes }) rest in
      subst (λ (p : ℕ). Contains (all_sent (x ∷ xs ++ r ∷ later)).keeps (record { put = p; serial = serial; text = bytes })) (sym (length-append x.sent.put (all_sent xs).put)) all

  pub kept-first : (replies : List Reply) (keeps : List KeepRecord) → AreReplies m k at replies → keeps ≡ (all_sent replies).keeps → AreKeptFirst m k at keeps replies
  kept-first replies keeps each is before later r serial tree are p persist put =
      subst (λ (ks : List KeepRecord). Contains ks (record { put = length (all_sent before).put; serial = serial; text = text tree })) (sym (is ∙ ap (λ (rs : List Reply). (all_sent rs).keeps) are))
      (kept-among before later r serial (text tree) (reply-kept r serial tree (reply-at before later r (subst (λ (rs : List Reply). AreReplies m k at rs) are each)) p persist put))
