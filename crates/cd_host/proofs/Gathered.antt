-- From what is known of each lane to what the lanes tell together, and where their entries stand.
use Rattle.std.proofs.Common.{◌≡◌, ◌≤◌, ◌<◌, ◌⊎◌, inl, inr, ℕ, ◌+◌, true, false, List, [], ◌∷◌, ◌++◌, length, Option, Some, None, refl, ap, sym, ◌∙◌, subst, ⊎_elim, arith}
use Rattle.std.proofs.lemmas.Bool.Decides.{eqb_tells}
use Rattle.std.proofs.lemmas.List.{append_assoc, append-nil, append_cancel_left, length-append, map-append}
use mathlib.Core.List.{IsPrefix}
use Rattle.cd_outside.specs.declared.past.Past.{Past}
use Rattle.cd_outside.specs.Telling.{TellsOn}
use Rattle.std.specs.Prelude.{IfSome}
use Rattle.cd_legal.specs.declared.entry.Entry.{Entry}
use Rattle.cd_legal.specs.declared.entry.Signed.{Signed}
use Rattle.cd_legal.specs.Entry.{entries, mine}
use Rattle.cd_legal.specs.Legal.{state_at}
use Rattle.cd_legal.specs.Placed.{Placed, placed, placed_entries}
use Rattle.cd_legal.proofs.Logs.{prefix_trans, mine-append, entries-append}
use Rattle.cd_legal.proofs.Placed.{placed-entries}
use Rattle.cd_session.specs.declared.lane_end.LaneHow.{LaneHow}
use Rattle.cd_session.specs.declared.lane_end.LaneHow.TheVariants as how
use Rattle.cd_serve.specs.Reports.{ServedLane, ServedLanesFrom, lanes_of}
use Rattle.cd_serve.specs.Lanes.{IsLaneEnd, IsServed}
use Rattle.cd_serve.specs.Meanings.{Meaning}
use Rattle.cd_host.specs.ServedLanes.{EndsAccepting, AreAtEnd, IsLane, LanesFrom}
use Rattle.cd_host.specs.Parts.{IsSignedByLanes}
use Rattle.cd_host.proofs.Signing.{none-left, none-right, entries-all, entries-none}
use Rattle.cd_host.proofs.Halts.{halted-stays}

-- two lists that surround one as long as all three together are empty
pub first-empty : {A : Type 0} (xs ys zs : List A) → ys ≡ (xs ++ ys) ++ zs → xs ≡ []
first-empty [] ys zs is = refl
first-empty (x ∷ xs) ys zs is =
    let all = ap length is in
    let one = length-append ((x ∷ xs) ++ ys) zs in
    let two = length-append (x ∷ xs) ys in
    absurd (omega arith)

pub last-empty : {A : Type 0} (xs ys zs : List A) → ys ≡ (xs ++ ys) ++ zs → zs ≡ []
last-empty xs ys [] is = refl
last-empty xs ys (z ∷ zs) is =
    let all = ap length is in
    let one = length-append (xs ++ ys) (z ∷ zs) in
    let two = length-append xs ys in
    absurd (omega arith)

record Alone (start found history : List Signed) (k : ℕ) (s : ServedLane) : Type 0 where
  unused : mine k s.seen_before ≡ []
  all_seen : mine k history ≡ mine k s.seen_now
  start_free : mine k start ≡ []
  all_found : mine k history ≡ mine k found

module _ (m : Meaning) (start found history : List Signed) where
  -- the pass of a lane has made its entries there alone
  alone : (k : ℕ) (s : ServedLane) → IsPrefix found history → IsLane m start found history k s → Alone start found history k s
  alone k s q l =
      let before : List Placed = placed k s.seen_before in
      let own : List Entry = placed_entries l.own in
      let over : IsPrefix s.seen_now history = prefix_trans s.seen_now found history l.over q in
      let more : List Signed = over.0 in
      let now : entries (mine k s.seen_now) ≡ placed_entries before ++ own = sym (placed-entries k s.seen_now) ∙ ap placed_entries l.added ∙ map-append (λ (p : Placed). p.entry) before l.own in
      let parts : mine k history ≡ mine k s.seen_now ++ mine k more = ap (mine k) (sym over.1) ∙ mine-append k s.seen_now more in
      let all : own ≡ (placed_entries before ++ own) ++ entries (mine k more) =
      sym (entries-all k own) ∙ ap entries (sym l.only) ∙ ap entries parts ∙ entries-append (mine k s.seen_now) (mine k more) ∙ ap (λ (es : List Entry). es ++ entries (mine k more)) now in
      let none : mine k s.seen_before ≡ [] = entries-none (mine k s.seen_before) (sym (placed-entries k s.seen_before) ∙ first-empty (placed_entries before) own (entries (mine k more)) all) in
      let no_more : mine k more ≡ [] = entries-none (mine k more) (last-empty (placed_entries before) own (entries (mine k more)) all) in
      let rest : List Signed = l.over.0 in
      let goes_on : s.seen_now ++ (rest ++ q.0) ≡ history = sym (append_assoc s.seen_now rest q.0) ∙ ap (λ (x : List Signed). x ++ q.0) l.over.1 ∙ q.1 in
      record {
        unused = none;
        all_seen = parts ∙ ap (λ (x : List Signed). mine k s.seen_now ++ x) no_more ∙ append-nil (mine k s.seen_now);
        start_free = none-left (mine k start) (mine k l.begun.0) (sym (mine-append k start l.begun.0) ∙ ap (mine k) l.begun.1 ∙ none);
        all_found = ap (mine k) (sym q.1) ∙ mine-append k found q.0 ∙ ap (λ (x : List Signed). mine k found ++ x) (after rest q.0 more goes_on over.1 no_more) ∙ append-nil (mine k found);
      }
    where
      -- what follows what the pass has seen is one and the same
      after : (rest behind more : List Signed) → s.seen_now ++ (rest ++ behind) ≡ history → s.seen_now ++ more ≡ history → mine k more ≡ [] → mine k behind ≡ []
      after rest behind more one two none =
          let same : rest ++ behind ≡ more = append_cancel_left s.seen_now (rest ++ behind) more (one ∙ sym two) in
          none-right (mine k rest) (mine k behind) (sym (mine-append k rest behind) ∙ ap (mine k) same ∙ none)

  pub slots-of : (k : ℕ) (ss : List ServedLane) → IsPrefix found history → LanesFrom m start found history k ss → ServedLanesFrom m history k ss
  slots-of k [] q all = tt
  slots-of k (s ∷ ss) q all =
      let l = all.0 in
      let a : Alone start found history k s = alone k s q l in (
        record {
          later = l.later;
          unused = a.unused;
          seen = prefix_trans s.seen_now found history l.over q;
          all_seen = a.all_seen;
          own = l.own;
          added = l.added;
          served = l.served;
        },
        slots-of (k + 1) ss q all.1,
      )

  -- ---- where their entries stand

  abbrev Apart : ℕ → Type 0
  Apart j = (mine j start ≡ []) × (mine j history ≡ mine j found)

  apart-one : (k : ℕ) (s : ServedLane) → IsPrefix found history → IsLane m start found history k s → Apart k
  apart-one k s q l = let a : Alone start found history k s = alone k s q l in (a.start_free, a.all_found)

  next-one : (k j : ℕ) → k ≤ j → ¬ (j ≡ k) → k + 1 ≤ j
  next-one k j low ne = grind arith

  apart-each : (k : ℕ) (ss : List ServedLane) → IsPrefix found history → LanesFrom m start found history k ss → (j : ℕ) → k ≤ j → j < k + length ss → Apart j
  apart-each k [] q all j low high = absurd (omega arith)
  apart-each k (s ∷ ss) q all j low high = ⊎_elim
      (λ e. subst Apart (sym e.1) (apart-one k s q all.0))
      (λ e. apart-each (k + 1) ss q all.1 j (next-one k j low e.1) (omega arith))
      (eqb_tells j k)

  none-within : (j : ℕ) (front : List Signed) → IsPrefix front history → mine j history ≡ [] → mine j front ≡ []
  none-within j front p none = none-left (mine j front) (mine j p.0) (sym (mine-append j front p.0) ∙ ap (mine j) p.1 ∙ none)

  beyond : (j lanes : ℕ) → (j < lanes + 1) ⊎ (lanes < j)
  beyond j lanes = grind arith

  pub apart-all : (ss : List ServedLane) → IsPrefix start found → IsPrefix found history → LanesFrom m start found history 1 ss → IsSignedByLanes (length ss) history → (j : ℕ) → 1 ≤ j → (mine j start ≡ []) × (mine j history ≡ mine j found)
  apart-all ss p q all signed j low = ⊎_elim
      (λ within. apart-each 1 ss q all j low (omega (arith, within)))
      (λ past. let none = signed j past in (none-within j start (prefix_trans start found history p q) none, none ∙ sym (none-within j found q none)))
      (beyond j (length ss))

  -- ---- how they ended

  over-at : (h : LaneHow) (before now : ℕ) (p past : Past) (seen : List Signed) → (h ≡ how.Halted → (state_at seen).halted ≡ true) → IsPrefix seen found → (state_at found).halted ≡ false
      → IsLaneEnd h before now p past → EndsAccepting before now past
  over-at how.Ended before now p past seen halted within running is = inl is.0
  over-at how.AcceptFault before now p past seen halted within running is = inr (is.0, is.2)
  over-at how.Halted before now p past seen halted within running is = absurd (let e : true ≡ false = sym (halted-stays seen found within (halted refl)) ∙ running in cc)

  at-end-of : (k : ℕ) (s : ServedLane) (old new : Option Past) → IsLane m start found history k s → (own : List Placed) → (state_at found).halted ≡ false
      → TellsOn (IsServed m k s.seen_now own s.lane.failed_before s.lane.failed_now s.end s.lane.since_before s.lane.since_now) old new → IfSome new (EndsAccepting s.lane.failed_before s.lane.failed_now)
  at-end-of k s None None l own running told = tt
  at-end-of k s (Some p) (Some past) l own running told = over-at s.end.how s.lane.failed_before s.lane.failed_now p past s.seen_now l.halted l.over running told.over
  at-end-of k s (Some p) None l own running told = absurd told
  at-end-of k s None (Some past) l own running told = absurd told

  pub all-at-end : (k : ℕ) (ss : List ServedLane) → LanesFrom m start found history k ss → (state_at found).halted ≡ false → AreAtEnd (lanes_of ss)
  all-at-end k [] all running = tt
  all-at-end k (s ∷ ss) all running = (at-end-of k s s.lane.told_before s.lane.told_now all.0 all.0.own running all.0.served, all-at-end (k + 1) ss all.1 running)
