-- From slots that were served to what is known of their lanes.
use Rattle.std.proofs.Common.{◌≡◌, ◌<◌, ℕ, zero, suc, ◌+◌, ◌++◌, min, Bool, false, List, [], ◌∷◌, length, map, get_or, sum_by, Option, refl, ap, sym, ◌∙◌, subst, arith}
use Rattle.std.specs.Prelude.{All}
use Rattle.std.proofs.lemmas.List.{length-map}
use Rattle.std.proofs.lemmas.List.Sums.{sum_by-cons}
use mathlib.Core.List.{IsPrefix}
use Rattle.cd_outside.specs.declared.past.Past.{Past}
use Rattle.cd_outside.specs.Counts.{count_end}
use Rattle.cd_outside.specs.Telling.{TellsOn}
use Rattle.cd_legal.specs.declared.entry.Signed.{Signed}
use Rattle.cd_legal.specs.Entry.{mine}
use Rattle.cd_legal.specs.Placed.{placed, placed_entries}
use Rattle.cd_gate.specs.declared.pass.Pass.{Pass}
use Rattle.cd_gate.specs.Ends.{IsFree}
use Rattle.cd_gate.specs.Growing.{all_signed}
use Rattle.cd_gate.specs.Passes.{view}
use Rattle.cd_life.specs.declared.board.Board.{Board}
use Rattle.cd_hall.specs.declared.hall.Hall.{Hall}
use Rattle.cd_hall.specs.Calls.{IsPassOf}
use Rattle.cd_serve.specs.Meanings.{Meaning}
use Rattle.cd_serve.specs.Lanes.{IsServed}
use Rattle.cd_serve.specs.Reports.{Span, ServedLane as Served, lanes_of}
use Rattle.cd_host.specs.declared.slot.Slot.{Slot}
use Rattle.cd_host.specs.ServedLanes.{IsLane, LanesFrom}
use Rattle.cd_host.specs.Seats.{AllFrom, IsIdleAt, IsReady, IsWithin}
use Rattle.cd_host.specs.Seated.{span_of, spans, IsServedSlot, HaveTheirs, AreServed}

-- what follows for each element from what holds of it at its place
all-of-from : {A : Type 0} (P : ℕ → A → Type 0) (Q : A → Type 0) → ((k : ℕ) (x : A) → P k x → Q x) → (k : ℕ) (xs : List A) → AllFrom P k xs → All Q xs
all-of-from P Q leads k [] all j d lt = absurd (omega (arith, lt))
all-of-from P Q leads k (x ∷ xs) all zero d lt = leads k x all.0
all-of-from P Q leads k (x ∷ xs) all (suc j) d lt = all-of-from P Q leads (k + 1) xs all.1 j d (omega (arith, lt))

-- what holds of what each element has
pub from-map : {A B : Type 0} (f : A → B) (P : B → Type 0) (xs : List A) → All P (map f xs) → All (λ x. P (f x)) xs
from-map f P [] all j d lt = absurd (omega (arith, lt))
from-map f P (x ∷ xs) all zero d lt = all zero (f d) (omega arith)
from-map f P (x ∷ xs) all (suc j) d lt = from-map f P xs (λ k e lower. all (suc k) e (omega (arith, lower))) j d (omega (arith, lt))

pub from-to-map : {A B : Type 0} (f : A → B) (P : ℕ → B → Type 0) (k : ℕ) (xs : List A) → AllFrom (λ j x. P j (f x)) k xs → AllFrom P k (map f xs)
from-to-map f P k [] all = tt
from-to-map f P k (x ∷ xs) all = (all.0, from-to-map f P (k + 1) xs all.1)

-- ---- slots that are ready

module _ {A F B : Type 0} {g : _} (h : Hall A F B g) {L : Type 0} (seen : List Signed) where
  pub ready-are : (ss : List (Slot A F L B g)) → AllFrom (IsReady h {L = L} seen) 1 ss → All (λ slot. IsPassOf h slot.pass) ss
  ready-are ss ready = all-of-from (IsReady h {L = L} seen) (λ slot. IsPassOf h slot.pass) (λ k s r. r.unused.idle.is) 1 ss ready

  pub ready-free : (ss : List (Slot A F L B g)) → AllFrom (IsReady h {L = L} seen) 1 ss → All (λ slot. IsFree slot.pass) ss
  ready-free ss ready = all-of-from (IsReady h {L = L} seen) (λ slot. IsFree slot.pass) (λ k s r. r.unused.idle.free) 1 ss ready

-- ---- slots that were served

module _ {A F B : Type 0} {g : _} (h : Hall A F B g) {L : Type 0} (m : Meaning) (busy : L → Bool) (faults : L → ℕ) (past : L → Option Past) (since : L → Option (List ℕ)) where
  abbrev S : Type 0
  S = Slot A F L B g

  -- a served slot by other names
  pub served-as : (s t u v : S) → s ≡ u → t ≡ v → IsServedSlot h m busy faults past since s t → IsServedSlot h m busy faults past since u v
  served-as s t u v before after served = subst (λ (x : S). IsServedSlot h m busy faults past since x v) before (subst (λ (x : S). IsServedSlot h m busy faults past since s x) after served)

  -- each slot with the one that it has become
  abbrev pub AllServed : List S → List S → Type 0
  AllServed [] [] = Unit {0}
  AllServed (s ∷ ss) (t ∷ ts) = IsServedSlot h m busy faults past since s t × AllServed ss ts
  AllServed [] (t ∷ ts) = ⊥
  AllServed (s ∷ ss) [] = ⊥

  pub all-served : (ss ts : List S) → length ts ≡ length ss → ((i : ℕ) (d : S) → i < length ss → IsServedSlot h m busy faults past since (get_or ss i d) (get_or ts i d)) → AllServed ss ts
  all-served [] [] same each = tt
  all-served (s ∷ ss) (t ∷ ts) same each = (each 0 s (omega arith), all-served ss ts (omega (arith, same)) (λ i d lt. each (suc i) d (omega (arith, lt))))
  all-served [] (t ∷ ts) same each = absurd (omega (arith, same))
  all-served (s ∷ ss) [] same each = absurd (omega (arith, same))

  abbrev served_of : S → S → Served
  served_of s t = record { lane = span_of faults past since s.lane t.lane; seen_before = (view s.pass).seen; seen_now = (view t.pass).seen; end = t.end }

  abbrev pub serveds : List S → List S → List Served
  serveds [] ts = []
  serveds (s ∷ ss) [] = []
  serveds (s ∷ ss) (t ∷ ts) = served_of s t ∷ serveds ss ts

  serveds-lanes : (ss ts : List S) → lanes_of (serveds ss ts) ≡ spans faults past since (map (λ slot. slot.lane) ss) (map (λ slot. slot.lane) ts)
  serveds-lanes [] ts = refl
  serveds-lanes (s ∷ ss) [] = refl
  serveds-lanes (s ∷ ss) (t ∷ ts) = ap (λ (l : List Span). span_of faults past since s.lane t.lane ∷ l) (serveds-lanes ss ts)

  serveds-length : (ss ts : List S) → AllServed ss ts → length (serveds ss ts) ≡ length ts
  serveds-length [] [] all = refl
  serveds-length (s ∷ ss) (t ∷ ts) all = let rest = serveds-length ss ts all.1 in omega (arith, rest)
  serveds-length [] (t ∷ ts) all = absurd all
  serveds-length (s ∷ ss) [] all = absurd all

  serveds-answered : (ss ts : List S) → AllServed ss ts → sum_by (λ s. s.end.answered) (serveds ss ts) ≡ sum_by (λ slot. slot.end.answered) ts
  serveds-answered [] [] all = refl
  serveds-answered (s ∷ ss) (t ∷ ts) all =
      sum_by-cons (λ (x : Served). x.end.answered) (served_of s t) (serveds ss ts) ∙ ap (λ (n : ℕ). t.end.answered + n) (serveds-answered ss ts all.1) ∙ sym (sum_by-cons (λ (slot : S). slot.end.answered) t ts)
  serveds-answered [] (t ∷ ts) all = absurd all
  serveds-answered (s ∷ ss) [] all = absurd all

  serveds-cut : (ss ts : List S) → AllServed ss ts → sum_by (λ s. s.end.cut) (serveds ss ts) ≡ sum_by (λ slot. slot.end.cut) ts
  serveds-cut [] [] all = refl
  serveds-cut (s ∷ ss) (t ∷ ts) all =
      sum_by-cons (λ (x : Served). x.end.cut) (served_of s t) (serveds ss ts) ∙ ap (λ (n : ℕ). t.end.cut + n) (serveds-cut ss ts all.1) ∙ sym (sum_by-cons (λ (slot : S). slot.end.cut) t ts)
  serveds-cut [] (t ∷ ts) all = absurd all
  serveds-cut (s ∷ ss) [] all = absurd all

  -- the pass of a slot
  pub pass-idle : (k : ℕ) (s t : S) (seen : List Signed) → IsReady h seen k s → IsServedSlot h m busy faults past since s t → IsIdleAt h k t.pass
  pass-idle k s t seen ready served = record { is = served.is; number = served.number ∙ ready.unused.idle.number; free = served.free }

  pub passes-idle : (k : ℕ) (ss ts : List S) (seen : List Signed) → AllFrom (IsReady h seen) k ss → AllServed ss ts → AllFrom (λ j slot. IsIdleAt h j slot.pass) k ts
  passes-idle k [] [] seen ready all = tt
  passes-idle k (s ∷ ss) (t ∷ ts) seen ready all = (pass-idle k s t seen ready.0 all.0, passes-idle (k + 1) ss ts seen ready.1 all.1)
  passes-idle k [] (t ∷ ts) seen ready all = absurd all
  passes-idle k (s ∷ ss) [] seen ready all = absurd all

  module _ (start found log : List Signed) where
    lane-is : (k : ℕ) (s t : S) → IsReady h start k s → IsServedSlot h m busy faults past since s t → IsPrefix (view t.pass).seen found → mine k log ≡ (view t.pass).mine → IsLane m start found log k (served_of s t)
    lane-is k s t ready served within theirs =
        let number : (view s.pass).number ≡ k = ready.unused.idle.number in
        record {
          later = served.later;
          begun = ready.told;
          seen = served.seen;
          over = within;
          own = served.own;
          added = subst (λ (n : ℕ). placed n (view t.pass).seen ≡ placed n (view s.pass).seen ++ served.own) number served.added;
          only = theirs ∙ served.adds ∙ ap (λ (l : List Signed). l ++ all_signed (view s.pass).number (placed_entries served.own)) ready.unused.mine ∙ ap (λ (n : ℕ). all_signed n (placed_entries served.own)) number;
          served = subst (λ (n : ℕ). TellsOn (IsServed m n (view t.pass).seen served.own (faults s.lane) (faults t.lane) t.end (since s.lane) (since t.lane)) (past s.lane) (past t.lane)) number served.served;
          halted = served.halted;
        }

    lanes-are : (k : ℕ) (ss ts : List S) → AllFrom (IsReady h start) k ss → AllServed ss ts → AllFrom (IsWithin found) k (map (λ slot. slot.pass) ts)
        → AllFrom (λ j p. mine j log ≡ (view p).mine) k (map (λ slot. slot.pass) ts) → LanesFrom m start found log k (serveds ss ts)
    lanes-are k [] [] ready all within theirs = tt
    lanes-are k (s ∷ ss) (t ∷ ts) ready all within theirs = (lane-is k s t ready.0 all.0 within.0 theirs.0, lanes-are (k + 1) ss ts ready.1 all.1 within.1 theirs.1)
    lanes-are k [] (t ∷ ts) ready all within theirs = absurd all
    lanes-are k (s ∷ ss) [] ready all within theirs = absurd all

  pub are-served : (start found : List Signed) (ss ts : List S) (olds news : List L) (passes : List (Pass (Board A F B g))) (answered cut : ℕ)
      → AllFrom (IsReady h start) 1 ss → AllServed ss ts → map (λ slot. slot.lane) ss ≡ olds → news ≡ map (λ slot. slot.lane) ts → passes ≡ map (λ slot. slot.pass) ts
      → AllFrom (IsWithin found) 1 passes → answered ≡ min (sum_by (λ slot. slot.end.answered) ts) count_end → cut ≡ min (sum_by (λ slot. slot.end.cut) ts) count_end
      → AreServed m start found (spans faults past since olds news) passes answered cut
  are-served start found ss ts olds news passes answered cut ready all before after moved within answers cuts = record {
    slots = serveds ss ts;
    are = serveds-lanes ss ts ∙ ap (λ (l : List L). spans faults past since l (map (λ slot. slot.lane) ts)) before ∙ ap (λ (l : List L). spans faults past since olds l) (sym after);
    count = serveds-length ss ts all ∙ sym (length-map ts (λ slot. slot.pass)) ∙ ap length (sym moved);
    answers = answers ∙ ap (λ (n : ℕ). min n count_end) (sym (serveds-answered ss ts all));
    cuts = cuts ∙ ap (λ (n : ℕ). min n count_end) (sym (serveds-cut ss ts all));
    each = λ log theirs. lanes-are start found log 1 ss ts ready all (subst (λ (l : List (Pass (Board A F B g))). AllFrom (IsWithin found) 1 l) moved within) (subst (λ (l : List (Pass (Board A F B g))). HaveTheirs log l) moved theirs);
  }

  -- no connection of the lanes is open
  pub lanes-idle : (ss ts : List S) → AllServed ss ts → All (λ lane. busy lane ≡ false) (map (λ slot. slot.lane) ts)
  lanes-idle [] [] all = λ k d lt. absurd (omega (arith, lt))
  lanes-idle (s ∷ ss) (t ∷ ts) all = here (lanes-idle ss ts all.1)
    where
      here : All (λ lane. busy lane ≡ false) (map (λ slot. slot.lane) ts) → All (λ lane. busy lane ≡ false) (t.lane ∷ map (λ slot. slot.lane) ts)
      here rest zero d lt = all.0.idle
      here rest (suc k) d lt = rest k d (omega (arith, lt))
  lanes-idle [] (t ∷ ts) all = absurd all
  lanes-idle (s ∷ ss) [] all = absurd all

-- what was taken out of slots is as much as was put in
pub as-many : {A X Y : Type 0} (f : A → X) (h : A → Y) (old new : List A) (xs : List X) (ys : List Y) → xs ≡ map f new → length new ≡ length old → map h old ≡ ys → length xs ≡ length ys
as-many f h old new xs ys is same was = ap length is ∙ (length-map new f ∙ (same ∙ (sym (length-map old h) ∙ ap length was)))
