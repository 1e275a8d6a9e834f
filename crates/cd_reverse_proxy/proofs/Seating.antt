-- From slots that were served to what is known of their lanes and peers.
use Rattle.std.proofs.Common.{◌≡◌, ◌<◌, ℕ, zero, suc, ◌+◌, min, Bool, false, List, [], ◌∷◌, length, map, get_or, sum_by, Option, refl, ap, sym, ◌∙◌, subst, arith}
use Rattle.std.specs.Prelude.{All}
use Rattle.std.proofs.lemmas.List.Sums.{sum_by-cons}
use Rattle.cd_outside.specs.declared.address.Address.{Address}
use Rattle.cd_outside.specs.declared.past.Past.{Past}
use Rattle.cd_outside.specs.Counts.{count_end}
use Rattle.cd_session.specs.declared.lane_end.LaneEnd.{LaneEnd}
use Rattle.cd_peers.specs.declared.dialled.Dialled.{Dialled}
use Rattle.cd_reverse_proxy.specs.declared.slot.Slot.{Slot}
use Rattle.cd_reverse_proxy.specs.Slots.{IsRelayedSlot}
use Rattle.cd_reverse_proxy.specs.Workers.{AreRelayed, RelayedEach, Worker, workers}

module _ {L P : Type 0} (upstreams : List Address) (connected : L → Bool) (faults : L → ℕ) (past : L → Option Past)
    (dialled : P → Bool) (failed : P → ℕ) (told : P → Option (List Dialled)) where
  abbrev S : Type 0
  S = Slot L P

  abbrev Relayed : S → S → Type 0
  Relayed = IsRelayedSlot upstreams connected faults past dialled failed told

  -- a relayed slot by other names
  pub relayed-as : (s t u v : S) → s ≡ u → t ≡ v → Relayed s t → Relayed u v
  relayed-as s t u v before after r = subst (λ (x : S). Relayed x v) before (subst (λ (x : S). Relayed s x) after r)

  -- each slot with the one that it has become
  abbrev pub AllRelayed : List S → List S → Type 0
  AllRelayed [] [] = Unit {0}
  AllRelayed (s ∷ ss) (t ∷ ts) = Relayed s t × AllRelayed ss ts
  AllRelayed [] (t ∷ ts) = ⊥
  AllRelayed (s ∷ ss) [] = ⊥

  pub all-relayed : (ss ts : List S) → length ts ≡ length ss → ((i : ℕ) (d : S) → i < length ss → Relayed (get_or ss i d) (get_or ts i d)) → AllRelayed ss ts
  all-relayed [] [] same each = tt
  all-relayed (s ∷ ss) (t ∷ ts) same each = (each 0 s (omega arith), all-relayed ss ts (omega (arith, same)) (λ i d lt. each (suc i) d (omega (arith, lt))))
  all-relayed [] (t ∷ ts) same each = absurd (omega (arith, same))
  all-relayed (s ∷ ss) [] same each = absurd (omega (arith, same))

  abbrev ends : List S → List LaneEnd
  ends ts = map (λ slot. slot.end) ts

  abbrev of_slots : List S → List S → List Worker
  of_slots ss ts = workers past faults told failed (map (λ slot. slot.lane) ss) (map (λ slot. slot.lane) ts) (map (λ slot. slot.peers) ss) (map (λ slot. slot.peers) ts)

  each-relayed : (ss ts : List S) → AllRelayed ss ts → RelayedEach upstreams (of_slots ss ts) (ends ts)
  each-relayed [] [] all = tt
  each-relayed (s ∷ ss) (t ∷ ts) all = (all.0.worker, each-relayed ss ts all.1)
  each-relayed [] (t ∷ ts) all = absurd all
  each-relayed (s ∷ ss) [] all = absurd all

  sum-of : (f : LaneEnd → ℕ) (ts : List S) → sum_by (λ slot. f slot.end) ts ≡ sum_by f (ends ts)
  sum-of f [] = refl
  sum-of f (t ∷ ts) = sum_by-cons (λ (slot : S). f slot.end) t ts ∙ ap (λ (n : ℕ). f t.end + n) (sum-of f ts) ∙ sym (sum_by-cons f t.end (ends ts))

  pub are-relayed : (ss ts : List S) (lanes lanes_now : List L) (peers peers_now : List P) (answered cut : ℕ) → AllRelayed ss ts
      → map (λ slot. slot.lane) ss ≡ lanes → lanes_now ≡ map (λ slot. slot.lane) ts → map (λ slot. slot.peers) ss ≡ peers → peers_now ≡ map (λ slot. slot.peers) ts
      → answered ≡ min (sum_by (λ slot. slot.end.answered) ts) count_end → cut ≡ min (sum_by (λ slot. slot.end.cut) ts) count_end
      → AreRelayed upstreams (workers past faults told failed lanes lanes_now peers peers_now) answered cut
  are-relayed ss ts lanes lanes_now peers peers_now answered cut all one two three four answers cuts = record {
    ends = ends ts;
    each = rw (sym one, two, sym three, four) (each-relayed ss ts all);
    answers = answers ∙ ap (λ (n : ℕ). min n count_end) (sum-of (λ e. e.answered) ts);
    cuts = cuts ∙ ap (λ (n : ℕ). min n count_end) (sum-of (λ e. e.cut) ts);
  }

  -- none of the lanes has a connection
  pub lanes-idle : (ss ts : List S) → AllRelayed ss ts → All (λ lane. connected lane ≡ false) (map (λ slot. slot.lane) ts)
  lanes-idle [] [] all = λ k d lt. absurd (omega (arith, lt))
  lanes-idle (s ∷ ss) (t ∷ ts) all = here (lanes-idle ss ts all.1)
    where
      here : All (λ lane. connected lane ≡ false) (map (λ slot. slot.lane) ts) → All (λ lane. connected lane ≡ false) (t.lane ∷ map (λ slot. slot.lane) ts)
      here rest zero d lt = all.0.lane
      here rest (suc k) d lt = rest k d (omega (arith, lt))
  lanes-idle [] (t ∷ ts) all = absurd all
  lanes-idle (s ∷ ss) [] all = absurd all

  -- and none of the peers an exchange
  pub peers-idle : (ss ts : List S) → AllRelayed ss ts → All (λ of_lane. dialled of_lane ≡ false) (map (λ slot. slot.peers) ts)
  peers-idle [] [] all = λ k d lt. absurd (omega (arith, lt))
  peers-idle (s ∷ ss) (t ∷ ts) all = here (peers-idle ss ts all.1)
    where
      here : All (λ of_lane. dialled of_lane ≡ false) (map (λ slot. slot.peers) ts) → All (λ of_lane. dialled of_lane ≡ false) (t.peers ∷ map (λ slot. slot.peers) ts)
      here rest zero d lt = all.0.peers
      here rest (suc k) d lt = rest k d (omega (arith, lt))
  peers-idle [] (t ∷ ts) all = absurd all
  peers-idle (s ∷ ss) [] all = absurd all
