-- The program's halt is the end of the history.
use Rattle.std.proofs.Common.{◌≡◌, ◌≤◌, ◌<◌, ℕ, suc, ◌+◌, ◌==◌, Bool, true, false, cond, List, [], ◌∷◌, ◌++◌, refl, ap, sym, ◌∙◌, subst, ⊎_elim, arith}
use Rattle.std.proofs.lemmas.List.{append-nil, append_assoc, append_cancel_left, map-append}
use mathlib.Core.List.{IsPrefix}
use Rattle.cd_legal.specs.declared.entry.Entry.{Entry}
use Rattle.cd_legal.specs.declared.entry.Entry.TheVariants.{Made, Started, Stopped, Cleaned, Halt}
use Rattle.cd_legal.specs.declared.entry.Signed.{Signed}
use Rattle.cd_legal.specs.declared.state.State.{State}
use Rattle.cd_legal.specs.Entry.{entries, mine}
use Rattle.cd_legal.specs.Legal.{allowed, after, legal_from, state_from, state_at, IsLegal}
use Rattle.cd_legal.specs.Placed.{Placed, placed_from, placed, placed_entries}
use Rattle.cd_legal.specs.Runs.{stopped_all, started_in, stopped_of, block_of}
use Rattle.cd_legal.specs.State.{opening_state, has_number, draft_of}
use Rattle.cd_legal.specs.Whole.{all_retired}
use Rattle.cd_legal.proofs.Facts.{can}
use Rattle.cd_legal.proofs.Histories.{first as one-holds}
use Rattle.cd_legal.proofs.Logs.{mine-append, state-append, legal-back, legal-front}
use Rattle.cd_legal.proofs.Placed.{placed-append}
use Rattle.cd_legal.proofs.Serials.{retired-below}
use Rattle.cd_gate.specs.declared.view.View.{View}
use Rattle.cd_gate.specs.Growing.{all_signed, Places}
use Rattle.cd_serve.specs.Changes.{IsHalting}
use Rattle.cd_serve.proofs.Longer.{none-after}
use Rattle.cd_host.specs.Program.{halt_entries}
use Rattle.cd_host.proofs.PartEntries.{is_part, Parts, stopped-parts}
use Rattle.cd_host.proofs.Beginning.{for-parts}
use Rattle.cd_host.proofs.Signing.{own-alone, front-own, entries-all}

-- the first of the entries that a pass has signed after a history
record First (k : ℕ) (before more : List Signed) (p : Placed) : Type 0 where
  front : List Signed
  back : List Signed
  whole : more ≡ front ++ back
  there : p.before ≡ before ++ front
  none : mine k front ≡ []

first-placed : (k : ℕ) (before more : List Signed) (p : Placed) (rest : List Placed) → placed_from k before more ≡ p ∷ rest → First k before more p
first-placed k before [] p rest is = absurd (let e : [] ≡ p ∷ rest = is in cc)
first-placed k before (x ∷ xs) p rest is = here (x.by == k) (first-placed k (before ++ x ∷ []) xs p rest) refl is
  where
    here : (b : Bool) → (placed_from k (before ++ x ∷ []) xs ≡ p ∷ rest → First k (before ++ x ∷ []) xs p) → (x.by == k) ≡ b → cond b (record { before = before; entry = x.entry } ∷ placed_from k (before ++ x ∷ []) xs) (placed_from k (before ++ x ∷ []) xs) ≡ p ∷ rest → First k before (x ∷ xs) p
    here true later own is =
        let same : record { before = before; entry = x.entry } ≡ p = cc in
        record { front = []; back = x ∷ xs; whole = refl; there = sym (ap (λ (q : Placed). q.before) same) ∙ sym (append-nil before); none = refl }
    here false later own is =
        let f : First k (before ++ x ∷ []) xs p = later is in
        record {
          front = x ∷ f.front;
          back = f.back;
          whole = ap (λ (l : List Signed). x ∷ l) f.whole;
          there = f.there ∙ append_assoc before (x ∷ []) f.front;
          none = ap (λ (b : Bool). cond b (x ∷ mine k f.front) (mine k f.front)) own ∙ f.none;
        }

-- what is stopped leaves the serial, and what is retired
part-leaves : (s : State) (e : Entry) → is_part e ≡ true → ((after s e).serial ≡ s.serial) × ((after s e).retired ≡ s.retired)
part-leaves s (Made d i taken failed) is = (refl, refl)
part-leaves s (Started d a taken failed) is = (refl, refl)
part-leaves s (Stopped d a) is = (refl, refl)
part-leaves s (Cleaned d i) is = (refl, refl)
part-leaves s e is = absurd (let f : false ≡ true = is in cc)

parts-leave : (s : State) (es : List Entry) → Parts es → ((state_from s es).serial ≡ s.serial) × ((state_from s es).retired ≡ s.retired)
parts-leave s [] all = (refl, refl)
parts-leave s (e ∷ es) all =
    let one = part-leaves s e all.0 in
    let more = parts-leave (after s e) es all.1 in (more.0 ∙ one.0, more.1 ∙ one.1)

-- where each serial below the current one is retired, a halt is not the last that was done
unretired : (s : State) (es : List Entry) → Parts es → (has_number s.serial s.retired ≡ true → s.serial < s.serial) → all_retired (state_from s (Halt (s.serial + 1) ∷ es)).serial (state_from s (Halt (s.serial + 1) ∷ es)).retired ≡ true → ⊥
unretired s es all below is =
    let leave = parts-leave (after s (Halt (s.serial + 1))) es all in
    let retired : all_retired (s.serial + 1) s.retired ≡ true = ap (λ (n : ℕ). all_retired n s.retired) (sym leave.0) ∙ ap (all_retired (state_from s (Halt (s.serial + 1) ∷ es)).serial) (sym leave.1) ∙ is in
    let here : has_number s.serial s.retired ≡ true = one-holds (has_number s.serial s.retired) (all_retired s.serial s.retired) (ap (λ (n : ℕ). all_retired n s.retired) (next s.serial) ∙ retired) in
    let low = below here in absurd (omega arith)
  where
    next : (n : ℕ) → suc n ≡ n + 1
    next n = omega arith

module _ {T : Type 0} (v w : View T) (work : List Placed) (log : List Signed) where
  -- what a halt of the program is known by once all passes have come together
  pub record Known : Type 0 where
    pub number : v.number ≡ 0
    pub places : Places v w work
    pub halted : IsHalting work
    pub legal : IsLegal log
    pub within : IsPrefix w.seen log
    pub own : mine 0 log ≡ mine 0 v.seen ++ all_signed 0 (placed_entries work)
    pub others : (k : ℕ) → 1 ≤ k → mine k log ≡ mine k v.seen
    pub retired : all_retired (state_at log).serial (state_at log).retired ≡ true

  module _ (h : Known) where
    abbrev rest : List Signed
    rest = h.places.seen.0 ++ h.within.0

    goes-on : v.seen ++ rest ≡ log
    goes-on = sym (append_assoc v.seen h.places.seen.0 h.within.0) ∙ ap (λ (l : List Signed). l ++ h.within.0) h.places.seen.1 ∙ h.within.1

    rest-alone : mine 0 rest ≡ rest
    rest-alone = own-alone rest (λ k pos. none-after k v.seen rest (ap (mine k) goes-on ∙ h.others k pos))

    rest-is : rest ≡ all_signed 0 (placed_entries work)
    rest-is = sym rest-alone ∙ append_cancel_left (mine 0 v.seen) (mine 0 rest) (all_signed 0 (placed_entries work)) (sym (mine-append 0 v.seen rest) ∙ ap (mine 0) goes-on ∙ h.own)

    abbrev halt : Placed
    halt = h.halted.halt

    placed-rest : placed_from 0 v.seen h.places.seen.0 ≡ work
    placed-rest =
        let is : placed 0 w.seen ≡ placed 0 v.seen ++ work = subst (λ (n : ℕ). placed n w.seen ≡ placed n v.seen ++ work) h.number h.places.placed_is in
        append_cancel_left (placed 0 v.seen) (placed_from 0 v.seen h.places.seen.0) work (sym (placed-append 0 v.seen h.places.seen.0) ∙ ap (placed 0) h.places.seen.1 ∙ is)

    -- it found what the program had seen
    found : halt.before ≡ v.seen
    found =
        let f : First 0 v.seen h.places.seen.0 halt = first-placed 0 v.seen h.places.seen.0 halt (h.halted.stopping ++ h.halted.block) (placed-rest ∙ h.halted.whole) in
        let whole : f.front ++ (f.back ++ h.within.0) ≡ rest = sym (append_assoc f.front f.back h.within.0) ∙ ap (λ (l : List Signed). l ++ h.within.0) (sym f.whole) in
        let alone : mine 0 (f.front ++ (f.back ++ h.within.0)) ≡ f.front ++ (f.back ++ h.within.0) = ap (mine 0) whole ∙ rest-alone ∙ sym whole in
        let none : f.front ≡ [] = sym (front-own f.front (f.back ++ h.within.0) alone) ∙ f.none in
        f.there ∙ ap (λ (l : List Signed). v.seen ++ l) none ∙ append-nil v.seen

    abbrev s : State
    s = state_at v.seen

    abbrev stops : List Entry
    stops = stopped_of s s.serial

    -- its entries, with those of the block
    work-is : placed_entries work ≡ Halt (s.serial + 1) ∷ (stops ++ placed_entries h.halted.block)
    work-is =
        ap placed_entries h.halted.whole
        ∙ ap (λ (e : Entry). e ∷ placed_entries (h.halted.stopping ++ h.halted.block)) (h.halted.halts ∙ ap (λ (l : List Signed). Halt ((state_at l).serial + 1)) found)
        ∙ ap (λ (es : List Entry). Halt (s.serial + 1) ∷ es)
        (map-append (λ (p : Placed). p.entry) h.halted.stopping h.halted.block ∙ ap (λ (es : List Entry). es ++ placed_entries h.halted.block) (h.halted.stops ∙ ap (λ (l : List Signed). stopped_of (state_at l) (state_at l).serial) found))

    running : s.halted ≡ false
    running =
        let back : legal_from s (entries rest) ≡ true = legal-back v.seen rest (ap (λ (l : List Signed). legal_from opening_state (entries l)) goes-on ∙ h.legal) in
        let may : legal_from s (Halt (s.serial + 1) ∷ (stops ++ placed_entries h.halted.block)) ≡ true = ap (legal_from s) (sym work-is ∙ sym (entries-all 0 (placed_entries work)) ∙ ap entries (sym rest-is)) ∙ back in
        (can s (Halt (s.serial + 1)) (one-holds (allowed s (Halt (s.serial + 1))) _ may)).running

    stops-parts : Parts stops
    stops-parts = for-parts (λ d. stopped_all d (started_in s d)) (λ d. stopped-parts d (started_in s d)) (draft_of s.serial s.published)

    state-is : state_at log ≡ state_from s (placed_entries work)
    state-is = ap state_at (sym goes-on) ∙ state-append v.seen rest ∙ ap (state_from s) (ap entries rest-is ∙ entries-all 0 (placed_entries work))

    -- the block is not missing
    with-block : placed_entries work ≡ halt_entries s
    with-block = ⊎_elim
        (λ none. absurd (unretired s stops stops-parts (retired-below (entries v.seen) s.serial (legal-front v.seen log (rest, goes-on) h.legal))
        (ap (λ (es : List Entry). all_retired (state_from s es).serial (state_from s es).retired) (sym (work-is ∙ ap (λ (l : List Placed). Halt (s.serial + 1) ∷ (stops ++ placed_entries l)) none ∙ ap (λ (es : List Entry). Halt (s.serial + 1) ∷ es) (append-nil stops)))
        ∙ ap (λ (t : State). all_retired t.serial t.retired) (sym state-is) ∙ h.retired)))
        (λ block. work-is ∙ ap (λ (es : List Entry). Halt (s.serial + 1) ∷ (stops ++ es)) (block ∙ ap (λ (l : List Signed). block_of (state_at l) (state_at l).serial) found))
        h.halted.retires

    pub ended : (s.halted ≡ false) × (mine 0 log ≡ mine 0 v.seen ++ all_signed 0 (halt_entries s))
    ended = (running, h.own ∙ ap (λ (es : List Entry). mine 0 v.seen ++ all_signed 0 es) with-block)

pub program-halts : {T : Type 0} (v w : View T) (work : List Placed) (log : List Signed) → v.number ≡ 0 → Places v w work → IsHalting work → IsLegal log → IsPrefix w.seen log → mine 0 log ≡ mine 0 v.seen ++ all_signed 0 (placed_entries work)
    → ((k : ℕ) → 1 ≤ k → mine k log ≡ mine k v.seen) → all_retired (state_at log).serial (state_at log).retired ≡ true
    → ((state_at v.seen).halted ≡ false) × (mine 0 log ≡ mine 0 v.seen ++ all_signed 0 (halt_entries (state_at v.seen)))
program-halts v w work log number places halted legal within own others retired =
    ended v w work log record { number = number; places = places; halted = halted; legal = legal; within = within; own = own; others = others; retired = retired }
