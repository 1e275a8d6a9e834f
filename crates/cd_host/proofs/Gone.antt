-- What became of the lanes, from what is known of their passes.
use Rattle.std.proofs.Common.{◌≡◌, ◌≤◌, ℕ, ◌+◌, Bool, true, false, List, [], ◌∷◌, length, Option, refl, ap, sym, ◌∙◌, subst, ⊎_elim, arith}
use Rattle.std.proofs.lemmas.Bool.Decides.{eqb_tells}
use Rattle.std.proofs.lemmas.List.{length-map}
use mathlib.Core.List.{IsPrefix}
use Rattle.cd_outside.specs.declared.past.Past.{Past}
use Rattle.cd_legal.specs.declared.entry.Signed.{Signed}
use Rattle.cd_legal.specs.Entry.{mine}
use Rattle.cd_gate.specs.declared.pass.Pass.{Pass}
use Rattle.cd_gate.specs.Passes.{view}
use Rattle.cd_gate.proofs.Longer.{prefix_self}
use Rattle.cd_life.specs.declared.board.Board.{Board}
use Rattle.cd_hall.specs.declared.hall.Hall.{Hall}
use Rattle.cd_serve.specs.Reports.{Span, LanesTold, lanes_of}
use Rattle.cd_serve.specs.Meanings.{Meaning}
use Rattle.cd_serve.proofs.Joined.{lanes-told}
use Rattle.cd_host.specs.Gone.{AreGone}
use Rattle.cd_host.specs.ServedLanes.{AreAtEnd, AreUntouched}
use Rattle.cd_host.specs.Parts.{IsAlone, IsSignedByLanes}
use Rattle.cd_host.specs.Seats.{AllFrom, IsIdleAt, IsUnused}
use Rattle.cd_host.specs.Seated.{AreServed, spans}
use Rattle.cd_host.proofs.Gathered.{slots-of, apart-all, all-at-end}
use Rattle.cd_host.proofs.Untouched.{untouched, unsigned}

-- ---- lanes that were served

-- the same by other names
told-as : (m : Meaning) (log : List Signed) (slots lanes : List Span) (a answered c cut : ℕ) → slots ≡ lanes → a ≡ answered → c ≡ cut → LanesTold m log slots a c → LanesTold m log lanes answered cut
told-as m log slots lanes a answered c cut are answers cuts told =
    subst (λ (n : ℕ). LanesTold m log lanes n cut) answers (subst (λ (n : ℕ). LanesTold m log lanes a n) cuts (subst (λ (l : List Span). LanesTold m log l a c) are told))

pub served-gone : {T : Type 0} (m : Meaning) (served : Bool) (start found : List Signed) (lanes : List Span) (passes : List (Pass T)) (answered cut : ℕ)
    → served ≡ true → IsPrefix start found → AreServed m start found lanes passes answered cut → AreGone m served start found lanes passes answered cut
served-gone m served start found lanes passes answered cut are_served p s = λ log legal q theirs signed.
    let all = s.each log theirs in
    let number : length s.slots ≡ length lanes = sym (length-map s.slots (λ t. t.lane)) ∙ ap length s.are in
    record {
      between = apart-all m start found log s.slots p q all (subst (λ (n : ℕ). IsSignedByLanes n log) (sym s.count) signed);
      signed = subst (λ (n : ℕ). IsSignedByLanes n log) (sym s.count ∙ number) signed;
      alone = λ none. absurd (let e : true ≡ false = sym are_served ∙ none in cc);
      told =
          told-as m log (lanes_of s.slots) lanes _ answered _ cut s.are (sym s.answers) (sym s.cuts) (lanes-told m log s.slots legal (slots-of m start found log 1 s.slots q all));
      ended = λ is running. subst AreAtEnd s.are (all-at-end m start found log 1 s.slots all running);
    }

-- ---- lanes that were left

next-one : (k j : ℕ) → k ≤ j → ¬ (j ≡ k) → k + 1 ≤ j
next-one k j low ne = grind arith

-- none of these passes has made anything, and nobody after them
none-of : {T : Type 0} (log : List Signed) (k : ℕ) (passes : List (Pass T)) → AllFrom (λ j p. mine j log ≡ (view p).mine) k passes → AllFrom (λ j p. (view p).mine ≡ []) k passes
    → ((j : ℕ) → k + length passes ≤ j → mine j log ≡ []) → (j : ℕ) → k ≤ j → mine j log ≡ []
none-of log k [] theirs none rest j low = rest j (omega (arith, low))
none-of log k (p ∷ ps) theirs none rest j low = ⊎_elim
    (λ e. ap (λ (n : ℕ). mine n log) e.1 ∙ theirs.0 ∙ none.0)
    (λ e. none-of log (k + 1) ps theirs.1 none.1 (λ i high. rest i (omega (arith, high))) j (next-one k j low e.1))
    (eqb_tells j k)

pub left-gone : {T : Type 0} (m : Meaning) (served : Bool) (start : List Signed) (lanes : List Span) (passes : List (Pass T)) (answered cut : ℕ)
    → served ≡ false → AllFrom (λ j p. (view p).mine ≡ []) 1 passes → length passes ≡ length lanes → AreUntouched lanes → answered ≡ 0 → cut ≡ 0 → AreGone m served start start lanes passes answered cut
left-gone m served start lanes passes answered cut left none number same unanswered uncut = λ log legal q theirs signed.
    let alone : IsAlone log = none-of log 1 passes theirs none (λ j high. signed j (omega (arith, high))) in
    record {
      between = unsigned start start log (prefix_self start) q alone;
      signed = subst (λ (n : ℕ). IsSignedByLanes n log) number signed;
      alone = λ is. alone;
      told = told-as m log lanes lanes 0 answered 0 cut refl (sym unanswered) (sym uncut) (untouched m log legal lanes alone same);
      ended = λ is. absurd (let e : false ≡ true = sym left ∙ is in cc);
    }

-- ---- lanes between two moments

module _ {L : Type 0} (faults : L → ℕ) (past : L → Option Past) (since : L → Option (List ℕ)) where
  pub spans-length : (olds news : List L) → length news ≡ length olds → length (spans faults past since olds news) ≡ length olds
  spans-length [] news same = refl
  spans-length (x ∷ xs) [] same = absurd (omega (arith, same))
  spans-length (x ∷ xs) (y ∷ ys) same = let rest = spans-length xs ys (omega (arith, same)) in omega (arith, rest)

  pub spans-untouched : (lanes : List L) → AreUntouched (spans faults past since lanes lanes)
  spans-untouched [] = tt
  spans-untouched (x ∷ xs) = (refl, refl, refl, spans-untouched xs)

-- ---- passes

module _ {A F B : Type 0} {g : _} (h : Hall A F B g) where
  pub unused-mine : (k : ℕ) (passes : List (Pass (Board A F B g))) → AllFrom (IsUnused h) k passes → AllFrom (λ j p. (view p).mine ≡ []) k passes
  unused-mine k [] all = tt
  unused-mine k (p ∷ ps) all = (all.0.mine, unused-mine (k + 1) ps all.1)

  pub unused-idle : (k : ℕ) (passes : List (Pass (Board A F B g))) → AllFrom (IsUnused h) k passes → AllFrom (IsIdleAt h) k passes
  unused-idle k [] all = tt
  unused-idle k (p ∷ ps) all = (all.0.idle, unused-idle (k + 1) ps all.1)
