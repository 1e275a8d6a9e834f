-- What a sound index lets a request skip.
use Rattle.std.proofs.Common.{◌≡◌, true, false, Bool, ℕ, zero, suc, ◌+◌, ◌-◌, ◌<◌, ◌≤◌, ◌⊎◌, inl, inr, List, [], ◌∷◌, ◌++◌, length, get_or, Some, sym, ap, subst, ◌∙◌, refl, arith, length-append}
use Rattle.std.specs.Prelude.{slice_set}
use Rattle.std.specs.List.{slice_get}
use Rattle.std.proofs.lemmas.Grind.{common_steps}
use Rattle.cd_fill.specs.declared.scene.Scene.{Scene}
use Rattle.cd_index.specs.Tables.{IsCandidate, Keeps}
use Rattle.cd_index.specs.declared.table.Table.{Table}
use Rattle.cd_match.specs.Holds.{holds}
use Rattle.cd_routes.proofs.Equations.{run_route_is}
use Rattle.cd_routes.specs.Running.{Rest, Middleware, Named, run_route}
use Rattle.cd_routes.specs.declared.route.Route.{Route, out-Route}
use Rattle.cd_chain.specs.declared.index.Index.{Index}
use Rattle.cd_chain.specs.declared.place.Place.{Place}
use Rattle.cd_chain.specs.Growing.{Grows}
use Rattle.cd_chain.specs.Places.{at}
use Rattle.cd_chain.specs.Steps.{steps_at}
use Rattle.cd_chain.specs.Indexes.{number_at, IsSound, AreSound, IsBegun}

passes_all : (places : List Place) (index : Index) (back : Rest) (x : Scene) (to gap : ℕ) → IsSound places index → to + gap < length index.numbers →
    ((p : ℕ) → to < p → p ≤ to + gap → IsCandidate index.table x.current.path p → ⊥) → at places (number_at index (to + gap)) back x ≡ at places (number_at index to) back x
passes_all places index back x to zero sound within none = ap (λ p. at places (number_at index p) back x) (omega arith)
passes_all places index back x to (suc gap) sound within none =
    ap (λ p. at places (number_at index p) back x) (omega arith)
    ∙ sound.passes (to + gap) back x (omega (arith, within)) (none (to + gap + 1) (omega arith) (omega arith))
    ∙ passes_all places index back x to gap sound (omega (arith, within)) (λ p after before. none p after (omega (arith, before)))

falls_all : (places : List Place) (index : Index) (back to gap : ℕ) → IsSound places index → to + gap < length index.numbers →
    steps_at places (number_at index to) back ≤ steps_at places (number_at index (to + gap)) back
falls_all places index back to zero sound within =
    let e : steps_at places (number_at index (to + 0)) back ≡ steps_at places (number_at index to) back = ap (λ p. steps_at places (number_at index p) back) (omega arith) in
    omega (arith, e)
falls_all places index back to (suc gap) sound within =
    let e : steps_at places (number_at index (to + suc gap)) back ≡ steps_at places (number_at index (to + gap + 1)) back = ap (λ p. steps_at places (number_at index p) back) (omega arith) in
    omega (arith, e, sound.falls (to + gap) back (omega (arith, within)), falls_all places index back to gap sound (omega (arith, within)))

-- from a position to the first candidate from there on
pub skips : (places : List Place) (index : Index) (back : Rest) (x : Scene) (path : List ℕ) (position found n m : ℕ) → IsSound places index → path ≡ x.current.path → position < length index.numbers →
    number_at index position ≡ n → m ≡ number_at index found → found ≤ position → ((p : ℕ) → IsCandidate index.table path p → p ≤ position → p ≤ found) → at places m back x ≡ at places n back x
skips places index back x path position found n m sound same within here there before greatest =
    ap (λ k. at places k back x) there
    ∙ sym (passes_all places index back x found (position - found) sound (omega (arith, within, before))
    (λ p after upto candidate. absurd (omega (arith, after, greatest p (subst (λ bytes. IsCandidate index.table bytes p) (sym same) candidate) (omega (arith, upto, before))))))
    ∙ ap (λ k. at places (number_at index k) back x) (omega (arith, before))
    ∙ ap (λ k. at places k back x) here

pub falls : (places : List Place) (index : Index) (back position found n m : ℕ) → IsSound places index → position < length index.numbers →
    number_at index position ≡ n → m ≡ number_at index found → found ≤ position → steps_at places m back ≤ steps_at places n back
falls places index back position found n m sound within here there before =
    let e : steps_at places (number_at index (found + (position - found))) back ≡ steps_at places n back =
    ap (λ k. steps_at places (number_at index k) back) (omega (arith, before)) ∙ ap (λ k. steps_at places k back) here in
    omega (arith, e, ap (λ k. steps_at places k back) there, falls_all places index back found (position - found) sound (omega (arith, within, before)))

-- ---- filling

none_at : (ns : List ℕ) (p : ℕ) → ns ≡ [] → get_or ns p 0 ≡ 0
none_at ns p none = ap (λ (xs : List ℕ). get_or xs p 0) none

-- an index of no routes
pub none_sound : (places : List Place) (index : Index) → index.numbers ≡ [] → IsSound places index
none_sound places index none = record {
  within = λ p. omega (arith, none_at index.numbers p none);
  passes = λ p back x within. absurd (omega (arith, within, ap length none));
  falls = λ p back within. absurd (omega (arith, within, ap length none));
}

-- what follows the list alone
pub first_begun : (places : List Place) (index : Index) (rest : ℕ) → rest ≤ length places → index.numbers ≡ rest ∷ [] → index.table.top ≡ 0 → IsBegun places index rest
first_begun places index rest within is top = record {
  sound = record {
    within = λ p. omega (arith, within, ap (λ ns. get_or ns p 0) is, one_at p);
    passes = λ p back x less. absurd (omega (arith, less, ap length is));
    falls = λ p back less. absurd (omega (arith, less, ap length is));
  };
  top = omega (arith, top, ap length is);
  last = λ p is_last. let first : p ≡ 0 = omega (arith, is_last, ap length is) in ap (λ ns. get_or ns p 0) is ∙ ap (λ k. get_or (rest ∷ []) k 0) first;
}
  where
    one_at : (p : ℕ) → get_or (rest ∷ []) p 0 ≤ rest
    one_at zero = omega arith
    one_at (suc p) = omega arith

-- places that are added leave it sound
pub grown_sound : (old new : List Place) (index : Index) → Grows old new → IsSound old index → IsSound new index
grown_sound old new index grows sound = record {
  within = λ p. omega (arith, sound.within p, grows.longer);
  passes = λ p back x less none.
      ap (λ (f : Middleware). f back x) (grows.kept (number_at index (p + 1)) (sound.within (p + 1)))
      ∙ sound.passes p back x less none
      ∙ sym (ap (λ (f : Middleware). f back x) (grows.kept (number_at index p) (sound.within p)));
  falls = λ p back less. omega (
    arith,
    sound.falls p back less,
    ap (λ (f : ℕ → ℕ). f back) (grows.steps (number_at index p) (sound.within p)),
    ap (λ (f : ℕ → ℕ). f back) (grows.steps (number_at index (p + 1)) (sound.within (p + 1))),
  );
}

pub all_grown : (old new : List Place) (indexes : List Index) → Grows old new → AreSound old indexes → AreSound new indexes
all_grown old new indexes grows sound = λ k index there. grown_sound old new index grows (sound k index there)

-- the position that is noted next, and its place
pub route_begun : (e : Named) (r : Route) (old new : List Place) (first noted last : Index) (rest n : ℕ) → IsBegun old first rest → Grows old new → n ≤ length new →
    noted.numbers ≡ first.numbers → noted.table.top ≤ length first.numbers → Keeps first.table noted.table →
    ((x : Scene) → holds (out-Route r).matching x ≡ true → IsCandidate noted.table x.current.path (length first.numbers)) →
    last.numbers ≡ noted.numbers ++ n ∷ [] → last.table ≡ noted.table →
    ((back : Rest) → at new n back ≡ run_route e r (at old rest back)) → ((back : ℕ) → steps_at old rest back ≤ steps_at new n back) → IsBegun new last n
route_begun e r old new first noted last rest n begun grows within same top keeps matches pushed table_is meaning falls_so = record {
  sound = record {
    within = λ p. elim (where_is p) [
      | inl small ↦ omega (arith, older p small, (grown_sound old new first grows begun.sound).within p)
      | inr beyond ↦ newer p beyond
    ];
    passes = λ p back x less none. elim (before_last p less) [
      | inl small ↦ ap (λ k. at new k back x) (older (p + 1) (omega (arith, small)))
          ∙ (grown_sound old new first grows begun.sound).passes p back x (omega (arith, small)) (λ candidate. none (subst (λ t. IsCandidate t x.current.path (p + 1)) (sym table_is) (keeps x.current.path (p + 1) candidate)))
          ∙ sym (ap (λ k. at new k back x) (older p (omega (arith, small))))
      | inr here ↦ ap (λ k. at new k back x) (newest (p + 1) here)
          ∙ ap (λ (f : Rest). f x) (meaning back)
          ∙ passed back x (holds (out-Route r).matching x) refl (λ candidate. none (subst (λ t. IsCandidate t x.current.path (p + 1)) (sym table_is) (subst (λ k. IsCandidate noted.table x.current.path k) (sym here) candidate)))
          ∙ sym (ap (λ (f : Middleware). f back x) (grows.kept rest (rest_within p here)))
          ∙ sym (ap (λ k. at new k back x) (older p (omega (arith, here)) ∙ begun.last p here))
    ];
    falls = λ p back less. elim (before_last p less) [
      | inl small ↦ omega (
        arith,
        (grown_sound old new first grows begun.sound).falls p back (omega (arith, small)),
        ap (λ k. steps_at new k back) (older p (omega (arith, small))),
        ap (λ k. steps_at new k back) (older (p + 1) (omega (arith, small))),
      )
      | inr here ↦ omega (
        arith,
        falls_so back,
        ap (λ (f : ℕ → ℕ). f back) (grows.steps rest (rest_within p here)),
        ap (λ k. steps_at new k back) (older p (omega (arith, here)) ∙ begun.last p here),
        ap (λ k. steps_at new k back) (newest (p + 1) here),
      )
    ];
  };
  top = omega (arith, top, ap (λ (t : Table). t.top) table_is, longer);
  last = λ p is_last. newest p (omega (arith, is_last, longer));
}
  where
    all_is : last.numbers ≡ first.numbers ++ n ∷ []
    all_is = pushed ∙ ap (λ ns. ns ++ n ∷ []) same

    longer : length last.numbers ≡ length first.numbers + 1
    longer = ap length all_is ∙ length-append first.numbers (n ∷ []) ∙ omega arith

    older : (p : ℕ) → p < length first.numbers → number_at last p ≡ number_at first p
    older p small = ap (λ ns. get_or ns p 0) all_is ∙ grind (arith, common_steps)

    newest : (p : ℕ) → p ≡ length first.numbers → number_at last p ≡ n
    newest p is = ap (λ ns. get_or ns p 0) all_is ∙ ap (λ k. get_or (first.numbers ++ n ∷ []) k 0) is ∙ grind (arith, common_steps)

    where_is : (p : ℕ) → (p < length first.numbers) ⊎ (length first.numbers ≤ p)
    where_is p = grind arith

    last_or_none : (p : ℕ) → length first.numbers ≤ p → (p ≡ length first.numbers) ⊎ (length first.numbers + 1 ≤ p)
    last_or_none p beyond = grind arith

    nothing_there : (ns : List ℕ) (p : ℕ) → length ns ≤ p → get_or ns p 0 ≡ 0
    nothing_there ns p beyond = grind (arith, common_steps)

    newer : (p : ℕ) → length first.numbers ≤ p → number_at last p ≤ length new
    newer p beyond = elim (last_or_none p beyond) [
      | inl is ↦ omega (arith, newest p is, within)
      | inr none ↦ omega (arith, nothing_there last.numbers p (omega (arith, none, longer)))
    ]

    before_last : (p : ℕ) → p + 1 < length last.numbers → (p + 1 < length first.numbers) ⊎ (p + 1 ≡ length first.numbers)
    before_last p less = let l : p + 1 < length first.numbers + 1 = omega (arith, less, longer) in grind arith

    rest_within : (p : ℕ) → p + 1 ≡ length first.numbers → rest ≤ length old
    rest_within p here = omega (arith, begun.last p here, begun.sound.within p)

    passed : (back : Rest) (x : Scene) (b : Bool) → holds (out-Route r).matching x ≡ b → (IsCandidate noted.table x.current.path (length first.numbers) → ⊥) → run_route e r (at old rest back) x ≡ at old rest back x
    passed back x true is none = absurd (none (matches x is))
    passed back x false is none = run_route_is e r (at old rest back) x ∙ (rw is refl)

-- ---- by numbers

same_index : (a b : Index) → Some a ≡ Some b → a ≡ b
same_index a b e = cc

pub pushed_sound : (places : List Place) (old new : List Index) (index : Index) → new ≡ old ++ index ∷ [] → index.numbers ≡ [] → AreSound places old → AreSound places new
pushed_sound places old new index is none sound = λ k one there. pushed_at old k one sound (subst (λ all. slice_get all k ≡ Some one) is there)
  where
    pushed_at : (all : List Index) (k : ℕ) (one : Index) → AreSound places all → slice_get (all ++ index ∷ []) k ≡ Some one → IsSound places one
    pushed_at [] zero one sound there = subst (IsSound places) (let e : Some index ≡ Some one = there in same_index index one e) (none_sound places index none)
    pushed_at [] (suc k) one sound there = cc
    pushed_at (first ∷ others) zero one sound there = sound 0 one there
    pushed_at (first ∷ others) (suc k) one sound there = pushed_at others k one (λ j other is. sound (suc j) other is) there

put_later : (places : List Place) (first : Index) (others : List Index) → IsSound places first → AreSound places others → (k : ℕ) (one : Index) → slice_get (first ∷ others) k ≡ Some one → IsSound places one
put_later places first others head tail zero one there = subst (IsSound places) (same_index first one there) head
put_later places first others head tail (suc k) one there = tail k one there

pub put_sound : (places : List Place) (all : List Index) (number : ℕ) (index : Index) → AreSound places all → IsSound places index → AreSound places (slice_set all number index)
put_sound places [] number index sound this = sound
put_sound places (first ∷ others) zero index sound this = put_later places index others this (λ j other is. sound (suc j) other is)
put_sound places (first ∷ others) (suc number) index sound this =
    put_later places first (slice_set others number index) (sound 0 first refl) (put_sound places others number index (λ j other is. sound (suc j) other is) this)
