-- The final head after informational ones.
use Rattle.std.proofs.Common.{◌≡◌, ℕ, zero, suc, ◌≤◌, ◌+◌, Bool, true, false, List, [], ◌++◌, length, take, drop, append_assoc, length-drop, add-one, sym, ◌∙◌, subst, arith, inl, inr}
use Rattle.std.proofs.lemmas.Bool.Decides.{nat_tests}
use Rattle.std.proofs.Math.Seq.{take-add}
use Rattle.cd_proxy.specs.declared.head.Head.{Head}
use Rattle.cd_proxy.specs.Heads.{BeginsHead, BeginsFinal, is_final, is_informational}
use Rattle.cd_proxy.specs.Reading.{HasNoHead, NeverHasHead, HasNoFinal, NeverHasFinal, Skips}
use Rattle.cd_proxy.proofs.HeadLemmas.{BeginsHead-append, BeginsHead-unique, head_alone}

-- a status is not both
pub not_both : (status : ℕ) → is_final status ≡ true → is_informational status ≡ true → ⊥
not_both status f i = grind (arith, nat_tests)

pub final_first : (most : ℕ) (input : List ℕ) (head : Head) (rest : List ℕ) → BeginsHead input head rest
    → is_final head.status ≡ true → BeginsFinal most input head rest
final_first zero input head rest b f = (b, f)
final_first (suc most) input head rest b f = inl (b, f)

pub BeginsFinal-append : (most : ℕ) (input : List ℕ) (head : Head) (rest more : List ℕ)
    → BeginsFinal most input head rest → BeginsFinal most (input ++ more) head (rest ++ more)
BeginsFinal-append zero input head rest more b = (BeginsHead-append input head rest more b.0, b.1)
BeginsFinal-append (suc most) input head rest more b =
    elim b [
      | inl here ↦ inl (BeginsHead-append input head rest more here.0, here.1)
      | inr later ↦ inr (
        later.0,
        later.1 ++ more,
        BeginsHead-append input later.0 later.1 more later.2,
        later.3,
        BeginsFinal-append most later.1 head rest more later.4,
      )
    ]

-- a head of another status than the one that comes first
other_status : (input : List ℕ) (head first : Head) (rest after : List ℕ) → BeginsHead input head rest
    → BeginsHead input first after → is_final head.status ≡ true → is_informational first.status ≡ true → ⊥
other_status input head first rest after b c f i =
    let same = BeginsHead-unique input head first rest after b c in
    not_both first.status (subst (λ (h : Head). is_final h.status ≡ true) same.0 f) i

pub BeginsFinal-unique : (most : ℕ) (input : List ℕ) (head other : Head) (rest left : List ℕ)
    → BeginsFinal most input head rest → BeginsFinal most input other left → (head ≡ other) × (rest ≡ left)
BeginsFinal-unique zero input head other rest left b c = BeginsHead-unique input head other rest left b.0 c.0
BeginsFinal-unique (suc most) input head other rest left b c =
    elim b [
      | inl here ↦ elim c [
        | inl too ↦ BeginsHead-unique input head other rest left here.0 too.0
        | inr later ↦ absurd (other_status input head later.0 rest later.1 here.0 later.2 here.1 later.3)
      ]
      | inr later ↦ elim c [
        | inl here ↦ absurd (other_status input other later.0 left later.1 here.0 later.2 here.1 later.3)
        | inr too ↦
            let same = BeginsHead-unique input later.0 too.0 later.1 too.1 later.2 too.2 in
            BeginsFinal-unique most too.1 head other rest left
            (subst (λ (t : List ℕ). BeginsFinal most t head rest) same.1 later.4) too.4
      ]
    ]

-- ---- after an informational head

pub one_more : (most : ℕ) (input : List ℕ) (first head : Head) (after rest : List ℕ) → BeginsHead input first after
    → is_informational first.status ≡ true → BeginsFinal most after head rest → BeginsFinal (suc most) input head rest
one_more most input first head after rest b i f = inr (first, after, b, i, f)

-- what comes after it decides
pub after_first : (most : ℕ) (input : List ℕ) (first head : Head) (after rest : List ℕ) → BeginsHead input first after
    → is_informational first.status ≡ true → BeginsFinal (suc most) input head rest → BeginsFinal most after head rest
after_first most input first head after rest b i f =
    elim f [
      | inl here ↦ absurd (other_status input head first rest after here.0 b here.1 i)
      | inr later ↦
          let same = BeginsHead-unique input later.0 first later.1 after later.2 b in
          subst (λ (t : List ℕ). BeginsFinal most t head rest) same.1 later.4
    ]

pub none_after : (most : ℕ) (input : List ℕ) (first : Head) (after : List ℕ) → BeginsHead input first after
    → is_informational first.status ≡ true → HasNoFinal most after → HasNoFinal (suc most) input
none_after most input first after b i none head rest f =
    none head rest (after_first most input first head after rest b i f)

pub never_after : (most : ℕ) (input : List ℕ) (first : Head) (after : List ℕ) → BeginsHead input first after
    → is_informational first.status ≡ true → NeverHasFinal most after → NeverHasFinal (suc most) input
never_after most input first after b i never more =
    none_after most (input ++ more) first (after ++ more) (BeginsHead-append input first after more b) i (never more)

-- ---- no head, no final head

pub no_head_no_final : (most : ℕ) (input : List ℕ) → HasNoHead input → HasNoFinal most input
no_head_no_final zero input none head rest f = none head rest f.0
no_head_no_final (suc most) input none head rest f =
    elim f [ inl here ↦ none head rest here.0 | inr later ↦ none later.0 later.1 later.2 ]

pub never_head_never_final : (most : ℕ) (input : List ℕ) → NeverHasHead input → NeverHasFinal most input
never_head_never_final most input never more = no_head_no_final most (input ++ more) (never more)

-- ---- a head that is neither, or an informational one too many

pub different : (b : Bool) → b ≡ true → b ≡ false → ⊥
different b is is_not = cc

no_final_at : (most : ℕ) (input : List ℕ) (first : Head) (after : List ℕ) → BeginsHead input first after
    → is_final first.status ≡ false → (is_informational first.status ≡ true → most ≡ 0) → HasNoFinal most input
no_final_at zero input first after b not_final few head rest f =
    let same = BeginsHead-unique input head first rest after f.0 b in
    different (is_final first.status) (subst (λ (h : Head). is_final h.status ≡ true) same.0 f.1) not_final
no_final_at (suc most) input first after b not_final few head rest f =
    elim f [
      | inl here ↦
          let same = BeginsHead-unique input head first rest after here.0 b in
          different (is_final first.status) (subst (λ (h : Head). is_final h.status ≡ true) same.0 here.1) not_final
      | inr later ↦
          let same = BeginsHead-unique input later.0 first later.1 after later.2 b in
          let is = few (subst (λ (h : Head). is_informational h.status ≡ true) same.0 later.3) in
          absurd (omega (arith, is))
    ]

pub never_final_at : (most : ℕ) (input : List ℕ) (first : Head) (after : List ℕ) → BeginsHead input first after
    → is_final first.status ≡ false → (is_informational first.status ≡ true → most ≡ 0) → NeverHasFinal most input
never_final_at most input first after b not_final few more =
    no_final_at most (input ++ more) first (after ++ more) (BeginsHead-append input first after more b) not_final few

-- ---- bytes that are passed over

pub skips_none : (most : ℕ) → Skips most [] most
skips_none most = record { there = λ text head rest f. f; back = λ text head rest f. f }

-- these, and then those
pub skips_on : (most middle left : ℕ) (first second : List ℕ) → Skips most first middle → Skips middle second left
    → Skips most (first ++ second) left
skips_on most middle left first second a b = record {
  there = λ text head rest f.
      subst (λ (t : List ℕ). BeginsFinal most t head rest) (sym (append_assoc first second text))
      (a.there (second ++ text) head rest (b.there text head rest f));
  back = λ text head rest f.
      b.back text head rest (a.back (second ++ text) head rest
      (subst (λ (t : List ℕ). BeginsFinal most t head rest) (append_assoc first second text) f));
}

-- an informational head
pub skips_head : (most less : ℕ) (first : Head) (bytes : List ℕ) → most ≡ less + 1 → BeginsHead bytes first []
    → is_informational first.status ≡ true → Skips most bytes less
skips_head most less first bytes is b i = record {
  there = λ text head rest f.
      subst (λ (n : ℕ). BeginsFinal n (bytes ++ text) head rest) (sym (is ∙ add-one less))
      (one_more less (bytes ++ text) first head text rest (BeginsHead-append bytes first [] text b) i f);
  back = λ text head rest f.
      after_first less (bytes ++ text) first head text rest (BeginsHead-append bytes first [] text b) i
      (subst (λ (n : ℕ). BeginsFinal n (bytes ++ text) head rest) (is ∙ add-one less) f);
}

-- no final head after them, none with them
pub none_skipped : (most left : ℕ) (before text : List ℕ) → Skips most before left → HasNoFinal left text → HasNoFinal most (before ++ text)
none_skipped most left before text s none head rest f = none head rest (s.back text head rest f)

pub never_skipped : (most left : ℕ) (before text : List ℕ) → Skips most before left → NeverHasFinal left text
    → NeverHasFinal most (before ++ text)
never_skipped most left before text s never more head rest f =
    never more head rest (s.back (text ++ more) head rest
    (subst (λ (t : List ℕ). BeginsFinal most t head rest) (append_assoc before text more) f))

-- ---- a read at the front

pub final_here : (most : ℕ) (input : List ℕ) (head : Head) (len : ℕ) → len ≤ length input → BeginsHead input head (drop len input)
    → is_final head.status ≡ true → (len ≤ length input) × BeginsFinal most (take len input) head []
final_here most input head len within b f = (within, final_first most (take len input) head [] (head_alone input head len b) f)

pub partial_here : (most : ℕ) (input : List ℕ) → HasNoHead input
    → (0 ≤ length input) × Skips most (take 0 input) most × HasNoFinal most input
partial_here most input none = (omega arith, skips_none most, no_head_no_final most input none)

-- ---- a read of what comes after an informational head

pub whole_after : (most less : ℕ) (input : List ℕ) (first head : Head) (len at : ℕ) → most ≡ less + 1 → len ≤ length input
    → BeginsHead input first (drop len input) → is_informational first.status ≡ true
    → (at ≤ length (drop len input)) × BeginsFinal less (take at (drop len input)) head []
    → (len + at ≤ length input) × BeginsFinal most (take (len + at) input) head []
whole_after most less input first head len at is within b i f = (
  omega (arith, length-drop len input, f.0),
  subst (λ (t : List ℕ). BeginsFinal most t head []) (sym (take-add len at input))
      ((skips_head most less first (take len input) is (head_alone input first len b) i).there (take at (drop len input)) head [] f.1),
)

pub partial_after : (most less left : ℕ) (input : List ℕ) (first : Head) (len at : ℕ) → most ≡ less + 1 → len ≤ length input
    → BeginsHead input first (drop len input) → is_informational first.status ≡ true
    → (at ≤ length (drop len input)) × Skips less (take at (drop len input)) left × HasNoFinal less (drop len input)
    → (len + at ≤ length input) × Skips most (take (len + at) input) left × HasNoFinal most input
partial_after most less left input first len at is within b i p = (
  omega (arith, length-drop len input, p.0),
  subst (λ (t : List ℕ). Skips most t left) (sym (take-add len at input))
      (skips_on most less left (take len input) (take at (drop len input))
      (skips_head most less first (take len input) is (head_alone input first len b) i) p.1),
  subst (λ (n : ℕ). HasNoFinal n input) (sym (is ∙ add-one less)) (none_after less input first (drop len input) b i p.2),
)

pub hopeless_after : (most less : ℕ) (input : List ℕ) (first : Head) (after : List ℕ) → most ≡ less + 1
    → BeginsHead input first after → is_informational first.status ≡ true → NeverHasFinal less after → NeverHasFinal most input
hopeless_after most less input first after is b i never =
    subst (λ (n : ℕ). NeverHasFinal n input) (sym (is ∙ add-one less)) (never_after less input first after b i never)
