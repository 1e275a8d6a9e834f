-- What is given of a piece, by one write after another, and what a lane says of it.
use Rattle.std.proofs.Common.{◌≡◌, ℕ, ◌+◌, ◌≤◌, List, [], ◌++◌, length, take, drop, Option, None, Some, sym, ap, ap₂, ◌∙◌, subst, arith, append-nil, append_assoc, take-append-drop, refl, ◌-◌, option_map}
use Rattle.std.proofs.lemmas.List.{drop-take, take-take, take_all, length-drop}
use Rattle.std.specs.Io.KnownBytes.{Keeps, Appends}
use Rattle.cd_outside.specs.declared.given.Given.{Given}
use Rattle.cd_outside.specs.Counts.{Rises}
use Rattle.cd_outside.specs.Given.{IsGivenOf}
use Rattle.cd_outside.specs.Past.{after_put}
use Rattle.cd_stdio.specs.Moving.{GivesFront}

pub nothing_given : (a : Option (List ℕ)) → Appends a a []
nothing_given None = tt
nothing_given (Some x) = sym (append-nil x)

pub kept_given : (a b : Option (List ℕ)) → Keeps a b → Appends a b []
kept_given None b kept = tt
kept_given (Some x) None kept = kept
kept_given (Some x) (Some y) kept = kept ∙ sym (append-nil x)

-- one part and the next
both_given : (a b c : Option (List ℕ)) (first second : List ℕ) → Appends a b first → Appends b c second → Appends a c (first ++ second)
both_given None b c first second one two = tt
both_given (Some x) None c first second one two = absurd one
both_given (Some x) (Some y) None first second one two = absurd two
both_given (Some x) (Some y) (Some z) first second one two = two ∙ ap (λ l. l ++ second) one ∙ append_assoc x first second

-- what bytes that are kept were given before
kept_after : (a b c : Option (List ℕ)) (part : List ℕ) → Appends a b part → Keeps b c → Appends a c part
kept_after None b c part one kept = tt
kept_after (Some x) None c part one kept = absurd one
kept_after (Some x) (Some y) None part one kept = absurd kept
kept_after (Some x) (Some y) (Some z) part one kept = kept ∙ one

take_on : (n m : ℕ) (xs : List ℕ) → take (n + m) xs ≡ take n xs ++ take m (drop n xs)
take_on n m xs =
    let e : n ≤ n + m = omega arith in
    sym (take-append-drop n (take (n + m) xs)) ∙ ap₂ (λ (a b : List ℕ). a ++ b) (take-take n (n + m) xs e) (drop-take n m xs)

-- so many bytes of a piece, and then more of those that are left
pub given_on : (a b c : Option (List ℕ)) (piece left : List ℕ) (n m : ℕ) → Appends a b (take n piece) → left ≡ drop n piece → Appends b c (take m left) → Appends a c (take (n + m) piece)
given_on a b c piece left n m one is two =
    subst (Appends a c) (sym (take_on n m piece)) (both_given a b c (take n piece) (take m (drop n piece)) one (subst (λ (l : List ℕ). Appends b c (take m l)) is two))

-- so many bytes of a piece, and then none
pub given_still : (a b c : Option (List ℕ)) (part : List ℕ) → Appends a b part → Appends b c [] → Appends a c part
given_still a b c part one none = subst (Appends a c) (append-nil part) (both_given a b c part [] one none)

-- there is room for the count
pub within : (piece left : List ℕ) (n m : ℕ) → n ≤ length piece → left ≡ drop n piece → m ≤ length left → n + m ≤ length piece
within piece left n m first is second =
    let e : length left ≡ length piece - n = ap length is ∙ length-drop n piece in
    omega (arith, e, first, second)

-- what was written is given
pub front_given : (n : ℕ) (piece : List ℕ) (a b : Option (List ℕ)) → n ≤ length piece → Appends a b (take n piece) → GivesFront n piece a b
front_given n piece a b bound given = (n, omega arith, bound, given)

-- after a flush that kept it, as much of it as is said
pub front_kept : (m n : ℕ) (piece : List ℕ) (a b c : Option (List ℕ)) → m ≤ n → n ≤ length piece → Appends a b (take n piece) → Keeps b c → GivesFront m piece a c
front_kept m n piece a b c fewer bound given kept = (n, fewer, bound, kept_after a b c (take n piece) given kept)

-- a whole piece
pub whole_given : (n : ℕ) (piece : List ℕ) (a b : Option (List ℕ)) → n ≡ length piece → GivesFront n piece a b → Appends a b piece
whole_given n piece a b whole (written, least, most, given) =
    let e : length piece ≤ written = omega (arith, whole, least) in
    subst (Appends a b) (take_all written piece e) given

-- a lane that tells nothing has given some part
pub untold_part : (r : Given) (part piece : List ℕ) → IsGivenOf r part piece → (p : List ℕ) × IsGivenOf r p piece × (None ≡ option_map (after_put p) None)
untold_part r part piece is = (part, is, refl)

-- a fault that is counted for one reason is counted for each that is one of its kind
pub rises_for : (before now : ℕ) (P Q : Type 0) → Rises before now P → (Q → P) → Rises before now Q
rises_for before now P Q rises because = record { later = rises.later; rose = λ q. rises.rose (because q) }
