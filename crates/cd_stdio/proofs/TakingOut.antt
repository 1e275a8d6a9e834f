-- What is taken out of the open writers, by the place of the first one of a name.
use Rattle.std.proofs.Common.{◌≡◌, ℕ, ◌+◌, ◌≤◌, Bool, false, cond, ltb, List, ◌++◌, length, take, drop, None, Some, sym, ◌∙◌, ap, ap₂, arith, rules, option_map, add-one}
use Rattle.std.specs.List.{position, position_or_len, slice_get, remove}
use Rattle.std.specs.Str.{bytes_eq}
use Rattle.std.proofs.lemmas.List.{take_all, append-nil}
use Rattle.std.proofs.lemmas.List.Folds.{find_at}
use Rattle.std.proofs.lemmas.Bool.{ltb-false}
use Rattle.std.proofs.lemmas.Option.{slice_get_past}
use Rattle.std.proofs.Math.ListN.{drop_of_length-le}
use Rattle.cd_stdio.specs.declared.open_writers.Named.{Named}
use Rattle.cd_stdio.specs.OpenWriters.{writer_of, without}

chosen : (b : Bool) (n i : ℕ) → cond b (Some n) None ≡ Some i → n ≡ i
chosen b n i given = search rules

refused : (b : Bool) (n : ℕ) → cond b (Some n) None ≡ None → b ≡ false
refused b n given = search rules

-- the place of the first one
first_place : {X : Type 0} (p : X → Bool) (xs : List X) (i : ℕ) → position p xs ≡ Some i → position_or_len p xs ≡ i
first_place p xs i given = chosen (ltb (position_or_len p xs) (length xs)) (position_or_len p xs) i given

-- where none passes, it is past the end
past : {X : Type 0} (p : X → Bool) (xs : List X) → position p xs ≡ None → length xs ≤ position_or_len p xs
past p xs none = ltb-false (position_or_len p xs) (length xs) (refused (ltb (position_or_len p xs) (length xs)) (position_or_len p xs) none)

-- so nothing is found, and all are left
pub none_found : {W : Type 0} (name : List ℕ) (ones : List (Named W)) → position (λ one. bytes_eq one.name name) ones ≡ None → writer_of name ones ≡ None
none_found name ones none =
    ap (option_map (λ one. one.writer)) (find_at (λ one. bytes_eq one.name name) ones ∙ slice_get_past ones (position_or_len (λ one. bytes_eq one.name name) ones) (past (λ one. bytes_eq one.name name) ones none))

all_of : {X : Type 0} (xs : List X) (n : ℕ) → length xs ≤ n → xs ≡ take n xs ++ drop (n + 1) xs
all_of xs n end = sym (ap₂ (λ a b. a ++ b) (take_all n xs end) (drop_of_length-le xs (omega (arith, end))) ∙ append-nil xs)

pub all_left : {W : Type 0} (name : List ℕ) (ones : List (Named W)) → position (λ one. bytes_eq one.name name) ones ≡ None → ones ≡ without name ones
all_left name ones none = all_of ones (position_or_len (λ one. bytes_eq one.name name) ones) (past (λ one. bytes_eq one.name name) ones none)

-- where one is at the place, it is found, and the others are left
pub one_found : {W : Type 0} (name : List ℕ) (ones : List (Named W)) (i : ℕ) (one : Named W) → position (λ one. bytes_eq one.name name) ones ≡ Some i → slice_get ones i ≡ Some one → writer_of name ones ≡ Some one.writer
one_found name ones i one given is =
    ap (option_map (λ one. one.writer)) (find_at (λ one. bytes_eq one.name name) ones ∙ ap (slice_get ones) (first_place (λ one. bytes_eq one.name name) ones i given) ∙ is)

without_at : {X : Type 0} (xs : List X) (n i : ℕ) → n ≡ i → remove xs i ≡ take n xs ++ drop (n + 1) xs
without_at xs n i is = sym (ap (λ k. take k xs ++ drop (k + 1) xs) is ∙ ap (λ k. take i xs ++ drop k xs) (add-one i))

pub others_left : {W : Type 0} (name : List ℕ) (ones : List (Named W)) (i : ℕ) → position (λ one. bytes_eq one.name name) ones ≡ Some i → remove ones i ≡ without name ones
others_left name ones i given = without_at ones (position_or_len (λ one. bytes_eq one.name name) ones) i (first_place (λ one. bytes_eq one.name name) ones i given)
