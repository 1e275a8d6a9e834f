-- Part of the main theorem.
-- Steps that may fail, one after another, and the tests and choices among them.
use Rattle.std.specs.Prelude.{Bool, true, false, List, [], ◌∷◌, ◌++◌, Option, Some, None, Result, Ok, Err, ⊤}

infixr 2 ◌▷◌
-- the next step goes on with the value of the one before, or the error stays
abbrev pub ◌▷◌ : {A B E : Type 0} → Result A E → (A → Result B E) → Result B E
(Ok value) ▷ next = next value
(Err error) ▷ next = Err error

-- this error, where the test holds
abbrev pub refused_where : {E : Type 0} → Bool → E → Result ⊤ E
refused_where true error = Err error
refused_where false error = Ok tt

-- the value, or this error where there is none
abbrev pub some_or : {A E : Type 0} → E → Option A → Result A E
some_or error None = Err error
some_or error (Some value) = Ok value

-- lists, one after another
abbrev pub joined : {A : Type 0} → List (List A) → List A
joined [] = []
joined (list ∷ lists) = list ++ joined lists
