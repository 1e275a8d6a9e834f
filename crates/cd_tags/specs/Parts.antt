-- What is known of the parts of every path, for the clauses of private functions.
use Rattle.std.specs.Prelude.{ℕ, nat_lt, Bool, ◌&&◌, List}
use Rattle.std.specs.List.{list_all}
use Rattle.std.specs.Str.{is_utf8}

-- its numbers are bytes
abbrev pub are_bytes : List ℕ → Bool
are_bytes = list_all (λ b. nat_lt b 256)

-- a text
abbrev pub is_text : List ℕ → Bool
is_text part = is_utf8 part && are_bytes part

abbrev pub are_texts : List (List ℕ) → Bool
are_texts = list_all is_text
