-- The life of a connection: its stretches in their order, each as one lane would report it that had served them all.
use Rattle.std.specs.Prelude.{◌++◌, ℕ, List, [], ◌∷◌}
use Rattle.cd_outside.specs.declared.past.Connection.{Connection}

-- all bytes that were read from it
abbrev pub taken_of : List Connection → List ℕ
taken_of [] = []
taken_of (c ∷ cs) = c.taken ++ taken_of cs

-- all bytes that were written on it
abbrev pub put_of : List Connection → List ℕ
put_of [] = []
put_of (c ∷ cs) = c.put ++ put_of cs
