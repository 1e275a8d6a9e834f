-- Part of the main theorem.
-- The occurrences of a text in another, replaced.
use Rattle.std.specs.Prelude.{◌≡◌, ◌≢◌, ℕ, zero, suc, ◌==◌, nat_eq, if◌then◌else◌, List, [], ◌∷◌, ◌++◌, length, drop, Option, Some, None, option_map}
use Rattle.std.specs.List.{starts_with}
use Rattle.std.specs.Option.{option_map_or}

-- what stands before the first occurrence, and what stands behind it
unfoldable pub around : List ℕ → List ℕ → Option (List ℕ × List ℕ)
around find [] = None
around find (byte ∷ text) =
    if starts_with nat_eq (byte ∷ text) find then Some ([], drop (length find) (byte ∷ text))
    else option_map (λ parts. (byte ∷ parts.0, parts.1)) (around find text)

-- the first so many occurrences replaced; each is looked for behind the one before, so they do not overlap
unfoldable pub replaced_up_to : ℕ → List ℕ → List ℕ → List ℕ → List ℕ
replaced_up_to zero find replace text = text
replaced_up_to (suc n) find replace text =
    option_map_or (λ parts. parts.0 ++ (replace ++ replaced_up_to n find replace parts.1)) (around find text) text

-- how many are replaced at most; without a limit as many as there can be, since each has a byte
abbrev pub most : ℕ → List ℕ → ℕ
most limit text = if limit == 0 then length text else limit

-- an empty text is not looked for
unfoldable pub substituted : List ℕ → List ℕ → ℕ → List ℕ → List ℕ
substituted find replace limit text =
    if length find == 0 then text else replaced_up_to (most limit text) find replace text

-- what is looked for stands nowhere in the text
abbrev pub IsAbsent : List ℕ → List ℕ → Type 0
IsAbsent find text = (before after : List ℕ) → before ++ (find ++ after) ≢ text

-- it stands first behind these bytes: in them and what is looked for it stands at the end alone
abbrev pub IsBeforeFirst : List ℕ → List ℕ → Type 0
IsBeforeFirst find bytes = (before after : List ℕ) → before ++ (find ++ after) ≡ bytes ++ find → after ≡ []
