-- Part of the main theorem.
-- What each number counts with those that it names, and with what these name.
use Rattle.std.specs.Prelude.{◌≡◌, ℕ, ◌+◌, ◌-◌, ◌^◌, ◌<◌, List, length, map, sum, min, get_or, slice_set, Option, Some, None}
use Rattle.std.specs.List.{slice_get}
use Rattle.cd_leads.specs.Depth.{to_depth}

-- a number counts by itself, and at each place where it names another what that one counts
abbrev pub counted : Option (List ℕ) → ℕ → (ℕ → ℕ) → ℕ
counted None own inner = 0
counted (Some named) own inner = own + sum (map inner named)

-- the numbers in one another to a depth; deeper, none counts
abbrev pub totals_to : List (List ℕ) → (ℕ → ℕ) → ℕ → ℕ → ℕ
totals_to lists own = to_depth (λ inner n. counted (slice_get lists n) (own n) inner) 0

-- none is deeper in others than there are numbers, unless one leads to itself
unfoldable pub total : List (List ℕ) → (ℕ → ℕ) → ℕ → ℕ
total lists own n = totals_to lists own (length lists) n

-- ---- counts in a list, each no more than the largest number of the code

-- the count of a number; 0 beyond the list
abbrev pub count_of : List ℕ → ℕ → ℕ
count_of counts n = get_or counts n 0

-- these are the counts
abbrev pub AreCounts : ℕ → List ℕ → (ℕ → ℕ) → Type 0
AreCounts size counts count = (n : ℕ) → n < size → count_of counts n ≡ min (count n) (2 ^ 64 - 1)

-- the counts, with one counted anew
abbrev pub counted_one : Option (List ℕ) → ℕ → ℕ → List ℕ → List ℕ
counted_one None n own counts = counts
counted_one (Some named) n own counts = slice_set counts n (min (own + sum (map (count_of counts) named)) (2 ^ 64 - 1))

abbrev pub counted_at : List (List ℕ) → List ℕ → ℕ → List ℕ → List ℕ
counted_at lists own n counts = counted_one (slice_get lists n) n (count_of own n) counts
