-- Numbers by keys.
use Rattle.std.specs.Prelude.{◌≡◌, ℕ, ◌≤◌, ◌%◌, ◌⊎◌, true, false, List, [], length, take, get_or}
use Rattle.std.specs.Str.{str_to_ascii_lowercase}
use Rattle.cd_index.specs.Hashing.{hash}
use Rattle.cd_index.specs.Runs.{Has}
use Rattle.cd_index.specs.declared.table.Table.{Table}

-- the numbers of a hash
abbrev pub bucket : Table → ℕ → List ℕ
bucket table hash = get_or table.buckets.items (hash % length table.buckets.items) []

-- the number stands where a key of this length would stand that has the hash of the text's first bytes, in lower case
abbrev pub HasKeyOf : Table → List ℕ → ℕ → ℕ → Type 0
HasKeyOf table text n long = (get_or table.lengths.items long false ≡ true) × (long ≤ length text) × Has n (bucket table (hash (str_to_ascii_lowercase (take long text))))

-- the number may have a key that the text begins with, or it has no keys
abbrev pub IsCandidate : Table → List ℕ → ℕ → Type 0
IsCandidate table text n = Has n table.free ⊎ ((long : ℕ) × HasKeyOf table text n long)

-- what was a candidate is one
abbrev pub Keeps : Table → Table → Type 0
Keeps old new = (text : List ℕ) (n : ℕ) → IsCandidate old text n → IsCandidate new text n
