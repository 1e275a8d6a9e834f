-- Which numbers are candidates of a text.
use Rattle.std.proofs.Common.{◌≡◌, true, false, Bool, ℕ, ◌+◌, ◌<◌, ◌≤◌, ◌%◌, ◌⊎◌, inl, inr, List, [], ◌∷◌, ◌++◌, length, take, get_or, nat_eq, sym, ap, subst, ◌∙◌, refl, arith}
use Rattle.std.proofs.lemmas.List.{take_more}
use Rattle.std.proofs.lemmas.List.Sums.{fold-append}
use Rattle.std.specs.Char.{to_ascii_lowercase}
use Rattle.std.specs.List.{starts_with}
use Rattle.std.specs.Str.{str_to_ascii_lowercase}
use Rattle.cd_index.specs.Hashing.{mixed, hash}
use Rattle.cd_index.specs.Runs.{Has}
use Rattle.cd_index.specs.Tables.{HasKeyOf, IsCandidate}
use Rattle.cd_index.specs.declared.table.Table.{Table}
use Rattle.cd_index.proofs.Beginnings.{begins_so, begins_within}
use Rattle.cd_index.proofs.Marks.{marked_within}

small_or_beyond : (n m : ℕ) → (n < m) ⊎ (m ≤ n)
small_or_beyond n m = grind arith

-- ---- hashes

map_push : (bytes : List ℕ) (byte : ℕ) → str_to_ascii_lowercase (bytes ++ byte ∷ []) ≡ str_to_ascii_lowercase bytes ++ to_ascii_lowercase byte ∷ []
map_push [] byte = refl
map_push (b ∷ bytes) byte = ap (λ more. to_ascii_lowercase b ∷ more) (map_push bytes byte)

pub hash_more : (text : List ℕ) (long made : ℕ) → long < length text → made ≡ hash (str_to_ascii_lowercase (take long text)) →
    mixed made (to_ascii_lowercase (get_or text long 0)) ≡ hash (str_to_ascii_lowercase (take (long + 1) text))
unfolding hash
hash_more text long made within is =
    sym (ap (λ bytes. hash (str_to_ascii_lowercase bytes)) (take_more text long 0 within)
    ∙ ap hash (map_push (take long text) (get_or text long 0))
    ∙ fold-append mixed 0 (str_to_ascii_lowercase (take long text)) (to_ascii_lowercase (get_or text long 0) ∷ [])
    ∙ ap (λ h. mixed h (to_ascii_lowercase (get_or text long 0))) (sym is))

pub hash_none : (text : List ℕ) → 0 ≡ hash (str_to_ascii_lowercase (take 0 text))
unfolding hash
hash_none text = refl

-- ---- all lengths

pub all_found : (table : Table) (text : List ℕ) (best long n : ℕ) → (Has n table.free → n ≤ best) → ((k : ℕ) → k < long → HasKeyOf table text n k → n ≤ best) →
    ((k : ℕ) → long ≤ k → HasKeyOf table text n k → n ≤ best) → IsCandidate table text n → n ≤ best
all_found table text best long n free before after (inl none) = free none
all_found table text best long n free before after (inr found) = elim (small_or_beyond found.0 long) [
  | inl small ↦ before found.0 small found.1
  | inr beyond ↦ after found.0 beyond found.1
]

-- where the text ends no longer key is of it
pub at_end : (table : Table) (text : List ℕ) (best long n k : ℕ) → length text ≤ long → (HasKeyOf table text n long → n ≤ best) → long ≤ k → HasKeyOf table text n k → n ≤ best
at_end table text best long n k end here beyond key = let same : k ≡ long = omega (arith, end, beyond, key.1) in here (subst (HasKeyOf table text n) same key)

-- nor where no longer key is
pub no_more : (table : Table) (text : List ℕ) (best long n k : ℕ) → length table.lengths.items ≤ long → long ≤ k → HasKeyOf table text n k → n ≤ best
no_more table text best long n k end beyond key = absurd (omega (arith, end, beyond, marked_within table.lengths.items k key.0))

-- one length more
pub one_more : (table : Table) (text : List ℕ) (best more long n k : ℕ) → best ≤ more → (k < long → HasKeyOf table text n k → n ≤ best) → (HasKeyOf table text n long → n ≤ more) → k < long + 1 → HasKeyOf table text n k → n ≤ more
one_more table text best more long n k up before here less key = elim (small_or_beyond k long) [
  | inl small ↦ omega (arith, up, before small key)
  | inr beyond ↦ let same : k ≡ long = omega (arith, beyond, less) in here (subst (HasKeyOf table text n) same key)
]

-- ---- adding

pub key_added : (free : List ℕ) (lengths : List Bool) (buckets : List (List ℕ)) (text key short : List ℕ) (m n h size : ℕ) → short ≡ take m key → starts_with nat_eq (str_to_ascii_lowercase text) (str_to_ascii_lowercase key) ≡ true →
    get_or lengths (length short) false ≡ true → h ≡ hash (str_to_ascii_lowercase short) → size ≡ length buckets → Has n (get_or buckets (h % size) []) →
    Has n free ⊎ ((long : ℕ) × ((get_or lengths long false ≡ true) × (long ≤ length text) × Has n (get_or buckets (hash (str_to_ascii_lowercase (take long text)) % length buckets) [])))
key_added free lengths buckets text key short m n h size cut begins marked is same has =
    let e : str_to_ascii_lowercase short ≡ str_to_ascii_lowercase (take (length short) text) = subst (λ s. str_to_ascii_lowercase s ≡ str_to_ascii_lowercase (take (length s) text)) (sym cut) (begins_so text key m begins) in
    let within : length short ≤ length text = subst (λ s. length s ≤ length text) (sym cut) (begins_within text key m begins) in
    let there : Has n (get_or buckets (hash (str_to_ascii_lowercase (take (length short) text)) % length buckets) []) =
    subst (λ k. Has n (get_or buckets (k % length buckets) [])) (is ∙ ap hash e) (subst (λ k. Has n (get_or buckets (h % k) [])) same has) in
    inr (length short, (marked, within, there))
