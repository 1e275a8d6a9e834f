-- Part of the main theorem.
-- How many requests a history begins.
use Rattle.std.specs.Prelude.{ℕ, suc, ◌==◌, cond, List, [], ◌∷◌}
use Rattle.cd_legal.specs.declared.entry.Entry.{Entry}
use Rattle.cd_legal.specs.declared.entry.Entry.TheVariants.{Publish, Begin, Halt}

-- how many under the serial
abbrev pub begins_at : ℕ → List Entry → ℕ
begins_at n [] = 0
begins_at n (Begin k m ∷ es) = cond (m == n) (suc (begins_at n es)) (begins_at n es)
begins_at n (e ∷ es) = begins_at n es

-- how many under the current serial, after one entry more: a new serial begins with none
abbrev pub begins_by : ℕ → Entry → ℕ
begins_by begun (Begin k n) = suc begun
begins_by begun (Publish d n from change) = 0
begins_by begun (Halt n) = 0
begins_by begun e = begun

-- how many under the current serial, where so many had begun under it before these entries
abbrev pub begins_from : ℕ → List Entry → ℕ
begins_from begun [] = begun
begins_from begun (e ∷ es) = begins_from (begins_by begun e) es

-- how many under the serial that is current after the entries
abbrev pub begins_now : List Entry → ℕ
begins_now log = begins_from 0 log
