-- Part of the main theorem.
-- The serials of a history: the drafts that have them, and the configuration that is current.
use Rattle.std.specs.Prelude.{ℕ, suc, ◌==◌, Bool, true, false, cond, List, [], ◌∷◌, slice_get}
use Rattle.cd_legal.specs.declared.entry.Entry.{Entry}
use Rattle.cd_legal.specs.declared.entry.Entry.TheVariants.{Publish, Halt}
use Rattle.cd_legal.specs.declared.state.State.{State}
use Rattle.cd_legal.specs.declared.state.Life.{Life}
use Rattle.cd_legal.specs.declared.state.Life.TheVariants.{Live, Published, Abandoned}
use Rattle.cd_legal.specs.State.{opening_state, holds, Conf, conf_in}
use Rattle.cd_legal.specs.Legal.{after}

-- it was published with the serial
abbrev pub has_serial : ℕ → Life → Bool
has_serial n Live = false
has_serial n (Published m) = m == n
has_serial n Abandoned = false

-- the draft is there, and was published with the serial
abbrev pub has_serial_in : State → ℕ → ℕ → Bool
has_serial_in s n d = holds (λ x. has_serial n x.life) (slice_get s.drafts d)

-- how often the number is among these
abbrev pub times : ℕ → List ℕ → ℕ
times n [] = 0
times n (m ∷ ms) = cond (n == m) (suc (times n ms)) (times n ms)

-- the configuration after an entry: a Publish gives the tree of its draft, a Halt the halted one, and all others keep it
abbrev pub conf_by : State → Conf → Entry → Conf
conf_by s conf (Publish d n from change) = conf_in (slice_get s.drafts d)
conf_by s conf (Halt n) = Conf.Halted
conf_by s conf e = conf

-- that after all these entries
abbrev pub conf_from : State → Conf → List Entry → Conf
conf_from s conf [] = conf
conf_from s conf (e ∷ es) = conf_from (after s e) (conf_by s conf e) es

-- the configuration of the last Publish, or the halted one; the opening one before there is either
abbrev pub last_conf : List Entry → Conf
last_conf log = conf_from opening_state Conf.Opening log

-- halted
abbrev pub is_halted : Conf → Bool
is_halted Conf.Opening = false
is_halted Conf.Halted = true
is_halted (Conf.Of tree) = false

-- how often the entries publish
abbrev pub publishings : List Entry → ℕ
publishings [] = 0
publishings (Publish d n from change ∷ es) = suc (publishings es)
publishings (e ∷ es) = publishings es
