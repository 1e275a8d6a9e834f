-- Part of the main theorem.
-- Why a change was not made: its words, and its answer.
use Rattle.std.specs.Prelude.{ℕ, true, false, List, [], ◌∷◌, ◌++◌, codes, decimal}
use Rattle.cd_outside.specs.declared.key.Key.{Key}
use Rattle.cd_outside.specs.declared.key.Key.TheVariants as key
use Rattle.cd_tree.specs.Tree.{text}
use Rattle.cd_wire.specs.declared.answer.Answer.{Answer}
use Rattle.cd_addr.specs.Addresses.{written}
use Rattle.cd_admin.specs.Answers.{json_type, line, error_tree, done}
use Rattle.cd_serve.specs.declared.fault.ChangeFault.{ChangeFault}
use Rattle.cd_serve.specs.declared.fault.ChangeFault.TheVariants as fault

-- a key that could not be opened
abbrev pub key_words : Key → List ℕ
key_words (key.Listen address) = codes "listen " ++ written address
key_words (key.Writer name) = codes "writer " ++ name

abbrev pub words : ChangeFault → List ℕ
words (fault.CannotOpen key) = codes "cannot open " ++ key_words key
words (fault.StillInUse serial) = codes "configuration " ++ (decimal serial ++ codes " is still in use")
words fault.NoSerialLeft = codes "no serial left"
words fault.NoDraftLeft = codes "no draft left"

-- what could not be opened is the server's own trouble, and all else may be better later (RFC 9110, section 15.6)
abbrev pub status : ChangeFault → ℕ
status (fault.CannotOpen key) = 500
status (fault.StillInUse serial) = 503
status fault.NoSerialLeft = 503
status fault.NoDraftLeft = 503

-- its words as JSON
abbrev pub fault_answer : ChangeFault → Answer
fault_answer f = record { status = status f; fields = json_type ∷ []; body = line (text (error_tree (words f))); close = false }

-- the host has halted, and the connection closes
abbrev pub halted_answer : Answer
halted_answer = record done { close = true }
