-- Part of the main theorem.
-- What an output was given between two moments.
use Rattle.std.specs.Prelude.{◌≡◌, ◌++◌, ◌⊎◌, ℕ, List, [], codes, option_map}
use Rattle.cd_outside.specs.declared.given.Given.{Given}
use Rattle.cd_outside.specs.declared.given.Given.TheVariants as given
use Rattle.cd_outside.specs.Given.{IsGivenOf}
use Rattle.cd_outside.specs.Devices.{Device, HasFailed}

-- it was given just this text
abbrev pub WasGiven : List ℕ → Device (List ℕ) → Type 0
WasGiven text output = output.told_now ≡ option_map (λ held. held ++ text) output.told_before

-- it was given this text, and then less than the whole line, from its front
abbrev pub WasCutShort : List ℕ → List ℕ → Device (List ℕ) → Type 0
WasCutShort text line output = (part : List ℕ) × IsGivenOf given.Failed part line × WasGiven (text ++ part) output

-- what a write of a line to it answers
abbrev pub IsSaid : Given → List ℕ → Device (List ℕ) → Type 0
IsSaid given.All line output = WasGiven line output
IsSaid given.Failed line output = HasFailed output × WasCutShort [] line output

-- it was given the line; or, where a call on it has failed, less than the whole, from its front
abbrev pub Says : List ℕ → Device (List ℕ) → Type 0
Says line output = WasGiven line output ⊎ (HasFailed output × WasCutShort [] line output)

-- the line of a refusal in these words
abbrev pub refused_line : List ℕ → List ℕ
refused_line words = codes "refused: " ++ words ++ codes "\n"

-- the line for words that the program does not know
abbrev pub usage_line : List ℕ
usage_line = codes "usage: caddy_run run [--config FILE] | stdio --config FILE | validate --config FILE | storm N | reverse-proxy --from A --policy P --to U ... | adapt --config FILE | run --resume\n"
