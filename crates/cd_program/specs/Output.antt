-- Part of the main theorem.
-- What is written on the program's own output.
use Rattle.std.specs.Prelude.{◌≡◌, ◌<◌, ◌++◌, ℕ, List, length, codes, decimal, Option, Some, option_map}
use mathlib.Core.List.{IsPrefix}
use Rattle.cd_outside.specs.declared.key.Key.{Key}
use Rattle.cd_outside.specs.declared.given.Given.TheVariants as given
use Rattle.cd_outside.specs.Given.{IsGivenOf}
use Rattle.cd_tree.specs.Tree.{text}
use Rattle.cd_tree.specs.declared.tree.Tree.{Tree}
use Rattle.cd_serve.specs.Faults.{key_words}
use Rattle.cd_host.specs.Hosting.{serving_line}
use Rattle.cd_outside.specs.Devices.{Device, HasFailed}
use Rattle.cd_outside.specs.Lines.{refused_line}

-- so many requests were answered under so many configurations
unfoldable pub served_line : ℕ → ℕ → List ℕ
served_line answered published = codes "served " ++ decimal answered ++ codes " requests under " ++ decimal published ++ codes " configurations\n"

-- both lines of a run
abbrev pub run_text : ℕ → ℕ → List ℕ
run_text answered published = serving_line ++ served_line answered published

-- the line for a key that can't be opened
abbrev pub unopened_line : Key → List ℕ
unopened_line key = refused_line (codes "cannot open " ++ key_words key)

abbrev pub valid_line : List ℕ
valid_line = codes "valid configuration\n"

-- the compact text of a tree, as a line
abbrev pub tree_line : Tree → List ℕ
tree_line tree = text tree ++ codes "\n"

abbrev pub read_fault_line : List ℕ
read_fault_line = codes "read fault\n"

-- a sink that tells was given less than the line
pub record FellShort (line : List ℕ) (old new : Option (List ℕ)) : Type 0 where
  pub held : List ℕ
  pub text : List ℕ
  pub before : old ≡ Some held
  pub after : new ≡ Some (held ++ text)
  pub short : length text < length line

-- a sink was given a prefix of the line, and not all of it
abbrev pub WroteLess : List ℕ → Option (List ℕ) → Option (List ℕ) → Type 0
WroteLess line old new = (part : List ℕ) × IsGivenOf given.Failed part line × (new ≡ option_map (λ held. held ++ part) old)

-- a sink was given a prefix of the whole, and all of it if `complete`
pub record Wrote (whole : List ℕ) (complete : Type 0) (old new : Option (List ℕ)) : Type 0 where
  pub text : List ℕ
  pub held : new ≡ option_map (λ held. held ++ text) old
  pub front : IsPrefix text whole
  pub all : complete → text ≡ whole

-- so the output
abbrev pub Writes : List ℕ → Type 0 → Device (List ℕ) → Type 0
Writes whole complete output = Wrote whole complete output.told_before output.told_now

-- the output was given a prefix of the line, and all of it where no call on it has failed
abbrev pub Says : List ℕ → Device (List ℕ) → Type 0
Says line output = Writes line (¬ (HasFailed output)) output
