-- How a reader goes on, and what it has noted so far.
use Rattle.std.specs.Prelude.{◌≡◌, ℕ, List, ◌++◌, reverse}
use Rattle.cd_caddyfile.specs.Blocks.{Nesting, file_lines, left_open}
use Rattle.cd_caddyfile.specs.Faults as says
use Rattle.cd_caddyfile.specs.Faults.{sooner, first_fault, wrongs, sites_said}
use Rattle.cd_caddyfile.specs.FileSites.{tested}
use Rattle.cd_caddyfile.specs.Left.{left, left_lines}
use Rattle.cd_caddyfile.specs.Walk.{walk}
use Rattle.cd_caddyfile.specs.declared.reader.Reader.{Reader}
use Rattle.cd_caddyfile.specs.declared.within.Within.TheVariants.{File}

-- from one reader, before these lines, to another, before those
pub record Goes (from to : Reader) (before after : Nesting) : Type 0 where
  pub fault : sooner from.notes.fault (first_fault (left wrongs (reverse from.blocks) before)) ≡ sooner to.notes.fault (first_fault (left wrongs (reverse to.blocks) after))
  pub sites : from.notes.sites ++ left sites_said (reverse from.blocks) before ≡ to.notes.sites ++ left sites_said (reverse to.blocks) after
  pub defined : from.notes.defined ++ left says.defined (reverse from.blocks) before ≡ to.notes.defined ++ left says.defined (reverse to.blocks) after
  pub used : from.notes.used ++ left says.used (reverse from.blocks) before ≡ to.notes.used ++ left says.used (reverse to.blocks) after
  pub tested : from.notes.tested ++ left tested (reverse from.blocks) before ≡ to.notes.tested ++ left tested (reverse to.blocks) after
  pub open_lines : left_lines (reverse from.blocks) before ≡ left_lines (reverse to.blocks) after

-- what a file says is what is noted, with what is left
pub record HasRead (bytes : List ℕ) (reader : Reader) (rest : Nesting) : Type 0 where
  pub fault : first_fault (walk wrongs File (file_lines bytes)) ≡ sooner reader.notes.fault (first_fault (left wrongs (reverse reader.blocks) rest))
  pub sites : walk sites_said File (file_lines bytes) ≡ reader.notes.sites ++ left sites_said (reverse reader.blocks) rest
  pub defined : walk says.defined File (file_lines bytes) ≡ reader.notes.defined ++ left says.defined (reverse reader.blocks) rest
  pub used : walk says.used File (file_lines bytes) ≡ reader.notes.used ++ left says.used (reverse reader.blocks) rest
  pub tested : walk tested File (file_lines bytes) ≡ reader.notes.tested ++ left tested (reverse reader.blocks) rest
  pub open_lines : left_open (file_lines bytes) ≡ left_lines (reverse reader.blocks) rest
