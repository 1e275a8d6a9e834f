use Rattle.cd_host.proofs.Joined.{joined-parts, joined-running}
use Rattle.cd_host.proofs.laws.joined_passes_give_the_parts.Goals as goal

pub returns-clause-alone : goal.returns-clause-alone
returns-clause-alone g c v w y z made log j between = λ k pos. (between k pos).0

pub returns-clause-parts : goal.returns-clause-parts
returns-clause-parts g c first plan start v w y z made log j between is = joined-parts first plan start v w y z made log j between is

pub returns-clause-running : goal.returns-clause-running
returns-clause-running g c first plan start v w y z made log j between is nobody = joined-running first plan start v w y z made log j between is nobody
