use Rattle.cd_reverse_proxy.proofs.Together.{none-interrupted}
use Rattle.cd_reverse_proxy.proofs.laws.lanes_without_a_fault_are_not_interrupted.Goals as goal

pub returns : goal.returns
returns c = λ upstreams ws answered told none. none-interrupted ws told.reports told.covered none
