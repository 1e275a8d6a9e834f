use Rattle.std.proofs.Common.{List, ap}
use lib.ListN.{get_elem?}
use Rattle.cd_pair.proofs.Both.{begins_at}
use Rattle.cd_pair.proofs.pair.open_hall.Goals as goal

pub returns-in-Ok : goal.returns-in-Ok
returns-in-Ok g c =
    let begins = begins_at c.in-Ok.hall c.in-Ok.passes.items c.in-Ok.ensures.row c.in-Ok.ensures.passes in
    record {
      one = begins 0 c.take_two-one.result.0 (ap (λ (l : List _). get_elem? l 0) c.take_two-one.ensures.two);
      two = begins 1 c.take_two-one.result.1 (ap (λ (l : List _). get_elem? l 1) c.take_two-one.ensures.two);
    }
