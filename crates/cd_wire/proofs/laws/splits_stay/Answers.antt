use Rattle.std.proofs.Common.{[], refl}
use Rattle.cd_wire.proofs.RequestLaws.{Splits-append, Splits-snoc}
use Rattle.cd_wire.proofs.TakingLemmas.{nothing_no_request}
use Rattle.cd_wire.proofs.laws.splits_stay.Goals as goal

pub returns-clause-push : goal.returns-clause-push
returns-clause-push c pushed requests left piece s = Splits-append pushed requests left piece s

pub returns-clause-taken : goal.returns-clause-taken
returns-clause-taken c pushed requests request left rest s b = Splits-snoc pushed requests request left rest s b

pub returns-clause-end : goal.returns-clause-end
returns-clause-end c pushed requests s = record {
  rest = [];
  splits = s;
  no_more = nothing_no_request;
  tail_is = (refl, refl);
}
