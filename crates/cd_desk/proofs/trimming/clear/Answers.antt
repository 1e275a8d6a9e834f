use Rattle.std.proofs.Common.{subst, refl}
use Rattle.cd_desk.specs.Trimming.{IsClosedPlace}
use Rattle.cd_desk.proofs.Trims.{trims_none, cleared_one}
use Rattle.cd_desk.proofs.trimming.clear.Goals as goal

pub returns-in_default : goal.returns-in_default
returns-in_default c = record { trims = trims_none c.args.books.now; cleared = subst (λ z. IsClosedPlace c.args.books.now c.args.draft z) c.in_default.is c.closed_place.ensures; capacity = refl }

pub drop_at-requires : goal.drop_at-requires
drop_at-requires c = let p = subst (λ z. IsClosedPlace c.args.books.now c.args.draft z) c.in-Some.is c.closed_place.ensures in p.1

pub returns : goal.returns
returns c =
    let p = subst (λ z. IsClosedPlace c.args.books.now c.args.draft z) c.in-Some.is c.closed_place.ensures in
    record { trims = c.drop_at.ensures.trims; cleared = cleared_one c.args.books.now c.drop_at.new.books c.args.draft c.in-Some.place p.0 c.drop_at.ensures.rows; capacity = c.drop_at.ensures.capacity }
