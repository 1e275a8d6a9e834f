use Rattle.std.proofs.Common.{[], sym, subst}
use Rattle.cd_life.specs.Standing.{Stood}
use Rattle.cd_hall.proofs.Rows.{all_passes, nothing_ended}
use Rattle.cd_hall.proofs.hall.Hall.new.Goals as goal

pub end-fixtures-requires-after_bounds : goal.end-fixtures-requires-after_bounds
end-fixtures-requires-after_bounds g c κs within = (
  c.in-Ok.board,
  [],
  subst (λ b. Stood g.F.Fixtures.calls g.F.Fixtures.faults g.M.ModuleSet.plan g.M.ModuleSet.change c.in-Ok.board b []) (sym c.in-Err-new.ensures.err) c.in-Ok.ensures.stands,
  nothing_ended,
)

pub returns-in-Ok-new-clause-passes : goal.returns-in-Ok-new-clause-passes
returns-in-Ok-new-clause-passes g c = all_passes (record { gate = c.in-Ok-new.gate }) c.in-Ok-new.passes.items c.in-Ok-new.ensures.passes.0 c.in-Ok-new.ensures.passes.1
