use Rattle.std.proofs.Common.{ap, ◌∙◌, arith}
use Rattle.cd_adapt.specs.Counting.{weight, and_inside}
use Rattle.cd_adapt.specs.Laying.{is_handle}
use Rattle.cd_adapt.proofs.CountSteps.{opens_counted, size_taken, size_handle}
use Rattle.cd_adapt.proofs.counting.Counter.open.Goals as goal

pub and_inside-self-requires : goal.and_inside-self-requires
and_inside-self-requires c = omega (arith, size_taken c.args.self.now.open c.take_after-after.new.self.open c.take_after-after.result c.take_after-after.ensures.taken, c.requires)

pub returns-clause-size : goal.returns-clause-size
returns-clause-size c = omega (
  arith,
  size_taken c.args.self.now.open c.take_after-after.new.self.open c.take_after-after.result c.take_after-after.ensures.taken,
  ap weight c.and_inside-self.ensures,
  size_handle c.is_handle.result c.args.self.now.here c.take_after-after.result,
)

pub returns-clause-counted : goal.returns-clause-counted
returns-clause-counted c tests_of n said after words-is counted =
    opens_counted tests_of n said after c.take_after-after.result c.args.self.now _ c.take_after-after.ensures.taken
    (c.and_inside-self.ensures ∙ ap (λ h. and_inside h c.args.self.now.here c.take_after-after.result)
    (c.is_handle.ensures ∙ ap is_handle words-is)) counted
