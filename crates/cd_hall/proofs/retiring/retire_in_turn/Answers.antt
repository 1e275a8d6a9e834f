use Rattle.std.proofs.Common.{◌∙◌}
use Rattle.cd_gate.specs.Passes.{view}
use Rattle.cd_hall.proofs.Bare.{block_core}
use Rattle.cd_hall.proofs.Goes.{goes_as}
use Rattle.cd_hall.proofs.InHand.{retire_low, retire_retired, retire_stopped, retire_goes}
use Rattle.cd_hall.proofs.Noted.{retired_left, retired_duties}
use Rattle.cd_hall.proofs.retiring.retire_in_turn.Goals as goal

pub clean_retired-requires-clause-retired : goal.clean_retired-requires-clause-retired
clean_retired-requires-clause-retired g c κs within = record {
  superseded = retire_low (view c.args.pass.now) (view c.note_retire-removed.new.pass) c.args.duty.serial c.requires.turn.knows c.requires.duty c.note_retire-removed.ensures.goes;
  retired = retire_retired (view c.args.pass.now) (view c.note_retire-removed.new.pass) c.args.duty.serial c.note_retire-removed.ensures.goes;
  stopped = retire_stopped (view c.args.pass.now) (view c.note_retire-removed.new.pass) c.args.duty.serial c.requires.turn.knows c.requires.duty c.note_retire-removed.ensures.goes;
}

pub returns-clause-goes : goal.returns-clause-goes
returns-clause-goes g c =
    goes_as (view c.args.pass.now) (view c.clean_retired.new.pass) _ _ (block_core (view c.args.pass.now).seen c.args.duty.serial)
    (retire_goes (view c.args.pass.now) (view c.note_retire-removed.new.pass) (view c.clean_retired.new.pass) c.args.duty.serial c.requires.turn.knows c.requires.left c.requires.duty c.note_retire-removed.ensures.goes c.clean_retired.ensures.cleans)

pub returns-clause-unsettled : goal.returns-clause-unsettled
returns-clause-unsettled g c = c.clean_retired.ensures.unsettled ∙ c.note_retire-removed.ensures.unsettled

pub returns-clause-duties : goal.returns-clause-duties
returns-clause-duties g c =
    retired_duties (view c.args.pass.now) (view c.clean_retired.new.pass) c.args.duty.serial c.requires.turn.knows c.requires.left
    (retire_goes (view c.args.pass.now) (view c.note_retire-removed.new.pass) (view c.clean_retired.new.pass) c.args.duty.serial c.requires.turn.knows c.requires.left c.requires.duty c.note_retire-removed.ensures.goes c.clean_retired.ensures.cleans)

pub returns-clause-left : goal.returns-clause-left
returns-clause-left g c =
    retired_left (view c.args.pass.now) (view c.clean_retired.new.pass) c.args.duty.serial c.requires.turn.knows
    (retire_goes (view c.args.pass.now) (view c.note_retire-removed.new.pass) (view c.clean_retired.new.pass) c.args.duty.serial c.requires.turn.knows c.requires.left c.requires.duty c.note_retire-removed.ensures.goes c.clean_retired.ensures.cleans)
    c.requires.left
