use Rattle.std.proofs.Common.{◌∙◌, refl, subst, sym}
use denote.Exit.{no}
use denote.Param.Send.{arg_send, arg_sync, param_send, param_sync}
use Rattle.cd_standard.specs.contracts.compiled.Compiled.{the_row}
use Rattle.cd_standard.proofs.Crossing.{configuration_send, configuration_sync}
use Rattle.cd_program.specs.declared.status.Status.TheVariants as status
use Rattle.cd_program.specs.Seen.{seen}
use Rattle.cd_program.specs.Top.{EndsAs}
use Rattle.cd_program.proofs.Completing.{completes_as}
use Rattle.cd_program.proofs.Loading.{null_may_run}
use Rattle.cd_program.proofs.Sounds.{IsSoundCommand, command_sound}
use Rattle.cd_program.proofs.Statuses.{known, never_2}
use Rattle.cd_program.proofs.top.caddy_main.Goals as goal

-- a configuration may go to other threads, and be shared by them
pub run_all-requires-send-M-Compiled : goal.run_all-requires-send-M-Compiled
run_all-requires-send-M-Compiled g c κs within = param_send 6 _ (arg_send _ no the_row configuration_send)

pub run_all-requires-sync-M-Compiled : goal.run_all-requires-sync-M-Compiled
run_all-requires-sync-M-Compiled g c κs within = param_sync 6 _ (arg_sync _ no the_row configuration_sync)

pub validate-requires-send-M-Compiled : goal.validate-requires-send-M-Compiled
validate-requires-send-M-Compiled g c κs within = param_send 3 _ (arg_send _ no the_row configuration_send)

pub validate-requires-sync-M-Compiled : goal.validate-requires-sync-M-Compiled
validate-requires-sync-M-Compiled g c κs within = param_sync 3 _ (arg_sync _ no the_row configuration_sync)

pub run_storm-requires-send-M-Compiled : goal.run_storm-requires-send-M-Compiled
run_storm-requires-send-M-Compiled g c κs within = param_send 3 _ (arg_send _ no the_row configuration_send)

pub run_storm-requires-sync-M-Compiled : goal.run_storm-requires-sync-M-Compiled
run_storm-requires-sync-M-Compiled g c κs within = param_sync 3 _ (arg_sync _ no the_row configuration_sync)

-- ---- run and stdio

pub run_all-requires-clause-sound : goal.run_all-requires-clause-sound
run_all-requires-clause-sound g c κs within = subst IsSoundCommand (sym c.in-Serve.ensures) (command_sound c.args.words.now)

pub returns-in-Serve-clause-known : goal.returns-in-Serve-clause-known
returns-in-Serve-clause-known g c = known _ _ (c.run_all.ensures.ends null_may_run)

pub returns-in-Serve-clause-usage : goal.returns-in-Serve-clause-usage
returns-in-Serve-clause-usage g c = never_2 _ _ (c.run_all.ensures.ends null_may_run) (λ no. no) _ (λ unknown. let e = c.in-Serve.ensures ∙ unknown in cc)

pub returns-in-Serve-clause-ends : goal.returns-in-Serve-clause-ends
returns-in-Serve-clause-ends g c =
    subst (EndsAs (seen g.S.Source.left g.S.Source.faults g.O.Sink.holds g.O.Sink.faults g.F.Fixtures.calls g.F.Fixtures.faults g.L.Lane.past g.L.Lane.since g.L.Lane.faults
    c.args.config.now c.run_all.new.config c.args.out.now c.run_all.new.out c.args.fixtures c.args.lanes c.run_all.result) c.run_all.result.status) c.in-Serve.ensures (c.run_all.ensures.ends null_may_run, c.run_all.ensures.unbegun)

-- ---- validate

pub returns-in-Validate-clause-ends : goal.returns-in-Validate-clause-ends
returns-in-Validate-clause-ends g c =
    subst (EndsAs (seen g.S.Source.left g.S.Source.faults g.O.Sink.holds g.O.Sink.faults g.F.Fixtures.calls g.F.Fixtures.faults g.L.Lane.past g.L.Lane.since g.L.Lane.faults
    c.args.config.now c.validate.new.config c.args.out.now c.validate.new.out c.args.fixtures c.args.lanes c.unbegun.result) c.unbegun.result.status) c.in-Validate.ensures (
      rw c.unbegun.ensures (record { status = c.validate.result; is = refl; so = c.validate.ensures }),
      rw c.unbegun.ensures (record { unserved = record { lanes = refl; unanswered = refl; uncut = refl }; fixtures = refl; unpublished = refl }),
    )

-- ---- adapt

pub returns-in-Adapt-clause-ends : goal.returns-in-Adapt-clause-ends
returns-in-Adapt-clause-ends g c =
    subst (EndsAs (seen g.S.Source.left g.S.Source.faults g.O.Sink.holds g.O.Sink.faults g.F.Fixtures.calls g.F.Fixtures.faults g.L.Lane.past g.L.Lane.since g.L.Lane.faults
    c.args.config.now c.adapt_file.new.config c.args.out.now c.adapt_file.new.out c.args.fixtures c.args.lanes c.unbegun-in-Adapt.result) c.unbegun-in-Adapt.result.status) c.in-Adapt.ensures (
      rw c.unbegun-in-Adapt.ensures (record { status = c.adapt_file.result; is = refl; so = c.adapt_file.ensures }),
      rw c.unbegun-in-Adapt.ensures (record { unserved = record { lanes = refl; unanswered = refl; uncut = refl }; fixtures = refl; unpublished = refl }),
    )

-- ---- storm

pub returns-in-Storm-clause-ends : goal.returns-in-Storm-clause-ends
returns-in-Storm-clause-ends g c =
    subst (EndsAs (seen g.S.Source.left g.S.Source.faults g.O.Sink.holds g.O.Sink.faults g.F.Fixtures.calls g.F.Fixtures.faults g.L.Lane.past g.L.Lane.since g.L.Lane.faults
    c.args.config.now c.args.config.now c.args.out.now c.run_storm.new.out c.args.fixtures c.args.lanes c.after_storm.result) c.after_storm.result.status) c.in-Storm.ensures (
      rw c.after_storm.ensures (record { status = c.run_storm.result.status; is = refl; so = c.run_storm.ensures }),
      rw c.after_storm.ensures (record { fixtures = refl; lanes = refl; uncut = refl }),
    )

-- ---- words that ask for nothing that is known

pub returns-in-Unknown-clause-ends : goal.returns-in-Unknown-clause-ends
returns-in-Unknown-clause-ends g c =
    subst (EndsAs (seen g.S.Source.left g.S.Source.faults g.O.Sink.holds g.O.Sink.faults g.F.Fixtures.calls g.F.Fixtures.faults g.L.Lane.past g.L.Lane.since g.L.Lane.faults
    c.args.config.now c.args.config.now c.args.out.now c.say_line.new.out c.args.fixtures c.args.lanes c.unbegun-in-Unknown.result) c.unbegun-in-Unknown.result.status) c.in-Unknown.ensures (
      rw c.unbegun-in-Unknown.ensures (record { status = status.Usage; is = refl; so = c.say_line.ensures.unfailing }),
      rw c.unbegun-in-Unknown.ensures (record { unserved = record { lanes = refl; unanswered = refl; uncut = refl }; fixtures = refl; unpublished = refl }),
    )

-- ---- completeness

pub returns-in-Serve-clause-completes : goal.returns-in-Serve-clause-completes
returns-in-Serve-clause-completes g c = completes_as _ _ _ (returns-in-Serve-clause-ends g c)

pub returns-in-Validate-clause-completes : goal.returns-in-Validate-clause-completes
returns-in-Validate-clause-completes g c = completes_as _ _ _ (returns-in-Validate-clause-ends g c)

pub returns-in-Adapt-clause-completes : goal.returns-in-Adapt-clause-completes
returns-in-Adapt-clause-completes g c = completes_as _ _ _ (returns-in-Adapt-clause-ends g c)

pub returns-in-Storm-clause-completes : goal.returns-in-Storm-clause-completes
returns-in-Storm-clause-completes g c = completes_as _ _ _ (returns-in-Storm-clause-ends g c)

pub returns-in-Unknown-clause-completes : goal.returns-in-Unknown-clause-completes
returns-in-Unknown-clause-completes g c = completes_as _ _ _ (returns-in-Unknown-clause-ends g c)
