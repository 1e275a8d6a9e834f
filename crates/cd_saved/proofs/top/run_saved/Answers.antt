use Rattle.std.proofs.Common.{inr, ap, subst}
use Rattle.cd_program.specs.Seen.{seen}
use Rattle.cd_outside.specs.Devices.{device}
use Rattle.cd_saved.specs.Top.{HasRunOver}
use Rattle.cd_saved.proofs.Over.{from_earlier, opened_found}
use Rattle.cd_saved.proofs.top.run_saved.Goals as goal

pub returns-in-Ok-clause-ends : goal.returns-in-Ok-clause-ends
returns-in-Ok-clause-ends g c =
    let ended = c.run_over-ended.result.ended in
    let s = seen g.S.Source.left g.S.Source.faults g.O.Sink.holds g.O.Sink.faults g.F.Fixtures.calls g.F.Fixtures.faults g.L.Lane.past g.L.Lane.since g.L.Lane.faults
    c.args.config.now c.run_over-ended.new.config c.args.out.now c.run_over-ended.new.out c.args.fixtures c.args.lanes ended in
    let opened = device g.D.Disk.seen g.D.Disk.faults c.in-Ok.saver.slots.disk c.run_over-ended.result.saver.slots.disk in
    let earlier = device g.D.Disk.seen g.D.Disk.faults c.args.disk c.close.result in
    inr (record {
      saved = c.in-Ok.saved;
      found = opened_found (g.D.Disk.seen c.args.disk) _ _ c.in-Ok.saved c.in-Ok.ensures.opened;
      run = subst (λ i. HasRunOver i earlier s ended.status) c.initial-initial.ensures.initial
          (from_earlier c.initial-initial.result opened s ended.status earlier c.in-Ok.ensures.cause (ap (λ d. g.D.Disk.faults d) c.close.ensures) c.run_over-ended.ensures.ran);
    })
