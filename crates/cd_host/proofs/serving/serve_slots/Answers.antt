use denote.Exit.{no}
use denote.Param.{param}
use denote.Param.Send.{arg_send, param_send}
use Rattle.std.proofs.Common.{slice_index_or}
use Rattle.std.proofs.Crossing as std
use Rattle.cd_hall.proofs.Crossing.{hall_sync}
use Rattle.cd_host.proofs.Crossing.{slot_send}
use Rattle.cd_host.proofs.Seating.{served-as}
use Rattle.cd_host.proofs.serving.serve_slots.Goals as goal

pub for_each_mut-requires-send-T : goal.for_each_mut-requires-send-T
for_each_mut-requires-send-T g c κs within =
    param_send 1 _ (arg_send _ no _ (slot_send _ _ _ _ c.type_bounds.send-F c.type_bounds.send-M-Compiled c.type_bounds.sync-M-Compiled _ c.type_bounds.send-L))

pub for_each_mut-requires-sync-F : goal.for_each_mut-requires-sync-F
for_each_mut-requires-sync-F g c κs within =
    let h = hall_sync (param 1 g.row.M) (param 2 g.row.F) (param 4 g.row.M-Compiled) g.M.ModuleSet c.type_bounds.send-F c.type_bounds.send-M-Compiled c.type_bounds.sync-M-Compiled g.F.Fixtures in
    let r = c.type_bounds.sync-R in
    -- what the closure holds: a `&` to the runtime, one to the allocator, and one to the hall
    record {
      shared = λ x b o κ. (
        (
          ((λ q. tt), r.shared x.0.now x.0.ref_ptr.0 x.0.ref_ptr.1 _),
          (((λ q. tt), std.sync.shared x.1.now x.1.ref_ptr.0 x.1.ref_ptr.1 κ), (((λ q. tt), h.shared x.2.now x.2.ref_ptr.0 x.2.ref_ptr.1 _), tt)),
        ),
        λ q. tt,
      );
    }

pub returns-clause-served : goal.returns-clause-served
returns-clause-served g c i d lt =
    let at = (c.for_each_mut.ensures i d lt).1 in
    served-as c.args.hall.now (record { acts = g.M.ModuleSet.acts; plan = g.M.ModuleSet.plan }) g.L.Lane.busy g.L.Lane.faults g.L.Lane.past g.L.Lane.since at.argument.now at.after_call.now
    (slice_index_or c.args.slots.now i d) (slice_index_or c.for_each_mut.new.s i d) at.argument_is at.left at.call
