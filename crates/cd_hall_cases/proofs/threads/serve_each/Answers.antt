use denote.Exit.{no}
use denote.Param.Send.{arg_send, param_send}
use Rattle.std.proofs.Crossing as std
use Rattle.cd_hall_cases.proofs.Crossing as crossing
use Rattle.cd_hall_cases.proofs.threads.serve_each.Goals as goal

pub for_each_mut-requires-send-T : goal.for_each_mut-requires-send-T
for_each_mut-requires-send-T g c κs within = param_send 1 _ (arg_send _ no _ (crossing.fixed_pass_send _))

pub for_each_mut-requires-sync-F : goal.for_each_mut-requires-sync-F
for_each_mut-requires-sync-F g c κs within =
    let h = crossing.fixed_hall_sync _ _ in
    let r = c.type_bounds.sync-R in
    -- what the closure holds: a `&` to the runtime, one to the allocator, and one to the hall
    record {
      shared = λ x b o κ. (
        (
          ((λ q. tt), r.shared x.0.now x.0.ref_ptr.0 x.0.ref_ptr.1 _),
          (((λ q. tt), std.sync.shared x.1.now x.1.ref_ptr.0 x.1.ref_ptr.1 κ), (((λ q. tt), h.shared x.2.now x.2.ref_ptr.0 x.2.ref_ptr.1 _), tt)),
        ),
        λ q. tt,
      );
    }
