use Rattle.std.proofs.Common.{◌≡◌, ◌≤◌, refl, length, ap, Err}
use Rattle.cd_autosave.proofs.Beginnings.{both_some, err_is, record_read, invalid_by_read}
use Rattle.cd_autosave.proofs.opening.read_text.Goals as goal
use Rattle.cd_outside.specs.declared.limits.TheConstants.{MAX_KEPT_BYTES}

pub returns-in-Err-clause-damaged : goal.returns-in-Err-clause-damaged
returns-in-Err-clause-damaged g c = λ is.
    let fault_is = err_is is in
    let told = c.in-Err.ensures.damaged (ap Err fault_is) in
    let long : length c.args.room.now ≡ c.args.head.size = c.requires.long in
    both_some _ _ _ (g.D.Disk.seen c.args.disk.now) c.requires.head told (λ image head why. invalid_by_read c.args.slot image c.args.head head c.start.result _ c.start.ensures.start long why)

pub returns-in-Ok-clause-record : goal.returns-in-Ok-clause-record
returns-in-Ok-clause-record g c =
    let long : length c.args.room.now ≡ c.args.head.size = c.requires.long in
    let short : c.args.head.size ≤ MAX_KEPT_BYTES = c.requires.short in
    both_some _ _ _ (g.D.Disk.seen c.args.disk.now) c.requires.head c.in-Ok.ensures.tree (λ image head why. record_read c.args.slot image c.args.head head c.in-Ok.tree _ c.start.result _ refl refl c.start.ensures.start long short why)
