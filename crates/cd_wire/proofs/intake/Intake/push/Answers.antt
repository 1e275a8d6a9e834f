use Rattle.cd_wire.proofs.KeptLemmas.{kept_appended}
use Rattle.cd_wire.proofs.intake.Intake.push.Goals as goal

-- what was kept of what is left is kept of it with the piece
pub invariant_of-self-2 : goal.invariant_of-self-2
invariant_of-self-2 c =
    let inside = c.self.inside in
    kept_appended inside.dropped.bytes inside.buffer.items c.extend_from_slice.new.self.items c.args.piece.now inside.start
    inside.known c.in_ok-extend_from_slice.ensures.items c.self.invariant.0 c.self.invariant.1
